use Rattle.std.proofs.Common.{◌≡◌, rules, subst}
use Rattle.std.specs.Prelude.{string_bytes}
use Rattle.naga_streams.specs.Counted.{stream_of}
use Rattle.naga_opt.specs.Answer.{IsAnswer, MayHaveNoAnswer}
use Rattle.naga_opt.specs.Input.{without_mark}
use Rattle.naga_opt.specs.Said.{IsSaid}
use Rattle.naga_opt.specs.Task.{chosen_of}
use Rattle.naga_opt.proofs.AnswerLemmas.{MayFault-answer, MayFault-output, MayFault-read}
use Rattle.naga_opt.proofs.program.answer_input.Goals as goal

pub returns-in_err-bytes-clause-fault : goal.returns-in_err-bytes-clause-fault
returns-in_err-bytes-clause-fault g c =
    MayFault-read c.from_residual.result (chosen_of c.args.task.now) (g.R.Read.remaining (stream_of c.args.input.now)) c.in_err-bytes.field-0.0
    c.from_residual.ensures.1 c.in_err-bytes.ensures.fault

pub returns-in-Err-clause-fault : goal.returns-in-Err-clause-fault
returns-in-Err-clause-fault g c =
    let is : c.in-Ok.text.now ≡ without_mark c.in_ok-bytes.bytes.items = search rules in
    MayFault-answer (chosen_of c.args.task.now) (g.R.Read.remaining (stream_of c.args.input.now)) c.in_ok-bytes.bytes.items c.in-Err.error
    c.fault_of.result (search rules) c.in_ok-bytes.ensures.bytes
    (subst (λ text. MayHaveNoAnswer (chosen_of c.args.task.now) text c.in-Err.error) is c.in-Err.ensures.fault)

pub returns-in_err-write_bytes-clause-fault : goal.returns-in_err-write_bytes-clause-fault
returns-in_err-write_bytes-clause-fault g c =
    let is : c.in-Ok.text.now ≡ without_mark c.in_ok-bytes.bytes.items = search rules in
    MayFault-output c.from_residual-in_err-write_bytes.result (chosen_of c.args.task.now) (g.R.Read.remaining (stream_of c.args.input.now))
    c.in_ok-bytes.bytes.items c.in-Ok-answer.answer.shown c.in_err-write_bytes.field-0.0
    c.from_residual-in_err-write_bytes.ensures.1 c.in_err-write_bytes.ensures.fault c.in_ok-bytes.ensures.bytes
    (subst (λ text. IsAnswer (chosen_of c.args.task.now) text c.in-Ok-answer.answer.shown) is c.in-Ok-answer.ensures.answer)

pub returns-clause-written : goal.returns-clause-written
returns-clause-written g c =
    let said = string_bytes c.in-Ok-answer.answer.said in
    let is : c.in-Ok.text.now ≡ without_mark c.in_ok-bytes.bytes.items = search rules in record {
      bytes = c.in_ok-bytes.bytes.items;
      known = c.in_ok-bytes.ensures.bytes;
      shown = c.in-Ok-answer.answer.shown;
      answers = subst (λ text. IsAnswer (chosen_of c.args.task.now) text c.in-Ok-answer.answer.shown) is c.in-Ok-answer.ensures.answer;
      written = search rules;
      status = c.status_of_answer.ensures;
      told = subst (λ text. IsSaid (chosen_of c.args.task.now) text said) is c.in-Ok-answer.ensures.said;
    }
