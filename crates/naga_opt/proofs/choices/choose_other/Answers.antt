use Rattle.std.proofs.Common.{◌∷◌, Some}
use Rattle.naga_opt.specs.Arguments.{joined, texts_of}
use Rattle.naga_opt.specs.Task.{chosen_of}
use Rattle.naga_opt.proofs.ChoicesLemmas.{option-fault}
use Rattle.naga_opt.proofs.MeansLemmas.{same-option}
use Rattle.naga_opt.proofs.choices.choose_other.Goals as goal

pub returns-in-Ok-clause-chosen : goal.returns-in-Ok-clause-chosen
returns-in-Ok-clause-chosen c =
    let rest = texts_of c.args.rest.now in
    same-option c.in-Some.flag (Some c.in-Some.value.now) (chosen_of c.args.task.now) (chosen_of c.set_value.new.task) (c.args.argument.now ∷ rest) rest
    (joined c.in-Some.ensures) c.in-Ok.ensures.set

pub returns-in-Err-clause-fault : goal.returns-in-Err-clause-fault
returns-in-Err-clause-fault c =
    let rest = texts_of c.args.rest.now in
    option-fault c.in-Some.flag (Some c.in-Some.value.now) (chosen_of c.args.task.now) (c.args.argument.now ∷ rest) rest
    (joined c.in-Some.ensures) c.in-Err.fault c.in-Err.ensures.fault

pub returns-in-Err-choose_input-clause-fault : goal.returns-in-Err-choose_input-clause-fault
returns-in-Err-choose_input-clause-fault c = c.in-Err-choose_input.ensures.fault (texts_of c.args.rest.now)
