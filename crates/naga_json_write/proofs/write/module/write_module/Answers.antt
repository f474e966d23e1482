use Rattle.std.proofs.Common.{◌≡◌, ◌∙◌, ap, arith, ◌++◌, rules, Err}
use Rattle.std.proofs.lemmas.Grind.{common_steps}
use Rattle.std.specs.Prelude.{string_bytes}
use Rattle.naga_json_write.specs.declared.write_error.WriteError.TheVariants.{Memory}
use Rattle.naga_json_write.proofs.ModuleLemmas.{failed, has_no_json, writable}
use Rattle.naga_json_write.proofs.write.module.write_module.Goals as goal

pub returns-in_err-text-clause-refused : goal.returns-in_err-text-clause-refused
returns-in_err-text-clause-refused c =
    let is : c.from_residual.result ≡ Err c.in_err-text.field-0.0 = first_of (search rules, grind (arith, common_steps)) in
    rw is (has_no_json c.args.«module».now _ c.in_err-text.ensures.reason)

pub returns-in_err-append-clause-reason : goal.returns-in_err-append-clause-reason
returns-in_err-append-clause-reason c =
    let text = c.in_ok-text.ensures.written in
    failed c.args.«module».now _ Memory c.from_residual-in_err-append.ensures.1 (writable c.args.«module».now text.0 text.1)

pub returns-clause-written : goal.returns-clause-written
returns-clause-written c =
    let text = c.in_ok-text.ensures.written in
    (text.0, text.1, c.in_ok-append.ensures.appended ∙ ap (λ bytes. string_bytes c.args.out.now ++ bytes) text.2, text.3)
