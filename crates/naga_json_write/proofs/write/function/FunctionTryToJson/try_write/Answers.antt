use Rattle.std.proofs.Common.{◌≡◌, arith, refl, rules, Err}
use Rattle.std.proofs.lemmas.Grind.{common_steps}
use Rattle.naga_json_write.proofs.RefusedLemmas.{no_function}
use Rattle.naga_json_write.proofs.write.function.FunctionTryToJson.try_write.Goals as goal

pub returns-in_err-try_write_field-clause-refused : goal.returns-in_err-try_write_field-clause-refused
returns-in_err-try_write_field-clause-refused c =
    let is : c.from_residual-in_err-try_write_field.result ≡ Err c.in_err-try_write_field.field-0.0 = first_of (search rules, grind (arith, common_steps)) in
    rw is (no_function c.args.self.now _ c.in_err-try_write_field.ensures.refused)

pub returns-clause-written : goal.returns-clause-written
returns-clause-written c =
    let held = c.in_ok-try_write_field.ensures.written in
    let begun = c.in_ok-begin_object.ensures.ok in
    let first = rw begun at c.in_ok-write_field.ensures.tokens in
    let second = rw first at c.in_ok-write_field-2.ensures.tokens in
    let third = rw second at c.in_ok-write_field-3.ensures.tokens in
    let fourth = rw third at c.in_ok-write_field-4.ensures.tokens in
    let fifth = rw fourth at held.2 in
    let sixth = rw fifth at c.in_ok-write_field-5.ensures.tokens in
    let seventh = rw sixth at c.in_ok-write_field-6.ensures.tokens in
    let eighth = rw seventh at c.in_ok-write_field-7.ensures.tokens in
    (_, (held.0, held.1, refl), rw eighth at c.in_ok-end_object.ensures.ok)
