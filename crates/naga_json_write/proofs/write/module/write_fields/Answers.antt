use Rattle.std.proofs.Common.{◌≡◌, arith, refl, rules, Err}
use Rattle.std.proofs.lemmas.Grind.{common_steps}
use Rattle.naga_json_write.proofs.RefusedLemmas.{no_entry_points, no_functions, no_global_expressions}
use Rattle.naga_json_write.proofs.write.module.write_fields.Goals as goal

pub returns-in_err-try_write_field-clause-refused : goal.returns-in_err-try_write_field-clause-refused
returns-in_err-try_write_field-clause-refused c =
    let is : c.from_residual-in_err-try_write_field.result ≡ Err c.in_err-try_write_field.field-0.0 = first_of (search rules, grind (arith, common_steps)) in
    rw is (no_global_expressions c.args.«module».now _ c.in_err-try_write_field.ensures.refused)

pub returns-in_err-try_write_field-2-clause-refused : goal.returns-in_err-try_write_field-2-clause-refused
returns-in_err-try_write_field-2-clause-refused c =
    let is : c.from_residual-in_err-try_write_field-2.result ≡ Err c.in_err-try_write_field-2.field-0.0 = first_of (search rules, grind (arith, common_steps)) in
    rw is (no_functions c.args.«module».now _ c.in_err-try_write_field-2.ensures.refused)

pub returns-in_err-try_write_field-3-clause-refused : goal.returns-in_err-try_write_field-3-clause-refused
returns-in_err-try_write_field-3-clause-refused c =
    let is : c.from_residual-in_err-try_write_field-3.result ≡ Err c.in_err-try_write_field-3.field-0.0 = first_of (search rules, grind (arith, common_steps)) in
    rw is (no_entry_points c.args.«module».now _ c.in_err-try_write_field-3.ensures.refused)

pub returns-clause-written : goal.returns-clause-written
returns-clause-written c =
    let globals = c.in_ok-try_write_field.ensures.written in
    let functions = c.in_ok-try_write_field-2.ensures.written in
    let entries = c.in_ok-try_write_field-3.ensures.written in
    let begun = c.in_ok-begin_object.ensures.ok in
    let first = rw begun at c.in_ok-write_field.ensures.tokens in
    let special = rw first at c.in_ok-key.ensures.ok in
    let second = rw special at c.in_ok-write_special_types.ensures.tokens in
    let third = rw second at c.in_ok-write_field-2.ensures.tokens in
    let fourth = rw third at c.in_ok-write_field-3.ensures.tokens in
    let fifth = rw fourth at c.in_ok-write_field-4.ensures.tokens in
    let sixth = rw fifth at globals.2 in
    let seventh = rw sixth at functions.2 in
    let eighth = rw seventh at entries.2 in
    let ninth = rw eighth at c.in_ok-write_field-5.ensures.tokens in
    let tenth = rw ninth at c.in_ok-write_field-6.ensures.tokens in
    let comments = rw tenth at c.in_ok-key-2.ensures.ok in
    let last = rw comments at c.in_ok-write_optional_comments.ensures.tokens in
    let written = rw last at c.in_ok-end_object.ensures.ok in
    (_, (globals.0, globals.1, (functions.0, functions.1, (entries.0, entries.1, refl))), written)
