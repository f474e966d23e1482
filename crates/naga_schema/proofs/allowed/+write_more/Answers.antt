use Rattle.std.proofs.Common.{◌≡◌, ◌++◌, ◌+◌, ◌<◌, length, rules, ap, sym, refl, drop, slice_get, codes, Some, None, Ok, arith}
use Rattle.std.proofs.Output.{displays_on_IsOk_append, displays_on_ok_of_eq}
use Rattle.std.proofs.lemmas.Option.{slice_get_within}
use Rattle.std.specs.Fmt.{◌++?◌}
use Rattle.naga_schema.specs.Messages.{more_text}
use Rattle.naga_schema.specs.Path.{allowed_names}
use Rattle.naga_schema.proofs.AllowedLemmas.{more-last, more-next, more-none, none-at, some-at}
use Rattle.naga_schema.proofs.allowed.+write_more.Goals as goal

pub returns-then-is_none : goal.returns-then-is_none
returns-then-is_none g t c =
    let names = allowed_names c.args.allowed.now in
    let none = none-at (λ name. name.now) c.name-in-Some.result (slice_get names (c.args.position + 1)) c.name-in-Some.ensures c.if-is_none.ensures in
    displays_on_ok_of_eq _ _ _ _ _ _ (ap Some (more-last names c.args.position c.in-Some.name.now (sym c.in-Some.ensures) none)) c.write.ensures.writes

pub overflow_add-position-in-Some : goal.overflow_add-position-in-Some
overflow_add-position-in-Some g t c =
    let names = allowed_names c.args.allowed.now in
    let before = slice_get_within names c.args.position c.in-Some.name.now (sym c.in-Some.ensures) in
    omega (arith, before, c.requires)

pub write_more-requires : goal.write_more-requires
write_more-requires g t c κs within =
    let names = allowed_names c.args.allowed.now in
    let before : c.args.position < length names = slice_get_within names c.args.position c.in-Some.name.now (sym c.in-Some.ensures) in
    search rules

pub returns-in-None : goal.returns-in-None
returns-in-None g t c =
    rw (more-none (allowed_names c.args.allowed.now) c.args.position (sym c.in-None.ensures)) (search rules)

pub returns-in_ok-write-in-Some : goal.returns-in_ok-write-in-Some
returns-in_ok-write-in-Some g t c =
    let names = allowed_names c.args.allowed.now in
    let name = c.in-Some.name.now in
    let one = c.in_ok-write-in-Some in
    let there = some-at (λ name. name.now) c.name-in-Some.result (slice_get names (c.args.position + 1)) c.name-in-Some.ensures c.if-is_none.ensures in
    let text : (Some (codes ", " ++ name) ++? Some (more_text (drop (c.args.position + 1) names))) ≡ Some (more_text (drop c.args.position names)) =
    ap Some (more-next names c.args.position name (sym c.in-Some.ensures) there) in
    displays_on_ok_of_eq _ _ _ _ _ _ text
    (displays_on_IsOk_append _ _ _ _ (Ok one.field-0) _ (Some (codes ", " ++ name)) (Some (more_text (drop (c.args.position + 1) names))) (λ ok. refl) one.ensures.writes c.write_more.ensures)
