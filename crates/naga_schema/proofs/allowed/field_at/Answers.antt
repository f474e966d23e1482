use Rattle.std.proofs.Common.{◌≡◌, ◌∙◌, ◌<◌, ◌≤◌, ap, sym, refl, length, option_map, slice_get, Some, None, arith}
use Rattle.std.proofs.lemmas.Bool.Decides.{nat_tests}
use Rattle.std.proofs.lemmas.Option.{slice_get_past, slice_get_read}
use Rattle.naga_schema.specs.Shape.{field_view}
use Rattle.naga_schema.proofs.AllowedLemmas.{mapped-twice}
use Rattle.naga_schema.proofs.allowed.field_at.Goals as goal

pub returns-in-Some : goal.returns-in-Some
returns-in-Some c =
    let rows = c.args.fields.now in
    let within : c.args.position < length rows = grind (arith, nat_tests, c.in-Some.ensures.lookup.0) in
    let at = slice_get_read rows (length rows) c.args.position c.in-Some.field.now refl within c.in-Some.ensures.lookup.1 in
    ap (option_map (λ field. field.0.now)) (sym at) ∙ mapped-twice (λ field. field.0) field_view rows c.args.position

pub returns-in-None : goal.returns-in-None
returns-in-None c =
    let rows = c.args.fields.now in
    let past : length rows ≤ c.args.position = grind (arith, nat_tests, c.in-None.ensures.lookup.0) in
    ap (option_map (λ field. field.0.now)) (sym (slice_get_past rows c.args.position past)) ∙ mapped-twice (λ field. field.0) field_view rows c.args.position
