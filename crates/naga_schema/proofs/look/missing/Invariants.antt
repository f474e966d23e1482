use Rattle.std.proofs.Common.{◌≡◌, map, drop}
use Rattle.naga_schema.specs.Fault.{missing_field}
use Rattle.naga_schema.specs.Shape.{field_view}
use Rattle.naga_schema.proofs.look.missing.Given as goal

abbrev pub invariant-loop-field : goal.invariant-loop-field
invariant-loop-field l =
    missing_field (map field_view (drop l.field-index l.fields)) (map (λ m. m.0.now) l.members)
    ≡ missing_field (map field_view l.fields) (map (λ m. m.0.now) l.members)
