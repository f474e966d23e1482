use Rattle.std.proofs.Common.{◌≡◌, map, drop}
use Rattle.naga_schema.specs.Fault.{find_field}
use Rattle.naga_schema.specs.Shape.{field_view}
use Rattle.naga_schema.proofs.look.field_named.Given as goal

abbrev pub invariant-loop-field : goal.invariant-loop-field
invariant-loop-field l = find_field (map field_view (drop l.field-index l.fields)) l.name ≡ find_field (map field_view l.fields) l.name
