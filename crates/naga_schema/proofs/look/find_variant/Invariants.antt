use Rattle.std.proofs.Common.{◌≡◌, map, drop}
use Rattle.naga_json.specs.Objects.{find_row}
use Rattle.naga_schema.specs.Shape.{variant_view}
use Rattle.naga_schema.proofs.look.find_variant.Given as goal

abbrev pub invariant-loop-variant : goal.invariant-loop-variant
invariant-loop-variant l = find_row (map variant_view (drop l.variant-index l.variants)) l.name ≡ find_row (map variant_view l.variants) l.name
