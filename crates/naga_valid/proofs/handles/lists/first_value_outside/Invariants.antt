use Rattle.indexmap.specs.IndexMap.{values}
use Rattle.naga_valid.specs.Limits.{IsWithin}
use Rattle.naga_valid.proofs.IsRestLemmas.{IsRest}
use Rattle.naga_valid.proofs.handles.lists.first_value_outside.Given as goal

abbrev pub invariant-loop-value : goal.invariant-loop-value
invariant-loop-value g l = IsRest (λ value. IsWithin l.limits (g.V.HasReference.reference value)) l.value-iterator (values l.entries)
