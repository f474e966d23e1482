use Rattle.indexmap.specs.IndexMap.{keys}
use Rattle.naga_valid.specs.Limits.{IsWithin}
use Rattle.naga_valid.proofs.IsRestLemmas.{IsRest}
use Rattle.naga_valid.proofs.handles.lists.first_key_outside.Given as goal

abbrev pub invariant-loop-key : goal.invariant-loop-key
invariant-loop-key g l = IsRest (λ key. IsWithin l.limits (g.K.HasReference.reference key)) l.key-iterator (keys l.entries)
