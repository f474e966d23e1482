-- Visiting elements of a module, one after another: those that were not used before are marked, and become pending.
use Rattle.std.specs.Prelude.{ℕ, ◌+◌, List, [], ◌∷◌, ◌++◌, Bool, false, ◌&&◌, not, nat_lt, if◌then◌else◌}
use Rattle.std.specs.FinSet.{contains}
use Rattle.std.specs.List.{fold}
use Rattle.naga_sets.specs.HandleSet.{BoundedSet}
use Rattle.naga_valid.specs.declared.reference.Reference.{Reference}
use Rattle.naga_valid.specs.declared.reference.Reference.TheVariants.{«Type», Constant, Override, GlobalVariable, GlobalExpression, Function}
use Rattle.naga_compact.specs.Kept.{rank}
use Rattle.naga_compact.specs.Marks.{put}
use Rattle.naga_compact.specs.declared.module.used.UsedHandles.{UsedHandles}

-- the handle is below the bound of the set, and is not a member
abbrev pub is_new_member : BoundedSet → ℕ → Bool
is_new_member s handle = nat_lt handle s.bound && not (contains s.members handle)

-- the element is not marked, and the set of its arena has space for it
abbrev pub is_new : UsedHandles → Reference → Bool
is_new used («Type» handle) = is_new_member used.types_used handle
is_new used (Constant handle) = is_new_member used.constants_used handle
is_new used (Override handle) = is_new_member used.overrides_used handle
is_new used (GlobalVariable handle) = is_new_member used.global_variables_used handle
is_new used (GlobalExpression handle) = is_new_member used.global_expressions_used handle
is_new used (Function handle) = is_new_member used.functions_used handle
is_new used _ = false

-- the element is marked, if the set of its arena has space for it
abbrev pub mark : UsedHandles → Reference → UsedHandles
mark used («Type» handle) = record used { types_used = put used.types_used handle }
mark used (Constant handle) = record used { constants_used = put used.constants_used handle }
mark used (Override handle) = record used { overrides_used = put used.overrides_used handle }
mark used (GlobalVariable handle) = record used { global_variables_used = put used.global_variables_used handle }
mark used (GlobalExpression handle) = record used { global_expressions_used = put used.global_expressions_used handle }
mark used (Function handle) = record used { functions_used = put used.functions_used handle }
mark used _ = used

-- the number of handles below the bound that are not members
abbrev pub absent : BoundedSet → ℕ
absent s = rank (λ handle. not (contains s.members handle)) s.bound

-- the number of elements that are not marked
unfoldable pub unmarked : UsedHandles → ℕ
unmarked used =
    absent used.types_used + absent used.constants_used + absent used.overrides_used
    + absent used.global_variables_used + absent used.global_expressions_used + absent used.functions_used

-- the elements that are marked, and those of them whose own handles are still to be visited
pub record Visited : Type 0 where
  pub used : UsedHandles
  pub pending : List Reference

-- the element is marked, and it is pending if it was not marked before
unfoldable pub visit : Visited → Reference → Visited
visit visited element = record {
  used = mark visited.used element;
  pending = if is_new visited.used element then visited.pending ++ element ∷ [] else visited.pending;
}

-- the same for one element after another
abbrev pub visits : Visited → List Reference → Visited
visits = fold visit
