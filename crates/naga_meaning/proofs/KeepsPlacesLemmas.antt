-- Any places can be carried along when a module is compacted.
use Rattle.std.proofs.Common.{◌≡◌, ap, refl, inl, inr, ◌⊎◌, ℕ, ◌<◌, ◌≤◌, length, Bool, true, Some, arith}
use Rattle.std.proofs.lemmas.Bool.{cases_lt}
use Rattle.std.specs.FinSet.{contains}
use Rattle.naga_ir.specs.declared.module.Module.{Module}
use Rattle.naga_valid.specs.declared.reference.Reference.{Reference}
use Rattle.naga_valid.specs.declared.reference.Reference.TheVariants as reference
use Rattle.naga_compact.specs.Kept.{rank}
use Rattle.naga_compact.specs.Module.Compaction.{CompactsModule}
use Rattle.naga_compact.specs.declared.module.renumbering.ModuleRenumbering.{ModuleRenumbering}
use Rattle.naga_compact.specs.declared.module.roots.KeepUnused.{KeepUnused}
use Rattle.naga_compact.proofs.RankLemmas.{rank-increases, rank-injective, rank-onto}
use Rattle.naga_meaning.specs.KeptThings.{KeepsPlaces}

-- ---- one arena

module _ {Place : Type 0} (kept : ℕ → Bool) (bound : ℕ) (place : ℕ → Place) where
  carried_at : (index : ℕ) → (index < rank kept bound) ⊎ (rank kept bound ≤ index) → Place
  carried_at index (inl below) = place (rank-onto kept bound index below).0
  carried_at index (inr past) = place index

  -- the place of what has the new index
  carried : ℕ → Place
  carried index = carried_at index (cases_lt index (rank kept bound))

  carried_at-kept : (handle : ℕ) → kept handle ≡ true → handle < bound → (side : (rank kept handle < rank kept bound) ⊎ (rank kept bound ≤ rank kept handle)) → carried_at (rank kept handle) side ≡ place handle
  unfolding carried_at
  carried_at-kept handle so within (inl below) =
      let found = rank-onto kept bound (rank kept handle) below in
      ap place (rank-injective kept found.0 handle found.1 so found.2)
  carried_at-kept handle so within (inr past) = absurd (omega (arith, rank-increases kept handle bound so within, past))

  carried-kept : (handle : ℕ) → kept handle ≡ true → handle < bound → carried (rank kept handle) ≡ place handle
  unfolding carried
  carried-kept handle so within = carried_at-kept handle so within (cases_lt (rank kept handle) (rank kept bound))

-- ---- a module

module _ {Place : Type 0} (old : Module) (keep_unused : KeepUnused) (kept : ModuleRenumbering) (new : Module) (compacts : CompactsModule old keep_unused kept new) (place : Reference → Place) where
  abbrev middle : Module
  middle = compacts.middle

  -- the places of the elements that are left
  abbrev carried_along : Reference → Place
  carried_along (reference.Override handle) = carried (contains kept.overrides.members) (length middle.overrides) (λ at. place (reference.Override at)) handle
  carried_along (reference.GlobalVariable handle) = carried (contains kept.global_variables.members) (length middle.global_variables) (λ at. place (reference.GlobalVariable at)) handle
  carried_along (reference.Function handle) = carried (contains kept.functions.members) (length middle.functions) (λ at. place (reference.Function at)) handle
  carried_along name = place name

  KeepsPlaces-carried : KeepsPlaces kept place carried_along
  KeepsPlaces-carried (reference.Override handle) so =
      ap Some (carried-kept (contains kept.overrides.members) (length middle.overrides) (λ at. place (reference.Override at)) handle so ((compacts.used.members (reference.Override handle)).0 so).0)
  KeepsPlaces-carried (reference.GlobalVariable handle) so =
      ap Some (carried-kept (contains kept.global_variables.members) (length middle.global_variables) (λ at. place (reference.GlobalVariable at)) handle so ((compacts.used.members (reference.GlobalVariable handle)).0 so).0)
  KeepsPlaces-carried (reference.Function handle) so =
      ap Some (carried-kept (contains kept.functions.members) (length middle.functions) (λ at. place (reference.Function at)) handle so ((compacts.used.members (reference.Function handle)).0 so).0)
  KeepsPlaces-carried _ so = refl

  pub KeepsPlaces-some : (place' : Reference → Place) × KeepsPlaces kept place place'
  KeepsPlaces-some = (carried_along, KeepsPlaces-carried)
