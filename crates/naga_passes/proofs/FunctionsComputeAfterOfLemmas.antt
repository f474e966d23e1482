-- Modules whose functions compute after passes what they computed before, where handles represent what is declared.
use Rattle.std.proofs.Common.{sym, ap, subst, refl, List, [], ◌∷◌}
use Rattle.std.proofs.lemmas.List.Elements.{All-head, All-tail}
use Rattle.std.specs.List.{All}
use Rattle.naga_ir.specs.declared.module.Function as function
use Rattle.naga_ir.specs.declared.module.Module as the_module
use Rattle.naga_valid.specs.Valid.{HandlesAreValid}
use Rattle.naga_valid.specs.declared.reference.Reference.{Reference}
use Rattle.naga_compact.specs.declared.module.renumbering.ModuleRenumbering.{ModuleRenumbering}
use Rattle.naga_proc.specs.Closing.{ClosedBy}
use Rattle.naga_meaning.specs.KeptThings.{KeepsMeaningOf, KeepsMeaningsOf, KeepsThings}
use Rattle.naga_meaning.specs.Things.{Thing, thing_of}
use Rattle.naga_meaning.proofs.KeepsMeaningsOfLemmas.{KeepsMeaningsOf-of}
use Rattle.naga_meaning.proofs.KeepsPlacesLemmas.{KeepsPlaces-some}
use Rattle.naga_meaning.proofs.KeepsThingsLemmas.{KeepsThings-of}
use Rattle.naga_passes.specs.After.{After}
use Rattle.naga_passes.specs.Culling.{Culled}
use Rattle.naga_passes.specs.Meanings.{ComputesAfterOf, FunctionsComputeAfterOf, KeepsPlacesAfter, RestrictsNothing, renumberings_of}
use Rattle.naga_passes.specs.declared.pass.Pass.{Pass}
use Rattle.naga_passes.specs.declared.pass.Pass.TheVariants.{Cull, Close, Compact, Restrict}
use Rattle.naga_passes.proofs.AfterLemmas.{HandlesAreValid-transformed}
use Rattle.naga_passes.proofs.ComputesAfterOfLemmas.{ComputesAfterOf-closed, ComputesAfterOf-compacted, ComputesAfterOf-culled, ComputesAfterOf-none, thing_of-changed}
use Rattle.naga_passes.proofs.FunctionsBecomeLemmas.{FunctionsBecome-changed, FunctionsBecome-compacted, FunctionsBecome-themselves}

-- any places can be carried along
pub KeepsPlacesAfter-some : {Place : Type 0} (passes : List Pass) (old new : the_module.Module) (after : After passes old new) (place : Reference → Place) →
    (place' : Reference → Place) × KeepsPlacesAfter (renumberings_of passes old new after) place place'
KeepsPlacesAfter-some [] old new after place = (place, refl)
KeepsPlacesAfter-some (Cull ∷ others) old new after place = KeepsPlacesAfter-some others after.0 new after.2 place
KeepsPlacesAfter-some (Close rule ∷ others) old new after place = KeepsPlacesAfter-some others after.0 new after.2 place
KeepsPlacesAfter-some (Compact keep_unused ∷ others) old new after place =
    let one = KeepsPlaces-some old keep_unused after.1.0 after.0 after.1.1 place in
    let rest = KeepsPlacesAfter-some others after.0 new after.2 one.0 in
    (rest.0, (one.0, one.1, rest.1))
KeepsPlacesAfter-some (Restrict ∷ others) old new after place = KeepsPlacesAfter-some others after.0 new after.2 place

module _ (Place Value State : Type 0) where
  -- the functions compute what they computed, where handles represent what is declared in the modules
  abbrev Computes : (before after : the_module.Module) (place place' : Reference → Place) → List Pass → List ModuleRenumbering → (old new : function.Function) → Type 0
  Computes before after place place' = ComputesAfterOf Value State (thing_of before place) (thing_of after place')

  pub FunctionsComputeAfterOf-passes : (passes : List Pass) (old new : the_module.Module) → All RestrictsNothing passes → HandlesAreValid old → (after : After passes old new) →
      (place place' : Reference → Place) → KeepsPlacesAfter (renumberings_of passes old new after) place place' →
      FunctionsComputeAfterOf Value State (thing_of old place) (thing_of new place') passes (renumberings_of passes old new after) old new
  FunctionsComputeAfterOf-passes [] old new none valid after place place' keeps =
      subst (λ (new : the_module.Module). FunctionsComputeAfterOf Value State (thing_of old place) (thing_of new place') [] [] old new) (sym after)
      (FunctionsBecome-themselves (Computes old old place place' [] []) (ComputesAfterOf-none Value State (thing_of old place) (thing_of old place') (ap (thing_of old) keeps)) old)
  FunctionsComputeAfterOf-passes (Cull ∷ others) old new none valid after place place' keeps =
      let renumberings : List ModuleRenumbering = renumberings_of others after.0 new after.2 in
      subst (λ look. FunctionsComputeAfterOf Value State look (thing_of new place') (Cull ∷ others) renumberings old new) (thing_of-changed Culled old after.0 after.1 place)
      (FunctionsBecome-changed (Computes after.0 new place place' others renumberings) (Computes after.0 new place place' (Cull ∷ others) renumberings) renumberings old after.0 new
      (FunctionsComputeAfterOf-passes others after.0 new (All-tail RestrictsNothing Cull others none) (HandlesAreValid-transformed Cull old after.0 after.1 valid) after.2 place place' keeps)
      Culled (λ f g h changes computes. ComputesAfterOf-culled Value State (thing_of after.0 place) (thing_of new place') others renumberings f g h computes changes) after.1)
  FunctionsComputeAfterOf-passes (Close rule ∷ others) old new none valid after place place' keeps =
      let renumberings : List ModuleRenumbering = renumberings_of others after.0 new after.2 in
      subst (λ look. FunctionsComputeAfterOf Value State look (thing_of new place') (Close rule ∷ others) renumberings old new) (thing_of-changed (ClosedBy rule) old after.0 after.1 place)
      (FunctionsBecome-changed (Computes after.0 new place place' others renumberings) (Computes after.0 new place place' (Close rule ∷ others) renumberings) renumberings old after.0 new
      (FunctionsComputeAfterOf-passes others after.0 new (All-tail RestrictsNothing (Close rule) others none) (HandlesAreValid-transformed (Close rule) old after.0 after.1 valid) after.2 place place' keeps)
      (ClosedBy rule) (λ f g h changes computes. ComputesAfterOf-closed Value State (thing_of after.0 place) (thing_of new place') others renumberings f g h computes rule changes) after.1)
  FunctionsComputeAfterOf-passes (Compact keep_unused ∷ others) old new none valid after place place' keeps =
      let renumberings : List ModuleRenumbering = renumberings_of others after.0 new after.2 in
      let kept : ModuleRenumbering = after.1.0 in
      let look : Reference → Thing Place = thing_of old place in
      let look_between : Reference → Thing Place = thing_of after.0 keeps.0 in
      let things : KeepsThings kept look look_between = KeepsThings-of old keep_unused kept after.0 valid after.1.1 place keeps.0 keeps.1 in
      let meanings : KeepsMeaningsOf Value State look look_between old kept after.0 = KeepsMeaningsOf-of kept look look_between things old keep_unused after.0 valid after.1.1 in
      FunctionsBecome-compacted (Computes after.0 new keeps.0 place' others renumberings) (Computes old new place place' (Compact keep_unused ∷ others) (kept ∷ renumberings)) renumberings old after.0 new
      (FunctionsComputeAfterOf-passes others after.0 new (All-tail RestrictsNothing (Compact keep_unused) others none) (HandlesAreValid-transformed (Compact keep_unused) old after.0 after.1 valid) after.2 keeps.0 place' keeps.2)
      (KeepsMeaningOf Value State look look_between kept) (λ f g h keeps computes. ComputesAfterOf-compacted Value State look (thing_of new place') look_between others renumberings f g h computes keep_unused kept keeps)
      keep_unused kept after.1.1 meanings.functions meanings.entry_points
  FunctionsComputeAfterOf-passes (Restrict ∷ others) old new none valid after place place' keeps = absurd (All-head RestrictsNothing Restrict others none)
