-- Functions that compute after passes what others computed before, where handles represent what they do in the module.
use Rattle.std.proofs.Common.{◌≡◌, ◌∙◌, ap, refl, ℕ, zero, suc, List, [], ◌∷◌}
use Rattle.naga_ir.specs.declared.module.Function.{Function}
use Rattle.naga_ir.specs.declared.module.Module as the_module
use Rattle.naga_ir.specs.Tree.{Tree}
use Rattle.naga_sets.specs.HandleSet.{BoundedSet}
use Rattle.naga_valid.specs.declared.reference.Reference.{Reference}
use Rattle.naga_valid.specs.declared.reference.Reference.TheVariants as reference
use Rattle.naga_compact.specs.declared.module.renumbering.ModuleRenumbering.{ModuleRenumbering}
use Rattle.naga_compact.specs.declared.module.roots.KeepUnused.{KeepUnused}
use Rattle.naga_proc.specs.Bodies.{ChangesBodies, ChangesBody}
use Rattle.naga_proc.specs.Closing.{ClosedBy}
use Rattle.naga_proc.specs.declared.terminator.rule.Rule.{Rule}
use Rattle.naga_meaning.specs.Functions.{meaning}
use Rattle.naga_meaning.specs.KeptThings.{KeepsMeaningOf}
use Rattle.naga_meaning.specs.Readings.{read_by}
use Rattle.naga_meaning.specs.Things.{all_unfolded, declared_at, element, handles_in, placed, thing_of, unfolded}
use Rattle.naga_meaning.specs.Values.{World}
use Rattle.naga_passes.specs.Culling.{Culled}
use Rattle.naga_passes.specs.Meanings.{ComputesAfterOf, outcome_after}
use Rattle.naga_passes.specs.declared.pass.Pass.{Pass}
use Rattle.naga_passes.specs.declared.pass.Pass.TheVariants.{Cull, Close, Compact}
use Rattle.naga_passes.proofs.ComputesAfterLemmas.{ComputesAfter-closed, ComputesAfter-compacted, ComputesAfter-culled, ComputesAfter-none, closed-outcomes, culled-outcomes}
use Rattle.naga_passes.proofs.IndexAfterLemmas.{between, between-after, between-before}

module _ {Thing : Type 0} (Value State : Type 0) (look look' : Reference → Thing) where
  -- no passes
  pub ComputesAfterOf-none : look' ≡ look → (f : Function) → ComputesAfterOf Value State look look' [] [] f f
  ComputesAfterOf-none looks f = record {
    computes = ComputesAfter-none Thing Value State f;
    same = λ at_use at_use' alike by turns a b same i.
        meaning (looks i) by turns (read_by (λ x. alike x refl i) f) (record { state = same.state i; values = λ x. same.values x refl i });
  }

  module _ (others : List Pass) (renumberings : List ModuleRenumbering) (old middle new : Function) (after : ComputesAfterOf Value State look look' others renumberings middle new) where
    -- a pass that changes only bodies, and then others
    pub ComputesAfterOf-culled : ChangesBody Culled old middle → ComputesAfterOf Value State look look' (Cull ∷ others) renumberings old new
    ComputesAfterOf-culled changes = record {
      computes = ComputesAfter-culled Thing Value State others renumberings old middle new after.computes changes;
      same = λ at_use at_use' alike by turns a b same.
          after.same at_use at_use' alike by turns a b same ∙ ap (outcome_after others) (culled-outcomes Thing Value State old middle changes look by at_use turns a);
    }

    pub ComputesAfterOf-closed : (rule : Rule) → ChangesBody (ClosedBy rule) old middle → ComputesAfterOf Value State look look' (Close rule ∷ others) renumberings old new
    ComputesAfterOf-closed rule changes = record {
      computes = ComputesAfter-closed Thing Value State others renumberings old middle new after.computes rule changes;
      same = λ at_use at_use' alike by turns a b same.
          after.same at_use at_use' alike by turns a b same ∙ ap (outcome_after others) (closed-outcomes Thing Value State rule old middle changes look by at_use turns a);
    }

  -- a compaction, and then others
  pub ComputesAfterOf-compacted : (look_between : Reference → Thing) (others : List Pass) (renumberings : List ModuleRenumbering) (old middle new : Function) →
      ComputesAfterOf Value State look_between look' others renumberings middle new →
      (keep_unused : KeepUnused) (kept : ModuleRenumbering) → KeepsMeaningOf Value State look look_between kept old middle →
      ComputesAfterOf Value State look look' (Compact keep_unused ∷ others) (kept ∷ renumberings) old new
  ComputesAfterOf-compacted look_between others renumberings old middle new after keep_unused kept compacts =
      let set : BoundedSet = compacts.keeps.expressions in
      let sets : List BoundedSet = after.computes.expressions in
      record {
        computes = ComputesAfter-compacted Thing Value State others renumberings old middle new after.computes keep_unused kept compacts.keeps;
        same = λ at_use at_use' alike by turns a b same.
            let world : World Value State = record { state = a.state; values = between set sets a.values b.values } in
            after.same (between set sets at_use at_use') at_use' (between-after set sets at_use at_use') by turns world b
            (record { state = same.state; values = between-after set sets a.values b.values })
            ∙ ap (outcome_after others)
            (compacts.same at_use (between set sets at_use at_use') (between-before set sets at_use at_use' alike) by turns a world
            (record { state = refl; values = between-before set sets a.values b.values same.values }));
      }

-- ---- passes that change only bodies

module _ {Place : Type 0} (Related : Tree → Tree → Type 0) (old new : the_module.Module) (changes : ChangesBodies Related old new) (place : Reference → Place) where
  abbrev inside : the_module.Module
  inside = record old { functions = new.functions; entry_points = new.entry_points }

  declared_at-inside : (name : Reference) → declared_at inside name ≡ declared_at old name
  declared_at-inside (reference.Function handle) = refl
  declared_at-inside _ = refl

  handles_in-inside : (name : Reference) → handles_in inside name ≡ handles_in old name
  handles_in-inside (reference.Function handle) = refl
  handles_in-inside _ = refl

  unfolded-inside : (depth : ℕ) (name : Reference) → unfolded inside place depth name ≡ unfolded old place depth name
  unfolded-inside zero name = refl
  unfolded-inside (suc depth) name = λ i.
      element (declared_at-inside name i) (placed place name) (all_unfolded (λ name. unfolded-inside depth name i) (handles_in-inside name i))

  -- handles represent the same after the pass
  pub thing_of-changed : thing_of new place ≡ thing_of old place
  thing_of-changed = ap (λ whole. thing_of whole place) changes.outside ∙ (λ i name depth. unfolded-inside depth name i)
