-- Functions that compute after passes what others computed before.
use Rattle.std.proofs.Common.{◌≡◌, ◌∙◌, ap, refl, ℕ, Bool, true, List, [], ◌∷◌}
use Rattle.std.specs.FinSet.{contains}
use Rattle.naga_ir.specs.declared.module.Function.{Function}
use Rattle.naga_sets.specs.HandleSet.{BoundedSet}
use Rattle.naga_valid.specs.declared.reference.Reference.{Reference}
use Rattle.naga_compact.specs.Kept.{new_index}
use Rattle.naga_compact.specs.declared.module.renumbering.ModuleRenumbering.{ModuleRenumbering}
use Rattle.naga_compact.specs.declared.module.roots.KeepUnused.{KeepUnused}
use Rattle.naga_proc.specs.Bodies.{ChangesBody}
use Rattle.naga_proc.specs.Closing.{ClosedBy}
use Rattle.naga_proc.specs.declared.terminator.rule.Rule.{Rule}
use Rattle.naga_proc.specs.declared.terminator.rule.Rule.TheVariants.{New, Old}
use Rattle.naga_meaning.specs.Functions.{Meanings, meaning}
use Rattle.naga_meaning.specs.Modules.{KeepsMeaning}
use Rattle.naga_flow.specs.Readings.{constant_chains_in}
use Rattle.naga_meaning.specs.Readings.{chains_in, read_by}
use Rattle.naga_meaning.specs.Values.{World}
use Rattle.naga_meaning.proofs.ClosedOutcomeLemmas.{meaning-closed, meaning-closed_old, meaning-culled}
use Rattle.naga_passes.specs.Culling.{Culled}
use Rattle.naga_passes.specs.Meanings.{ComputesAfter, is_kept, outcome_after, outcome_by, renamed_reference}
use Rattle.naga_passes.specs.declared.pass.Pass.{Pass}
use Rattle.naga_passes.specs.declared.pass.Pass.TheVariants.{Cull, Close, Compact}
use Rattle.naga_passes.proofs.IndexAfterLemmas.{between, between-after, between-before, first-kept, second-kept}

module _ (Thing Value State : Type 0) where
  -- no passes
  abbrev pub ComputesAfter-none : (function : Function) → ComputesAfter Thing Value State [] [] function function
  ComputesAfter-none function = record {
    expressions = [];
    same = λ at_use at_use' alike look by turns a b same i.
        meaning look by turns (read_by (λ x. alike x refl i) function) (record { state = same.state i; values = λ x. same.values x refl i });
    chains = λ x so. refl;
    constant_chains = λ chosen chosen' alike x so i. constant_chains_in (λ y. alike y refl i) function.expressions x;
  }

  -- ---- a pass that changes only bodies, and then others

  -- the second function has the outcomes of the first after the pass, from each start and by each reading
  abbrev pub HasOutcomesBy : Pass → (old new : Function) → Type 0
  HasOutcomesBy pass old new =
      (look : Reference → Thing) (by : Meanings Thing Value State) (at_use : ℕ → Bool) (turns : ℕ) (start : World Value State) →
      meaning look by turns (read_by at_use new) start ≡ outcome_by pass (meaning look by turns (read_by at_use old) start)

  abbrev ComputesAfter-changed : (pass : Pass) (others : List Pass) (renumberings : List ModuleRenumbering) (old middle new : Function) →
      middle.expressions ≡ old.expressions → HasOutcomesBy pass old middle →
      ComputesAfter Thing Value State others renumberings middle new → ComputesAfter Thing Value State (pass ∷ others) renumberings old new
  ComputesAfter-changed pass others renumberings old middle new expressions outcomes after = record {
    expressions = after.expressions;
    same = λ at_use at_use' alike look by turns a b same.
        after.same at_use at_use' alike look by turns a b same
        ∙ ap (outcome_after others) (outcomes (λ name. look (renamed_reference renumberings name)) by at_use turns a);
    chains = λ x so. after.chains x so ∙ ap (λ arena. chains_in arena x) expressions;
    constant_chains = λ chosen chosen' alike x so. after.constant_chains chosen chosen' alike x so ∙ ap (λ arena. constant_chains_in chosen arena x) expressions;
  }

  pub culled-outcomes : (old new : Function) → ChangesBody Culled old new → HasOutcomesBy Cull old new
  culled-outcomes old new changes look by at_use turns start =
      meaning-culled old new (ap (λ (function : Function). function.expressions) changes.0) (ap (λ (function : Function). function.local_variables) changes.0)
      look by at_use turns start changes.1

  pub closed-outcomes : (rule : Rule) (old new : Function) → ChangesBody (ClosedBy rule) old new → HasOutcomesBy (Close rule) old new
  closed-outcomes New old new changes look by at_use turns start =
      meaning-closed old new (ap (λ (function : Function). function.expressions) changes.0) (ap (λ (function : Function). function.local_variables) changes.0)
      look by at_use turns start changes.1
  closed-outcomes Old old new changes look by at_use turns start =
      meaning-closed_old old new (ap (λ (function : Function). function.expressions) changes.0) (ap (λ (function : Function). function.local_variables) changes.0)
      look by at_use turns start changes.1

  module _ (others : List Pass) (renumberings : List ModuleRenumbering) (old middle new : Function) (after : ComputesAfter Thing Value State others renumberings middle new) where
    abbrev pub ComputesAfter-culled : ChangesBody Culled old middle → ComputesAfter Thing Value State (Cull ∷ others) renumberings old new
    ComputesAfter-culled changes =
        ComputesAfter-changed Cull others renumberings old middle new (ap (λ (function : Function). function.expressions) changes.0) (culled-outcomes old middle changes) after

    abbrev pub ComputesAfter-closed : (rule : Rule) → ChangesBody (ClosedBy rule) old middle → ComputesAfter Thing Value State (Close rule ∷ others) renumberings old new
    ComputesAfter-closed rule changes =
        ComputesAfter-changed (Close rule) others renumberings old middle new (ap (λ (function : Function). function.expressions) changes.0) (closed-outcomes rule old middle changes) after

    -- ---- a compaction, and then others

    abbrev pub ComputesAfter-compacted : (keep_unused : KeepUnused) (kept : ModuleRenumbering) → KeepsMeaning Thing Value State kept old middle →
        ComputesAfter Thing Value State (Compact keep_unused ∷ others) (kept ∷ renumberings) old new
    ComputesAfter-compacted keep_unused kept compacts =
        let set : BoundedSet = compacts.expressions in
        let sets : List BoundedSet = after.expressions in
        let kept_first : (x : ℕ) → is_kept (set ∷ sets) x ≡ true → contains set.members x ≡ true = λ x. first-kept (contains set.members x) (is_kept sets (new_index set x)) in
        let kept_then : (x : ℕ) → is_kept (set ∷ sets) x ≡ true → is_kept sets (new_index set x) ≡ true = λ x. second-kept (contains set.members x) (is_kept sets (new_index set x)) in
        record {
          expressions = set ∷ sets;
          same = λ at_use at_use' alike look by turns a b same.
              let look_between : Reference → Thing = λ name. look (renamed_reference renumberings name) in
              let world : World Value State = record { state = a.state; values = between set sets a.values b.values } in
              after.same (between set sets at_use at_use') at_use' (between-after set sets at_use at_use') look by turns world b
              (record { state = same.state; values = between-after set sets a.values b.values })
              ∙ ap (outcome_after others)
              (compacts.same at_use (between set sets at_use at_use') (between-before set sets at_use at_use' alike) look_between by turns a world
              (record { state = refl; values = between-before set sets a.values b.values same.values }));
          chains = λ x so. after.chains (new_index set x) (kept_then x so) ∙ compacts.chains x (kept_first x so);
          constant_chains = λ chosen chosen' alike x so.
              after.constant_chains (between set sets chosen chosen') chosen' (between-after set sets chosen chosen') (new_index set x) (kept_then x so)
              ∙ compacts.constant_chains chosen (between set sets chosen chosen') (between-before set sets chosen chosen' alike) x (kept_first x so);
        }
