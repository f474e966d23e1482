-- The runs of the functions of a module that is compacted.
use Rattle.std.proofs.Common.{◌≡◌, subst, refl, ℕ, zero, suc, List, [], ◌∷◌, Option, None, Some}
use Rattle.std.proofs.lemmas.Option.{none-some, same_Some}
use Rattle.std.proofs.lemmas.Simd.{map-map}
use Rattle.std.specs.List.{AllZip}
use Rattle.std.specs.Prelude.{slice_get}
use Rattle.naga_ir.specs.Tree.{Tree}
use Rattle.naga_ir.specs.View.{tree_of}
use Rattle.naga_ir.specs.declared.module.Function as function
use Rattle.naga_ir.specs.declared.module.Module as the_module
use Rattle.naga_ir.specs.declared.statement.Statement.{Statement}
use Rattle.naga_runs.specs.Runs.{BlockRuns, Run}
use Rattle.naga_runs.specs.declared.run.Ending.{Ending}
use Rattle.naga_runs.specs.declared.run.Ending.TheVariants.{Normal, Break, Continue, Return, Kill, Cut}
use Rattle.naga_compact.specs.Kept.{kept_elements, new_index}
use Rattle.naga_compact.specs.Mapping.Runs.{MappedRunsFit, map_ending, map_run}
use Rattle.naga_compact.specs.Module.Compaction.{CompactsModule, HasCompactedFunction, IsCompactedFunction}
use Rattle.naga_compact.specs.Module.Runs.{KeepsAllRuns, KeepsRuns}
use Rattle.naga_compact.specs.Renaming.{Renaming, of_expressions}
use Rattle.naga_compact.specs.Renaming.Functions.{IsRenamedEntryPoint, IsRenamedFunction}
use Rattle.naga_compact.specs.Renaming.Renumbering.{renaming_of}
use Rattle.naga_compact.specs.derived.Renaming.{rename_statement}
use Rattle.naga_compact.specs.declared.module.renumbering.ModuleRenumbering.{ModuleRenumbering}
use Rattle.naga_compact.specs.declared.module.roots.KeepUnused.{KeepUnused}
use Rattle.naga_compact.proofs.KeptElementsLemmas.{kept_elements-found}
use Rattle.naga_compact.proofs.CompactsLemmas.{keeps_runs}

-- ---- one mapping after another

ending-twice : (f g : ℕ → ℕ) (ending : Ending) → map_ending g (map_ending f ending) ≡ map_ending (λ n. g (f n)) ending
ending-twice f g Normal = refl
ending-twice f g Break = refl
ending-twice f g Continue = refl
ending-twice f g (Return value) = by value
  where
    by : (value : Option ℕ) → map_ending g (map_ending f (Return value)) ≡ map_ending (λ n. g (f n)) (Return value)
    by None = refl
    by (Some n) = refl
ending-twice f g Kill = refl
ending-twice f g Cut = refl

module _ (p q : Statement → Statement) (f g : ℕ → ℕ) where
  run-twice : (run : Run) → map_run q g (map_run p f run) ≡ map_run (λ s. q (p s)) (λ n. g (f n)) run
  run-twice run = λ i. record run { trace = map-map q p run.trace i; ending = ending-twice f g run.ending i }

  MappedRunsFit-twice : (first second third : Tree) → MappedRunsFit p f first second → MappedRunsFit q g second third → MappedRunsFit (λ s. q (p s)) (λ n. g (f n)) first third
  MappedRunsFit-twice first second third once again turns answers run runs =
      subst (BlockRuns turns third answers) (run-twice run) (again turns answers (map_run p f run) (once turns answers run runs))

-- ---- functions

-- a function that is compacted, and of which the handles of the module are renamed after that
KeepsRuns-of : (kept : ModuleRenumbering) (old middle new : function.Function) → IsCompactedFunction old middle → IsRenamedFunction (renaming_of kept) middle new → KeepsRuns kept old new
KeepsRuns-of kept old middle new compacted renamed =
    let inside : Renaming = of_expressions (new_index compacted.0) in
    let outside : Renaming = renaming_of kept in
    let once = keeps_runs inside (tree_of old.body) (tree_of middle.body) compacted.1.body in
    let again = keeps_runs outside (tree_of middle.body) (tree_of new.body) renamed.body in record {
      expressions = compacted.0;
      reached = compacted.1.reached;
      runs = MappedRunsFit-twice (rename_statement inside) (rename_statement outside) (new_index compacted.0) (λ n. n) (tree_of old.body) (tree_of middle.body) (tree_of new.body) once again;
    }

-- an element of the first list is related to the one of the second list at the same position
related_to : {A B : Type 0} (R : A → B → Type 0) (xs : List A) (ys : List B) → AllZip R xs ys → (k : ℕ) (x : A) → slice_get xs k ≡ Some x → (y : B) × (slice_get ys k ≡ Some y) × R x y
related_to R [] ys all zero x found = absurd (none-some x found)
related_to R [] ys all (suc k) x found = absurd (none-some x found)
related_to R (z ∷ xs) [] all k x found = absurd all
related_to R (z ∷ xs) (y ∷ ys) all zero x found = (y, refl, subst (λ w. R w y) (same_Some z x found) all.0)
related_to R (z ∷ xs) (y ∷ ys) all (suc k) x found = related_to R xs ys all.1 k x found

pub KeepsAllRuns-of : (old : the_module.Module) (keep_unused : KeepUnused) (kept : ModuleRenumbering) (new : the_module.Module) → CompactsModule old keep_unused kept new → KeepsAllRuns old kept new
KeepsAllRuns-of old keep_unused kept new compacts = record {
  functions = λ handle before found so.
      let middle = related_to _ old.functions compacts.middle.functions compacts.functions.functions handle before found in
      let there = kept_elements-found kept.functions compacts.middle.functions handle middle.0 middle.1 so in
      let after = related_to _ (kept_elements kept.functions compacts.middle.functions) new.functions compacts.removed.functions (new_index kept.functions handle) middle.0 there in
      (after.0, after.1, KeepsRuns-of kept before.0 middle.0.0 after.0.0 middle.2.0 after.2.0);
  entry_points = λ position before found.
      let middle = related_to HasCompactedFunction old.entry_points.items compacts.middle.entry_points.items compacts.functions.entry_points position before found in
      let after = related_to (IsRenamedEntryPoint (renaming_of kept)) compacts.middle.entry_points.items new.entry_points.items compacts.removed.entry_points position middle.0 middle.1 in
      (after.0, after.1, KeepsRuns-of kept before.function middle.0.function after.0.function middle.2.1 after.2.inside);
}
