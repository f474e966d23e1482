-- The expressions of a function with new handles, of which some are not kept.
use Rattle.std.specs.Prelude.{◌≡◌, ℕ, Bool, true, List, All, map, option_map}
use Rattle.std.specs.List.{filter}
use Rattle.naga_arena.specs.Range.{handles_of}
use Rattle.naga_flow.specs.Uses.{Expressions}
use Rattle.naga_flow.specs.declared.evaluation.Evaluation.{Evaluation}
use Rattle.naga_flow.specs.declared.evaluation.Evaluation.TheVariants as by
use Rattle.naga_compact.specs.Renaming.{Renaming}

-- each of these expressions is kept
abbrev pub AreKept : (kept : ℕ → Bool) → List ℕ → Type 0
AreKept kept = All (λ handle. kept handle ≡ true)

-- how an expression gets its value, with the function of a call renamed
abbrev pub rename_evaluation : (ℕ → ℕ) → Evaluation → Evaluation
rename_evaluation f (by.Call function) = by.Call (f function)
rename_evaluation f way = way

-- The new expressions are those of the old ones that are kept, renamed. What a kept one reads and evaluates is kept.
pub record Renames (kept : ℕ → Bool) (r : Renaming) (old new : Expressions) : Type 0 where
  pub distinct : (x y : ℕ) → kept x ≡ true → kept y ≡ true → r.expressions x ≡ r.expressions y → x ≡ y
  pub ranges : (range : ℕ × ℕ) → handles_of (r.ranges range) ≡ map r.expressions (filter kept (handles_of range))
  pub evaluation : (x : ℕ) → kept x ≡ true → new.evaluation (r.expressions x) ≡ option_map (rename_evaluation r.functions) (old.evaluation x)
  pub operands : (x : ℕ) → kept x ≡ true → new.operands (r.expressions x) ≡ map r.expressions (old.operands x)
  pub operands_kept : (x : ℕ) → kept x ≡ true → AreKept kept (old.operands x)
  pub reads : (x : ℕ) → kept x ≡ true → new.reads (r.expressions x) ≡ map r.expressions (old.reads x)
  pub reads_kept : (x : ℕ) → kept x ≡ true → AreKept kept (old.reads x)
