-- The counts of a block, as sums over the lists of its statements and cases.
use Rattle.std.proofs.Common.{◌≡◌, ◌∙◌, sym, ap, refl, ℕ, ◌+◌, List, [], ◌∷◌, map, None, Some, arith}
use Rattle.std.proofs.lemmas.List.{length-map}
use Rattle.std.proofs.lemmas.List.Sums.{sum_by-cons}
use Rattle.std.proofs.lemmas.Option.{slice_get-get_or}
use Rattle.std.specs.Prelude.{sum_by, slice_get, length, ◌-◌}
use Rattle.naga_arena.specs.declared.span.Span.{Span}
use Rattle.naga_ir.specs.Block.{pairs, statements}
use Rattle.naga_ir.specs.Tree.{Tree, empty, push}
use Rattle.naga_ir.specs.View.{cases_of, node_of, pushed, tree_of}
use Rattle.naga_ir.specs.declared.block.Block.{Block}
use Rattle.naga_ir.specs.declared.statement.Statement.{Statement}
use Rattle.naga_ir.specs.declared.statement.SwitchCase.{SwitchCase}
use Rattle.naga_proc.proofs.Closing.ByLastLemmas.{by_last, length-by_last}
use Rattle.naga_proc.specs.declared.terminator.rule.Rule.{Rule}
use Rattle.naga_look.specs.Counts.{count_in_cases, inner_count, open_at, open_in_case, open_in_cases, open_tails, statement_count}

-- ---- statements

-- 1 for a statement, and the number of statements in its blocks
abbrev pub count_of : Statement → ℕ
count_of statement = 1 + inner_count (node_of statement)

-- the number of statements in the body of a case
abbrev pub count_of_case : SwitchCase → ℕ
count_of_case one = statement_count (tree_of one.body)

statement_count-pushed : (front : Tree) (xs : List (Statement × Span)) → statement_count (pushed front xs) ≡ statement_count front + sum_by count_of (map (λ (pair : Statement × Span). pair.0) xs)
statement_count-pushed front [] = omega arith
statement_count-pushed front (x ∷ xs) =
    let rest = map (λ (pair : Statement × Span). pair.0) xs in
    let first : sum_by count_of (x.0 ∷ rest) ≡ count_of x.0 + sum_by count_of rest = sum_by-cons count_of x.0 rest in
    let later : statement_count (pushed (push front (node_of x.0) x.1) xs) ≡ (statement_count front + count_of x.0) + sum_by count_of rest = statement_count-pushed (push front (node_of x.0) x.1) xs in
    omega (arith, first, later)

pub statement_count-statements : (b : Block) → statement_count (tree_of b) ≡ sum_by count_of (statements b)
statement_count-statements b =
    let whole : statement_count (tree_of b) ≡ 0 + sum_by count_of (statements b) = statement_count-pushed empty (pairs b) in
    omega (arith, whole)

pub count_in_cases-each : (cases : List SwitchCase) → count_in_cases (cases_of cases) ≡ sum_by count_of_case cases
count_in_cases-each [] = refl
count_in_cases-each (x ∷ cases) = ap (λ n. count_of_case x + n) (count_in_cases-each cases) ∙ sym (sum_by-cons count_of_case x cases)

-- ---- open tail blocks

module _ (rule : Rule) where
  pub open_in_cases-each : (cases : List SwitchCase) → open_in_cases rule (cases_of cases) ≡ sum_by (open_in_case rule) cases
  open_in_cases-each [] = refl
  open_in_cases-each (x ∷ cases) = ap (λ n. open_in_case rule x + n) (open_in_cases-each cases) ∙ sym (sum_by-cons (open_in_case rule) x cases)

  -- the number of open tail blocks of a block with this last statement
  pub open_tails-last : (b : Block) (last : Statement) → slice_get (statements b) (length (pairs b) - 1) ≡ Some last → open_tails rule (tree_of b) ≡ open_at rule (node_of last)
  open_tails-last b last found =
      ap (open_tails rule) (by_last b (length (pairs b) - 1) last last [] (length-by_last b last found) found).whole

-- ---- empty blocks

pub pushed-none : (xs : List (Statement × Span)) → slice_get (map (λ (pair : Statement × Span). pair.0) xs) (length xs - 1) ≡ None → pushed empty xs ≡ empty
pushed-none [] none = refl
pushed-none (x ∷ xs) none =
    let long : length (map (λ (pair : Statement × Span). pair.0) (x ∷ xs)) ≡ length (x ∷ xs) = length-map (x ∷ xs) (λ pair. pair.0) in
    let found = slice_get-get_or (map (λ (pair : Statement × Span). pair.0) (x ∷ xs)) (length (x ∷ xs) - 1) x.0 (omega (arith, long)) in
    absurd (let none' = sym none ∙ found in cc)

-- a block without a last statement is an open tail block
pub open_tails-none : (rule : Rule) (b : Block) → slice_get (statements b) (length (pairs b) - 1) ≡ None → open_tails rule (tree_of b) ≡ 1
open_tails-none rule b none = ap (open_tails rule) (pushed-none (pairs b) none)
