-- A block is read as it was written if each of its statements is, and so are cases if the body of each case is.
use Rattle.std.proofs.Common.{◌≡◌, ◌∙◌, ℕ, zero, suc, ◌≤◌, List, [], ◌∷◌, ◌++◌, map, true, false, All, refl, arith, ap, subst}
use Rattle.std.proofs.lemmas.List.Elements.{All-cons, All-head, All-tail}
use Rattle.std.specs.Bool.{Decides}
use Rattle.naga_arena.specs.declared.span.Span.{Span}
use Rattle.naga_ir.specs.Block.{pairs, statements}
use Rattle.naga_ir.specs.Tree.{Tree, empty, push}
use Rattle.naga_ir.specs.View.{cases_of, node_of, pushed}
use Rattle.naga_ir.specs.declared.block.Block.{Block}
use Rattle.naga_ir.specs.declared.statement.Statement.{Statement}
use Rattle.naga_ir.specs.declared.statement.SwitchCase.{SwitchCase}
use Rattle.naga_json.specs.Block.{block_within, BlockFits as EachFits, case_codec, statement_codec}
use Rattle.naga_json.specs.Recursion.{within_depth}
use Rattle.naga_json.specs.StatementValue.{BlockValue, CaseValue, StatementValue, block_value, cases_value, plain_value, value_of_block, value_of_statement}
use Rattle.naga_json.specs.StatementValue as value
use Rattle.naga_json.specs.Unspanned.{unspanned_block, unspanned_cases, unspanned_statement}
use Rattle.naga_json_write.proofs.BlockLemmas.{AreLast}
use Rattle.naga_json_round_trip.specs.Module.{BlockFits, CasesFit, StatementFits}

pub decided_true : {P : Type 0} → P → Decides true P
decided_true holds = (λ is. holds, λ holds. refl)

pub decided_false : {P : Type 0} → (P → ⊥) → Decides false P
decided_false never = (λ is. absurd (cc), λ holds. absurd (never holds))

-- ---- statements

module _ (Fits : StatementValue → Type 0) where
  abbrev Each : Statement → Type 0
  Each statement = Fits (unspanned_statement (value_of_statement statement))

  abbrev Block-fits : Tree → Type 0
  Block-fits block = EachFits Fits (unspanned_block (block_value block))

  pushed-fits : (front : Tree) (xs : List (Statement × Span)) → Block-fits front → All Each (map (λ pair. pair.0) xs) → Block-fits (pushed front xs)
  pushed-fits front [] fits each = fits
  pushed-fits front (x ∷ xs) fits each =
      let rest = map (λ (pair : Statement × Span). pair.0) xs in
      pushed-fits (push front (node_of x.0) x.1) xs (fits, All-head Each x.0 rest each, refl) (All-tail Each x.0 rest each)

  pushed-front : (front : Tree) (xs : List (Statement × Span)) → Block-fits (pushed front xs) → Block-fits front
  pushed-front front [] fits = fits
  pushed-front front (x ∷ xs) fits = (pushed-front (push front (node_of x.0) x.1) xs fits).0

  pushed-each : (front : Tree) (xs : List (Statement × Span)) → Block-fits (pushed front xs) → All Each (map (λ pair. pair.0) xs)
  pushed-each front [] fits = λ k d within. absurd (omega arith)
  pushed-each front (x ∷ xs) fits =
      let next = push front (node_of x.0) x.1 in
      All-cons Each x.0 (map (λ (pair : Statement × Span). pair.0) xs) (pushed-front next xs fits).1 (pushed-each next xs fits)

-- if each statement of the block is read as it was written, the block is
pub BlockFits-from_each : (depth : ℕ) (block : Block) → All (StatementFits depth) (statements block) → BlockFits (suc depth) block
unfolding within_depth
BlockFits-from_each depth block each = pushed-fits (statement_codec (block_within depth)).Fits empty (pairs block) tt each

-- each statement of a block that is read as it was written is so too
pub BlockFits-each : (depth : ℕ) (block : Block) → BlockFits (suc depth) block → All (StatementFits depth) (statements block)
unfolding within_depth
BlockFits-each depth block fits = pushed-each (statement_codec (block_within depth)).Fits empty (pairs block) fits

-- no block is read at depth 0
pub BlockFits-none : (depth : ℕ) (block : Block) → (1 ≤ depth → ⊥) → BlockFits depth block → ⊥
unfolding within_depth
BlockFits-none zero block none fits = fits
BlockFits-none (suc depth) block none fits = none (omega arith)

-- ---- cases

-- the value and the body of the case are read as they were written
abbrev pub CaseFits : ℕ → SwitchCase → Type 0
CaseFits depth one = (case_codec (block_within depth)).Fits (one.value, unspanned_block (value_of_block one.body), one.fall_through)

pub CasesFit-from_each : (depth : ℕ) (cases : List SwitchCase) → All (CaseFits depth) cases → CasesFit depth cases
CasesFit-from_each depth [] each = λ k d within. absurd (omega arith)
CasesFit-from_each depth (one ∷ cases) each =
    All-cons (case_codec (block_within depth)).Fits _ _ (All-head (CaseFits depth) one cases each) (CasesFit-from_each depth cases (All-tail (CaseFits depth) one cases each))

pub CasesFit-each : (depth : ℕ) (cases : List SwitchCase) → CasesFit depth cases → All (CaseFits depth) cases
CasesFit-each depth [] fit = λ k d within. absurd (omega arith)
CasesFit-each depth (one ∷ cases) fit =
    let first : CaseValue = (one.value, unspanned_block (value_of_block one.body), one.fall_through) in
    let rest = value.cases_of (unspanned_cases (cases_value (cases_of cases))) in
    All-cons (CaseFits depth) one cases (All-head (case_codec (block_within depth)).Fits first rest fit) (CasesFit-each depth cases (All-tail (case_codec (block_within depth)).Fits first rest fit))

-- ---- the last statements of a block

in_middle : {A : Type 0} (P : A → Type 0) (front : List A) (x : A) (rest : List A) → All P (front ++ x ∷ rest) → P x
in_middle P [] x rest each = All-head P x rest each
in_middle P (y ∷ front) x rest each = in_middle P front x rest (All-tail P y (front ++ x ∷ rest) each)

-- what holds of each statement of a block holds of the first of its last ones
pub All-AreLast : (P : Statement → Type 0) (block : Block) (s : Statement) (rest ahead : List Statement) → ahead ≡ s ∷ rest → AreLast block ahead → All P (statements block) → P s
All-AreLast P block s rest ahead are last each =
    in_middle P last.front s rest (subst (All P) (last.is ∙ ap (λ xs. last.front ++ xs) are) each)
