-- The text of a block, statement by statement, and of cases, case by case.
use Rattle.std.proofs.Common.{◌≡◌, ◌∙◌, ◌<◌, ◌≤◌, ◌+◌, ℕ, add-one, Some, ap, sym, subst, refl, List, [], ◌∷◌, ◌++◌, map, drop, length, get_or, append_assoc, append-nil, length-append, arith}
use Rattle.std.proofs.Math.Seq.{drop-cons, get_or-append_seam}
use Rattle.std.proofs.lemmas.Option.{slice_get-get_or}
use Rattle.std.specs.Prelude.{Option, Result, OnOk, flat_map}
use Rattle.std.specs.List.{enumerate_from}
use Rattle.naga_arena.specs.declared.span.Span.{Span}
use Rattle.naga_ir.specs.Block.{pairs, statements}
use Rattle.naga_ir.specs.Tree.{Tree, empty, push, Node, Cases, case}
use Rattle.naga_ir.specs.View.{cases_of, node_of, pushed, tree_of}
use Rattle.naga_ir.specs.declared.block.Block.{Block, size-Block}
use Rattle.naga_ir.specs.declared.statement.Statement.{Statement, size-Statement}
use Rattle.naga_ir.specs.declared.statement.SwitchCase.{SwitchCase}
use Rattle.naga_ir.proofs.SizeBlockLemmas.{size-statement_at}
use Rattle.naga_text.specs.Blocks.{case_end_text, case_head_text, cases_text, deeper, node_text, tree_text, unless_empty}
use Rattle.naga_text.specs.Counterparts.{inner_at, nodes}

-- ---- the statements of a block

nodes-longer : (front : Tree) (last : Node) (xs : List Statement) (f : ℕ × Statement → List ℕ) → flat_map f (enumerate_from (length (nodes front ++ last ∷ [])) xs) ≡ flat_map f (enumerate_from (length (nodes front) + 1) xs)
nodes-longer front last xs f = ap (λ n. flat_map f (enumerate_from n xs)) (length-append (nodes front) (last ∷ []))

-- A text of a block that is made of texts of its statements, each with its position.
module _ (text : Tree → List ℕ) (one : ℕ → Node → List ℕ) (none : text empty ≡ []) (more : (front : Tree) (last : Node) (span : Span) → text (push front last span) ≡ text front ++ one (length (nodes front)) last) where
  abbrev entry_text : ℕ × Statement → List ℕ
  entry_text entry = one entry.0 (node_of entry.1)

  pushed-each : (front : Tree) (xs : List (Statement × Span)) → text (pushed front xs) ≡ text front ++ flat_map entry_text (enumerate_from (length (nodes front)) (map (λ pair. pair.0) xs))
  pushed-each front [] = sym (append-nil (text front))
  pushed-each front (x ∷ xs) =
      let rest = flat_map entry_text (enumerate_from (length (nodes front) + 1) (map (λ pair. pair.0) xs)) in
      pushed-each (push front (node_of x.0) x.1) xs
      ∙ ap (λ ys. text (push front (node_of x.0) x.1) ++ ys) (nodes-longer front (node_of x.0) (map (λ pair. pair.0) xs) entry_text)
      ∙ ap (λ ys. ys ++ rest) (more front (node_of x.0) x.1)
      ∙ append_assoc (text front) (one (length (nodes front)) (node_of x.0)) rest

  pub tree-each : (block : Block) → text (tree_of block) ≡ flat_map entry_text (enumerate_from 0 (statements block))
  tree-each block = pushed-each empty (pairs block) ∙ ap (λ ys. ys ++ flat_map entry_text (enumerate_from 0 (statements block))) none

abbrev pub statement_lines : List ℕ → Option Tree → ℕ × Statement → List ℕ
statement_lines margin old entry = node_text margin old entry.0 (node_of entry.1)

-- the text of a block is that of each statement
pub tree_text-each : (margin : List ℕ) (old : Option Tree) (block : Block) → tree_text margin old (tree_of block) ≡ flat_map (statement_lines margin old) (enumerate_from 0 (statements block))
tree_text-each margin old block = tree-each (tree_text margin old) (node_text margin old) refl (λ front last span. refl) block

-- what was appended for the node of a statement was appended for the statement
pub OnOk-node : {A E : Type 0} (r : Result A E) (margin : List ℕ) (to : Option Tree) (position : ℕ) (old new : List ℕ) (s : Statement) (node : Node) → node_of s ≡ node → OnOk r (new ≡ old ++ node_text margin to position node) → OnOk r (new ≡ old ++ node_text margin to position (node_of s))
OnOk-node r margin to position old new s node is appended =
    subst (λ n. OnOk r (new ≡ old ++ node_text margin to position n)) (sym is) appended

-- the entry of the first of the statements that are left
pub enumerate_from-ahead : {X : Type 0} (n i m : ℕ) (x : X) (rest ahead : List X) → ahead ≡ x ∷ rest → i ≡ n → m ≡ n + 1 → enumerate_from n ahead ≡ (i, x) ∷ enumerate_from m rest
enumerate_from-ahead n i m x rest ahead are is next =
    ap (enumerate_from n) are
    ∙ ap (λ k. (k, x) ∷ enumerate_from (n + 1) rest) (sym is)
    ∙ ap (λ k. (i, x) ∷ enumerate_from k rest) (sym next)

-- ---- the statements that are left

-- the statements `ahead` are the last ones of the block
pub record AreLast (block : Block) (ahead : List Statement) : Type 0 where
  pub front : List Statement
  pub is : statements block ≡ front ++ ahead

pub AreLast-all : (block : Block) (ahead : List Statement) → ahead ≡ statements block → AreLast block ahead
AreLast-all block ahead are = record { front = []; is = sym are }

pub AreLast-next : (block : Block) (s : Statement) (rest ahead : List Statement) → ahead ≡ s ∷ rest → AreLast block ahead → AreLast block rest
AreLast-next block s rest ahead are last = record {
  front = last.front ++ s ∷ [];
  is = last.is ∙ ap (λ xs. last.front ++ xs) are ∙ sym (append_assoc last.front (s ∷ []) rest);
}

-- the first of them is smaller than the block
pub AreLast-lt : (block : Block) (s : Statement) (rest ahead : List Statement) → ahead ≡ s ∷ rest → AreLast block ahead → size-Statement s < size-Block block
AreLast-lt block s rest ahead are last =
    let is : statements block ≡ last.front ++ s ∷ rest = last.is ∙ ap (λ xs. last.front ++ xs) are in
    let within : length last.front < length (statements block) = omega (arith, ap length is, length-append last.front (s ∷ rest)) in
    let here : get_or (statements block) (length last.front) s ≡ s = ap (λ xs. get_or xs (length last.front) s) is ∙ get_or-append_seam last.front s rest s in
    size-statement_at block (length last.front) s (slice_get-get_or (statements block) (length last.front) s within ∙ ap Some here)

-- ---- empty blocks

unless_empty-pushed : (front : Tree) (s : Node) (span : Span) (xs : List (Statement × Span)) (text : List ℕ) → unless_empty (pushed (push front s span) xs) text ≡ text
unless_empty-pushed front s span [] text = refl
unless_empty-pushed front s span (x ∷ xs) text = unless_empty-pushed (push front s span) (node_of x.0) x.1 xs text

unless_empty-none : (xs : List (Statement × Span)) (text : List ℕ) → length xs ≤ 0 → unless_empty (pushed empty xs) text ≡ []
unless_empty-none [] text none = refl
unless_empty-none (x ∷ xs) text none = absurd (omega (arith, none))

unless_empty-some : (xs : List (Statement × Span)) (text : List ℕ) → 0 < length xs → unless_empty (pushed empty xs) text ≡ text
unless_empty-some [] text some = absurd (omega (arith, some))
unless_empty-some (x ∷ xs) text some = unless_empty-pushed empty (node_of x.0) x.1 xs text

-- nothing is written about an empty block
pub unless_empty-empty : (block : Block) (old text : List ℕ) → length (pairs block) ≤ 0 → old ≡ old ++ unless_empty (tree_of block) text
unless_empty-empty block old text none =
    sym (append-nil old) ∙ ap (λ t. old ++ t) (sym (unless_empty-none (pairs block) text none))

-- the text about a block that is not empty is written
pub OnOk-unless_empty : {A E : Type 0} (r : Result A E) (block : Block) (old new text : List ℕ) → 0 < length (pairs block) → OnOk r (new ≡ old ++ text) → OnOk r (new ≡ old ++ unless_empty (tree_of block) text)
OnOk-unless_empty r block old new text some appended =
    subst (λ t. OnOk r (new ≡ old ++ t)) (sym (unless_empty-some (pairs block) text some)) appended

-- ---- the cases of a switch

abbrev pub case_lines : List ℕ → Option Tree → SwitchCase → List ℕ
case_lines margin old s =
    case_head_text margin s.value ++ (tree_text (deeper margin) old (tree_of s.body) ++ case_end_text margin s.fall_through)

-- A text of cases that is made of texts of each case with its index.
module _ (text : ℕ → Cases → List ℕ) (one : ℕ → SwitchCase → List ℕ) (more : (i : ℕ) (s : SwitchCase) (others : Cases) → text i (case s.value (tree_of s.body) s.fall_through others) ≡ one i s ++ text (i + 1) others) where
  -- the texts of cases whose first one has been written
  pub cases-next : (cases : List SwitchCase) (i : ℕ) (s : SwitchCase) (before after whole : List ℕ) → i < length cases → s ≡ get_or cases i s → after ≡ before ++ one i s → before ++ text i (cases_of (drop i cases)) ≡ whole → after ++ text (i + 1) (cases_of (drop (i + 1) cases)) ≡ whole
  cases-next cases i s before after whole within is one_more so =
      let ahead : drop i cases ≡ s ∷ drop (i + 1) cases =
      drop-cons cases i s within ∙ ap (λ n. get_or cases i s ∷ drop n cases) (sym (add-one i)) ∙ ap (λ x. x ∷ drop (i + 1) cases) (sym is)
      in
      let others = cases_of (drop (i + 1) cases) in
      ap (λ xs. xs ++ text (i + 1) others) one_more
      ∙ append_assoc before (one i s) (text (i + 1) others)
      ∙ ap (λ xs. before ++ xs) (sym (ap (λ xs. text i (cases_of xs)) ahead ∙ more i s others))
      ∙ so

-- the texts of cases whose first one has been written
pub cases_text-next : (margin : List ℕ) (old : Option Tree) (position : ℕ) (cases : List SwitchCase) (i : ℕ) (s : SwitchCase) (inner : Option Tree) (before after whole : List ℕ) → i < length cases → s ≡ get_or cases i s → inner ≡ inner_at old position i → after ≡ before ++ case_lines margin inner s → before ++ cases_text margin old position i (cases_of (drop i cases)) ≡ whole → after ++ cases_text margin old position (i + 1) (cases_of (drop (i + 1) cases)) ≡ whole
cases_text-next margin old position cases i s inner before after whole within is there one_more so =
    cases-next (cases_text margin old position) (λ index. case_lines margin (inner_at old position index)) (λ index x others. refl) cases i s before after whole within is
    (one_more ∙ ap (λ o. before ++ case_lines margin o s) there) so
