-- Trees that are unchanged while space is reserved: the tree of a block by its last statement, that of a statement by
-- the blocks in it, and those of cases by the case that is written.
use Rattle.std.proofs.Common.{◌≡◌, ◌∙◌, sym, ap, ℕ, suc, zero, ◌<◌, List, [], ◌∷◌, length, get_or, Some, arith}
use Rattle.std.proofs.Math.ListN.{set}
use Rattle.std.proofs.lemmas.List.{append-nil}
use Rattle.std.specs.Prelude.{slice_get}
use Rattle.std.specs.declared.alloc.Global.{Global}
use Rattle.std.specs.declared.vec.Vec.{Vec}
use Rattle.naga_ir.proofs.NodeOfLemmas.{node_of-Block, node_of-If, node_of-Switch}
use Rattle.naga_ir.specs.Block.{pairs, statements}
use Rattle.naga_ir.specs.Lends.{with_statement}
use Rattle.naga_ir.specs.Tree.{empty, push, nested, branch, switch, Cases, no_cases, case}
use Rattle.naga_ir.specs.View.{node_of, pushed, tree_of, cases_of}
use Rattle.naga_ir.specs.declared.block.Block.{Block}
use Rattle.naga_ir.specs.declared.statement.Statement.{Statement, items_hidden-the_row-Block-entries-2-0, items_shown-the_row-Block-entries-2-0}
use Rattle.naga_ir.specs.declared.statement.Statement.TheBlock.{shape-the_row-Block-entries-2-0, hidden-the_row-Block-entries-2-0, shown-the_row-Block-entries-2-0}
use Rattle.naga_ir.specs.declared.statement.SwitchCase.{SwitchCase}
use Rattle.naga_proc.proofs.Closing.ByLastLemmas.{by_last}
use Rattle.naga_ir.specs.declared.statement.Statement as variant

-- ---- a statement

-- the two statements differ at most in the spare capacity of the blocks inside them
abbrev pub SameNode : Statement → Statement → Type 0
SameNode old new = node_of new ≡ node_of old

pub SameNode-Block : (b c : Block) → tree_of c ≡ tree_of b → SameNode (variant.Block b) (variant.Block c)
SameNode-Block b c h = node_of-Block c ∙ ap nested h ∙ sym (node_of-Block b)

pub SameNode-If : (x : ℕ) (b c d e : Block) → tree_of c ≡ tree_of b → tree_of e ≡ tree_of d → SameNode (variant.If x b d) (variant.If x c e)
SameNode-If x b c d e h k =
    node_of-If x c e ∙ (λ i. branch x (h i) (k i)) ∙ sym (node_of-If x b d)

pub SameNode-Switch : (x : ℕ) (cs ds : Vec SwitchCase Global) → cases_of ds.items ≡ cases_of cs.items → SameNode (variant.Switch x cs) (variant.Switch x ds)
SameNode-Switch x cs ds h = node_of-Switch x ds ∙ ap (switch x) h ∙ sym (node_of-Switch x cs)

-- the block as it is read back from its statement
abbrev pub again : Block → Block
again b =
    record { entries = shown-the_row-Block-entries-2-0 (shape-the_row-Block-entries-2-0 b.entries) (hidden-the_row-Block-entries-2-0 b.entries) }

pub tree_of-again : (b : Block) → tree_of (again b) ≡ tree_of b
tree_of-again b =
    ap (pushed empty) (items_shown-the_row-Block-entries-2-0 (shape-the_row-Block-entries-2-0 b.entries) (hidden-the_row-Block-entries-2-0 b.entries) ∙ items_hidden-the_row-Block-entries-2-0 b.entries)

-- ---- a block

pub tree_of-SameNode : (b : Block) (i : ℕ) (old new : Statement) → length (pairs b) ≡ suc i → slice_get (statements b) i ≡ Some old → node_of new ≡ node_of old → tree_of (with_statement b i new) ≡ tree_of b
tree_of-SameNode b i old new l found same =
    let by = by_last b i old new [] l found in
    let written : tree_of (with_statement b i new) ≡ push by.before (node_of new) by.span =
    ap (pushed empty) (sym (append-nil (pairs (with_statement b i new)))) ∙ by.written
    in
    written ∙ ap (λ last. push by.before last by.span) same ∙ sym by.whole

-- ---- the cases

-- the first of these cases, followed by `others`
abbrev before : Cases → Cases → Cases
before no_cases others = others
before (case value body falls_through rest) others = case value body falls_through others

case-cases_of : (x y : SwitchCase) (cs : Cases) → cases_of (y ∷ []) ≡ cases_of (x ∷ []) → case y.value (tree_of y.body) y.fall_through cs ≡ case x.value (tree_of x.body) x.fall_through cs
case-cases_of x y cs same = ap (λ (first : Cases). before first cs) same

pub cases_of-set : (xs : List SwitchCase) (i : ℕ) (y : SwitchCase) → i < length xs → ((d : SwitchCase) → cases_of (y ∷ []) ≡ cases_of (get_or xs i d ∷ [])) → cases_of (set xs i y) ≡ cases_of xs
cases_of-set [] i y h same = absurd (omega arith)
cases_of-set (x ∷ xs) zero y h same = case-cases_of x y (cases_of xs) (same x)
cases_of-set (x ∷ xs) (suc i) y h same =
    ap (λ others. case x.value (tree_of x.body) x.fall_through others) (cases_of-set xs i y (omega arith) same)

-- a case with another body that has the same tree
pub cases_of-body : (x : SwitchCase) (b : Block) → tree_of b ≡ tree_of x.body → cases_of (record x { body = b } ∷ []) ≡ cases_of (x ∷ [])
cases_of-body x b h = ap (λ body. case x.value body x.fall_through no_cases) h

-- a block that ends in a nested block with the same tree as before
pub tree_of-nested : (b : Block) (i : ℕ) (old new : Block) → length (pairs b) ≡ suc i → slice_get (statements b) i ≡ Some (variant.Block old) → tree_of new ≡ tree_of old → tree_of (with_statement b i (variant.Block new)) ≡ tree_of b
tree_of-nested b i old new l found h =
    tree_of-SameNode b i (variant.Block old) (variant.Block new) l found (SameNode-Block old new h)
