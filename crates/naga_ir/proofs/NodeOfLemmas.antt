-- The nodes of statements: one equation for each statement that contains blocks, and one for plain statements.
use Rattle.std.proofs.Common.{◌≡◌, ◌∙◌, sym, ap, refl, ℕ, Option, Bool, true}
use mathlib.Core.Former.{Count}
use Rattle.std.specs.declared.vec.Vec.{Vec}
use Rattle.std.specs.declared.alloc.Global.{Global}
use Rattle.naga_kinds.specs.declared.switch.SwitchValue.{SwitchValue}
use Rattle.naga_ir.specs.declared.block.Block.{Block}
use Rattle.naga_ir.specs.declared.statement.SwitchCase.{SwitchCase}
use Rattle.naga_ir.specs.declared.statement.Statement.{Statement, Block', If', Switch', Loop', Break, Continue, Return, Kill, Row_of-Block-entries-2, end_of-Block-entries-2, more_of-Block-entries-2, items-the_row-Block-entries-2, items_hidden-the_row-Block-entries-2-0, items_shown-the_row-Block-entries-2-0, Row_of-SwitchCase, end_of-SwitchCase, more_of-SwitchCase, items-the_row-SwitchCase, items_hidden-the_row-SwitchCase-1}
use Rattle.naga_ir.specs.declared.statement.Statement as variant
use Rattle.naga_ir.specs.declared.statement.Statement.TheBlock.{hidden-the_row-Block-entries-2-0, hidden-the_row-SwitchCase-1}
use Rattle.naga_ir.specs.Tree.{is_plain, Tree, empty, push, plain, nested, branch, switch, loop, Cases, case}
use Rattle.naga_ir.specs.View.{node_of, row_after, cases_of_row, pushed, tree_of, cases_of}

-- ---- statements that contain blocks

row_after-items : (n : Count) (row : Row_of-Block-entries-2 n) (front : Tree) → row_after row front ≡ pushed front (items-the_row-Block-entries-2 n row)
row_after-items n end_of-Block-entries-2 front = refl
row_after-items n (more_of-Block-entries-2 statement span rest) front =
    row_after-items _ rest (push front (node_of statement) span)

row_after-entries : (b : Block) → row_after (hidden-the_row-Block-entries-2-0 b.entries) empty ≡ tree_of b
row_after-entries b =
    row_after-items _ (hidden-the_row-Block-entries-2-0 b.entries) empty ∙ ap (pushed empty) (items_hidden-the_row-Block-entries-2-0 b.entries)

pub node_of-Block : (b : Block) → node_of (variant.Block b) ≡ nested (tree_of b)
node_of-Block b = ap nested (row_after-entries b)

pub node_of-If : (condition : ℕ) (accept reject : Block) → node_of (variant.If condition accept reject) ≡ branch condition (tree_of accept) (tree_of reject)
node_of-If condition accept reject =
    λ i. branch condition (row_after-entries accept i) (row_after-entries reject i)

pub node_of-Loop : (body continuing : Block) (break_if : Option ℕ) → node_of (variant.Loop body continuing break_if) ≡ loop (tree_of body) (tree_of continuing) break_if
node_of-Loop body continuing break_if =
    λ i. loop (row_after-entries body i) (row_after-entries continuing i) break_if

ap-case : (value : SwitchValue) (fall_through : Bool) {a a' : Tree} {r r' : Cases} → a ≡ a' → r ≡ r' → case value a fall_through r ≡ case value a' fall_through r'
ap-case value fall_through p q = λ i. case value (p i) fall_through (q i)

cases_of_row-items : (n : Count) (row : Row_of-SwitchCase n) → cases_of_row row ≡ cases_of (items-the_row-SwitchCase n row)
cases_of_row-items n end_of-SwitchCase = refl
cases_of_row-items n (more_of-SwitchCase value shape body fall_through rest) =
    ap-case value fall_through (row_after-items _ body empty ∙ ap (pushed empty) (sym (items_shown-the_row-Block-entries-2-0 shape body))) (cases_of_row-items _ rest)

pub node_of-Switch : (selector : ℕ) (cases : Vec SwitchCase Global) → node_of (variant.Switch selector cases) ≡ switch selector (cases_of cases.items)
node_of-Switch selector cases =
    ap (switch selector) (cases_of_row-items _ (hidden-the_row-SwitchCase-1 cases) ∙ ap cases_of (items_hidden-the_row-SwitchCase-1 cases))

-- ---- plain statements

-- the node of a plain statement is the statement itself
pub node_of-plain : (s : Statement) → is_plain (node_of s) ≡ true → node_of s ≡ plain s
node_of-plain (Block' shape row) p = absurd (cc)
node_of-plain (If' condition shape accept shape' reject) p = absurd (cc)
node_of-plain (Switch' selector shape cases) p = absurd (cc)
node_of-plain (Loop' shape body shape' continuing break_if) p = absurd (cc)
node_of-plain Break p = absurd (cc)
node_of-plain Continue p = absurd (cc)
node_of-plain (Return value) p = absurd (cc)
node_of-plain Kill p = absurd (cc)
node_of-plain s p = refl
