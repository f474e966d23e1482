-- The values of statements that contain blocks, and of blocks that grow at their end.
use Rattle.std.proofs.Common.{◌≡◌, ◌∙◌, ap, refl, ℕ, Option, List, [], ◌∷◌, ◌++◌, map}
use Rattle.std.specs.declared.vec.Vec.{Vec}
use Rattle.std.specs.declared.alloc.Global.{Global}
use Rattle.naga_arena.specs.declared.span.Span.{Span}
use Rattle.naga_ir.specs.declared.block.Block.{Block}
use Rattle.naga_ir.specs.declared.statement.SwitchCase.{SwitchCase}
use Rattle.naga_ir.specs.declared.statement.Statement.{Statement}
use Rattle.naga_ir.specs.declared.statement.Statement as variant
use Rattle.naga_ir.specs.Block.{pairs}
use Rattle.naga_ir.specs.View.{tree, cases_of}
use Rattle.naga_ir.proofs.NodeOfLemmas.{node_of-Block, node_of-If, node_of-Loop, node_of-Switch}
use Rattle.naga_ir.proofs.PushedLemmas.{tree-push}
use Rattle.naga_json.specs.StatementValue.{value_of_case, push, nested, branch, switch, loop, case, block_value, node_value, cases_value, value_of_statement, value_of_block, cases_from}

pub value_of-Block : (b : Block) → value_of_statement (variant.Block b) ≡ nested (value_of_block b)
value_of-Block b = ap node_value (node_of-Block b)

pub value_of-If : (condition : ℕ) (accept reject : Block) → value_of_statement (variant.If condition accept reject) ≡ branch condition (value_of_block accept) (value_of_block reject)
value_of-If condition accept reject = ap node_value (node_of-If condition accept reject)

pub value_of-Loop : (body continuing : Block) (break_if : Option ℕ) → value_of_statement (variant.Loop body continuing break_if) ≡ loop (value_of_block body) (value_of_block continuing) break_if
value_of-Loop body continuing break_if = ap node_value (node_of-Loop body continuing break_if)

cases_value-from : (cases : List SwitchCase) → cases_value (cases_of cases) ≡ cases_from (map value_of_case cases)
cases_value-from [] = refl
cases_value-from (first ∷ rest) = ap (λ others. case first.value (value_of_block first.body) first.fall_through others) (cases_value-from rest)

pub value_of-Switch : (selector : ℕ) (cases : Vec SwitchCase Global) → value_of_statement (variant.Switch selector cases) ≡ switch selector (cases_from (map value_of_case cases.items))
value_of-Switch selector cases = ap node_value (node_of-Switch selector cases) ∙ ap (switch selector) (cases_value-from cases.items)

-- the value of a block with one more statement
pub block_value-push : (b : Block) (next : Block) (statement : Statement) (span : Span) → pairs next ≡ pairs b ++ (statement, span) ∷ [] → value_of_block next ≡ push (value_of_block b) (value_of_statement statement) span
block_value-push b next statement span e = ap (λ xs. block_value (tree xs)) e ∙ ap block_value (tree-push (pairs b) statement span)
