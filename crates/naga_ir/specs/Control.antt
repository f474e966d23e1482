-- Statements by their effect on control flow.
use Rattle.std.specs.Prelude.{◌≡◌}
use Rattle.std.specs.declared.alloc.Global.{Global}
use Rattle.std.specs.declared.vec.Vec.{Vec}
use Rattle.naga_ir.specs.declared.statement.Statement.{Statement}
use Rattle.naga_ir.specs.declared.statement.Statement as variant
use Rattle.naga_ir.specs.declared.statement.SwitchCase.{SwitchCase}
use Rattle.naga_ir.specs.declared.statement.control.Control.{Control}
use Rattle.naga_ir.specs.declared.statement.control.Control.TheVariants.{Plain, Block, If, Switch, Loop, Break, Continue, Return, Kill}
use Rattle.naga_ir.specs.Tree.{Node, plain, nested, branch, switch, loop, jump, break, continue, kill, return}
use Rattle.naga_ir.specs.View.{cases_of, node_of, tree_of}

-- the node of a statement with this effect on control flow
abbrev pub node_of_control : Statement → Control → Node
node_of_control statement Plain = plain statement
node_of_control statement (Block inner) = nested (tree_of inner.now)
node_of_control statement (If condition accept reject) = branch condition (tree_of accept.now) (tree_of reject.now)
node_of_control statement (Switch selector cases) = switch selector (cases_of cases.now)
node_of_control statement (Loop body continuing break_if) = loop (tree_of body.now) (tree_of continuing.now) break_if
node_of_control statement Break = jump break
node_of_control statement Continue = jump continue
node_of_control statement (Return value) = jump (return value)
node_of_control statement Kill = jump kill

-- the statement has this effect on control flow, and each part is that part of the statement
abbrev pub IsControlOf : Statement → Control → Type 0
IsControlOf statement Plain = node_of statement ≡ plain statement
IsControlOf statement (Block inner) = statement ≡ variant.Block inner.now
IsControlOf statement (If condition accept reject) = statement ≡ variant.If condition accept.now reject.now
IsControlOf statement (Switch selector cases) =
    (held : Vec SwitchCase Global) × (statement ≡ variant.Switch selector held) × (cases.now ≡ held.items)
IsControlOf statement (Loop body continuing break_if) = statement ≡ variant.Loop body.now continuing.now break_if
IsControlOf statement Break = statement ≡ variant.Break
IsControlOf statement Continue = statement ≡ variant.Continue
IsControlOf statement (Return value) = statement ≡ variant.Return value
IsControlOf statement Kill = statement ≡ variant.Kill
