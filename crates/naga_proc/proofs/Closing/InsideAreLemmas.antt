-- The statements of the code whose tail blocks are closed.
use Rattle.std.proofs.Common.{◌≡◌, sym, subst, ℕ}
use Rattle.std.specs.declared.alloc.Global.{Global}
use Rattle.std.specs.declared.vec.Vec.{Vec}
use Rattle.naga_ir.proofs.NodeOfLemmas.{node_of-Block, node_of-If, node_of-Switch}
use Rattle.naga_ir.specs.Tree.{nested, branch, switch, jump, Jump}
use Rattle.naga_ir.specs.View.{cases_of, node_of, tree_of}
use Rattle.naga_ir.specs.declared.block.Block.{Block}
use Rattle.naga_ir.specs.declared.statement.Statement.{Statement}
use Rattle.naga_ir.specs.declared.statement.SwitchCase.{SwitchCase}
use Rattle.naga_proc.specs.Closing.{InsideAre, in_jump, in_block, in_branch, in_cases, CaseTailsAre, GetsReturn, ClosedBy, follows}
use Rattle.naga_proc.specs.declared.terminator.rule.Rule.{Rule}
use Rattle.naga_ir.specs.declared.statement.Statement as variant

pub InsideAre-jump : (rule : Rule) (s : Statement) (to : Jump) → node_of s ≡ jump to → InsideAre (follows rule) GetsReturn (node_of s) (node_of s)
InsideAre-jump rule s to is = subst (λ x. InsideAre (follows rule) GetsReturn x x) (sym is) in_jump

pub InsideAre-Block : (rule : Rule) (b c : Block) → ClosedBy rule (tree_of b) (tree_of c) → InsideAre (follows rule) GetsReturn (node_of (variant.Block b)) (node_of (variant.Block c))
InsideAre-Block rule b c h =
    subst (λ s. InsideAre (follows rule) GetsReturn s (node_of (variant.Block c))) (sym (node_of-Block b))
    (subst (λ t. InsideAre (follows rule) GetsReturn (nested (tree_of b)) t) (sym (node_of-Block c)) (in_block h))

pub InsideAre-If : (rule : Rule) (x : ℕ) (b c d e : Block) → ClosedBy rule (tree_of b) (tree_of c) → ClosedBy rule (tree_of d) (tree_of e) → InsideAre (follows rule) GetsReturn (node_of (variant.If x b d)) (node_of (variant.If x c e))
InsideAre-If rule x b c d e h k =
    subst (λ s. InsideAre (follows rule) GetsReturn s (node_of (variant.If x c e))) (sym (node_of-If x b d))
    (subst (λ t. InsideAre (follows rule) GetsReturn (branch x (tree_of b) (tree_of d)) t) (sym (node_of-If x c e)) (in_branch h k))

pub InsideAre-Switch : (rule : Rule) (x : ℕ) (cs ds : Vec SwitchCase Global) → CaseTailsAre (follows rule) GetsReturn (cases_of cs.items) (cases_of ds.items) → InsideAre (follows rule) GetsReturn (node_of (variant.Switch x cs)) (node_of (variant.Switch x ds))
InsideAre-Switch rule x cs ds h =
    subst (λ s. InsideAre (follows rule) GetsReturn s (node_of (variant.Switch x ds))) (sym (node_of-Switch x cs))
    (subst (λ t. InsideAre (follows rule) GetsReturn (switch x (cases_of cs.items)) t) (sym (node_of-Switch x ds)) (in_cases h))
