-- The last statements that a return follows.
use Rattle.std.proofs.Common.{◌≡◌, refl, ap, true, false, ℕ}
use Rattle.std.specs.declared.alloc.Global.{Global}
use Rattle.std.specs.declared.vec.Vec.{Vec}
use Rattle.naga_ir.proofs.NodeOfLemmas.{node_of-plain, node_of-Block, node_of-If, node_of-Switch}
use Rattle.naga_ir.specs.Tree.{is_plain, Node, plain, nested, branch, switch, loop, jump}
use Rattle.naga_ir.specs.View.{cases_of, node_of}
use Rattle.naga_ir.specs.declared.block.Block.{Block}
use Rattle.naga_ir.specs.declared.statement.Statement.{Statement}
use Rattle.naga_ir.specs.declared.statement.SwitchCase.{SwitchCase}
use Rattle.naga_proc.specs.Closing.{follows, follows_switch, leaves_open}
use Rattle.naga_proc.specs.declared.terminator.rule.Rule.{Rule}
use Rattle.naga_proc.specs.declared.terminator.rule.Rule.TheVariants.{Old}
use Rattle.naga_ir.specs.declared.statement.Statement as variant

pub follows-Old : (last : Node) → follows Old last ≡ leaves_open last
follows-Old (switch selector cases) = refl
follows-Old last = refl

-- if a return follows a statement by the old rule, it does so by every rule
pub follows-wider : (rule : Rule) (last : Node) → follows Old last ≡ true → follows rule last ≡ true
follows-wider rule (switch selector cases) h = absurd (let e : false ≡ true = h in cc)
follows-wider rule (plain what) h = refl
follows-wider rule (loop body continuing break_if) h = refl
follows-wider rule (jump to) h = h
follows-wider rule (nested inner) h = h
follows-wider rule (branch condition accept reject) h = h

-- ---- the statements of the code

pub follows-plain : (rule : Rule) (s : Statement) → is_plain (node_of s) ≡ true → follows rule (node_of s) ≡ true
follows-plain rule s h = ap (follows rule) (node_of-plain s h)

pub follows-Block : (rule : Rule) (b : Block) → follows rule (node_of (variant.Block b)) ≡ false
follows-Block rule b = ap (follows rule) (node_of-Block b)

pub follows-If : (rule : Rule) (x : ℕ) (b d : Block) → follows rule (node_of (variant.If x b d)) ≡ false
follows-If rule x b d = ap (follows rule) (node_of-If x b d)

pub follows-Switch : (rule : Rule) (x : ℕ) (cs : Vec SwitchCase Global) → follows rule (node_of (variant.Switch x cs)) ≡ follows_switch rule (cases_of cs.items)
follows-Switch rule x cs = ap (follows rule) (node_of-Switch x cs)
