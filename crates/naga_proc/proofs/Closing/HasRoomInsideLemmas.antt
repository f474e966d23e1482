-- Spare capacity at the tail blocks inside a statement: of a statement that has it, and of the blocks that give it.
use Rattle.std.proofs.Common.{◌≡◌, ◌∙◌, ap, refl, subst, ℕ, ◌<◌, Some, Bool, true, sym, false}
use Rattle.std.specs.Prelude.{slice_get}
use Rattle.std.specs.declared.alloc.Global.{Global}
use Rattle.std.specs.declared.vec.Vec.{Vec}
use Rattle.naga_ir.specs.Block.{room}
use Rattle.naga_ir.proofs.NodeOfLemmas.{node_of-Block, node_of-If, node_of-Switch}
use Rattle.naga_ir.specs.Tree.{Node, plain, nested, branch, switch, loop, jump}
use Rattle.naga_ir.specs.View.{node_of, tree_of}
use Rattle.naga_ir.specs.declared.block.Block.{Block}
use Rattle.naga_ir.specs.declared.statement.Statement.{Statement, out-Statement}
use Rattle.naga_ir.specs.declared.statement.Statement.TheOpen.{Statement-F}
use Rattle.naga_ir.specs.declared.statement.Statement.TheVariants.{outs-Block, outs-If, outs-Switch}
use Rattle.naga_ir.specs.declared.statement.SwitchCase.{SwitchCase}
use Rattle.naga_proc.specs.Closing.{gets_return, leaves_open}
use Rattle.naga_proc.specs.Closing.Room.{in_block, in_accepted, in_rejected, in_case, HasRoomAtTails, CasesHaveRoom, IsTailBlock, IsTailInside}
use Rattle.naga_proc.specs.declared.terminator.rule.Rule.{Rule}
use Rattle.naga_ir.specs.declared.statement.Statement as variant

-- each tail block inside the statement that gets a return by the rule has spare capacity for one push
abbrev pub HasRoomInside : Rule → Statement → Type 0
HasRoomInside rule last =
    (tail : Block) → IsTailInside tail last → gets_return rule (tree_of tail) ≡ true → 0 < room tail

-- ---- from a statement to the blocks in it

pub HasRoomInside-Block : (rule : Rule) (inner : Block) → HasRoomInside rule (variant.Block inner) → HasRoomAtTails rule inner
HasRoomInside-Block rule inner h = λ tail among. h tail (in_block inner among)

pub HasRoomInside-accept : (rule : Rule) (x : ℕ) (accept reject : Block) → HasRoomInside rule (variant.If x accept reject) → HasRoomAtTails rule accept
HasRoomInside-accept rule x accept reject h = λ tail among. h tail (in_accepted x accept reject among)

pub HasRoomInside-reject : (rule : Rule) (x : ℕ) (accept reject : Block) → HasRoomInside rule (variant.If x accept reject) → HasRoomAtTails rule reject
HasRoomInside-reject rule x accept reject h = λ tail among. h tail (in_rejected x accept reject among)

pub HasRoomInside-Switch : (rule : Rule) (x : ℕ) (cases : Vec SwitchCase Global) → HasRoomInside rule (variant.Switch x cases) → CasesHaveRoom rule cases.items
HasRoomInside-Switch rule x cases h = λ k chosen at stays tail among. h tail (in_case x cases k chosen at stays among)

-- ---- from the blocks in a statement to the statement

-- the block is a tail block of every block that ends in a statement of this layer
data IsTailIn (tail : Block) : Statement-F Statement Block SwitchCase → Type 0 where
  of_block : (inner : Block) → IsTailBlock tail inner → IsTailIn tail (Statement-F.Block inner)
  of_accept : (x : ℕ) (accept reject : Block) → IsTailBlock tail accept → IsTailIn tail (Statement-F.If x accept reject)
  of_reject : (x : ℕ) (accept reject : Block) → IsTailBlock tail reject → IsTailIn tail (Statement-F.If x accept reject)
  of_case : (x : ℕ) (cases : Vec SwitchCase Global) (k : ℕ) (chosen : SwitchCase) → slice_get cases.items k ≡ Some chosen →
      chosen.fall_through ≡ false → IsTailBlock tail chosen.body → IsTailIn tail (Statement-F.Switch x cases)

tail_in : {tail : Block} {last : Statement} → IsTailInside tail last → IsTailIn tail (out-Statement last)
tail_in (in_block inner among) = subst (IsTailIn _) (sym (outs-Block inner)) (of_block inner among)
tail_in (in_accepted x accept reject among) = subst (IsTailIn _) (sym (outs-If x accept reject)) (of_accept x accept reject among)
tail_in (in_rejected x accept reject among) = subst (IsTailIn _) (sym (outs-If x accept reject)) (of_reject x accept reject among)
tail_in (in_case x cases k chosen at stays among) =
    subst (IsTailIn _) (sym (outs-Switch x cases)) (of_case x cases k chosen at stays among)

pub HasRoomInside-from_Block : (rule : Rule) (inner : Block) → HasRoomAtTails rule inner → HasRoomInside rule (variant.Block inner)
HasRoomInside-from_Block rule inner h = λ tail among. each tail (subst (IsTailIn tail) (outs-Block inner) (tail_in among)) where
  each : (tail : Block) → IsTailIn tail (Statement-F.Block inner) → gets_return rule (tree_of tail) ≡ true → 0 < room tail
  each tail (of_block _ among) = h tail among

pub HasRoomInside-from_If : (rule : Rule) (x : ℕ) (accept reject : Block) → HasRoomAtTails rule accept → HasRoomAtTails rule reject → HasRoomInside rule (variant.If x accept reject)
HasRoomInside-from_If rule x accept reject h k =
    λ tail among. each tail (subst (IsTailIn tail) (outs-If x accept reject) (tail_in among)) where
      each : (tail : Block) → IsTailIn tail (Statement-F.If x accept reject) → gets_return rule (tree_of tail) ≡ true → 0 < room tail
      each tail (of_accept _ _ _ among) = h tail among
      each tail (of_reject _ _ _ among) = k tail among

pub HasRoomInside-from_Switch : (rule : Rule) (x : ℕ) (cases : Vec SwitchCase Global) → CasesHaveRoom rule cases.items → HasRoomInside rule (variant.Switch x cases)
HasRoomInside-from_Switch rule x cases h = λ tail among. each tail (subst (IsTailIn tail) (outs-Switch x cases) (tail_in among)) where
  each : (tail : Block) → IsTailIn tail (Statement-F.Switch x cases) → gets_return rule (tree_of tail) ≡ true → 0 < room tail
  each tail (of_case _ _ k chosen at stays among) = h k chosen at stays tail among

-- ---- statements without a tail block inside

-- the statement is no block, no branch and no switch
abbrev pub is_shallow : Node → Bool
is_shallow (nested inner) = false
is_shallow (branch condition accept reject) = false
is_shallow (switch selector cases) = false
is_shallow last = true

pub is_shallow-leaves_open : (last : Node) → leaves_open last ≡ true → is_shallow last ≡ true
is_shallow-leaves_open (plain what) h = refl
is_shallow-leaves_open (loop body continuing break_if) h = refl
is_shallow-leaves_open (jump to) h = refl
is_shallow-leaves_open (nested inner) h = h
is_shallow-leaves_open (branch condition accept reject) h = h
is_shallow-leaves_open (switch selector cases) h = h

is_shallow-no_tail : {tail : Block} {last : Statement} → is_shallow (node_of last) ≡ true → IsTailInside tail last → 0 < room tail
is_shallow-no_tail h (in_block inner among) = absurd (let e : false ≡ true = sym (ap is_shallow (node_of-Block inner)) ∙ h in cc)
is_shallow-no_tail h (in_accepted x accept reject among) =
    absurd (let e : false ≡ true = sym (ap is_shallow (node_of-If x accept reject)) ∙ h in cc)
is_shallow-no_tail h (in_rejected x accept reject among) =
    absurd (let e : false ≡ true = sym (ap is_shallow (node_of-If x accept reject)) ∙ h in cc)
is_shallow-no_tail h (in_case x cases k chosen at stays among) =
    absurd (let e : false ≡ true = sym (ap is_shallow (node_of-Switch x cases)) ∙ h in cc)

pub HasRoomInside-shallow : (rule : Rule) (last : Statement) → is_shallow (node_of last) ≡ true → HasRoomInside rule last
HasRoomInside-shallow rule last h = λ tail among gets. is_shallow-no_tail h among
