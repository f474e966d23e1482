-- Spare capacity for the returns that a block is to get.
use Rattle.std.specs.Prelude.{◌≡◌, ◌<◌, ◌-◌, ℕ, false, true, List, Some, length, slice_get}
use Rattle.std.specs.declared.alloc.Global.{Global}
use Rattle.std.specs.declared.vec.Vec.{Vec}
use Rattle.naga_ir.specs.Block.{pairs, room, statements}
use Rattle.naga_ir.specs.View.{tree_of}
use Rattle.naga_ir.specs.declared.block.Block.{Block}
use Rattle.naga_ir.specs.declared.statement.Statement.{Statement}
use Rattle.naga_ir.specs.declared.statement.Statement as variant
use Rattle.naga_ir.specs.declared.statement.SwitchCase.{SwitchCase}
use Rattle.naga_proc.specs.Closing.{gets_return}
use Rattle.naga_proc.specs.declared.terminator.rule.Rule.{Rule}

-- the statement is the last one of the block
abbrev pub EndsIn : Block → Statement → Type 0
EndsIn block last = slice_get (statements block) (length (pairs block) - 1) ≡ Some last

mutual
  -- The first block is a tail block of the second. This is `IsTail`, defined for the blocks of the code, since a tree
  -- has no capacity.
  pub data IsTailBlock : Block → Block → Type 0 where
    whole : {block : Block} → IsTailBlock block block
    at_end : {tail block : Block} {last : Statement} →
        EndsIn block last → IsTailInside tail last → IsTailBlock tail block

  -- the block is a tail block of every block that ends in the statement
  pub data IsTailInside : Block → Statement → Type 0 where
    in_block : {tail : Block} (inner : Block) → IsTailBlock tail inner → IsTailInside tail (variant.Block inner)
    in_accepted : {tail : Block} (condition : ℕ) (accept reject : Block) →
        IsTailBlock tail accept → IsTailInside tail (variant.If condition accept reject)
    in_rejected : {tail : Block} (condition : ℕ) (accept reject : Block) →
        IsTailBlock tail reject → IsTailInside tail (variant.If condition accept reject)
    in_case : {tail : Block} (selector : ℕ) (cases : Vec SwitchCase Global) (position : ℕ) (chosen : SwitchCase) →
        slice_get cases.items position ≡ Some chosen → chosen.fall_through ≡ false →
        IsTailBlock tail chosen.body → IsTailInside tail (variant.Switch selector cases)

-- each tail block that gets a return by the rule has spare capacity for one push
abbrev pub HasRoomAtTails : Rule → Block → Type 0
HasRoomAtTails rule block =
    (tail : Block) → IsTailBlock tail block → gets_return rule (tree_of tail) ≡ true → 0 < room tail

-- each tail block in a case that does not fall through has spare capacity for one push if it gets a return by the rule
abbrev pub CasesHaveRoom : Rule → List SwitchCase → Type 0
CasesHaveRoom rule cases =
    (position : ℕ) (chosen : SwitchCase) →
    slice_get cases position ≡ Some chosen → chosen.fall_through ≡ false → HasRoomAtTails rule chosen.body
