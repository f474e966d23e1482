use Rattle.std.proofs.Common.{inl}
use Rattle.naga_ir.specs.View.{tree_of}
use Rattle.naga_proc.proofs.Closing.TakesBackLemmas.{TakesBack-all}
use Rattle.naga_proc.proofs.Closing.WalkedLemmas.{ClosedBy-Walked, ClosedBy-goes_on}
use Rattle.naga_proc.proofs.terminator.put_where_ways_part.Goals as goal

-- ---- an allocation failed

pub returns-then-walk-clause-unchanged : goal.returns-then-walk-clause-unchanged
returns-then-walk-clause-unchanged c =
    TakesBack-all c.args.rule c.start-walk.result c.walk_block.new.walk (tree_of c.args.block.now) (tree_of c.walk_block.new.block) (tree_of c.take_back.new.block) c.take_back.new.left c.start-walk.ensures.pushed c.walk_block.ensures.walked c.take_back.ensures

pub returns-then-walk-clause-succeeds : goal.returns-then-walk-clause-succeeds
returns-then-walk-clause-succeeds c = λ h.
    absurd (cc (c.walk_block.ensures.succeeds h c.start-walk.ensures.failed, c.if-walk.true))

-- ---- returns were left out

pub close_block-requires : goal.close_block-requires
close_block-requires c = c.walk_block.ensures.room c.if-walk.false

pub returns-then-walk-2-clause-closed : goal.returns-then-walk-2-clause-closed
returns-then-walk-2-clause-closed c =
    ClosedBy-goes_on c.args.rule c.start-walk.result c.walk_block.new.walk (tree_of c.args.block.now) (tree_of c.walk_block.new.block) (tree_of c.close_block.new.block) c.walk_block.ensures.walked c.close_block.ensures

-- ---- all returns were inserted

pub returns-else-walk-2-clause-closed : goal.returns-else-walk-2-clause-closed
returns-else-walk-2-clause-closed c = ClosedBy-Walked c.walk_block.ensures.walked (inl c.if-walk-2.false)
