use Rattle.std.proofs.Common.{◌≡◌, ◌∙◌, sym, true}
use Rattle.std.proofs.lemmas.Result.{on_ok_weaker}
use Rattle.naga_ir.specs.View.{node_of, tree_of}
use Rattle.naga_proc.specs.Closing.{gets_return, leaves_open}
use Rattle.naga_proc.specs.declared.terminator.rule.Rule.TheVariants.{Old}
use Rattle.naga_proc.proofs.Closing.ClosedTreeOfLemmas.{ClosedBy-returned_open}
use Rattle.naga_proc.proofs.Closing.GetsReturnLemmas.{gets_return-leaves_open, gets_return-no_last}
use Rattle.naga_proc.proofs.Closing.HasRoomAtTailsLemmas.{HasRoomAtTails-open}
use Rattle.naga_proc.proofs.terminator.ensure_end_returns.Goals as goal

pub returns-in_default-clause-closed : goal.returns-in_default-clause-closed
returns-in_default-clause-closed c =
    let gets : gets_return Old (tree_of c.args.block.now) ≡ true = gets_return-no_last c.args.block.now (sym c.in_default.ensures) in
    on_ok_weaker c.add_return.result (ClosedBy-returned_open c.args.rule c.args.block.now c.add_return.new.block gets) c.add_return.ensures.ok

pub returns-in_default-clause-succeeds : goal.returns-in_default-clause-succeeds
returns-in_default-clause-succeeds c =
    λ h. c.add_return.ensures.succeeds (HasRoomAtTails-open c.args.rule c.args.block.now (gets_return-no_last c.args.block.now (sym c.in_default.ensures)) h)

pub returns-then-leaves_open-clause-closed : goal.returns-then-leaves_open-clause-closed
returns-then-leaves_open-clause-closed c =
    let leaves : leaves_open (node_of c.in-Some.last.now) ≡ true = sym c.leaves_open.ensures ∙ c.if-leaves_open.true in
    let gets : gets_return Old (tree_of c.args.block.now) ≡ true = gets_return-leaves_open c.args.block.now c.in-Some.last.now (sym c.in-Some.ensures) leaves in
    on_ok_weaker c.add_return-then-leaves_open.result (ClosedBy-returned_open c.args.rule c.args.block.now c.add_return-then-leaves_open.new.block gets) c.add_return-then-leaves_open.ensures.ok

pub returns-then-leaves_open-clause-succeeds : goal.returns-then-leaves_open-clause-succeeds
returns-then-leaves_open-clause-succeeds c =
    λ h.
    let leaves : leaves_open (node_of c.in-Some.last.now) ≡ true = sym c.leaves_open.ensures ∙ c.if-leaves_open.true in
    let gets : gets_return Old (tree_of c.args.block.now) ≡ true = gets_return-leaves_open c.args.block.now c.in-Some.last.now (sym c.in-Some.ensures) leaves in
    c.add_return-then-leaves_open.ensures.succeeds (HasRoomAtTails-open c.args.rule c.args.block.now gets h)
