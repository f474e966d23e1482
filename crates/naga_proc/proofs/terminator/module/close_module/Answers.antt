use Rattle.std.proofs.Common.{sym, true≢false}
use Rattle.naga_proc.specs.Closing.{ClosedBy}
use Rattle.naga_proc.proofs.Bodies.AddsNoHandlesLemmas.{HandlesAreValid-closed, HandlesAreValid-same}
use Rattle.naga_proc.proofs.Bodies.ChangesBodiesLemmas.{ChangesBodies-then}
use Rattle.naga_proc.proofs.terminator.module.close_module.Goals as goal

pub returns-clause-closed : goal.returns-clause-closed
returns-clause-closed c =
    ChangesBodies-then (ClosedBy c.args.rule) c.args.module.now c.reserve_module_returns.new.module c.close_bodies.new.module c.reserve_module_returns.ensures.unchanged c.close_bodies.ensures

pub returns-clause-valid : goal.returns-clause-valid
returns-clause-valid c = λ valid.
    HandlesAreValid-closed c.args.rule c.args.module.now c.close_bodies.new.module
    (ChangesBodies-then (ClosedBy c.args.rule) c.args.module.now c.reserve_module_returns.new.module c.close_bodies.new.module c.reserve_module_returns.ensures.unchanged c.close_bodies.ensures) valid

pub returns-in_err-reserve_module_returns-clause-valid : goal.returns-in_err-reserve_module_returns-clause-valid
returns-in_err-reserve_module_returns-clause-valid c = λ valid.
    HandlesAreValid-same c.args.module.now c.reserve_module_returns.new.module c.reserve_module_returns.ensures.unchanged valid

pub returns-in_err-reserve_module_returns-clause-succeeds : goal.returns-in_err-reserve_module_returns-clause-succeeds
returns-in_err-reserve_module_returns-clause-succeeds c = λ room.
    absurd (true≢false (sym (c.in_err-reserve_module_returns.ensures.succeeds room)))
