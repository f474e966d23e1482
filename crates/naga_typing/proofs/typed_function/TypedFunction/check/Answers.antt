use Rattle.naga_flow.proofs.JumpsLemmas.{drop-here}
use Rattle.naga_typing.specs.TypedFunctions.{FitsIn}
use Rattle.naga_typing.proofs.ChecksLemmas.{IsLeft-met, IsLeft-unmet}
use Rattle.naga_typing.proofs.typed_function.TypedFunction.check.Goals as goal

pub returns-in-Some : goal.returns-in-Some
returns-in-Some c =
    IsLeft-unmet (FitsIn c.args.self.now) _ _ c.args.slots.now c.slot-item.result
    (drop-here c.args.slots.now c.slots.slot-index c.slot-item.result c.slots-test.true c.slot-item.is)
    c.slots.invariant c.in-Some.unmet c.in-Some.ensures.0 c.in-Some.ensures.1

pub slots-preserved : goal.slots-preserved
slots-preserved c =
    IsLeft-met (FitsIn c.args.self.now) _ _ c.args.slots.now c.slot-item.result
    (drop-here c.args.slots.now c.slots.slot-index c.slot-item.result c.slots-test.true c.slot-item.is)
    c.slots.invariant c.in_default.ensures
