use Rattle.std.proofs.Common.{ap, arith, length}
use Rattle.naga_compact.specs.Module.Visits.{unmarked}
use Rattle.naga_compact.proofs.MarkedElementLemmas.{unmarked-nothing}
use Rattle.naga_compact.proofs.module.tracer.Tracer.new.Goals as goal

pub invariant_of-result : goal.invariant_of-result
invariant_of-result c =
    omega (arith, ap unmarked c.in_ok-used.ensures, unmarked-nothing c.args.module.now, c.element_count.ensures, c.in_ok-pending.ensures.capacity, ap length c.in_ok-pending.ensures.items)
