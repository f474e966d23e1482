use Rattle.std.proofs.Common.{inr, refl}
use Rattle.naga_capi.proofs.answer.unread.Goals as goal

pub returns-in-Ok : goal.returns-in-Ok
returns-in-Ok c = inr (c.in-Ok.message, rw c.fault_of_read-fault.ensures refl, c.in-Ok.ensures)
