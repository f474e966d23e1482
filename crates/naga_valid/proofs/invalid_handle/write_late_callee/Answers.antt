use Rattle.std.proofs.lemmas.Bool.{ne_eqb}
use Rattle.naga_valid.proofs.invalid_handle.write_late_callee.Goals as goal

pub returns-else-callee-caller : goal.returns-else-callee-caller
returns-else-callee-caller g c = rw (ne_eqb c.args.callee c.args.caller c.if-callee-caller.false) c.write.ensures.writes
