use Rattle.naga_opt.specs.Task.{chosen_of}
use Rattle.std.proofs.Common.{None}
use Rattle.naga_opt.proofs.choices.set_old.Goals as goal

pub returns-in-Some-clause-fault : goal.returns-in-Some-clause-fault
returns-in-Some-clause-fault c = c.clash.ensures None (chosen_of c.args.task.now) c.in-Some.ensures.made.1
