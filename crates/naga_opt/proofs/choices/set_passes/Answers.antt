use Rattle.std.proofs.Common.{Some}
use Rattle.naga_opt.specs.Task.{chosen_of}
use Rattle.naga_opt.proofs.choices.set_passes.Goals as goal

pub returns-in-Some-clause-fault : goal.returns-in-Some-clause-fault
returns-in-Some-clause-fault c = c.clash.ensures (Some c.args.list.now) (chosen_of c.args.task.now) c.in-Some.ensures.made.1
