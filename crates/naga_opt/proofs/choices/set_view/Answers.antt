use Rattle.naga_opt.specs.Task.{chosen_of}
use Rattle.naga_opt.proofs.ChoicesLemmas.{view-fault}
use Rattle.naga_opt.proofs.choices.set_view.Goals as goal

pub returns-in-Some-clause-fault : goal.returns-in-Some-clause-fault
returns-in-Some-clause-fault c =
    view-fault c.in-Some.shown c.args.view (chosen_of c.args.task.now) c.of_view.result c.of_view-in-Some.result c.clash.result
    c.of_view.ensures c.of_view-in-Some.ensures c.in-Some.is c.clash.ensures
