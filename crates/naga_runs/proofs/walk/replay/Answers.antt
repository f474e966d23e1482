use Rattle.naga_ir.specs.View.{tree_of}
use Rattle.naga_runs.proofs.MeetsPlainLemmas.{MeetsPlain-every_run}
use Rattle.naga_runs.proofs.walk.replay.Goals as goal

pub returns-in_err-stop-clause-succeeds : goal.returns-in_err-stop-clause-succeeds
returns-in_err-stop-clause-succeeds c =
    λ run fits nothing. absurd (MeetsPlain-every_run c.args.turns (tree_of c.args.block.now) c.args.answers.now c.in_err-stop.ensures run fits nothing)
