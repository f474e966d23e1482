use Rattle.std.proofs.Common.{refl}
use Rattle.naga_ir.specs.View.{node_of}
use Rattle.naga_runs.specs.Runs.{StatementRuns}
use Rattle.naga_runs.proofs.MeetsPlainLemmas.{MeetsPlain-plain}
use Rattle.naga_runs.proofs.StatementRunsLemmas.{StatementRuns-meets}
use Rattle.naga_runs.proofs.WalksByLemmas.{WalksBy-error}
use Rattle.naga_runs.proofs.walk.Walk.meet.Goals as goal

pub returns : goal.returns
returns c =
    λ turns.
    StatementRuns-meets turns c.args.self.now (record { trace = c.push.new.self; answers = c.args.self.now.answers }) c.args.statement c.at.result c.requires c.in_ok-push.ensures.items refl c.at.ensures

pub returns-in_err-push : goal.returns-in_err-push
returns-in_err-push c =
    λ turns.
    WalksBy-error (StatementRuns turns (node_of c.args.statement.now)) c.args.self.now (record { trace = c.push.new.self; answers = c.args.self.now.answers }) c.from_residual.result c.from_residual.ensures.0
    (MeetsPlain-plain turns c.args.statement.now c.args.self.now.answers.now c.requires)
