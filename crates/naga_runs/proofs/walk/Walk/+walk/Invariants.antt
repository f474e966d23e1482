use Rattle.std.proofs.Common.{◌+◌, ◌-◌, drop}
use Rattle.naga_ir.specs.View.{tree_of, node_of, cases_of}
use Rattle.naga_runs.specs.Runs.{CasesRun, LoopRuns}
use Rattle.naga_runs.proofs.CompletesLemmas.{Completes}
use Rattle.naga_runs.proofs.SoFarLemmas.{SoFar}
use Rattle.naga_runs.proofs.WeightLemmas.{tree_weight, node_weight, cases_weight}
use Rattle.naga_runs.proofs.walk.Walk.+walk.Given as goal

-- each call runs a smaller part, or passes on the same part
abbrev pub decreases-run_block : goal.decreases-run_block
decreases-run_block l = tree_weight (tree_of l.block.now)

abbrev pub decreases-run_statement : goal.decreases-run_statement
decreases-run_statement l = node_weight (node_of l.statement.now)

abbrev pub decreases-run_branch : goal.decreases-run_branch
decreases-run_branch l = tree_weight (tree_of l.accept.now) + tree_weight (tree_of l.reject.now) + 1

abbrev pub decreases-run_switch : goal.decreases-run_switch
decreases-run_switch l = cases_weight (cases_of l.cases.now) + 1

abbrev pub decreases-run_cases : goal.decreases-run_cases
decreases-run_cases l = cases_weight (cases_of l.cases.now)

abbrev pub decreases-run_loop : goal.decreases-run_loop
decreases-run_loop l = tree_weight (tree_of l.body.now) + tree_weight (tree_of l.continuing.now) + 2

abbrev pub decreases-run_turn : goal.decreases-run_turn
decreases-run_turn l = tree_weight (tree_of l.body.now) + tree_weight (tree_of l.continuing.now) + 1

-- the first statements of the block have run
abbrev pub invariant-run_block-statements : goal.invariant-run_block-statements
invariant-run_block-statements l =
    SoFar l.turns (tree_of l.fn.block) l.statement-iterator l.fn.self l.self l.stop

-- whatever the remaining cases do from here on, these cases do from the start on
abbrev pub invariant-run_cases-cases : goal.invariant-run_cases-cases
invariant-run_cases-cases l =
    Completes (CasesRun l.turns (cases_of (drop l.case-index l.cases))) (CasesRun l.turns (cases_of l.cases)) l.fn.self l.self

-- the same for the turns that are left
abbrev pub invariant-run_loop-each : goal.invariant-run_loop-each
invariant-run_loop-each l =
    Completes (LoopRuns l.turns (l.turns - l._turn) (tree_of l.body) (tree_of l.continuing) l.break_if) (LoopRuns l.turns l.turns (tree_of l.body) (tree_of l.continuing) l.break_if) l.fn.self l.self
