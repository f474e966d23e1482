use Rattle.naga_runs.proofs.BreaksOutLemmas.{SearchedTo}
use Rattle.naga_runs.proofs.exits.+exits.Given as goal

abbrev pub invariant-breaks_out-loop-statement : goal.invariant-breaks_out-loop-statement
invariant-breaks_out-loop-statement l = SearchedTo l.block l.statement-iterator
