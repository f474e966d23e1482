-- What is left of a block after it is closed, by what is left before.
use Rattle.std.specs.Prelude.{false, None}
use Rattle.naga_runs.specs.declared.run.Ending.{Ending}
use Rattle.naga_runs.specs.declared.run.Ending.TheVariants.{Normal, Return}
use Rattle.naga_proc.specs.Closing.KeptRuns.{turned_ending}
use Rattle.naga_meaning.specs.Machine.{Done}
use Rattle.naga_meaning.specs.Values.{Outcome}

-- what is left by a block with this ending, which becomes a return if it is normal
abbrev pub fallen_by : {State : Type 0} → Ending → Done State → Done State
fallen_by Normal left = record { state = left.state; ending = Return None; slipped = false }
fallen_by ending left = left

-- falling off the end becomes a return, even if the block slipped out of a switch there
abbrev pub fallen : {State : Type 0} → Done State → Done State
fallen left = fallen_by left.ending left

-- falling off the end becomes a return, unless the block slipped out of a switch there
abbrev pub turned : {State : Type 0} → Done State → Done State
turned left = record left { ending = turned_ending left.ending left.slipped }

-- the outcome of a body with this ending, where a normal ending becomes a return without a value
abbrev pub closed_by : {Value State : Type 0} → Ending → Outcome Value State → Outcome Value State
closed_by Normal outcome = record outcome { ending = Return None; slipped = false }
closed_by _ outcome = outcome

-- the same outcome, except that falling off the end becomes a return without a value
abbrev pub closed_outcome : {Value State : Type 0} → Outcome Value State → Outcome Value State
closed_outcome outcome = closed_by outcome.ending outcome

-- the same outcome, except that falling off the end becomes a return without a value, unless the body slipped out of a
-- switch there
abbrev pub turned_outcome : {Value State : Type 0} → Outcome Value State → Outcome Value State
turned_outcome outcome = record outcome { ending = turned_ending outcome.ending outcome.slipped }
