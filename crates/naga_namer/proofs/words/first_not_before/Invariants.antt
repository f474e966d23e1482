use Rattle.std.proofs.Common.{◌-◌}
use Rattle.naga_namer.proofs.SearchLemmas.{IsNarrowed}
use Rattle.naga_namer.proofs.words.first_not_before.Given as goal

-- what is left to search
abbrev pub decreases-halves : goal.decreases-halves
decreases-halves l = l.high - l.low

-- the words below `low` come before the text, and those from `high` on do not
abbrev pub invariant-halves : goal.invariant-halves
invariant-halves l = IsNarrowed l.text l.words l.low l.high
