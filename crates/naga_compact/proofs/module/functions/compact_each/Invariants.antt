use Rattle.naga_compact.proofs.AllZipLemmas.{ReplacedTo}
use Rattle.naga_compact.proofs.CompactsFunctionsLemmas.{IsCompactedEntry}
use Rattle.naga_compact.proofs.module.functions.compact_each.Given as goal

-- the functions before the index are compacted
abbrev pub invariant-functions : goal.invariant-functions
invariant-functions l = ReplacedTo IsCompactedEntry l.index l.initial.functions l.functions
