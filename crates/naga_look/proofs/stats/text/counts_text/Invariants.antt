use Rattle.std.proofs.Common.{◌≡◌, ◌++◌, take}
use Rattle.std.specs.Prelude.{flat_map, string_bytes}
use Rattle.naga_look.specs.StatsText.{counts_line}
use Rattle.naga_look.proofs.stats.text.counts_text.Given as goal

-- the lines of the passes before this one were appended
abbrev pub invariant-passes : goal.invariant-passes
invariant-passes l = string_bytes l.text ≡ string_bytes l.initial.text ++ flat_map counts_line (take l.pass-index l.counts)
