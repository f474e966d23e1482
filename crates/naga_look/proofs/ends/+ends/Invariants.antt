use Rattle.std.proofs.Common.{take}
use Rattle.std.specs.List.{enumerate_from}
use Rattle.std.specs.Prelude.{flat_map}
use Rattle.naga_look.specs.OpenEnds.{AddsEnds, ends_in_case}
use Rattle.naga_proc.specs.declared.terminator.rule.Rule.TheVariants.{New}
use Rattle.naga_look.proofs.ends.+ends.Given as goal

-- the lines of the cases before this one were appended
abbrev pub invariant-push_ends_in_cases-cases : goal.invariant-push_ends_in_cases-cases
invariant-push_ends_in_cases-cases l =
    AddsEnds l.before l.limit (flat_map (ends_in_case New l.position) (enumerate_from 0 (take l.number l.cases)))
    l.initial.paths.items l.paths.items l.left
