use Rattle.std.proofs.Common.{◌≡◌}
use Rattle.std.specs.List.{filter_map}
use Rattle.naga_compact.specs.Functions.{initial_values}
use Rattle.naga_compact.specs.Marks.{puts}
use Rattle.naga_compact.proofs.function.mark_initial_values.Given as goal

-- the variables that are left are still to be marked
abbrev pub invariant-loop-variable : goal.invariant-loop-variable
invariant-loop-variable l =
    puts l.marks (filter_map (λ entry. entry.1.init) l.variable-iterator) ≡ puts l.initial.marks (initial_values l.variables)
