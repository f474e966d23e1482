use Rattle.std.proofs.Common.{◌≡◌}
use Rattle.std.specs.List.{filter_map}
use Rattle.naga_compact.specs.Marks.{puts}
use Rattle.naga_wgsl.specs.WrittenOut.{offset_of, offsets_in}
use Rattle.naga_wgsl.proofs.choices.mark_offsets.Given as goal

-- the offsets of the expressions that are left are still to be marked
abbrev pub invariant-loop-expression : goal.invariant-loop-expression
invariant-loop-expression l =
    puts l.marks (filter_map (λ entry. offset_of entry.1) l.expression-iterator) ≡ puts l.initial.marks (offsets_in l.expressions)
