use Rattle.std.proofs.Common.{◌∙◌, ap, length}
use Rattle.naga_compact.proofs.MarkLemmas.{puts-bound}
use Rattle.naga_sets.specs.HandleSet.{BoundedSet, none_below}
use Rattle.naga_wgsl.specs.WrittenOut.{offsets_in}
use Rattle.naga_wgsl.proofs.WrittenOutLemmas.{in_offset-marked, marked-from_none}
use Rattle.naga_wgsl.proofs.choices.in_offsets.Goals as goal

pub mark_reached-requires-clause-bound : goal.mark_reached-requires-clause-bound
mark_reached-requires-clause-bound c =
    let arena = c.args.expressions.now in
    ap (λ (s : BoundedSet). s.bound) (marked-from_none (length arena) (offsets_in arena) c.new-marks.result c.mark_offsets.new.marks (c.new-marks.ensures ∙ c.in_ok-none.ensures) c.mark_offsets.ensures)
    ∙ puts-bound (none_below (length arena)) (offsets_in arena)

pub returns : goal.returns
returns c =
    let arena = c.args.expressions.now in
    in_offset-marked arena c.mark_offsets.new.marks c.mark_reached.new.marks c.finish.result
    (marked-from_none (length arena) (offsets_in arena) c.new-marks.result c.mark_offsets.new.marks (c.new-marks.ensures ∙ c.in_ok-none.ensures) c.mark_offsets.ensures)
    c.mark_reached.ensures.reached c.finish.ensures
