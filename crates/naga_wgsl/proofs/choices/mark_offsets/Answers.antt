use Rattle.std.proofs.Common.{◌∙◌, ap}
use Rattle.std.specs.List.{filter_map}
use Rattle.naga_compact.specs.Marks.{puts}
use Rattle.naga_compact.proofs.InitialValuesLemmas.{filter_map-enumerate_from}
use Rattle.naga_wgsl.specs.WrittenOut.{offset_of}
use Rattle.naga_wgsl.proofs.choices.mark_offsets.Goals as goal

pub loop-expression-init : goal.loop-expression-init
loop-expression-init c =
    ap (λ xs. puts c.args.marks.now (filter_map (λ entry. offset_of entry.1) xs)) (c.into_iter-expression-iterator.ensures.into_iter_gives ∙ c.iter-expression-items.ensures.rest)
    ∙ ap (puts c.args.marks.now) (filter_map-enumerate_from offset_of 0 c.args.expressions.now)
