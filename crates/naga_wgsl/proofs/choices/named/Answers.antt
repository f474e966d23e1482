use Rattle.std.proofs.Common.{◌∙◌, length}
use Rattle.indexmap.specs.IndexMap.{keys}
use Rattle.naga_wgsl.proofs.WrittenOutLemmas.{marked-from_none, named-marked}
use Rattle.naga_wgsl.proofs.choices.named.Goals as goal

pub returns : goal.returns
returns c =
    let bound = length c.args.expressions.now in
    named-marked bound (keys c.args.names.now) c.finish.result
    (c.finish.ensures ∙ marked-from_none bound (keys c.args.names.now) c.new-marks.result c.mark_names.new.marks (c.new-marks.ensures ∙ c.in_ok-none.ensures) c.mark_names.ensures)
