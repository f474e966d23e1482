use Rattle.std.proofs.Common.{◌∙◌, suc, ap, add-one, arith}
use Rattle.naga_wgsl.specs.Choices.{depth_if}
use Rattle.naga_wgsl.proofs.ChoosingLemmas.{nested-below, nested-depth}
use Rattle.naga_wgsl.proofs.choices.Choices.depth.Goals as goal

pub returns : goal.returns
returns c =
    let nested = c.greatest_depth-nested.ensures ∙ nested-depth c.args.self.now c.args.depths.now c.args.handle c.index.result.now c.requires.precede c.index.ensures c.requires.count c.requires.depths in
    c.depth_if.ensures
    ∙ (λ i. depth_if (c.must_be_written_out-must.ensures i) (c.may_be_written_out-may.ensures i) ((add-one c.greatest_depth-nested.result ∙ ap suc nested) i))

pub overflow_add-nested : goal.overflow_add-nested
overflow_add-nested c =
    let nested = c.greatest_depth-nested.ensures ∙ nested-depth c.args.self.now c.args.depths.now c.args.handle c.index.result.now c.requires.precede c.index.ensures c.requires.count c.requires.depths in
    let below = nested-below c.args.self.now c.args.handle in
    omega (arith, nested, below, c.requires.count, c.requires.within)
