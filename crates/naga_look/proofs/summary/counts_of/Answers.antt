use Rattle.std.proofs.Common.{◌∙◌, ap, map}
use Rattle.naga_arena.specs.Arena.{values}
use Rattle.naga_look.specs.Summary.{body_of, entry_body_of, no_counts, plus, with_blocks}
use Rattle.naga_look.proofs.WithBlocksLemmas.{with_blocks-plus}
use Rattle.naga_look.proofs.summary.counts_of.Goals as goal

pub returns : goal.returns
returns c =
    let functions = c.count_functions-functions.ensures ∙ ap (λ xs. with_blocks no_counts (map body_of xs)) c.as_slice.ensures in
    let entry_points = c.count_entry_points-entry_points.ensures ∙ ap (λ xs. with_blocks no_counts (map entry_body_of xs)) c.as_slice-2.ensures.value in
    c.plus.ensures
    ∙ (λ i. plus (functions i) (entry_points i))
    ∙ with_blocks-plus (map body_of (values c.args.module.now.functions)) (map entry_body_of c.args.module.now.entry_points.items)
