use Rattle.std.proofs.Common.{◌∙◌, ap, length}
use Rattle.std.specs.List.{fold}
use Rattle.naga_ir.specs.View.{tree_of}
use Rattle.naga_valid.specs.Operands.{expression_of}
use Rattle.naga_valid.specs.Statements.{references_of_tree}
use Rattle.naga_compact.specs.Kept.{new_index}
use Rattle.naga_compact.specs.Marks.{put, put_reference}
use Rattle.naga_compact.specs.Operands.{used_by}
use Rattle.naga_compact.specs.Renaming.{of_expressions}
use Rattle.naga_compact.proofs.CompactsLemmas.{bound_after, compacts_by, keeps_runs}
use Rattle.naga_compact.proofs.FoldLemmas.{fold-filter_map}
use Rattle.naga_compact.proofs.body.compact_body.Goals as goal

pub mark_reached-requires-clause-bound : goal.mark_reached-requires-clause-bound
mark_reached-requires-clause-bound c =
    let references = references_of_tree (tree_of c.args.body.now) in
    let used = c.collect_block.ensures ∙ (ap (λ s. fold put_reference s references) c.new-marks.ensures ∙ fold-filter_map put expression_of c.args.needed references) in
    bound_after c.args.needed c.collect_block.new.collector (used_by (tree_of c.args.body.now)) (length c.args.expressions.now) c.requires.bound used

pub returns-clause-compacted : goal.returns-clause-compacted
returns-clause-compacted c =
    let references = references_of_tree (tree_of c.args.body.now) in
    let used = c.collect_block.ensures ∙ (ap (λ s. fold put_reference s references) c.new-marks.ensures ∙ fold-filter_map put expression_of c.args.needed references) in
    compacts_by c.args.needed c.args.expressions.now (tree_of c.args.body.now) c.collect_block.new.collector c.mark_reached.new.marks c.in_ok-renumbering.renumbering c.retain_renamed.new.arena (tree_of c.rename_block.new.block) c.requires.bound used c.mark_reached.ensures.bound c.mark_reached.ensures.reached (c.in_ok-renumbering.ensures ∙ c.finish.ensures) c.in_ok-retain_renamed.ensures.kept c.rename_block.ensures

pub returns-clause-runs : goal.returns-clause-runs
returns-clause-runs c = keeps_runs (of_expressions (new_index c.in_ok-renumbering.renumbering)) (tree_of c.args.body.now) (tree_of c.rename_block.new.block) c.rename_block.ensures
