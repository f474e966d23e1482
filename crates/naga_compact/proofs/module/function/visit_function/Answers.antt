use Rattle.std.proofs.Common.{◌≡◌, rules}
use Rattle.std.specs.List.{flat_map}
use Rattle.naga_arena.specs.Arena.{values}
use Rattle.naga_valid.specs.Declarations.{references_of_local_variable}
use Rattle.naga_valid.specs.Expressions.{references_of_expression}
use Rattle.naga_valid.specs.Places.{references_in_part}
use Rattle.naga_valid.specs.declared.place.Part.TheVariants as part
use Rattle.naga_compact.specs.Module.Visits.{visit, visits}
use Rattle.naga_compact.proofs.FoldLemmas.{fold-five}
use Rattle.naga_compact.proofs.module.function.visit_function.Goals as goal

pub returns : goal.returns
returns c =
    let declared = c.args.function.now in
    let arguments : c.collect_references.new.collector ≡ visits c.args.tracer.now (references_in_part declared part.Arguments) = search rules in
    let outcome : c.collect_references-2.new.collector ≡ visits c.collect_references.new.collector (references_in_part declared part.Result) = search rules in
    fold-five visit c.args.tracer.now c.collect_references.new.collector c.collect_references-2.new.collector c.visit_local_variables.new.tracer c.visit_expressions.new.tracer c.collect_block.new.collector (references_in_part declared part.Arguments) (references_in_part declared part.Result) (flat_map references_of_local_variable (values declared.local_variables)) (flat_map references_of_expression (values declared.expressions)) (references_in_part declared part.Body)
    arguments outcome c.visit_local_variables.ensures c.visit_expressions.ensures c.collect_block.ensures
