use Rattle.std.proofs.Common.{◌∙◌, ap}
use Rattle.naga_valid.specs.Expressions.{references_of_expression}
use Rattle.naga_valid.specs.Operands.{expression_of, operands_of}
use Rattle.naga_compact.proofs.FoldLemmas.{fold-filter_map}
use Rattle.naga_wgsl.specs.Counts.{deepen}
use Rattle.naga_wgsl.specs.declared.depths.Deepest.{Deepest}
use Rattle.naga_wgsl.proofs.ChoosingLemmas.{deepen-each}
use Rattle.naga_wgsl.proofs.depths.greatest_depth.Goals as goal

pub returns : goal.returns
returns c =
    let begun : Deepest = record { depths = c.args.depths; depth = 0 } in
    let e = c.args.expression.now in
    ap (λ (d : Deepest). d.depth) (c.collect_references.ensures ∙ fold-filter_map deepen expression_of begun (references_of_expression e))
    ∙ deepen-each begun (operands_of e)
