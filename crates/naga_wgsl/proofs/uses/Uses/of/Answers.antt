use Rattle.std.proofs.Common.{◌≡◌, ◌∙◌, sym, ap, length}
use Rattle.std.proofs.lemmas.List.Sums.{fold-append}
use Rattle.naga_ir.specs.View.{tree_of}
use Rattle.naga_valid.specs.Operands.{expression_of}
use Rattle.naga_valid.specs.Statements.{references_of_tree}
use Rattle.naga_compact.proofs.FoldLemmas.{fold-filter_map}
use Rattle.naga_compact.specs.Operands.{used_by}
use Rattle.naga_wgsl.specs.Counts.{use_each, use_once_more}
use Rattle.naga_wgsl.specs.WrittenOut.{operands_in}
use Rattle.naga_wgsl.specs.declared.uses.Uses.{Uses}
use Rattle.naga_wgsl.proofs.UsesLemmas.{AreUsesIn-from, no_uses}
use Rattle.naga_wgsl.proofs.uses.Uses.of.Goals as goal

pub returns : goal.returns
returns c =
    let function = c.args.function.now in
    let bound = length function.expressions in
    let first : Uses = record { used = c.new.result; again = c.new-2.result } in
    let begun : first ≡ no_uses bound = λ i. record { used = (c.new.ensures ∙ c.in_ok-used.ensures) i; again = (c.new-2.ensures ∙ c.in_ok-again.ensures) i } in
    AreUsesIn-from function c.collect_block.new.collector
    (c.collect_block.ensures
    ∙ (fold-filter_map use_once_more expression_of c.use_operands.new.uses (references_of_tree (tree_of function.body))
    ∙ (ap (λ u. use_each u (used_by (tree_of function.body))) (c.use_operands.ensures ∙ ap (λ u. use_each u (operands_in function.expressions)) begun)
    ∙ sym (fold-append use_once_more (no_uses bound) (operands_in function.expressions) (used_by (tree_of function.body))))))
