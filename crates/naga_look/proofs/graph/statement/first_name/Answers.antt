use Rattle.std.proofs.Common.{◌∙◌, length, sym}
use Rattle.std.proofs.lemmas.Result.{IfOk-weaker}
use Rattle.naga_ir.specs.Block.{pairs}
use Rattle.naga_valid.proofs.IsEmptyLemmas.{is_empty-false, is_empty-true}
use Rattle.naga_look.proofs.FlowLemmas.{first_name-empty, first_name-some}
use Rattle.naga_look.proofs.graph.statement.first_name.Goals as goal

pub returns-then-is_empty : goal.returns-then-is_empty
returns-then-is_empty c =
    let none = is_empty-true (length (pairs c.args.block.now)) (sym c.is_empty.ensures ∙ c.if-is_empty.true) in
    IfOk-weaker c.copy.result _ _ (λ name is. is ∙ first_name-empty c.args.name.now c.args.block.now none) c.copy.ensures

pub returns : goal.returns
returns c =
    let some = is_empty-false (length (pairs c.args.block.now)) (sym c.is_empty.ensures ∙ c.if-is_empty.false) in
    IfOk-weaker c.numbered.result _ _ (λ name is. is ∙ first_name-some c.args.name.now c.args.block.now some) c.numbered.ensures
