use Rattle.std.proofs.Common.{sym, subst, length}
use Rattle.naga_compact.specs.Operands.{OperandsPrecede}
use Rattle.naga_wgsl.specs.Choices.{AreChosen}
use Rattle.naga_wgsl.specs.WrittenOut.{AreWrittenOut}
use Rattle.naga_wgsl.proofs.IfOkLemmas.{if_ok}
use Rattle.naga_wgsl.proofs.WrittenOutLemmas.{AreWrittenOut-chosen}
use Rattle.naga_wgsl.proofs.choices.written_out.Goals as goal

pub choose-requires : goal.choose-requires
choose-requires c = subst OperandsPrecede (sym c.in_ok-choices.ensures.expressions) c.requires

pub returns : goal.returns
returns c =
    let choices = c.in_ok-choices.choices in
    if_ok (AreChosen choices (length choices.expressions.now)) (AreWrittenOut c.args.function.now) c.choose.result
    (λ written chosen. AreWrittenOut-chosen c.args.function.now choices c.in_ok-choices.ensures c.requires written chosen) c.choose.ensures
