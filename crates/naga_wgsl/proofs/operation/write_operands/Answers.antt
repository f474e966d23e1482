use Rattle.std.proofs.Common.{◌≡◌, [], ◌∷◌, ◌++◌, Some, Ok, Err, ap, append_assoc, ◌∙◌, refl}
use Rattle.std.specs.List.{slice_get}
use Rattle.naga_layouter.proofs.LayingLemmas.{here-at}
use Rattle.naga_wgsl.specs.Operations.{operand_text, operands_text}
use Rattle.naga_wgsl.proofs.AttemptsLemmas.{attempts-stopped, attempts_written}
use Rattle.naga_wgsl.proofs.OperationsLemmas.{operands-end, operands-lack, operands-more}
use Rattle.naga_wgsl.proofs.operation.write_operands.Goals as goal

pub returns : goal.returns
returns c =
    operands-end c.args.known.now c.args.operands.now _ c.args.text.now c.each.text c.each.invariant.done c.each.before.now c.each.operand-index
    c.each-test.false c.each.invariant.rest c.each.invariant.appended

pub returns-in-Err : goal.returns-in-Err
returns-in-Err c =
    let operands = c.args.operands.now in
    let operand = c.operand-item.result in
    let here : slice_get operands c.each.operand-index ≡ Some operand = here-at operands c.each.operand-index operand c.each-test.true c.operand-item.is in
    attempts-stopped (operands_text c.args.known.now [] operands) (operand_text c.args.known.now c.each.before.now operand)
    c.args.text.now c.write_operand.new.text c.each.text c.write_operand.new.text c.in-Err.error
    (λ cause lacks. operands-lack c.args.known.now operands (operands_text c.args.known.now [] operands)
    c.each.invariant.done c.each.before.now c.each.operand-index operand cause here lacks c.each.invariant.rest)
    (attempts_written (operand_text c.args.known.now c.each.before.now operand) c.each.text c.write_operand.new.text (Err c.in-Err.error) c.in-Err.ensures)

pub each-preserved : goal.each-preserved
unfolding lib.Utf8.encode
each-preserved c =
    let operands = c.args.operands.now in
    let operand = c.operand-item.result in
    let done = c.each.invariant.done in
    let here : slice_get operands c.each.operand-index ≡ Some operand = here-at operands c.each.operand-index operand c.each-test.true c.operand-item.is in
    let next = (attempts_written (operand_text c.args.known.now c.each.before.now operand) c.each.text c.write_operand.new.text (Ok c.in-Ok.field-0) c.in-Ok.ensures).written in
    record {
      utf8 = (44 ∷ 32 ∷ [], (refl, refl));
      done = done ++ next.0;
      appended = next.2 ∙ ap (λ front. front ++ next.0) c.each.invariant.appended ∙ append_assoc c.args.text.now done next.0;
      rest = operands-more c.args.known.now operands (operands_text c.args.known.now [] operands) done c.each.before.now c.each.operand-index operand next.0
          here next.1 c.each.invariant.rest;
    }
