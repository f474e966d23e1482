use Rattle.std.proofs.Common.{arith, get_or, reverse, subst, sym, ◌∙◌, ap, ◌≡◌, false, true, []}
use Rattle.json_fault.specs.Rest.{completes, IsRead}
use Rattle.json_fault.specs.Steps.{IsRefused, Steps}
use Rattle.json_fault.specs.Awaits.{Awaits, CanTake}
use Rattle.json_fault.specs.Fault.{IsAtMark, IsRight}
use Rattle.json_fault.specs.declared.mode.Mode.TheVariants.{Value}
use Rattle.json_fault.proofs.FaultLemmas.{mark-at, mark-end, read-start, text_fault-at, text_fault-end}
use Rattle.json_fault.proofs.find.find_text_fault.Goals as goal

pub bytes-init : goal.bytes-init
bytes-init c = subst (λ frames. IsRead c.as_bytes-bytes.result.now 0 Value (reverse frames)) (sym c.new-frames.ensures.items) (read-start c.as_bytes-bytes.result.now)

pub returns-in-None : goal.returns-in-None
returns-in-None c =
    let steps = subst (λ frames. Steps c.bytes.mode (reverse frames) (get_or c.as_bytes-bytes.result.now c.bytes.offset 0) c.step.result) c.deref.ensures.value c.step.ensures in
    let right = subst (λ frames. IsRight (CanTake c.bytes.mode (reverse frames)) (IsRefused c.bytes.mode (reverse frames)) (completes c.bytes.mode (reverse frames) [] ≡ true) (IsAtMark c.as_bytes-bytes.result.now c.bytes.offset) (get_or c.as_bytes-bytes.result.now c.bytes.offset 0) c.reason-expected.result) c.deref-in-None.ensures.value c.reason-expected.ensures.right in
    let fault = text_fault-at _ _ c.bytes.offset c.bytes.mode (reverse c.bytes.frames.items) c.step.result c.reason-expected.result _ c.as_bytes-bytes.ensures.value c.bytes.invariant c.bytes-test.true steps c.in-None.is right c.new.ensures in
    record { first = fault; mark = λ e. mark-at _ _ c.bytes.offset c.reason-expected.result _ c.as_bytes-bytes.ensures.value fault.0 c.new.ensures c.reason-expected.ensures.mark e }

pub returns : goal.returns
returns c =
    let refused : completes c.bytes.mode (reverse c.bytes.frames.items) [] ≡ false = ap (λ frames. completes c.bytes.mode (reverse frames) []) (sym c.deref-2.ensures.value) ∙ sym c.may_end.ensures ∙ c.if-may_end.false in
    let awaits = subst (λ frames. Awaits c.expected-expected.result c.bytes.mode (reverse frames)) c.deref-3.ensures.value c.expected-expected.ensures in
    let fault = text_fault-end _ _ c.bytes.offset c.bytes.mode (reverse c.bytes.frames.items) c.expected-expected.result _ c.as_bytes-bytes.ensures.value c.bytes.invariant (omega arith) refused awaits c.new-2.ensures in
    record { first = fault; mark = λ e. mark-end _ _ c.expected-expected.result _ c.as_bytes-bytes.ensures.value fault.0 c.new-2.ensures e }
