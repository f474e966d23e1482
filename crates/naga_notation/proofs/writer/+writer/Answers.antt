use Rattle.std.proofs.Common.{◌∷◌, ◌∙◌, ap, subst, string_bytes, rules, codes}
use Rattle.naga_ir.specs.Control.{node_of_control}
use Rattle.naga_notation.proofs.WrittenSoFarLemmas.{WrittenSoFar, WrittenSoFar-start, WrittenSoFar-next, WrittenSoFar-lt, WrittenSoFar-end, cases_text-more, OnOk-push_str, written-Block, written-If, written-Switch, written-Loop}
use Rattle.naga_notation.proofs.writer.+writer.Goals as goal

pub write_statements-loop-statement-init : goal.write_statements-loop-statement-init
write_statements-loop-statement-init t c =
    WrittenSoFar-start c.args.block.now c.into_iter-statement-iterator.result (string_bytes c.args.text.now) c.into_iter-statement-iterator.ensures.into_iter_gives

pub write_statements-write_statement-requires : goal.write_statements-write_statement-requires
write_statements-write_statement-requires t c =
    let so : WrittenSoFar c.args.block.now (c.in-Some.statement.now ∷ c.next.new.self) (string_bytes c.args.text.now) (string_bytes c.loop-statement.text) =
    subst (λ xs. WrittenSoFar c.args.block.now xs (string_bytes c.args.text.now) (string_bytes c.loop-statement.text)) c.in-Some.ensures.steps c.loop-statement.invariant
    in
    let lt = WrittenSoFar-lt c.args.block.now c.in-Some.statement.now c.next.new.self (string_bytes c.args.text.now) (string_bytes c.loop-statement.text) so in
    (search (rules, lt), tt)

pub write_statements-loop-statement-preserved : goal.write_statements-loop-statement-preserved
write_statements-loop-statement-preserved t c =
    WrittenSoFar-next c.args.block.now c.in-Some.statement.now c.next.new.self (string_bytes c.args.text.now) (string_bytes c.loop-statement.text) _
    (subst (λ xs. WrittenSoFar c.args.block.now xs (string_bytes c.args.text.now) (string_bytes c.loop-statement.text)) c.in-Some.ensures.steps c.loop-statement.invariant)
    c.in_ok-write_statement.ensures

pub write_statements-returns : goal.write_statements-returns
write_statements-returns t c =
    WrittenSoFar-end c.args.block.now (string_bytes c.args.text.now) (string_bytes c.loop-statement.text)
    (subst (λ xs. WrittenSoFar c.args.block.now xs (string_bytes c.args.text.now) (string_bytes c.loop-statement.text)) c.in-None.ensures.steps.0 c.loop-statement.invariant)

pub write_cases-loop-case-preserved : goal.write_cases-loop-case-preserved
write_cases-loop-case-preserved t c =
    cases_text-more c.args.cases.now c.loop-case.case-index c.case-item.result (string_bytes c.args.text.now) (string_bytes c.loop-case.text) _
    c.loop-case-test.true c.case-item.is c.loop-case.invariant c.in_ok-write_case.ensures

pub write_statement-returns-in_ok-write_block-in-Block : goal.write_statement-returns-in_ok-write_block-in-Block
write_statement-returns-in_ok-write_block-in-Block t c =
    OnOk-push_str c.push_str-in-Block-2.result (string_bytes c.push_str-in-Block-2.new.self) (string_bytes c.write_block.new.text) (codes "}")
    (written-Block c.args.statement.now c.in-Block.inner.now (string_bytes c.args.text.now) (string_bytes c.push_str-in-Block.new.self) (string_bytes c.write_block.new.text) (string_bytes c.push_str-in-Block-2.new.self)
    (c.control.ensures.node ∙ ap (node_of_control c.args.statement.now) c.in-Block.is) c.in_ok-push_str-in-Block.ensures.bytes c.in_ok-write_block-in-Block.ensures)
    c.push_str-in-Block-2.ensures.bytes

pub write_statement-returns-in_ok-write_block-in-If-2 : goal.write_statement-returns-in_ok-write_block-in-If-2
write_statement-returns-in_ok-write_block-in-If-2 t c =
    OnOk-push_str c.push_str-in-If-3.result (string_bytes c.push_str-in-If-3.new.self) (string_bytes c.write_block-in-If-2.new.text) (codes "}")
    (written-If c.args.statement.now c.in-If.condition c.in-If.accept.now c.in-If.reject.now (string_bytes c.args.text.now) (string_bytes c.push_str-in-If.new.self) (string_bytes c.write_block-in-If.new.text) (string_bytes c.push_str-in-If-2.new.self) (string_bytes c.write_block-in-If-2.new.text) (string_bytes c.push_str-in-If-3.new.self)
    (c.control.ensures.node ∙ ap (node_of_control c.args.statement.now) c.in-If.is) c.in_ok-push_str-in-If.ensures.bytes c.in_ok-write_block-in-If.ensures c.in_ok-push_str-in-If-2.ensures.bytes c.in_ok-write_block-in-If-2.ensures)
    c.push_str-in-If-3.ensures.bytes

pub write_statement-returns-in_ok-write_cases-in-Switch : goal.write_statement-returns-in_ok-write_cases-in-Switch
write_statement-returns-in_ok-write_cases-in-Switch t c =
    OnOk-push_str c.push_str-in-Switch-2.result (string_bytes c.push_str-in-Switch-2.new.self) (string_bytes c.write_cases.new.text) (codes ")")
    (written-Switch c.args.statement.now c.in-Switch.selector c.in-Switch.cases.now (string_bytes c.args.text.now) (string_bytes c.push_str-in-Switch.new.self) (string_bytes c.write_cases.new.text) (string_bytes c.push_str-in-Switch-2.new.self)
    (c.control.ensures.node ∙ ap (node_of_control c.args.statement.now) c.in-Switch.is) c.in_ok-push_str-in-Switch.ensures.bytes c.in_ok-write_cases-in-Switch.ensures)
    c.push_str-in-Switch-2.ensures.bytes

pub write_statement-returns-in_ok-write_block-in-Loop-2 : goal.write_statement-returns-in_ok-write_block-in-Loop-2
write_statement-returns-in_ok-write_block-in-Loop-2 t c =
    OnOk-push_str c.push_str-in-Loop-3.result (string_bytes c.push_str-in-Loop-3.new.self) (string_bytes c.write_block-in-Loop-2.new.text) (codes "}")
    (written-Loop c.args.statement.now c.in-Loop.break_if c.in-Loop.body.now c.in-Loop.continuing.now (string_bytes c.args.text.now) c.loop_opening.result.now (string_bytes c.push_str-in-Loop.new.self) (string_bytes c.write_block-in-Loop.new.text) (string_bytes c.push_str-in-Loop-2.new.self) (string_bytes c.write_block-in-Loop-2.new.text) (string_bytes c.push_str-in-Loop-3.new.self)
    (c.control.ensures.node ∙ ap (node_of_control c.args.statement.now) c.in-Loop.is) c.loop_opening.ensures c.in_ok-push_str-in-Loop.ensures.bytes c.in_ok-write_block-in-Loop.ensures c.in_ok-push_str-in-Loop-2.ensures.bytes c.in_ok-write_block-in-Loop-2.ensures)
    c.push_str-in-Loop-3.ensures.bytes
