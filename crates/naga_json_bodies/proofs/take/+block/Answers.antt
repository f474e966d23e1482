use Rattle.std.proofs.Common.{◌≡◌, ◌-◌, ap, refl, rules, arith, [], ◌∷◌, map, length}
use Rattle.naga_json.specs.Block.{block_with, block_within, branch_variant, case_codec, loop_variant, nested_variant, statement_codec, statement_rows, switch_variant}
use Rattle.naga_json.specs.Fields.{struct_in}
use Rattle.naga_json.specs.Lists.{each_in}
use Rattle.naga_json.specs.Objects.{choose}
use Rattle.naga_json.specs.derived.Statement.{simple_statement_rows}
use Rattle.naga_json.specs.Variants.{held_in, row}
use Rattle.naga_json.specs.StatementValue.{nested, branch, loop, switch, cases_from, value_of_block, value_of_case, value_of_statement}
use Rattle.naga_json_bodies.proofs.BlockLemmas.{block_within-some}
use Rattle.naga_json_bodies.proofs.TakesBlockLemmas.{takes_block, takes_more_statements}
use Rattle.naga_json_tokens.proofs.TakesHolderLemmas.{takes_field, takes_holder}
use Rattle.naga_json_tokens.proofs.TakesListsLemmas.{takes_list, takes_more_viewed, takes_shorter}
use Rattle.naga_json_tokens.proofs.TakesMapLemmas.{takes_map, takes_named_as, takes_rows, takes_value}
use Rattle.naga_json.proofs.NamesLemmas.{choose-append}
use Rattle.naga_json.proofs.StatementValueLemmas.{value_of-Block, value_of-If, value_of-Loop, value_of-Switch}
use Rattle.naga_json_tokens.proofs.TakesStructLemmas.{takes_first, takes_last, takes_object}
use Rattle.naga_json_bodies.proofs.take.+block.Goals as goal

pub take_case-returns : goal.take_case-returns
unfolding struct_in
take_case-returns t c =
    let block = block_within c.args.depth in
    takes_object (case_codec block).decode _ _ _ _ c.in_ok-take_begin.ensures
    (takes_first _ _ _ _ _ _ _ _ c.in_ok-value.ensures (λ j1 e1.
    takes_first _ _ _ _ _ _ _ _ c.in_ok-body.ensures (λ j2 e2.
    takes_first _ _ _ _ _ _ _ _ c.in_ok-fall_through.ensures (λ j3 e3.
    takes_last _ _ _ _ c.in_ok-take_end.ensures (rw (e1, e2, e3) refl)))))

pub take_cases-cases-smaller : goal.take_cases-cases-smaller
take_cases-cases-smaller t c =
    let unmoved : c.take_end_array.new.self ≡ c.cases.reader = search rules in
    let shorter = takes_shorter _ _ _ _ c.in_ok-case.ensures in
    omega (arith, ap length unmoved)

pub take_cases-cases-preserved : goal.take_cases-cases-preserved
take_cases-cases-preserved t c =
    let unmoved : c.take_end_array.new.self ≡ c.cases.reader = search rules in
    takes_more_viewed value_of_case (case_codec (block_within c.args.depth)).decode c.cases.cases.items c.push.new.self.items c.in_ok-case.case c.take_begin_list.new.reader c.take_end_array.new.self c.take_case.new.reader
    (rw unmoved c.cases.invariant) c.in_ok-case.ensures c.in-Ok.ensures.items

pub take_cases-returns : goal.take_cases-returns
take_cases-returns t c =
    let case = (case_codec (block_within c.args.depth)).decode in
    let cases = map value_of_case c.cases.cases.items in
    takes_field c.args.name.now (each_in case) cases c.args.reader.now c.take_key.new.reader c.take_end_array.new.self c.in_ok-take_key.ensures
    (takes_list case cases c.take_key.new.reader c.take_begin_list.new.reader c.cases.reader c.take_end_array.new.self
    c.in_ok-take_begin_list.ensures c.cases.invariant (search rules))

pub take_held_statement-returns-in_ok-take_inner_block-in-Block : goal.take_held_statement-returns-in_ok-take_inner_block-in-Block
take_held_statement-returns-in_ok-take_inner_block-in-Block t c =
    let block = c.in_ok-take_inner_block-in-Block.field-0 in
    let inner = block_within c.args.depth in
    let same = c.in-Block.is in
    takes_value (λ held. choose (statement_rows inner held) c.args.name.now) (nested (value_of_block block)) _ c.args.reader.now c.take_inner_block.new.reader (value_of-Block block)
    (takes_map inner.decode (value_of_block block) (λ held. choose (statement_rows inner held) c.args.name.now) (nested (value_of_block block)) c.args.reader.now c.take_inner_block.new.reader
    c.in_ok-take_inner_block-in-Block.ensures (λ j means. rw (same, means) refl))

pub take_held_statement-returns-in_default : goal.take_held_statement-returns-in_default
take_held_statement-returns-in_default t c =
    let other = c.in_default in
    let block = block_within c.args.depth in
    let name = c.args.name.now in
    takes_rows value_of_statement (λ held. choose (simple_statement_rows held) name) (λ held. choose (statement_rows block held) name) c.take_simple_statement.result c.args.reader.now c.take_simple_statement.new.reader
    (λ held. choose-append (row (nested_variant block) held ∷ row (branch_variant block) held ∷ row (switch_variant block) held ∷ row (loop_variant block) held ∷ []) (simple_statement_rows held) name
    (other.not-Block, (other.not-If, (other.not-Switch, (other.not-Loop, tt)))))
    c.take_simple_statement.ensures

pub take_if-returns : goal.take_if-returns
unfolding struct_in
take_if-returns t c =
    let meaning = held_in (branch_variant (block_within c.args.depth)) in
    let value = branch c.in_ok-condition.condition (value_of_block c.in_ok-accept.accept) (value_of_block c.in_ok-reject.reject) in
    takes_value meaning value _ c.args.reader.now c.take_end.new.reader (value_of-If c.in_ok-condition.condition c.in_ok-accept.accept c.in_ok-reject.reject)
    (takes_object meaning value _ _ _ c.in_ok-take_begin.ensures
    (takes_first _ _ _ _ _ _ _ _ c.in_ok-condition.ensures (λ j1 e1.
    takes_first _ _ _ _ _ _ _ _ c.in_ok-accept.ensures (λ j2 e2.
    takes_first _ _ _ _ _ _ _ _ c.in_ok-reject.ensures (λ j3 e3.
    takes_last _ _ _ _ c.in_ok-take_end.ensures (rw (e1, e2, e3) refl))))))

pub take_loop-returns : goal.take_loop-returns
unfolding struct_in
take_loop-returns t c =
    let meaning = held_in (loop_variant (block_within c.args.depth)) in
    let value = loop (value_of_block c.in_ok-body.body) (value_of_block c.in_ok-continuing.continuing) c.in_ok-break_if.break_if in
    takes_value meaning value _ c.args.reader.now c.take_end.new.reader (value_of-Loop c.in_ok-body.body c.in_ok-continuing.continuing c.in_ok-break_if.break_if)
    (takes_object meaning value _ _ _ c.in_ok-take_begin.ensures
    (takes_first _ _ _ _ _ _ _ _ c.in_ok-body.ensures (λ j1 e1.
    takes_first _ _ _ _ _ _ _ _ c.in_ok-continuing.ensures (λ j2 e2.
    takes_first _ _ _ _ _ _ _ _ c.in_ok-break_if.ensures (λ j3 e3.
    takes_last _ _ _ _ c.in_ok-take_end.ensures (rw (e1, e2, e3) refl))))))

pub take_switch-returns : goal.take_switch-returns
unfolding struct_in
take_switch-returns t c =
    let meaning = held_in (switch_variant (block_within c.args.depth)) in
    let value = switch c.in_ok-selector.selector (cases_from (map value_of_case c.in_ok-cases.cases.items)) in
    takes_value meaning value _ c.args.reader.now c.take_end.new.reader (value_of-Switch c.in_ok-selector.selector c.in_ok-cases.cases)
    (takes_object meaning value _ _ _ c.in_ok-take_begin.ensures
    (takes_first _ _ _ _ _ _ _ _ c.in_ok-selector.ensures (λ j1 e1.
    takes_first _ _ _ _ _ _ _ _ c.in_ok-cases.ensures (λ j2 e2.
    takes_last _ _ _ _ c.in_ok-take_end.ensures (rw (e1, e2) refl)))))

pub take_inner_block-returns : goal.take_inner_block-returns
take_inner_block-returns t c =
    takes_rows value_of_block (block_with (statement_codec (block_within (c.args.depth - 1))).decode) (block_within c.args.depth).decode c.take_statements.result c.args.reader.now c.take_statements.new.reader
    (λ j. block_within-some c.args.depth j c.if-depth-eq0.false) c.take_statements.ensures

pub take_inner_statement-returns-in-String : goal.take_inner_statement-returns-in-String
take_inner_statement-returns-in-String t c =
    takes_named_as value_of_statement c.in-String.name.now (statement_codec (block_within c.args.depth)).decode c.named_statement.result c.args.reader.now c.next.new.self (search rules) c.named_statement.ensures

pub take_inner_statement-returns-in_ok-take_end-in-BeginObject : goal.take_inner_statement-returns-in_ok-take_end-in-BeginObject
take_inner_statement-returns-in_ok-take_end-in-BeginObject t c =
    let name = c.in_ok-name-in-BeginObject in
    let found = c.in_ok-found-in-BeginObject in
    let block = block_within c.args.depth in
    takes_holder name.name.now (λ held. choose (statement_rows block held) name.name.now) (value_of_statement found.found) (statement_codec block).decode (value_of_statement found.found) c.args.reader.now c.next.new.self _ _ c.take_end.new.reader
    (search rules) name.ensures found.ensures c.in_ok-take_end-in-BeginObject.ensures (λ j is. is)

pub take_statements-statements-smaller : goal.take_statements-statements-smaller
take_statements-statements-smaller t c =
    let unmoved : c.take_end_array.new.self ≡ c.statements.reader = search rules in
    let shorter = takes_shorter _ _ _ _ c.in_ok-statement.ensures in
    omega (arith, ap length unmoved)

pub take_statements-statements-preserved : goal.take_statements-statements-preserved
take_statements-statements-preserved t c =
    let unmoved : c.take_end_array.new.self ≡ c.statements.reader = search rules in
    takes_more_statements (statement_codec (block_within c.args.depth)).decode c.statements.block c.push.new.self c.in_ok-statement.statement c.take_begin_list.new.reader c.take_end_array.new.self c.take_inner_statement.new.reader
    (rw unmoved c.statements.invariant) c.in_ok-statement.ensures c.in-Ok.ensures.ok

pub take_statements-returns : goal.take_statements-returns
take_statements-returns t c =
    takes_block (statement_codec (block_within c.args.depth)).decode (value_of_block c.statements.block) c.args.reader.now c.take_begin_list.new.reader c.statements.reader c.take_end_array.new.self
    c.in_ok-take_begin_list.ensures c.statements.invariant (search rules)
