use Rattle.std.proofs.Common.{◌≡◌, ◌∙◌, ap, rules, [], ◌∷◌, option_map, map, Some}
use Rattle.json.specs.Value.{value_view}
use Rattle.naga_json.specs.Block.{block_within, branch_variant, loop_variant, nested_variant, statement_codec, switch_variant}
use Rattle.naga_json.specs.Fields.{struct_in}
use Rattle.naga_json.specs.derived.Statement.{simple_statement_rows}
use Rattle.naga_json.specs.Variants.{held_in, row}
use Rattle.naga_json.specs.StatementValue.{nested, branch, loop, switch, cases_from, value_of_block, value_of_case}
use Rattle.naga_json_bodies.proofs.BlockLemmas.{block_within-none, block_within-some, block_after-next}
use Rattle.naga_json.proofs.NamesLemmas.{choose-append}
use Rattle.naga_json.proofs.StatementValueLemmas.{value_of-Block, value_of-If, value_of-Loop, value_of-Switch}
use Rattle.naga_json_bodies.proofs.read.+block.Goals as goal

pub read_held_statement-returns-in_ok-read_inner_block-in-Block : goal.read_held_statement-returns-in_ok-read_inner_block-in-Block
read_held_statement-returns-in_ok-read_inner_block-in-Block t c =
    let block = c.in_ok-read_inner_block-in-Block.field-0 in
    let read : Some (nested (value_of_block block)) ≡ option_map nested ((block_within c.args.depth).decode (value_view c.args.held.now)) = ap (option_map nested) c.in_ok-read_inner_block-in-Block.ensures in
    rw c.in-Block.is (ap Some (value_of-Block block) ∙ read)

pub read_held_statement-returns-in_default : goal.read_held_statement-returns-in_default
read_held_statement-returns-in_default t c =
    let other = c.in_default in
    let held = value_view c.args.held.now in
    let block = block_within c.args.depth in
    rw (choose-append (row (nested_variant block) held ∷ row (branch_variant block) held ∷ row (switch_variant block) held ∷ row (loop_variant block) held ∷ []) (simple_statement_rows held) c.args.name.now
    (other.not-Block, (other.not-If, (other.not-Switch, (other.not-Loop, tt)))))
    c.read_simple_statement.ensures

pub read_if-returns : goal.read_if-returns
unfolding struct_in
read_if-returns t c =
    let read : Some (branch c.in_ok-condition.condition (value_of_block c.in_ok-accept.accept) (value_of_block c.in_ok-reject.reject)) ≡ held_in (branch_variant (block_within c.args.depth)) (value_view c.args.held.now) = search rules in
    ap Some (value_of-If _ _ _) ∙ read

pub read_inner_block-returns-then-depth-eq0 : goal.read_inner_block-returns-then-depth-eq0
read_inner_block-returns-then-depth-eq0 t c = λ _. block_within-none c.args.depth (value_view c.args.value.now) c.if-depth-eq0.true

pub read_inner_block-returns : goal.read_inner_block-returns
read_inner_block-returns t c = rw (block_within-some c.args.depth (value_view c.args.value.now) c.if-depth-eq0.false) c.read_statements.ensures

pub read_loop-returns : goal.read_loop-returns
unfolding struct_in
read_loop-returns t c =
    let read : Some (loop (value_of_block c.in_ok-body.body) (value_of_block c.in_ok-continuing.continuing) c.in_ok-break_if.break_if) ≡ held_in (loop_variant (block_within c.args.depth)) (value_view c.args.held.now) = search rules in
    ap Some (value_of-Loop _ _ _) ∙ read

pub read_each_statement-statements-preserved : goal.read_each_statement-statements-preserved
read_each_statement-statements-preserved t c =
    let items = c.deref-item-items.ensures.value in
    let inside = rw items at c.statements-test.true in
    let item = rw items at c.item-item.is in
    block_after-next (statement_codec (block_within c.args.depth)).decode c.args.items.now.items c.statements.item-index c.item-item.result c.statements.block c.push.new.self c.in_ok-statement.statement inside item c.in_ok-statement.ensures c.in_ok-push.ensures.ok ∙ c.statements.invariant

pub read_switch-returns : goal.read_switch-returns
unfolding struct_in
read_switch-returns t c =
    let read : Some (switch c.in_ok-selector.selector (cases_from (map value_of_case c.in_ok-cases.cases.items))) ≡ held_in (switch_variant (block_within c.args.depth)) (value_view c.args.held.now) = search rules in
    ap Some (value_of-Switch _ _) ∙ read
