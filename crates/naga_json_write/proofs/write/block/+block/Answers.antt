use Rattle.std.proofs.Common.{◌≡◌, ◌∙◌, ◌<◌, ◌∷◌, [], ap, sym, subst, rules, map, codes}
use Rattle.std.specs.Prelude.{OnOk}
use Rattle.naga_ir.specs.View.{cases_of, node_of}
use Rattle.naga_ir.specs.Tree.{switch}
use Rattle.naga_ir.specs.declared.block.Block.{size-Block}
use Rattle.naga_ir.specs.declared.statement.Statement.{size-Statement}
use Rattle.naga_ir.proofs.NodeOfLemmas.{node_of-Block, node_of-If, node_of-Loop, node_of-Switch}
use Rattle.naga_json.specs.Block.{block_json}
use Rattle.naga_json.specs.StatementValue.{value_of_block}
use Rattle.naga_json_write.specs.Appends.{append_fields, append_items, ended}
use Rattle.naga_json.specs.Lists.{items_of}
use Rattle.naga_json.specs.Codec.{handle_codec}
use Rattle.naga_json.specs.Objects.{optional_json}
use Rattle.naga_json_write.proofs.BlockLemmas.{AreLast-all, AreLast-lt, AreLast-next, appended-node, statements_json-each, written}
use Rattle.naga_json_write.proofs.write.block.+block.Goals as goal

-- ---- a block

pub write_statements-loop-statement-init : goal.write_statements-loop-statement-init
write_statements-loop-statement-init t c =
    let are = c.into_iter-statement-iterator.ensures.into_iter_gives in record {
      last = AreLast-all c.args.block.now c.into_iter-statement-iterator.result are;
      before = search rules;
      tokens = ap (λ xs. append_items c.args.out.now.tokens (items_of (map written xs))) are;
    }

pub write_statements-write_statement-requires : goal.write_statements-write_statement-requires
write_statements-write_statement-requires t c =
    let is : c.loop-statement.statement-iterator ≡ c.in-Some.statement.now ∷ c.next.new.self = c.in-Some.ensures.steps in
    let lt : size-Statement c.in-Some.statement.now < size-Block c.args.block.now = AreLast-lt c.args.block.now c.in-Some.statement.now c.next.new.self c.loop-statement.statement-iterator is c.loop-statement.invariant.last in
    (search (rules, lt), tt)

pub write_statements-loop-statement-preserved : goal.write_statements-loop-statement-preserved
write_statements-loop-statement-preserved t c =
    let is : c.loop-statement.statement-iterator ≡ c.in-Some.statement.now ∷ c.next.new.self = c.in-Some.ensures.steps in record {
      last = AreLast-next c.args.block.now c.in-Some.statement.now c.next.new.self c.loop-statement.statement-iterator is c.loop-statement.invariant.last;
      before = search rules;
      tokens =
          ap (λ tokens. append_items tokens (items_of (map written c.next.new.self))) c.in_ok-write_statement.ensures.tokens
          ∙ (ap (λ xs. append_items c.loop-statement.out.tokens (items_of (map written xs))) (sym is)
          ∙ c.loop-statement.invariant.tokens);
    }

pub write_statements-returns-clause-tokens : goal.write_statements-returns-clause-tokens
write_statements-returns-clause-tokens t c =
    let is : c.loop-statement.statement-iterator ≡ [] = search rules in
    let appended =
    ap (λ xs. append_items c.loop-statement.out.tokens (items_of (map written xs))) (sym is)
    ∙ (c.loop-statement.invariant.tokens
    ∙ ap (λ js. append_items c.args.out.now.tokens (items_of js)) (sym (statements_json-each c.args.block.now)))
    in
    subst (λ tokens. OnOk c.end_array.result (c.end_array.new.self.tokens ≡ tokens)) appended c.end_array.ensures.ok

-- ---- a statement

pub write_statement-returns-in-Block-clause-tokens : goal.write_statement-returns-in-Block-clause-tokens
write_statement-returns-in-Block-clause-tokens t c =
    appended-node c.write_inner_block.result c.args.out.now.tokens c.write_inner_block.new.out.tokens c.args.statement.now _ (ap node_of c.in-Block.is ∙ node_of-Block _) c.write_inner_block.ensures.tokens

pub write_statement-returns-in_ok-write_accept-in-If-clause-tokens : goal.write_statement-returns-in_ok-write_accept-in-If-clause-tokens
write_statement-returns-in_ok-write_accept-in-If-clause-tokens t c =
    appended-node c.write_reject.result c.args.out.now.tokens c.write_reject.new.out.tokens c.args.statement.now _ (ap node_of c.in-If.is ∙ node_of-If c.in-If.condition c.in-If.accept c.in-If.reject)
    (subst (λ tokens. OnOk c.write_reject.result (c.write_reject.new.out.tokens ≡ ended (append_fields tokens ((codes "reject", block_json (value_of_block c.in-If.reject)) ∷ [])))) c.in_ok-write_accept-in-If.ensures.tokens c.write_reject.ensures.tokens)

pub write_statement-returns-in-Switch-clause-tokens : goal.write_statement-returns-in-Switch-clause-tokens
write_statement-returns-in-Switch-clause-tokens t c =
    appended-node c.write_switch.result c.args.out.now.tokens c.write_switch.new.out.tokens c.args.statement.now _
    (ap node_of c.in-Switch.is ∙ (node_of-Switch c.in-Switch.selector c.in-Switch.cases ∙ sym (ap (λ cases. switch c.in-Switch.selector (cases_of cases)) c.deref.ensures.value)))
    c.write_switch.ensures.tokens

pub write_statement-returns-in_ok-write_body-in-Loop-clause-tokens : goal.write_statement-returns-in_ok-write_body-in-Loop-clause-tokens
write_statement-returns-in_ok-write_body-in-Loop-clause-tokens t c =
    appended-node c.write_continuing.result c.args.out.now.tokens c.write_continuing.new.out.tokens c.args.statement.now _ (ap node_of c.in-Loop.is ∙ node_of-Loop c.in-Loop.body c.in-Loop.continuing c.in-Loop.break_if)
    (subst (λ tokens. OnOk c.write_continuing.result (c.write_continuing.new.out.tokens ≡ ended (append_fields tokens ((codes "continuing", block_json (value_of_block c.in-Loop.continuing)) ∷ (codes "break_if", optional_json handle_codec.encode c.in-Loop.break_if) ∷ [])))) c.in_ok-write_body-in-Loop.ensures.tokens c.write_continuing.ensures.tokens)
