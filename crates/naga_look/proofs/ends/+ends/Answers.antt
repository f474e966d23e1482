use Rattle.std.proofs.Common.{◌≡◌, ◌∙◌, ◌-◌, ◌<◌, ◌++◌, [], ◌∷◌, Some, ap, length, sym, rules}
use Rattle.std.proofs.lemmas.Option.{slice_get-get_or}
use Rattle.std.specs.Prelude.{codes, slice_get}
use Rattle.naga_flow.specs.Paths.{behind}
use Rattle.naga_ir.specs.Block.{pairs, statements}
use Rattle.naga_ir.specs.declared.block.Block.{size-Block}
use Rattle.naga_ir.specs.declared.statement.Statement.{size-Statement}
use Rattle.naga_ir.proofs.SizeBlockLemmas.{size-statement_at}
use Rattle.naga_ir.specs.View.{cases_of, node_of, tree_of}
use Rattle.naga_proc.specs.Closing.{follows_switch}
use Rattle.naga_proc.specs.declared.terminator.rule.Rule.TheVariants.{New}
use Rattle.naga_look.specs.OpenEnds.{case_name, end_if, ends_at, ends_in_case, ends_in_cases, inner_path, open_ends}
use Rattle.naga_look.proofs.OpenEndsLemmas.{AddsEnds-behind, AddsEnds-cases, AddsEnds-named, AddsEnds-next, AddsEnds-none, IfOk-AddsEnds, IfOk-behind, IfOk-both, inner-path, open_ends-last, open_ends-none, unless-false, unless-true}
use Rattle.naga_look.proofs.ends.+ends.Goals as goal

-- ---- a block

pub push_ends-returns-in-Some : goal.push_ends-returns-in-Some
push_ends-returns-in-Some t c =
    let block = c.args.block.now in
    let last = c.in-Some.last.now in
    let found : slice_get (statements block) (length (pairs block) - 1) ≡ Some last = sym c.in-Some.ensures in
    let position : c.saturating_sub-position.result ≡ length (pairs block) - 1 = search rules in
    IfOk-AddsEnds c.push_ends_at.result c.args.before.now c.args.limit c.args.paths.now.items c.push_ends_at.new.paths.items
    (ends_at New c.saturating_sub-position.result (node_of last)) (open_ends New (tree_of block))
    (ap (λ n. ends_at New n (node_of last)) position ∙ sym (open_ends-last New block last found)) c.push_ends_at.ensures

pub push_ends-returns-in-None : goal.push_ends-returns-in-None
push_ends-returns-in-None t c =
    let block = c.args.block.now in
    IfOk-AddsEnds c.push_end.result c.args.before.now c.args.limit c.args.paths.now.items c.push_end.new.paths.items
    ([] ∷ []) (open_ends New (tree_of block)) (sym (open_ends-none New block (sym c.in-None.ensures))) c.push_end.ensures

pub push_ends-push_ends_at-requires : goal.push_ends-push_ends_at-requires
push_ends-push_ends_at-requires t c =
    let block = c.args.block.now in
    let last = c.in-Some.last.now in
    let found : slice_get (statements block) (length (pairs block) - 1) ≡ Some last = sym c.in-Some.ensures in
    let lt : size-Statement last < size-Block block = size-statement_at block (length (pairs block) - 1) last found in
    (search (rules, lt), tt)

-- ---- the last statement of a block

pub push_ends_at-returns-in-Plain : goal.push_ends_at-returns-in-Plain
push_ends_at-returns-in-Plain t c =
    IfOk-AddsEnds c.push_end.result c.args.before.now c.args.limit c.args.paths.now.items c.push_end.new.paths.items
    ([] ∷ []) (ends_at New c.args.position (node_of c.args.last.now)) (ap (ends_at New c.args.position) (sym c.in-Plain.ensures.node)) c.push_end.ensures

pub push_ends_at-returns-in-Loop : goal.push_ends_at-returns-in-Loop
push_ends_at-returns-in-Loop t c =
    IfOk-AddsEnds c.push_end-in-Loop.result c.args.before.now c.args.limit c.args.paths.now.items c.push_end-in-Loop.new.paths.items
    ([] ∷ []) (ends_at New c.args.position (node_of c.args.last.now)) (ap (ends_at New c.args.position) (sym c.in-Loop.ensures.node)) c.push_end-in-Loop.ensures

pub push_ends_at-returns-in_ok-inside-in-Block : goal.push_ends_at-returns-in_ok-inside-in-Block
push_ends_at-returns-in_ok-inside-in-Block t c =
    let inner = tree_of c.in-Block.inner.now in
    let path = inner_path c.args.position (codes ".block") in
    IfOk-AddsEnds c.push_ends.result c.args.before.now c.args.limit c.args.paths.now.items c.push_ends.new.paths.items
    (behind path (open_ends New inner)) (ends_at New c.args.position (node_of c.args.last.now)) (ap (ends_at New c.args.position) (sym c.in-Block.ensures.node))
    (IfOk-behind c.push_ends.result c.args.before.now path c.in_ok-inside-in-Block.inside c.args.limit (open_ends New inner) c.args.paths.now.items c.push_ends.new.paths.items
    (c.in_ok-inside-in-Block.ensures ∙ inner-path c.args.before.now c.args.position (codes ".block")) c.push_ends.ensures)

pub push_ends_at-returns-in_ok-rejected-in-If : goal.push_ends_at-returns-in_ok-rejected-in-If
push_ends_at-returns-in_ok-rejected-in-If t c =
    let accept = tree_of c.in-If.accept.now in
    let reject = tree_of c.in-If.reject.now in
    let first = inner_path c.args.position (codes ".accept") in
    let second = inner_path c.args.position (codes ".reject") in
    IfOk-AddsEnds c.push_ends-in-If-2.result c.args.before.now c.args.limit c.args.paths.now.items c.push_ends-in-If-2.new.paths.items
    (behind first (open_ends New accept) ++ behind second (open_ends New reject)) (ends_at New c.args.position (node_of c.args.last.now))
    (ap (ends_at New c.args.position) (sym c.in-If.ensures.node))
    (IfOk-both c.push_ends-in-If-2.result c.args.before.now c.args.limit c.in_ok-left-in-If.left (behind first (open_ends New accept)) (behind second (open_ends New reject))
    c.args.paths.now.items c.push_ends-in-If.new.paths.items c.push_ends-in-If-2.new.paths.items
    (AddsEnds-behind c.args.before.now first c.in_ok-accepted-in-If.accepted c.args.limit c.in_ok-left-in-If.left (open_ends New accept) c.args.paths.now.items c.push_ends-in-If.new.paths.items
    (c.in_ok-accepted-in-If.ensures ∙ inner-path c.args.before.now c.args.position (codes ".accept")) c.in_ok-left-in-If.ensures)
    (IfOk-behind c.push_ends-in-If-2.result c.args.before.now second c.in_ok-rejected-in-If.rejected c.in_ok-left-in-If.left (open_ends New reject) c.push_ends-in-If.new.paths.items c.push_ends-in-If-2.new.paths.items
    (c.in_ok-rejected-in-If.ensures ∙ inner-path c.args.before.now c.args.position (codes ".reject")) c.push_ends-in-If-2.ensures))

pub push_ends_at-returns-in_ok-left-in-Switch : goal.push_ends_at-returns-in_ok-left-in-Switch
push_ends_at-returns-in_ok-left-in-Switch t c =
    let cases = cases_of c.in-Switch.cases.now in
    IfOk-AddsEnds c.push_end_after.result c.args.before.now c.args.limit c.args.paths.now.items c.push_end_after.new.paths.items
    (ends_in_cases New c.args.position 0 cases ++ end_if (follows_switch New cases)) (ends_at New c.args.position (node_of c.args.last.now))
    (ap (ends_at New c.args.position) (sym c.in-Switch.ensures.node))
    (IfOk-both c.push_end_after.result c.args.before.now c.args.limit c.in_ok-left-in-Switch.left (ends_in_cases New c.args.position 0 cases) (end_if (follows_switch New cases))
    c.args.paths.now.items c.push_ends_in_cases.new.paths.items c.push_end_after.new.paths.items c.in_ok-left-in-Switch.ensures c.push_end_after.ensures)

pub push_ends_at-returns-in-Break : goal.push_ends_at-returns-in-Break
push_ends_at-returns-in-Break t c =
    AddsEnds-named c.args.before.now c.args.limit c.args.paths.now.items (ends_at New c.args.position (node_of c.args.last.now))
    (ap (ends_at New c.args.position) (sym c.in-Break.ensures.node))

pub push_ends_at-returns-in-Continue : goal.push_ends_at-returns-in-Continue
push_ends_at-returns-in-Continue t c =
    AddsEnds-named c.args.before.now c.args.limit c.args.paths.now.items (ends_at New c.args.position (node_of c.args.last.now))
    (ap (ends_at New c.args.position) (sym c.in-Continue.ensures.node))

pub push_ends_at-returns-in-Return : goal.push_ends_at-returns-in-Return
push_ends_at-returns-in-Return t c =
    AddsEnds-named c.args.before.now c.args.limit c.args.paths.now.items (ends_at New c.args.position (node_of c.args.last.now))
    (ap (ends_at New c.args.position) (sym c.in-Return.ensures.node))

pub push_ends_at-returns-in-Kill : goal.push_ends_at-returns-in-Kill
push_ends_at-returns-in-Kill t c =
    AddsEnds-named c.args.before.now c.args.limit c.args.paths.now.items (ends_at New c.args.position (node_of c.args.last.now))
    (ap (ends_at New c.args.position) (sym c.in-Kill.ensures.node))

-- ---- the cases of a switch

pub push_ends_in_case-returns-then-case : goal.push_ends_in_case-returns-then-case
push_ends_in_case-returns-then-case t c =
    AddsEnds-named c.args.before.now c.args.limit c.args.paths.now.items (ends_in_case New c.args.position (c.args.number, c.args.case.now))
    (unless-true c.args.case.now.fall_through (behind (inner_path c.args.position (case_name c.args.number)) (open_ends New (tree_of c.args.case.now.body))) (search rules))

pub push_ends_in_case-returns : goal.push_ends_in_case-returns
push_ends_in_case-returns t c =
    let path = inner_path c.args.position (case_name c.args.number) in
    let ends = open_ends New (tree_of c.args.case.now.body) in
    IfOk-AddsEnds c.push_ends.result c.args.before.now c.args.limit c.args.paths.now.items c.push_ends.new.paths.items
    (behind path ends) (ends_in_case New c.args.position (c.args.number, c.args.case.now))
    (unless-false c.args.case.now.fall_through (behind path ends) (search rules))
    (IfOk-behind c.push_ends.result c.args.before.now path c.in_ok-inside.inside c.args.limit ends c.args.paths.now.items c.push_ends.new.paths.items
    c.in_ok-inside.ensures c.push_ends.ensures)

pub push_ends_in_cases-cases-init : goal.push_ends_in_cases-cases-init
push_ends_in_cases-cases-init t c = AddsEnds-none c.args.before.now c.args.limit c.args.paths.now.items

pub push_ends_in_cases-cases-preserved : goal.push_ends_in_cases-cases-preserved
push_ends_in_cases-cases-preserved t c =
    let cases = c.args.cases.now in
    let one = c.index-cases-number.result in
    let at : slice_get cases c.cases.number ≡ Some one =
    slice_get-get_or cases c.cases.number one c.cases-test.true ∙ ap Some (sym c.index-cases-number.is) in
    AddsEnds-next c.args.before.now c.args.limit c.cases.left c.in_ok-left.left New c.args.position cases c.cases.number one
    c.args.paths.now.items c.cases.paths.items c.push_ends_in_case.new.paths.items at c.cases.invariant c.in_ok-left.ensures

pub push_ends_in_cases-returns : goal.push_ends_in_cases-returns
push_ends_in_cases-returns t c =
    AddsEnds-cases c.args.before.now c.args.limit c.cases.left New c.args.position c.args.cases.now c.cases.number
    c.args.paths.now.items c.cases.paths.items c.cases-test.false c.cases.invariant
