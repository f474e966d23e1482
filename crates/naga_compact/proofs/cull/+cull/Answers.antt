use Rattle.std.proofs.Common.{◌≡◌, ◌∙◌, sym, ap, subst, refl, not, ◌&&◌, ◌||◌, true≢false, ℕ, ◌-◌, ◌<◌, length, get_or, rules, arith}
use Rattle.std.proofs.lemmas.List.{get_or_read}
use Rattle.naga_ir.specs.Block.{pairs}
use Rattle.naga_ir.specs.View.{cases_of}
use Rattle.naga_ir.specs.declared.block.Block.{size-Block}
use Rattle.naga_ir.specs.declared.statement.Statement.{size-Statement, the_lemmas}
use Rattle.naga_ir.specs.declared.statement.Statement as variant
use Rattle.naga_ir.specs.declared.statement.Statement.TheBlock as shown
use Rattle.naga_ir.specs.declared.statement.SwitchCase.{SwitchCase}
use Rattle.naga_runs.specs.Exits.{has_exit}
use Rattle.naga_compact.specs.Culling.{culled}
use Rattle.naga_compact.proofs.CulledBlocks.{CulledTo, CulledTo-start, CulledTo-next, CulledTo-end, CulledTo-last, CulledTo-cut, culled_Block, culled_If, culled_Loop, culled_Switch, diverges_Block, diverges_If, diverges_Switch, culled_cases-each, cases_diverge-set}
use Rattle.naga_valid.proofs.IsEmptyLemmas.{is_empty-false, is_empty-true}
use Rattle.naga_compact.proofs.MappedBlocks.{MappedTo-size, CasesMappedTo-next}
use Rattle.naga_compact.proofs.cull.+cull.Goals as goal

-- ---- a block

pub cull_block-front-init : goal.cull_block-front-init
cull_block-front-init t c = CulledTo-start c.args.block.now

pub cull_block-cull_statement-requires : goal.cull_block-cull_statement-requires
cull_block-cull_statement-requires t c =
    let lt : size-Statement c.in-Some.statement.now < size-Block c.args.block.now =
    MappedTo-size culled c.args.block.now c.front.block c.front.position c.in-Some.statement.now c.front.invariant.mapped c.in-Some.ensures.value
    in
    (search (rules, lt), tt)

pub cull_block-front-preserved : goal.cull_block-front-preserved
cull_block-front-preserved t c =
    CulledTo-next c.args.block.now c.front.block c.front.position c.in-Some.statement.now c.cull_statement.new.statement c.front.invariant c.in-Some.ensures.value c.cull_statement.ensures.culled (sym c.cull_statement.ensures.diverges ∙ c.if-cull_statement.false)

pub cull_block-returns-then-cull_statement-clause-culled : goal.cull_block-returns-then-cull_statement-clause-culled
cull_block-returns-then-cull_statement-clause-culled t c =
    (CulledTo-cut c.args.block.now c.front.block c.truncate.new.self c.front.position c.in-Some.statement.now c.cull_statement.new.statement c.front.invariant c.in-Some.ensures.value c.cull_statement.ensures.culled (sym c.cull_statement.ensures.diverges ∙ c.if-cull_statement.true) c.truncate.ensures.kept).0

pub cull_block-returns-then-cull_statement-clause-diverges : goal.cull_block-returns-then-cull_statement-clause-diverges
cull_block-returns-then-cull_statement-clause-diverges t c =
    sym (CulledTo-cut c.args.block.now c.front.block c.truncate.new.self c.front.position c.in-Some.statement.now c.cull_statement.new.statement c.front.invariant c.in-Some.ensures.value c.cull_statement.ensures.culled (sym c.cull_statement.ensures.diverges ∙ c.if-cull_statement.true) c.truncate.ensures.kept).1

pub cull_block-unreachable-requires : goal.cull_block-unreachable-requires
cull_block-unreachable-requires t c =
    let present = c.get_mut.ensures.some.1 (omega (arith, c.front.invariant.mapped.count, c.len-last.ensures, c.front-test.true)) in
    true≢false (sym (rw c.in_default.is at present))

-- the loop ends before the last statement

pub cull_block-unreachable-requires-in_default-get_mut : goal.cull_block-unreachable-requires-in_default-get_mut
cull_block-unreachable-requires-in_default-get_mut t c =
    let more = is_empty-false (length (pairs c.args.block.now)) (sym c.is_empty.ensures ∙ c.if-is_empty.false) in
    let present = c.get_mut-2.ensures.some.1 (omega (arith, c.front.invariant.mapped.count, c.len-last.ensures, more)) in
    true≢false (sym (rw c.in_default-get_mut.is at present))

pub cull_block-cull_statement-requires-2 : goal.cull_block-cull_statement-requires-2
cull_block-cull_statement-requires-2 t c =
    let here : c.front.position ≡ c.len-last.result - 1 = omega (arith, c.front-test.false, c.front.auto.position-end) in
    let so : CulledTo c.args.block.now c.front.block (c.len-last.result - 1) = subst (CulledTo c.args.block.now c.front.block) here c.front.invariant in
    let lt : size-Statement c.in-Some-get_mut.statement.now < size-Block c.args.block.now =
    MappedTo-size culled c.args.block.now c.front.block (c.len-last.result - 1) c.in-Some-get_mut.statement.now so.mapped c.in-Some-get_mut.ensures.value
    in
    (search (rules, lt), tt)

pub cull_block-returns : goal.cull_block-returns
cull_block-returns t c =
    let here : c.front.position ≡ c.len-last.result - 1 = omega (arith, c.front-test.false, c.front.auto.position-end) in
    let so : CulledTo c.args.block.now c.front.block (c.len-last.result - 1) = subst (CulledTo c.args.block.now c.front.block) here c.front.invariant in
    let whole = CulledTo-last c.args.block.now c.front.block (c.len-last.result - 1) c.in-Some-get_mut.statement.now c.cull_statement-2.new.statement so c.in-Some-get_mut.ensures.value c.cull_statement-2.ensures.culled (omega (arith, c.len-last.ensures)) in
    record { culled = whole.0; diverges = c.cull_statement-2.ensures.diverges ∙ sym whole.1 }

pub cull_block-returns-then-is_empty : goal.cull_block-returns-then-is_empty
cull_block-returns-then-is_empty t c =
    let none = is_empty-true (length (pairs c.args.block.now)) (sym c.is_empty.ensures ∙ c.if-is_empty.true) in
    let whole = CulledTo-end c.args.block.now c.args.block.now 0 none (CulledTo-start c.args.block.now) in
    record { culled = whole.0; diverges = sym whole.1 }

-- ---- a statement

pub cull_statement-returns-in-Block-clause-culled : goal.cull_statement-returns-in-Block-clause-culled
unfolding variant.out-Statement shown.hidden-the_row-Block-entries-2-0 shown.shape-the_row-Block-entries-2-0 denote.Hole.Carrier.out denote.Hole.Carrier.hidden
cull_statement-returns-in-Block-clause-culled t c =
    rw c.in-Block.is (culled_Block c.in-Block.inner c.cull_block.new.block (rw c.in-Block.inner-is at c.cull_block.ensures.culled))

pub cull_statement-returns-in-Block-clause-diverges : goal.cull_statement-returns-in-Block-clause-diverges
unfolding variant.out-Statement shown.hidden-the_row-Block-entries-2-0 shown.shape-the_row-Block-entries-2-0 denote.Hole.Carrier.out denote.Hole.Carrier.hidden
cull_statement-returns-in-Block-clause-diverges t c =
    rw c.in-Block.is (c.cull_block.ensures.diverges ∙ sym (diverges_Block c.cull_block.new.block))

pub cull_statement-returns-in-If-clause-culled : goal.cull_statement-returns-in-If-clause-culled
unfolding variant.out-Statement shown.hidden-the_row-Block-entries-2-0 shown.shape-the_row-Block-entries-2-0 denote.Hole.Carrier.out denote.Hole.Carrier.hidden
cull_statement-returns-in-If-clause-culled t c =
    rw c.in-If.is (culled_If c.in-If.condition c.in-If.accept c.cull_block-accept_diverges.new.block c.in-If.reject c.cull_block-reject_diverges.new.block (rw c.in-If.accept-is at c.cull_block-accept_diverges.ensures.culled) (rw c.in-If.reject-is at c.cull_block-reject_diverges.ensures.culled))

pub cull_statement-returns-in-If-clause-diverges : goal.cull_statement-returns-in-If-clause-diverges
unfolding variant.out-Statement shown.hidden-the_row-Block-entries-2-0 shown.shape-the_row-Block-entries-2-0 denote.Hole.Carrier.out denote.Hole.Carrier.hidden
cull_statement-returns-in-If-clause-diverges t c =
    (λ i. c.cull_block-accept_diverges.ensures.diverges i && c.cull_block-reject_diverges.ensures.diverges i)
    ∙ sym (diverges_If c.in-If.condition c.cull_block-accept_diverges.new.block c.cull_block-reject_diverges.new.block)

pub cull_statement-returns-in-Switch-clause-culled : goal.cull_statement-returns-in-Switch-clause-culled
unfolding variant.out-Statement shown.hidden-the_row-Block-entries-2-0 shown.shape-the_row-Block-entries-2-0 denote.Hole.Carrier.out denote.Hole.Carrier.hidden
cull_statement-returns-in-Switch-clause-culled t c =
    rw c.in-Switch.is (culled_Switch c.in-Switch.selector c.in-Switch.cases c.cull_cases-diverge.new.cases (rw c.in-Switch.cases-is at c.cull_cases-diverge.ensures.culled))

pub cull_statement-returns-in-Switch-clause-diverges : goal.cull_statement-returns-in-Switch-clause-diverges
unfolding variant.out-Statement shown.hidden-the_row-Block-entries-2-0 shown.shape-the_row-Block-entries-2-0 denote.Hole.Carrier.out denote.Hole.Carrier.hidden
cull_statement-returns-in-Switch-clause-diverges t c =
    let exit : c.has_exit-exit.result ≡ has_exit (cases_of c.cull_cases-diverge.new.cases.items) =
    c.has_exit-exit.ensures ∙ ap (λ xs. has_exit (cases_of xs)) c.deref.ensures.value
    in
    rw c.in-Switch.is ((λ i. not (exit i) && c.cull_cases-diverge.ensures.diverge i) ∙ sym (diverges_Switch c.in-Switch.selector c.cull_cases-diverge.new.cases))

pub cull_statement-returns-in-Loop-clause-culled : goal.cull_statement-returns-in-Loop-clause-culled
unfolding variant.out-Statement shown.hidden-the_row-Block-entries-2-0 shown.shape-the_row-Block-entries-2-0 denote.Hole.Carrier.out denote.Hole.Carrier.hidden
cull_statement-returns-in-Loop-clause-culled t c =
    rw c.in-Loop.is (culled_Loop c.in-Loop.body c.cull_block-in-Loop.new.block c.in-Loop.continuing c.cull_block-in-Loop-2.new.block c.in-Loop.break_if (rw c.in-Loop.body-is at c.cull_block-in-Loop.ensures.culled) (rw c.in-Loop.continuing-is at c.cull_block-in-Loop-2.ensures.culled))

-- ---- the cases

pub cull_cases-cases-preserved : goal.cull_cases-cases-preserved
cull_cases-cases-preserved t c =
    let x = c.index_mut-case.result.now in
    let i = c.cases.i in
    let now = c.cases.cases.items in
    let y : SwitchCase = record x { body = c.cull_block-body_diverges.new.block } in
    let inside : i < length now = omega (arith, c.args.cases.now.ok.0, c.cases.invariant.0.0.0) in
    let read : (d : SwitchCase) → x ≡ get_or now i d = get_or_read now i x inside c.index_mut-case.ensures.value in (
      CasesMappedTo-next culled c.args.cases.now.items now i x y inside read (record { value = refl; body = c.cull_block-body_diverges.ensures.culled; falls = refl }) c.cases.invariant.0,
      ap (λ b. c.cases.diverge && (x.fall_through || b)) c.cull_block-body_diverges.ensures.diverges
          ∙ cases_diverge-set now i y c.cases.diverge inside c.cases.invariant.1,
    )

pub cull_cases-returns-clause-culled : goal.cull_cases-returns-clause-culled
cull_cases-returns-clause-culled t c =
    let whole : (k : ℕ) → k < length c.args.cases.now.items → k < c.cases.i = λ k q. omega (arith, c.args.cases.now.ok.0) in
    culled_cases-each c.args.cases.now.items c.cases.cases.items c.cases.invariant.0.0.0 (λ k d q. c.cases.invariant.0.1 k d (whole k q))
