use Rattle.std.proofs.Common.{◌≡◌, ◌∙◌, sym, ap, subst, refl, ℕ, suc, ◌<◌, ◌-◌, List, length, get_or, Some, true, false, rules, arith}
use Rattle.std.proofs.lemmas.Bool.{eqb-false}
use Rattle.std.proofs.lemmas.List.{get_or_read}
use Rattle.std.specs.Prelude.{is_some}
use Rattle.std.specs.declared.alloc.Global.{Global}
use Rattle.std.specs.declared.vec.Vec.{Vec}
use Rattle.naga_ir.specs.Block.{pairs}
use Rattle.naga_ir.specs.View.{cases_of, node_of}
use Rattle.naga_ir.specs.Tree.{break, continue, kill, return}
use Rattle.naga_ir.specs.declared.block.Block.{size-Block}
use Rattle.naga_ir.specs.declared.statement.Statement.{size-Statement, the_lemmas}
use Rattle.naga_ir.specs.declared.statement.Statement as variant
use Rattle.naga_ir.specs.declared.statement.Statement.TheBlock as shown
use Rattle.naga_ir.specs.declared.statement.SwitchCase.{SwitchCase}
use Rattle.naga_ir.proofs.SizeBlockLemmas.{size-statement_at}
use Rattle.naga_proc.specs.Closing.{follows, follows_switch, leaves_open}
use Rattle.naga_proc.proofs.Closing.FollowsLemmas.{follows-Block, follows-If, follows-Old, follows-Switch, follows-wider}
use Rattle.naga_proc.proofs.Closing.VisitsLemmas.{Visits-adds, Visits-empty, Visits-jump, Visits-return, Visits-shut, VisitsInside-Block, VisitsInside-If, VisitsInside-Switch, VisitsInside-open, has_no_value-None, has_no_value-Some}
use Rattle.naga_proc.proofs.Closing.VisitedToLemmas.{VisitedFrom-next, VisitedTo, VisitedTo-last, VisitedTo-start, VisitsCase-body, VisitsCase-falling, VisitsCases-none}
use Rattle.naga_proc.proofs.terminator.one_walk.+one_walk.Goals.{walk_cases-then-not-case, walk_cases-else-not-case}
use Rattle.naga_proc.proofs.terminator.one_walk.+one_walk.Goals as goal

-- ---- a block

pub walk_block-returns-in_default : goal.walk_block-returns-in_default
walk_block-returns-in_default t c =
    let l : length (pairs c.args.block.now) ≡ 0 = search rules in
    Visits-empty c.args.rule c.args.walk.now c.add_return.new.self c.args.block.now c.add_return.new.block l c.add_return.ensures.adds c.add_return.ensures.succeeds

pub walk_block-walk_block-requires : goal.walk_block-walk_block-requires
walk_block-walk_block-requires t c =
    let inside : 0 < length (pairs c.args.block.now) = c.in-Some.ensures.some.0 refl in
    let l : length (pairs c.args.block.now) ≡ suc (length (pairs c.args.block.now) - 1) = omega arith in
    let lt : size-Statement c.in-Some.last.now < size-Block c.args.block.now =
    size-statement_at c.args.block.now (length (pairs c.args.block.now) - 1) c.in-Some.last.now c.in-Some.ensures.value
    in
    (search (rules, the_lemmas, lt), tt)

pub walk_block-walk_block-requires-in-If : goal.walk_block-walk_block-requires-in-If
walk_block-walk_block-requires-in-If t c =
    let inside : 0 < length (pairs c.args.block.now) = c.in-Some.ensures.some.0 refl in
    let l : length (pairs c.args.block.now) ≡ suc (length (pairs c.args.block.now) - 1) = omega arith in
    let lt : size-Statement c.in-Some.last.now < size-Block c.args.block.now =
    size-statement_at c.args.block.now (length (pairs c.args.block.now) - 1) c.in-Some.last.now c.in-Some.ensures.value
    in
    (search (rules, the_lemmas, lt), tt)

pub walk_block-walk_block-requires-in-If-2 : goal.walk_block-walk_block-requires-in-If-2
walk_block-walk_block-requires-in-If-2 t c =
    let inside : 0 < length (pairs c.args.block.now) = c.in-Some.ensures.some.0 refl in
    let l : length (pairs c.args.block.now) ≡ suc (length (pairs c.args.block.now) - 1) = omega arith in
    let lt : size-Statement c.in-Some.last.now < size-Block c.args.block.now =
    size-statement_at c.args.block.now (length (pairs c.args.block.now) - 1) c.in-Some.last.now c.in-Some.ensures.value
    in
    (search (rules, the_lemmas, lt), tt)

pub walk_block-walk_cases-requires : goal.walk_block-walk_cases-requires
walk_block-walk_cases-requires t c =
    let inside : 0 < length (pairs c.args.block.now) = c.in-Some.ensures.some.0 refl in
    let l : length (pairs c.args.block.now) ≡ suc (length (pairs c.args.block.now) - 1) = omega arith in
    let lt : size-Statement c.in-Some.last.now < size-Block c.args.block.now =
    size-statement_at c.args.block.now (length (pairs c.args.block.now) - 1) c.in-Some.last.now c.in-Some.ensures.value
    in
    (search (rules, the_lemmas, lt), tt)

pub walk_block-walk_cases-requires-else-follows_switch : goal.walk_block-walk_cases-requires-else-follows_switch
walk_block-walk_cases-requires-else-follows_switch t c =
    let inside : 0 < length (pairs c.args.block.now) = c.in-Some.ensures.some.0 refl in
    let l : length (pairs c.args.block.now) ≡ suc (length (pairs c.args.block.now) - 1) = omega arith in
    let lt : size-Statement c.in-Some.last.now < size-Block c.args.block.now =
    size-statement_at c.args.block.now (length (pairs c.args.block.now) - 1) c.in-Some.last.now c.in-Some.ensures.value
    in
    (search (rules, the_lemmas, lt), tt)

pub walk_block-returns-in-Block : goal.walk_block-returns-in-Block
unfolding variant.out-Statement shown.hidden-the_row-Block-entries-2-0 shown.shape-the_row-Block-entries-2-0 denote.Hole.Carrier.out denote.Hole.Carrier.hidden
walk_block-returns-in-Block t c =
    let inside : 0 < length (pairs c.args.block.now) = c.in-Some.ensures.some.0 refl in
    let l : length (pairs c.args.block.now) ≡ suc (length (pairs c.args.block.now) - 1) = omega arith in
    rw c.in-Block.is (Visits-shut c.args.rule c.args.walk.now c.walk_block.new.walk c.args.block.now (length (pairs c.args.block.now) - 1) (variant.Block c.in-Block.inner) (variant.Block c.walk_block.new.block) l (c.in-Some.ensures.value ∙ ap Some c.in-Block.is) (follows-Block c.args.rule c.in-Block.inner) (VisitsInside-Block c.args.rule c.args.walk.now c.walk_block.new.walk c.in-Block.inner c.walk_block.new.block (rw c.in-Block.inner-is at c.walk_block.ensures)))

pub walk_block-returns-then-leaves_open : goal.walk_block-returns-then-leaves_open
walk_block-returns-then-leaves_open t c =
    let inside : 0 < length (pairs c.args.block.now) = c.in-Some.ensures.some.0 refl in
    let l : length (pairs c.args.block.now) ≡ suc (length (pairs c.args.block.now) - 1) = omega arith in
    let leaves : leaves_open (node_of c.in-Some.last.now) ≡ true = sym c.leaves_open.ensures ∙ c.if-leaves_open.true in
    let gets : follows c.args.rule (node_of c.in-Some.last.now) ≡ true = follows-wider c.args.rule (node_of c.in-Some.last.now) (follows-Old (node_of c.in-Some.last.now) ∙ leaves) in
    Visits-adds c.args.rule c.args.walk.now c.args.walk.now c.add_return-then-leaves_open.new.self c.args.block.now c.add_return-then-leaves_open.new.block (length (pairs c.args.block.now) - 1) c.in-Some.last.now c.in-Some.last.now l c.in-Some.ensures.value gets (VisitsInside-open c.args.rule c.args.walk.now c.in-Some.last.now leaves) c.add_return-then-leaves_open.ensures.adds c.add_return-then-leaves_open.ensures.succeeds

pub walk_block-returns-in-If : goal.walk_block-returns-in-If
unfolding variant.out-Statement shown.hidden-the_row-Block-entries-2-0 shown.shape-the_row-Block-entries-2-0 denote.Hole.Carrier.out denote.Hole.Carrier.hidden
walk_block-returns-in-If t c =
    let inside : 0 < length (pairs c.args.block.now) = c.in-Some.ensures.some.0 refl in
    let l : length (pairs c.args.block.now) ≡ suc (length (pairs c.args.block.now) - 1) = omega arith in
    rw c.in-If.is (Visits-shut c.args.rule c.args.walk.now c.walk_block-in-If-2.new.walk c.args.block.now (length (pairs c.args.block.now) - 1) (variant.If c.in-If.condition c.in-If.accept c.in-If.reject) (variant.If c.in-If.condition c.walk_block-in-If.new.block c.walk_block-in-If-2.new.block) l (c.in-Some.ensures.value ∙ ap Some c.in-If.is) (follows-If c.args.rule c.in-If.condition c.in-If.accept c.in-If.reject) (VisitsInside-If c.args.rule c.args.walk.now c.walk_block-in-If.new.walk c.walk_block-in-If-2.new.walk c.in-If.condition c.in-If.accept c.walk_block-in-If.new.block c.in-If.reject c.walk_block-in-If-2.new.block (rw c.in-If.accept-is at c.walk_block-in-If.ensures) (rw c.in-If.reject-is at c.walk_block-in-If-2.ensures)))

pub walk_block-returns-then-follows_switch : goal.walk_block-returns-then-follows_switch
unfolding variant.out-Statement shown.hidden-the_row-Block-entries-2-0 shown.shape-the_row-Block-entries-2-0 denote.Hole.Carrier.out denote.Hole.Carrier.hidden
walk_block-returns-then-follows_switch t c =
    let inside : 0 < length (pairs c.args.block.now) = c.in-Some.ensures.some.0 refl in
    let l : length (pairs c.args.block.now) ≡ suc (length (pairs c.args.block.now) - 1) = omega arith in
    let found : follows c.args.rule (node_of (variant.Switch c.in-Switch.selector c.in-Switch.cases)) ≡ true = follows-Switch c.args.rule c.in-Switch.selector c.in-Switch.cases ∙ ap (λ (held : Vec SwitchCase Global). follows_switch c.args.rule (cases_of held.items)) (sym c.in-Switch.cases-is) ∙ ap (λ (xs : List SwitchCase). follows_switch c.args.rule (cases_of xs)) (sym c.deref.ensures.value) ∙ sym c.follows_switch.ensures ∙ c.if-follows_switch.true in
    Visits-adds c.args.rule c.args.walk.now c.walk_cases.new.walk c.add_return-then-follows_switch.new.self c.args.block.now c.add_return-then-follows_switch.new.block (length (pairs c.args.block.now) - 1) (variant.Switch c.in-Switch.selector c.in-Switch.cases) (variant.Switch c.in-Switch.selector c.walk_cases.new.cases) l (c.in-Some.ensures.value ∙ ap Some c.in-Switch.is) found (VisitsInside-Switch c.args.rule c.args.walk.now c.walk_cases.new.walk c.in-Switch.selector c.in-Switch.cases c.walk_cases.new.cases (rw c.in-Switch.cases-is at c.walk_cases.ensures)) (rw c.in-Switch.is at c.add_return-then-follows_switch.ensures.adds) c.add_return-then-follows_switch.ensures.succeeds

pub walk_block-returns-else-follows_switch : goal.walk_block-returns-else-follows_switch
unfolding variant.out-Statement shown.hidden-the_row-Block-entries-2-0 shown.shape-the_row-Block-entries-2-0 denote.Hole.Carrier.out denote.Hole.Carrier.hidden
walk_block-returns-else-follows_switch t c =
    let inside : 0 < length (pairs c.args.block.now) = c.in-Some.ensures.some.0 refl in
    let l : length (pairs c.args.block.now) ≡ suc (length (pairs c.args.block.now) - 1) = omega arith in
    let found : follows c.args.rule (node_of (variant.Switch c.in-Switch.selector c.in-Switch.cases)) ≡ false = follows-Switch c.args.rule c.in-Switch.selector c.in-Switch.cases ∙ ap (λ (held : Vec SwitchCase Global). follows_switch c.args.rule (cases_of held.items)) (sym c.in-Switch.cases-is) ∙ ap (λ (xs : List SwitchCase). follows_switch c.args.rule (cases_of xs)) (sym c.deref.ensures.value) ∙ sym c.follows_switch.ensures ∙ c.if-follows_switch.false in
    rw c.in-Switch.is (Visits-shut c.args.rule c.args.walk.now c.walk_cases-else-follows_switch.new.walk c.args.block.now (length (pairs c.args.block.now) - 1) (variant.Switch c.in-Switch.selector c.in-Switch.cases) (variant.Switch c.in-Switch.selector c.walk_cases-else-follows_switch.new.cases) l (c.in-Some.ensures.value ∙ ap Some c.in-Switch.is) found (VisitsInside-Switch c.args.rule c.args.walk.now c.walk_cases-else-follows_switch.new.walk c.in-Switch.selector c.in-Switch.cases c.walk_cases-else-follows_switch.new.cases (rw c.in-Switch.cases-is at c.walk_cases-else-follows_switch.ensures)))

pub walk_block-returns-in-Break : goal.walk_block-returns-in-Break
walk_block-returns-in-Break t c =
    let inside : 0 < length (pairs c.args.block.now) = c.in-Some.ensures.some.0 refl in
    let l : length (pairs c.args.block.now) ≡ suc (length (pairs c.args.block.now) - 1) = omega arith in
    Visits-jump c.args.rule c.args.walk.now c.args.block.now (length (pairs c.args.block.now) - 1) c.in-Some.last.now break l c.in-Some.ensures.value (ap node_of c.in-Break.is) refl

pub walk_block-returns-in-Continue : goal.walk_block-returns-in-Continue
walk_block-returns-in-Continue t c =
    let inside : 0 < length (pairs c.args.block.now) = c.in-Some.ensures.some.0 refl in
    let l : length (pairs c.args.block.now) ≡ suc (length (pairs c.args.block.now) - 1) = omega arith in
    Visits-jump c.args.rule c.args.walk.now c.args.block.now (length (pairs c.args.block.now) - 1) c.in-Some.last.now continue l c.in-Some.ensures.value (ap node_of c.in-Continue.is) refl

pub walk_block-returns-in-Kill : goal.walk_block-returns-in-Kill
walk_block-returns-in-Kill t c =
    let inside : 0 < length (pairs c.args.block.now) = c.in-Some.ensures.some.0 refl in
    let l : length (pairs c.args.block.now) ≡ suc (length (pairs c.args.block.now) - 1) = omega arith in
    Visits-jump c.args.rule c.args.walk.now c.args.block.now (length (pairs c.args.block.now) - 1) c.in-Some.last.now kill l c.in-Some.ensures.value (ap node_of c.in-Kill.is) refl

pub walk_block-returns-then-is_none : goal.walk_block-returns-then-is_none
unfolding variant.out-Statement shown.hidden-the_row-Block-entries-2-0 shown.shape-the_row-Block-entries-2-0 denote.Hole.Carrier.out denote.Hole.Carrier.hidden
walk_block-returns-then-is_none t c =
    let inside : 0 < length (pairs c.args.block.now) = c.in-Some.ensures.some.0 refl in
    let l : length (pairs c.args.block.now) ≡ suc (length (pairs c.args.block.now) - 1) = omega arith in
    let none : is_some c.in-Return.value ≡ false = search rules in
    rw c.in-Return.is (Visits-return c.args.rule c.args.walk.now c.pass_return.new.self c.args.block.now (length (pairs c.args.block.now) - 1) (variant.Return c.in-Return.value) (return c.in-Return.value) l (c.in-Some.ensures.value ∙ ap Some c.in-Return.is) refl (has_no_value-None c.in-Return.value none) c.pass_return.ensures)

pub walk_block-returns-else-is_none : goal.walk_block-returns-else-is_none
unfolding variant.out-Statement shown.hidden-the_row-Block-entries-2-0 shown.shape-the_row-Block-entries-2-0 denote.Hole.Carrier.out denote.Hole.Carrier.hidden
walk_block-returns-else-is_none t c =
    let inside : 0 < length (pairs c.args.block.now) = c.in-Some.ensures.some.0 refl in
    let l : length (pairs c.args.block.now) ≡ suc (length (pairs c.args.block.now) - 1) = omega arith in
    let some : is_some c.in-Return.value ≡ true = search rules in
    rw c.in-Return.is (Visits-jump c.args.rule c.args.walk.now c.args.block.now (length (pairs c.args.block.now) - 1) (variant.Return c.in-Return.value) (return c.in-Return.value) l (c.in-Some.ensures.value ∙ ap Some c.in-Return.is) refl (has_no_value-Some c.in-Return.value some))

-- ---- the cases

pub walk_cases-returns-then-is_empty : goal.walk_cases-returns-then-is_empty
walk_cases-returns-then-is_empty t c =
    let none : length c.args.cases.now.items ≡ 0 = search rules in
    VisitsCases-none c.args.rule c.args.walk.now c.args.cases.now.items none

pub walk_cases-loop-i-init : goal.walk_cases-loop-i-init
walk_cases-loop-i-init t c =
    (search rules, VisitedTo-start c.args.rule c.args.walk.now c.args.cases.now.items)

pub walk_cases-loop-i-preserved : goal.walk_cases-loop-i-preserved
walk_cases-loop-i-preserved t c =
    let x = c.index_mut-case.result.now in
    let i = c.loop-i.i in
    let now = c.loop-i.cases.items in
    let inside : i < length now = omega (arith, c.args.cases.now.ok.0, c.loop-i.invariant.0.0) in
    let read : (d : SwitchCase) → x ≡ get_or now i d = get_or_read now i x inside c.index_mut-case.ensures.value in
    elim c.if-not-case.branch [
      | walk_cases-then-not-case w ↦
          let y : SwitchCase = record x { body = w.walk_block.new.block } in
          VisitedFrom-next c.args.rule c.args.walk.now c.loop-i.walk w.walk_block.new.walk c.args.cases.now.items now i x y c.if-not-case.cases.items c.if-not-case.walk (ap (λ v. v.items) w.cases-is) w.walk-is inside read (VisitsCase-body c.args.rule c.loop-i.walk w.walk_block.new.walk x w.walk_block.new.block w.if-not-case.true w.walk_block.ensures) c.loop-i.invariant.1
      | walk_cases-else-not-case w ↦
          VisitedFrom-next c.args.rule c.args.walk.now c.loop-i.walk c.loop-i.walk c.args.cases.now.items now i x x c.if-not-case.cases.items c.if-not-case.walk (ap (λ v. v.items) w.cases-is) w.walk-is inside read (VisitsCase-falling c.args.rule c.loop-i.walk x w.if-not-case.false) c.loop-i.invariant.1
    ]

pub walk_cases-returns-then-not-end : goal.walk_cases-returns-then-not-end
walk_cases-returns-then-not-end t c =
    let x = c.index_mut-end.result.now in
    let i = c.len-last.result - 1 in
    let now = c.loop-i.cases.items in
    let old = c.args.cases.now.items in
    let some = eqb-false _ _ (sym c.is_empty.ensures ∙ c.if-is_empty.false) in
    let l : length old ≡ suc i = omega (arith, some, c.len-last.ensures, c.args.cases.now.ok.0) in
    let at : c.loop-i.i ≡ i = omega (arith, c.loop-i-test.false, c.loop-i.auto.i-end) in
    let kept : VisitedTo c.args.rule c.args.walk.now old now i c.loop-i.walk = subst (λ (k : ℕ). VisitedTo c.args.rule c.args.walk.now old now k c.loop-i.walk) at c.loop-i.invariant.1 in
    let inside : i < length now = omega (arith, l, kept.same_length) in
    let read : (d : SwitchCase) → x ≡ get_or now i d = get_or_read now i x inside c.index_mut-end.ensures.value in
    let y : SwitchCase = record x { body = c.walk_block-then-not-end.new.block } in
    VisitedTo-last c.args.rule c.args.walk.now c.loop-i.walk c.walk_block-then-not-end.new.walk old now i x y l read (VisitsCase-body c.args.rule c.loop-i.walk c.walk_block-then-not-end.new.walk x c.walk_block-then-not-end.new.block c.if-not-end.true c.walk_block-then-not-end.ensures) kept

pub walk_cases-returns-else-not-end : goal.walk_cases-returns-else-not-end
walk_cases-returns-else-not-end t c =
    let x = c.index_mut-end.result.now in
    let i = c.len-last.result - 1 in
    let now = c.loop-i.cases.items in
    let old = c.args.cases.now.items in
    let some = eqb-false _ _ (sym c.is_empty.ensures ∙ c.if-is_empty.false) in
    let l : length old ≡ suc i = omega (arith, some, c.len-last.ensures, c.args.cases.now.ok.0) in
    let at : c.loop-i.i ≡ i = omega (arith, c.loop-i-test.false, c.loop-i.auto.i-end) in
    let kept : VisitedTo c.args.rule c.args.walk.now old now i c.loop-i.walk = subst (λ (k : ℕ). VisitedTo c.args.rule c.args.walk.now old now k c.loop-i.walk) at c.loop-i.invariant.1 in
    let inside : i < length now = omega (arith, l, kept.same_length) in
    let read : (d : SwitchCase) → x ≡ get_or now i d = get_or_read now i x inside c.index_mut-end.ensures.value in
    VisitedTo-last c.args.rule c.args.walk.now c.loop-i.walk c.loop-i.walk old now i x x l read (VisitsCase-falling c.args.rule c.loop-i.walk x c.if-not-end.false) kept
