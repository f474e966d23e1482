use Rattle.std.proofs.Common.{◌≡◌, ◌∙◌, sym, ap, refl, suc, ◌<◌, ◌≤◌, ◌-◌, length, get_or, rules, arith}
use Rattle.std.proofs.lemmas.List.{get_or_read}
use Rattle.naga_ir.specs.Block.{pairs}
use Rattle.naga_ir.specs.View.{node_of, tree_of}
use Rattle.naga_ir.specs.Tree.{break, continue, kill, return}
use Rattle.naga_ir.specs.declared.block.Block.{size-Block}
use Rattle.naga_ir.specs.declared.statement.Statement.{size-Statement, the_lemmas}
use Rattle.naga_ir.specs.declared.statement.Statement as variant
use Rattle.naga_ir.specs.declared.statement.Statement.TheBlock as shown
use Rattle.naga_ir.specs.declared.statement.SwitchCase.{SwitchCase}
use Rattle.naga_ir.proofs.SizeBlockLemmas.{size-statement_at}
use Rattle.naga_proc.proofs.Closing.TakenToLemmas.{TakenFrom-next, TakenTo-all, TakesBackCase-body, TakesBackCase-falling, at_start}
use Rattle.naga_proc.proofs.Closing.TakesBackTreeOfLemmas.{TakesBack-zero, TakesBackInside-Block, TakesBackInside-If, TakesBackInside-Switch, TakesBackInside-jump, TakesBackInside-open, TakesBackLast-none, TakesBackLast-with, statements-front}
use Rattle.naga_proc.proofs.terminator.one_walk.+take_back.Goals.{take_back_in_cases-then-not-case, take_back_in_cases-else-not-case}
use Rattle.naga_proc.proofs.terminator.one_walk.+take_back.Goals as goal

-- ---- a block

pub take_back-returns-then-left-eq0 : goal.take_back-returns-then-left-eq0
take_back-returns-then-left-eq0 t c =
    let none : c.args.left.now ≡ 0 = search rules in
    TakesBack-zero c.args.left.now (tree_of c.args.block.now) none

pub take_back-take_back_inside-requires : goal.take_back-take_back_inside-requires
take_back-take_back_inside-requires t c =
    let shorter = c.take_back_last.new.block in
    let found = statements-front c.args.block.now shorter c.take_back_last.ensures.front.0 (length (pairs shorter) - 1) c.in-Some.last.now c.take_back_last.ensures.front.1 c.in-Some.ensures.value in
    let lt : size-Statement c.in-Some.last.now < size-Block c.args.block.now = size-statement_at c.args.block.now (length (pairs shorter) - 1) c.in-Some.last.now found in
    (search (rules, the_lemmas, lt), tt)

pub take_back-returns-in_default : goal.take_back-returns-in_default
take_back-returns-in_default t c =
    let l : length (pairs c.take_back_last.new.block) ≡ 0 = search rules in
    c.take_back_last.ensures.takes (tree_of c.take_back_last.new.block) c.take_back_last.new.left (TakesBackLast-none c.take_back_last.new.left c.take_back_last.new.block l)

pub take_back-returns : goal.take_back-returns
take_back-returns t c =
    let shorter = c.take_back_last.new.block in
    let inside : 0 < length (pairs shorter) = c.in-Some.ensures.some.0 refl in
    let l : length (pairs shorter) ≡ suc (length (pairs shorter) - 1) = omega arith in
    c.take_back_last.ensures.takes _ c.take_back_inside.new.left (TakesBackLast-with c.take_back_last.new.left shorter (length (pairs shorter) - 1) c.in-Some.last.now c.take_back_inside.new.statement c.take_back_inside.new.left l c.in-Some.ensures.value c.take_back_inside.ensures)

-- ---- a statement

pub take_back_inside-returns-then-leaves_open : goal.take_back_inside-returns-then-leaves_open
take_back_inside-returns-then-leaves_open t c =
    TakesBackInside-open c.args.left.now c.args.statement.now (sym c.leaves_open.ensures ∙ c.if-leaves_open.true)

pub take_back_inside-returns-in-Block : goal.take_back_inside-returns-in-Block
unfolding variant.out-Statement shown.hidden-the_row-Block-entries-2-0 shown.shape-the_row-Block-entries-2-0 denote.Hole.Carrier.out denote.Hole.Carrier.hidden
take_back_inside-returns-in-Block t c =
    rw c.in-Block.is (TakesBackInside-Block c.args.left.now c.in-Block.inner c.take_back.new.block c.take_back.new.left (rw c.in-Block.inner-is at c.take_back.ensures))

pub take_back_inside-returns-in-If : goal.take_back_inside-returns-in-If
unfolding variant.out-Statement shown.hidden-the_row-Block-entries-2-0 shown.shape-the_row-Block-entries-2-0 denote.Hole.Carrier.out denote.Hole.Carrier.hidden
take_back_inside-returns-in-If t c =
    rw c.in-If.is (TakesBackInside-If c.args.left.now c.in-If.condition c.in-If.accept c.take_back-in-If.new.block c.in-If.reject c.take_back-in-If-2.new.block c.take_back-in-If.new.left c.take_back-in-If-2.new.left (rw c.in-If.accept-is at c.take_back-in-If.ensures) (rw c.in-If.reject-is at c.take_back-in-If-2.ensures))

pub take_back_inside-returns-in-Switch : goal.take_back_inside-returns-in-Switch
unfolding variant.out-Statement shown.hidden-the_row-Block-entries-2-0 shown.shape-the_row-Block-entries-2-0 denote.Hole.Carrier.out denote.Hole.Carrier.hidden
take_back_inside-returns-in-Switch t c =
    rw c.in-Switch.is (TakesBackInside-Switch c.args.left.now c.in-Switch.selector c.in-Switch.cases c.take_back_in_cases.new.cases c.take_back_in_cases.new.left (rw c.in-Switch.cases-is at c.take_back_in_cases.ensures))

pub take_back_inside-returns-in-Break : goal.take_back_inside-returns-in-Break
take_back_inside-returns-in-Break t c =
    TakesBackInside-jump c.args.left.now c.args.statement.now break (ap node_of c.in-Break.is)

pub take_back_inside-returns-in-Continue : goal.take_back_inside-returns-in-Continue
take_back_inside-returns-in-Continue t c =
    TakesBackInside-jump c.args.left.now c.args.statement.now continue (ap node_of c.in-Continue.is)

pub take_back_inside-returns-in-Kill : goal.take_back_inside-returns-in-Kill
take_back_inside-returns-in-Kill t c =
    TakesBackInside-jump c.args.left.now c.args.statement.now kill (ap node_of c.in-Kill.is)

pub take_back_inside-returns-in-Return : goal.take_back_inside-returns-in-Return
take_back_inside-returns-in-Return t c =
    TakesBackInside-jump c.args.left.now c.args.statement.now (return c.in-Return.value) (ap node_of c.in-Return.is)

-- ---- the cases

pub take_back_in_cases-loop-i-init : goal.take_back_in_cases-loop-i-init
take_back_in_cases-loop-i-init t c =
    (search rules, at_start)

pub take_back_in_cases-loop-i-preserved : goal.take_back_in_cases-loop-i-preserved
take_back_in_cases-loop-i-preserved t c =
    let x = c.index_mut-case.result.now in
    let i = c.loop-i.i in
    let now = c.loop-i.cases.items in
    let inside : i < length now = omega (arith, c.args.cases.now.ok.0, c.loop-i.invariant.0.0) in
    let read : (d : SwitchCase) → x ≡ get_or now i d = get_or_read now i x inside c.index_mut-case.ensures.value in
    elim c.if-not-case.branch [
      | take_back_in_cases-then-not-case w ↦
          let y : SwitchCase = record x { body = w.take_back.new.block } in
          TakenFrom-next c.args.left.now c.loop-i.left w.take_back.new.left c.args.cases.now.items now i x y c.if-not-case.cases.items c.if-not-case.left (ap (λ v. v.items) w.cases-is) w.left-is inside read (TakesBackCase-body c.loop-i.left x w.take_back.new.block w.take_back.new.left w.if-not-case.true w.take_back.ensures) c.loop-i.invariant.1
      | take_back_in_cases-else-not-case w ↦
          TakenFrom-next c.args.left.now c.loop-i.left c.loop-i.left c.args.cases.now.items now i x x c.if-not-case.cases.items c.if-not-case.left (ap (λ v. v.items) w.cases-is) w.left-is inside read (TakesBackCase-falling c.loop-i.left x w.if-not-case.false) c.loop-i.invariant.1
    ]

pub take_back_in_cases-returns : goal.take_back_in_cases-returns
take_back_in_cases-returns t c =
    let whole : length c.args.cases.now.items ≤ c.loop-i.i = omega (arith, c.args.cases.now.ok.0, c.loop-i-test.false) in
    TakenTo-all c.args.left.now c.loop-i.left c.args.cases.now.items c.loop-i.cases.items c.loop-i.i whole c.loop-i.invariant.1
