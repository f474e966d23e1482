use Rattle.std.proofs.lemmas.Result.{on_ok_weaker}
use Rattle.std.proofs.Common.{◌≡◌, ◌∙◌, sym, ap, subst, refl, ℕ, suc, ◌<◌, ◌-◌, ◌+◌, List, [], ◌∷◌, length, get_or, Some, true, false, rules, arith}
use Rattle.std.proofs.lemmas.Bool.{eqb-false}
use Rattle.std.proofs.lemmas.List.{get_or_read}
use Rattle.std.proofs.lemmas.Option.{slice_get_read}
use Rattle.std.specs.declared.alloc.Global.{Global}
use Rattle.std.specs.declared.vec.Vec.{Vec}
use Rattle.naga_ir.specs.Block.{pairs}
use Rattle.naga_ir.specs.Tree.{break, continue, kill, return}
use Rattle.naga_ir.specs.View.{cases_of, node_of, tree}
use Rattle.naga_ir.specs.declared.block.Block.{size-Block}
use Rattle.naga_ir.specs.declared.statement.Statement.{size-Statement, the_lemmas}
use Rattle.naga_ir.specs.declared.statement.Statement as variant
use Rattle.naga_ir.specs.declared.statement.Statement.TheBlock as shown
use Rattle.naga_ir.specs.declared.statement.SwitchCase.{SwitchCase}
use Rattle.naga_ir.proofs.SizeBlockLemmas.{size-statement_at}
use Rattle.naga_proc.specs.Closing.{follows, follows_switch, leaves_open}
use Rattle.naga_proc.proofs.Closing.HasRoomInsideLemmas.{HasRoomInside}
use Rattle.naga_proc.specs.declared.terminator.rule.Rule.TheVariants.{Old}
use Rattle.naga_proc.proofs.Closing.FollowsLemmas.{follows-Block, follows-If, follows-Old, follows-Switch, follows-wider}
use Rattle.naga_proc.proofs.Closing.HasRoomAtTailsLemmas.{HasRoomAtTails-from_last, HasRoomAtTails-from_empty, HasRoomAtTails-from_inside, HasRoomAtTails-inside, HasRoomAtTails-at_end, HasRoomAtTails-empty, HasRoomAtTails-jump, HasRoomAtTails-nested}
use Rattle.naga_proc.proofs.Closing.HasRoomInsideLemmas.{HasRoomInside-from_Block, HasRoomInside-from_If, HasRoomInside-from_Switch, HasRoomInside-accept, HasRoomInside-reject, HasRoomInside-shallow, HasRoomInside-Switch, is_shallow-leaves_open}
use Rattle.naga_proc.proofs.Closing.ReservedToLemmas.{ReservedTo, ReservedTo-last, ReservedTo-set}
use Rattle.naga_proc.proofs.Closing.SameNodeLemmas.{again, tree_of-again, SameNode-Block, SameNode-If, SameNode-Switch, tree_of-SameNode, tree_of-nested, cases_of-set, cases_of-body}
use Rattle.naga_proc.proofs.terminator.room.+room.Goals.{reserve_in_cases-then-not-case+in_ok-reserve_in_block, reserve_in_cases-else-not-case}
use Rattle.naga_proc.proofs.terminator.room.+room.Goals as goal

-- ---- a block

pub reserve_in_block-returns-in_default-clause-unchanged : goal.reserve_in_block-returns-in_default-clause-unchanged
reserve_in_block-returns-in_default-clause-unchanged t c =
    ap tree c.reserve_return.ensures.unchanged

pub reserve_in_block-returns-in_default-clause-room : goal.reserve_in_block-returns-in_default-clause-room
reserve_in_block-returns-in_default-clause-room t c =
    let l : length (pairs c.args.block.now) ≡ 0 = search rules in
    on_ok_weaker c.reserve_return.result (HasRoomAtTails-from_empty c.args.rule c.reserve_return.new.block (ap length c.reserve_return.ensures.unchanged ∙ l)) c.reserve_return.ensures.room

pub reserve_in_block-returns-in_default-clause-succeeds : goal.reserve_in_block-returns-in_default-clause-succeeds
reserve_in_block-returns-in_default-clause-succeeds t c =
    λ h.
    let l : length (pairs c.args.block.now) ≡ 0 = search rules in
    c.reserve_return.ensures.succeeds (HasRoomAtTails-empty c.args.rule c.args.block.now l h)

pub reserve_in_block-returns-then-leaves_open-clause-unchanged : goal.reserve_in_block-returns-then-leaves_open-clause-unchanged
reserve_in_block-returns-then-leaves_open-clause-unchanged t c =
    let inside : 0 < length (pairs c.args.block.now) = c.in-Some.ensures.some.0 refl in
    let l : length (pairs c.args.block.now) ≡ suc (length (pairs c.args.block.now) - 1) = omega arith in
    ap tree c.reserve_return-then-leaves_open.ensures.unchanged ∙ tree_of-SameNode c.args.block.now (length (pairs c.args.block.now) - 1) c.in-Some.last.now c.in-Some.last.now l c.in-Some.ensures.value refl

pub reserve_in_block-returns-then-leaves_open-clause-room : goal.reserve_in_block-returns-then-leaves_open-clause-room
reserve_in_block-returns-then-leaves_open-clause-room t c =
    let inside : 0 < length (pairs c.args.block.now) = c.in-Some.ensures.some.0 refl in
    let l : length (pairs c.args.block.now) ≡ suc (length (pairs c.args.block.now) - 1) = omega arith in
    let leaves : leaves_open (node_of c.in-Some.last.now) ≡ true = sym c.leaves_open.ensures ∙ c.if-leaves_open.true in
    on_ok_weaker c.reserve_return-then-leaves_open.result (λ some. HasRoomAtTails-from_last c.args.rule c.args.block.now c.reserve_return-then-leaves_open.new.block (length (pairs c.args.block.now) - 1) c.in-Some.last.now l c.reserve_return-then-leaves_open.ensures.unchanged (HasRoomInside-shallow c.args.rule c.in-Some.last.now (is_shallow-leaves_open (node_of c.in-Some.last.now) leaves)) some) c.reserve_return-then-leaves_open.ensures.room

pub reserve_in_block-returns-then-leaves_open-clause-succeeds : goal.reserve_in_block-returns-then-leaves_open-clause-succeeds
reserve_in_block-returns-then-leaves_open-clause-succeeds t c =
    λ h.
    let inside : 0 < length (pairs c.args.block.now) = c.in-Some.ensures.some.0 refl in
    let l : length (pairs c.args.block.now) ≡ suc (length (pairs c.args.block.now) - 1) = omega arith in
    let leaves : leaves_open (node_of c.in-Some.last.now) ≡ true = sym c.leaves_open.ensures ∙ c.if-leaves_open.true in
    c.reserve_return-then-leaves_open.ensures.succeeds (HasRoomAtTails-at_end c.args.rule c.args.block.now (length (pairs c.args.block.now) - 1) c.in-Some.last.now l c.in-Some.ensures.value (follows-wider c.args.rule (node_of c.in-Some.last.now) (follows-Old (node_of c.in-Some.last.now) ∙ leaves)) h)

pub reserve_in_block-reserve_in_block-requires : goal.reserve_in_block-reserve_in_block-requires
reserve_in_block-reserve_in_block-requires t c =
    let inside : 0 < length (pairs c.args.block.now) = c.in-Some.ensures.some.0 refl in
    let l : length (pairs c.args.block.now) ≡ suc (length (pairs c.args.block.now) - 1) = omega arith in
    let lt : size-Statement c.in-Some.last.now < size-Block c.args.block.now =
    size-statement_at c.args.block.now (length (pairs c.args.block.now) - 1) c.in-Some.last.now c.in-Some.ensures.value
    in
    (search (rules, the_lemmas, lt), tt)

pub reserve_in_block-reserve_in_block-requires-in-If : goal.reserve_in_block-reserve_in_block-requires-in-If
reserve_in_block-reserve_in_block-requires-in-If t c =
    let inside : 0 < length (pairs c.args.block.now) = c.in-Some.ensures.some.0 refl in
    let l : length (pairs c.args.block.now) ≡ suc (length (pairs c.args.block.now) - 1) = omega arith in
    let lt : size-Statement c.in-Some.last.now < size-Block c.args.block.now =
    size-statement_at c.args.block.now (length (pairs c.args.block.now) - 1) c.in-Some.last.now c.in-Some.ensures.value
    in
    (search (rules, the_lemmas, lt), tt)

pub reserve_in_block-reserve_in_block-requires-in-If-2 : goal.reserve_in_block-reserve_in_block-requires-in-If-2
reserve_in_block-reserve_in_block-requires-in-If-2 t c =
    let inside : 0 < length (pairs c.args.block.now) = c.in-Some.ensures.some.0 refl in
    let l : length (pairs c.args.block.now) ≡ suc (length (pairs c.args.block.now) - 1) = omega arith in
    let lt : size-Statement c.in-Some.last.now < size-Block c.args.block.now =
    size-statement_at c.args.block.now (length (pairs c.args.block.now) - 1) c.in-Some.last.now c.in-Some.ensures.value
    in
    (search (rules, the_lemmas, lt), tt)

pub reserve_in_block-reserve_in_last_switch-requires : goal.reserve_in_block-reserve_in_last_switch-requires
reserve_in_block-reserve_in_last_switch-requires t c =
    let inside : 0 < length (pairs c.args.block.now) = c.in-Some.ensures.some.0 refl in
    let l : length (pairs c.args.block.now) ≡ suc (length (pairs c.args.block.now) - 1) = omega arith in
    let lt : size-Statement c.in-Some.last.now < size-Block c.args.block.now =
    size-statement_at c.args.block.now (length (pairs c.args.block.now) - 1) c.in-Some.last.now c.in-Some.ensures.value
    in
    (search (rules, the_lemmas, lt), tt)

pub reserve_in_block-reserve_in_switch-requires : goal.reserve_in_block-reserve_in_switch-requires
reserve_in_block-reserve_in_switch-requires t c =
    let inside : 0 < length (pairs c.args.block.now) = c.in-Some.ensures.some.0 refl in
    let l : length (pairs c.args.block.now) ≡ suc (length (pairs c.args.block.now) - 1) = omega arith in
    let lt : size-Statement c.in-Some.last.now < size-Block c.args.block.now =
    size-statement_at c.args.block.now (length (pairs c.args.block.now) - 1) c.in-Some.last.now c.in-Some.ensures.value
    in
    (search (rules, the_lemmas, lt), tt)

pub reserve_in_block-returns-in-Block-clause-unchanged : goal.reserve_in_block-returns-in-Block-clause-unchanged
unfolding variant.out-Statement shown.hidden-the_row-Block-entries-2-0 shown.shape-the_row-Block-entries-2-0 denote.Hole.Carrier.out denote.Hole.Carrier.hidden
reserve_in_block-returns-in-Block-clause-unchanged t c =
    let inside : 0 < length (pairs c.args.block.now) = c.in-Some.ensures.some.0 refl in
    let l : length (pairs c.args.block.now) ≡ suc (length (pairs c.args.block.now) - 1) = omega arith in
    rw c.in-Block.is (tree_of-nested c.args.block.now (length (pairs c.args.block.now) - 1) c.in-Block.inner c.reserve_in_block.new.block l (c.in-Some.ensures.value ∙ ap Some c.in-Block.is) (rw c.in-Block.inner-is at c.reserve_in_block.ensures.unchanged))

pub reserve_in_block-returns-in-Block-clause-room : goal.reserve_in_block-returns-in-Block-clause-room
unfolding variant.out-Statement shown.hidden-the_row-Block-entries-2-0 shown.shape-the_row-Block-entries-2-0 denote.Hole.Carrier.out denote.Hole.Carrier.hidden
reserve_in_block-returns-in-Block-clause-room t c =
    let inside : 0 < length (pairs c.args.block.now) = c.in-Some.ensures.some.0 refl in
    let l : length (pairs c.args.block.now) ≡ suc (length (pairs c.args.block.now) - 1) = omega arith in
    rw c.in-Block.is (on_ok_weaker c.reserve_in_block.result (λ h. HasRoomAtTails-from_inside c.args.rule c.args.block.now (length (pairs c.args.block.now) - 1) (variant.Block c.in-Block.inner) (variant.Block c.reserve_in_block.new.block) l (c.in-Some.ensures.value ∙ ap Some c.in-Block.is) (follows-Block c.args.rule c.in-Block.inner) (SameNode-Block c.in-Block.inner c.reserve_in_block.new.block (rw c.in-Block.inner-is at c.reserve_in_block.ensures.unchanged)) (HasRoomInside-from_Block c.args.rule c.reserve_in_block.new.block h)) c.reserve_in_block.ensures.room)

pub reserve_in_block-returns-in-Block-clause-succeeds : goal.reserve_in_block-returns-in-Block-clause-succeeds
reserve_in_block-returns-in-Block-clause-succeeds t c =
    λ h.
    let inside : 0 < length (pairs c.args.block.now) = c.in-Some.ensures.some.0 refl in
    let l : length (pairs c.args.block.now) ≡ suc (length (pairs c.args.block.now) - 1) = omega arith in
    c.reserve_in_block.ensures.succeeds (rw c.in-Block.inner-is (HasRoomAtTails-nested c.args.rule c.args.block.now (length (pairs c.args.block.now) - 1) c.in-Block.inner l (c.in-Some.ensures.value ∙ ap Some c.in-Block.is) h))

pub reserve_in_block-returns-in_ok-reserve_in_block-in-If-clause-unchanged : goal.reserve_in_block-returns-in_ok-reserve_in_block-in-If-clause-unchanged
unfolding variant.out-Statement shown.hidden-the_row-Block-entries-2-0 shown.shape-the_row-Block-entries-2-0 denote.Hole.Carrier.out denote.Hole.Carrier.hidden
reserve_in_block-returns-in_ok-reserve_in_block-in-If-clause-unchanged t c =
    let inside : 0 < length (pairs c.args.block.now) = c.in-Some.ensures.some.0 refl in
    let l : length (pairs c.args.block.now) ≡ suc (length (pairs c.args.block.now) - 1) = omega arith in
    rw c.in-If.is (tree_of-SameNode c.args.block.now (length (pairs c.args.block.now) - 1) (variant.If c.in-If.condition c.in-If.accept c.in-If.reject) (variant.If c.in-If.condition c.reserve_in_block-in-If.new.block c.reserve_in_block-in-If-2.new.block) l (c.in-Some.ensures.value ∙ ap Some c.in-If.is) (SameNode-If c.in-If.condition c.in-If.accept c.reserve_in_block-in-If.new.block c.in-If.reject c.reserve_in_block-in-If-2.new.block (rw c.in-If.accept-is at c.in_ok-reserve_in_block-in-If.ensures.unchanged) (rw c.in-If.reject-is at c.reserve_in_block-in-If-2.ensures.unchanged)))

pub reserve_in_block-returns-in_ok-reserve_in_block-in-If-clause-room : goal.reserve_in_block-returns-in_ok-reserve_in_block-in-If-clause-room
unfolding variant.out-Statement shown.hidden-the_row-Block-entries-2-0 shown.shape-the_row-Block-entries-2-0 denote.Hole.Carrier.out denote.Hole.Carrier.hidden
reserve_in_block-returns-in_ok-reserve_in_block-in-If-clause-room t c =
    let inside : 0 < length (pairs c.args.block.now) = c.in-Some.ensures.some.0 refl in
    let l : length (pairs c.args.block.now) ≡ suc (length (pairs c.args.block.now) - 1) = omega arith in
    rw c.in-If.is (on_ok_weaker c.reserve_in_block-in-If-2.result (λ h. HasRoomAtTails-from_inside c.args.rule c.args.block.now (length (pairs c.args.block.now) - 1) (variant.If c.in-If.condition c.in-If.accept c.in-If.reject) (variant.If c.in-If.condition c.reserve_in_block-in-If.new.block c.reserve_in_block-in-If-2.new.block) l (c.in-Some.ensures.value ∙ ap Some c.in-If.is) (follows-If c.args.rule c.in-If.condition c.in-If.accept c.in-If.reject) (SameNode-If c.in-If.condition c.in-If.accept c.reserve_in_block-in-If.new.block c.in-If.reject c.reserve_in_block-in-If-2.new.block (rw c.in-If.accept-is at c.in_ok-reserve_in_block-in-If.ensures.unchanged) (rw c.in-If.reject-is at c.reserve_in_block-in-If-2.ensures.unchanged)) (HasRoomInside-from_If c.args.rule c.in-If.condition c.reserve_in_block-in-If.new.block c.reserve_in_block-in-If-2.new.block c.in_ok-reserve_in_block-in-If.ensures.room h)) c.reserve_in_block-in-If-2.ensures.room)

pub reserve_in_block-returns-in_ok-reserve_in_block-in-If-clause-succeeds : goal.reserve_in_block-returns-in_ok-reserve_in_block-in-If-clause-succeeds
reserve_in_block-returns-in_ok-reserve_in_block-in-If-clause-succeeds t c =
    λ h.
    let inside : 0 < length (pairs c.args.block.now) = c.in-Some.ensures.some.0 refl in
    let l : length (pairs c.args.block.now) ≡ suc (length (pairs c.args.block.now) - 1) = omega arith in
    let room : HasRoomInside c.args.rule (variant.If c.in-If.condition c.in-If.accept c.in-If.reject) = subst (HasRoomInside c.args.rule) c.in-If.is (HasRoomAtTails-inside c.args.rule c.args.block.now (length (pairs c.args.block.now) - 1) c.in-Some.last.now l c.in-Some.ensures.value h) in
    c.reserve_in_block-in-If-2.ensures.succeeds (rw c.in-If.reject-is (HasRoomInside-reject c.args.rule c.in-If.condition c.in-If.accept c.in-If.reject room))

-- the second branch has not been written yet
pub reserve_in_block-returns-in_err-reserve_in_block-in-If-clause-unchanged : goal.reserve_in_block-returns-in_err-reserve_in_block-in-If-clause-unchanged
unfolding variant.out-Statement shown.hidden-the_row-Block-entries-2-0 shown.shape-the_row-Block-entries-2-0 denote.Hole.Carrier.out denote.Hole.Carrier.hidden
reserve_in_block-returns-in_err-reserve_in_block-in-If-clause-unchanged t c =
    let inside : 0 < length (pairs c.args.block.now) = c.in-Some.ensures.some.0 refl in
    let l : length (pairs c.args.block.now) ≡ suc (length (pairs c.args.block.now) - 1) = omega arith in
    rw c.in-If.is (tree_of-SameNode c.args.block.now (length (pairs c.args.block.now) - 1) (variant.If c.in-If.condition c.in-If.accept c.in-If.reject) (variant.If c.in-If.condition c.reserve_in_block-in-If.new.block (again c.in-If.reject)) l (c.in-Some.ensures.value ∙ ap Some c.in-If.is) (SameNode-If c.in-If.condition c.in-If.accept c.reserve_in_block-in-If.new.block c.in-If.reject (again c.in-If.reject) (rw c.in-If.accept-is at c.in_err-reserve_in_block-in-If.ensures.unchanged) (tree_of-again c.in-If.reject)))

pub reserve_in_block-returns-in_err-reserve_in_block-in-If-clause-succeeds : goal.reserve_in_block-returns-in_err-reserve_in_block-in-If-clause-succeeds
reserve_in_block-returns-in_err-reserve_in_block-in-If-clause-succeeds t c =
    λ h.
    let inside : 0 < length (pairs c.args.block.now) = c.in-Some.ensures.some.0 refl in
    let l : length (pairs c.args.block.now) ≡ suc (length (pairs c.args.block.now) - 1) = omega arith in
    let room : HasRoomInside c.args.rule (variant.If c.in-If.condition c.in-If.accept c.in-If.reject) = subst (HasRoomInside c.args.rule) c.in-If.is (HasRoomAtTails-inside c.args.rule c.args.block.now (length (pairs c.args.block.now) - 1) c.in-Some.last.now l c.in-Some.ensures.value h) in
    absurd (cc (c.in_err-reserve_in_block-in-If.ensures.succeeds (rw c.in-If.accept-is (HasRoomInside-accept c.args.rule c.in-If.condition c.in-If.accept c.in-If.reject room))))

pub reserve_in_block-returns-in-Old-clause-unchanged : goal.reserve_in_block-returns-in-Old-clause-unchanged
unfolding variant.out-Statement shown.hidden-the_row-Block-entries-2-0 shown.shape-the_row-Block-entries-2-0 denote.Hole.Carrier.out denote.Hole.Carrier.hidden
reserve_in_block-returns-in-Old-clause-unchanged t c =
    let inside : 0 < length (pairs c.args.block.now) = c.in-Some.ensures.some.0 refl in
    let l : length (pairs c.args.block.now) ≡ suc (length (pairs c.args.block.now) - 1) = omega arith in
    rw c.in-Switch.is (tree_of-SameNode c.args.block.now (length (pairs c.args.block.now) - 1) (variant.Switch c.in-Switch.selector c.in-Switch.cases) (variant.Switch c.in-Switch.selector c.reserve_in_last_switch.new.cases) l (c.in-Some.ensures.value ∙ ap Some c.in-Switch.is) (SameNode-Switch c.in-Switch.selector c.in-Switch.cases c.reserve_in_last_switch.new.cases (rw c.in-Switch.cases-is at c.reserve_in_last_switch.ensures.unchanged)))

pub reserve_in_block-returns-in-Old-clause-room : goal.reserve_in_block-returns-in-Old-clause-room
unfolding variant.out-Statement shown.hidden-the_row-Block-entries-2-0 shown.shape-the_row-Block-entries-2-0 denote.Hole.Carrier.out denote.Hole.Carrier.hidden
reserve_in_block-returns-in-Old-clause-room t c =
    let inside : 0 < length (pairs c.args.block.now) = c.in-Some.ensures.some.0 refl in
    let l : length (pairs c.args.block.now) ≡ suc (length (pairs c.args.block.now) - 1) = omega arith in
    let shut : follows c.args.rule (node_of (variant.Switch c.in-Switch.selector c.in-Switch.cases)) ≡ false = ap (λ rule. follows rule (node_of (variant.Switch c.in-Switch.selector c.in-Switch.cases))) c.in-Old.is ∙ follows-Switch Old c.in-Switch.selector c.in-Switch.cases in
    rw c.in-Switch.is (on_ok_weaker c.reserve_in_last_switch.result (λ h. HasRoomAtTails-from_inside c.args.rule c.args.block.now (length (pairs c.args.block.now) - 1) (variant.Switch c.in-Switch.selector c.in-Switch.cases) (variant.Switch c.in-Switch.selector c.reserve_in_last_switch.new.cases) l (c.in-Some.ensures.value ∙ ap Some c.in-Switch.is) shut (SameNode-Switch c.in-Switch.selector c.in-Switch.cases c.reserve_in_last_switch.new.cases (rw c.in-Switch.cases-is at c.reserve_in_last_switch.ensures.unchanged)) (HasRoomInside-from_Switch c.args.rule c.in-Switch.selector c.reserve_in_last_switch.new.cases h)) c.reserve_in_last_switch.ensures.room)

pub reserve_in_block-returns-in-Old-clause-succeeds : goal.reserve_in_block-returns-in-Old-clause-succeeds
reserve_in_block-returns-in-Old-clause-succeeds t c =
    λ h.
    let inside : 0 < length (pairs c.args.block.now) = c.in-Some.ensures.some.0 refl in
    let l : length (pairs c.args.block.now) ≡ suc (length (pairs c.args.block.now) - 1) = omega arith in
    c.reserve_in_last_switch.ensures.succeeds (rw c.in-Switch.cases-is (HasRoomInside-Switch c.args.rule c.in-Switch.selector c.in-Switch.cases (subst (HasRoomInside c.args.rule) c.in-Switch.is (HasRoomAtTails-inside c.args.rule c.args.block.now (length (pairs c.args.block.now) - 1) c.in-Some.last.now l c.in-Some.ensures.value h))))

pub reserve_in_block-returns-in_err-follows-in-New-clause-unchanged : goal.reserve_in_block-returns-in_err-follows-in-New-clause-unchanged
unfolding variant.out-Statement shown.hidden-the_row-Block-entries-2-0 shown.shape-the_row-Block-entries-2-0 denote.Hole.Carrier.out denote.Hole.Carrier.hidden
reserve_in_block-returns-in_err-follows-in-New-clause-unchanged t c =
    let inside : 0 < length (pairs c.args.block.now) = c.in-Some.ensures.some.0 refl in
    let l : length (pairs c.args.block.now) ≡ suc (length (pairs c.args.block.now) - 1) = omega arith in
    rw c.in-Switch.is (tree_of-SameNode c.args.block.now (length (pairs c.args.block.now) - 1) (variant.Switch c.in-Switch.selector c.in-Switch.cases) (variant.Switch c.in-Switch.selector c.reserve_in_switch.new.cases) l (c.in-Some.ensures.value ∙ ap Some c.in-Switch.is) (SameNode-Switch c.in-Switch.selector c.in-Switch.cases c.reserve_in_switch.new.cases (rw c.in-Switch.cases-is at c.in_err-follows-in-New.ensures.unchanged)))

pub reserve_in_block-returns-in_err-follows-in-New-clause-succeeds : goal.reserve_in_block-returns-in_err-follows-in-New-clause-succeeds
reserve_in_block-returns-in_err-follows-in-New-clause-succeeds t c =
    λ h.
    let inside : 0 < length (pairs c.args.block.now) = c.in-Some.ensures.some.0 refl in
    let l : length (pairs c.args.block.now) ≡ suc (length (pairs c.args.block.now) - 1) = omega arith in
    absurd (cc (c.in_err-follows-in-New.ensures.succeeds (rw c.in-Switch.cases-is (HasRoomInside-Switch c.args.rule c.in-Switch.selector c.in-Switch.cases (subst (HasRoomInside c.args.rule) c.in-Switch.is (HasRoomAtTails-inside c.args.rule c.args.block.now (length (pairs c.args.block.now) - 1) c.in-Some.last.now l c.in-Some.ensures.value h))))))

pub reserve_in_block-returns-then-follows-clause-unchanged : goal.reserve_in_block-returns-then-follows-clause-unchanged
unfolding variant.out-Statement shown.hidden-the_row-Block-entries-2-0 shown.shape-the_row-Block-entries-2-0 denote.Hole.Carrier.out denote.Hole.Carrier.hidden
reserve_in_block-returns-then-follows-clause-unchanged t c =
    let inside : 0 < length (pairs c.args.block.now) = c.in-Some.ensures.some.0 refl in
    let l : length (pairs c.args.block.now) ≡ suc (length (pairs c.args.block.now) - 1) = omega arith in
    ap tree (rw c.in-Switch.is at c.reserve_return-then-follows.ensures.unchanged) ∙ tree_of-SameNode c.args.block.now (length (pairs c.args.block.now) - 1) (variant.Switch c.in-Switch.selector c.in-Switch.cases) (variant.Switch c.in-Switch.selector c.reserve_in_switch.new.cases) l (c.in-Some.ensures.value ∙ ap Some c.in-Switch.is) (SameNode-Switch c.in-Switch.selector c.in-Switch.cases c.reserve_in_switch.new.cases (rw c.in-Switch.cases-is at c.in_ok-follows-in-New.ensures.unchanged))

pub reserve_in_block-returns-then-follows-clause-room : goal.reserve_in_block-returns-then-follows-clause-room
unfolding variant.out-Statement shown.hidden-the_row-Block-entries-2-0 shown.shape-the_row-Block-entries-2-0 denote.Hole.Carrier.out denote.Hole.Carrier.hidden
reserve_in_block-returns-then-follows-clause-room t c =
    let inside : 0 < length (pairs c.args.block.now) = c.in-Some.ensures.some.0 refl in
    let l : length (pairs c.args.block.now) ≡ suc (length (pairs c.args.block.now) - 1) = omega arith in
    on_ok_weaker c.reserve_return-then-follows.result (λ some. HasRoomAtTails-from_last c.args.rule c.args.block.now c.reserve_return-then-follows.new.block (length (pairs c.args.block.now) - 1) (variant.Switch c.in-Switch.selector c.reserve_in_switch.new.cases) l (rw c.in-Switch.is at c.reserve_return-then-follows.ensures.unchanged) (HasRoomInside-from_Switch c.args.rule c.in-Switch.selector c.reserve_in_switch.new.cases c.in_ok-follows-in-New.ensures.room) some) c.reserve_return-then-follows.ensures.room

pub reserve_in_block-returns-then-follows-clause-succeeds : goal.reserve_in_block-returns-then-follows-clause-succeeds
reserve_in_block-returns-then-follows-clause-succeeds t c =
    λ h.
    let inside : 0 < length (pairs c.args.block.now) = c.in-Some.ensures.some.0 refl in
    let l : length (pairs c.args.block.now) ≡ suc (length (pairs c.args.block.now) - 1) = omega arith in
    let found : follows c.args.rule (node_of c.in-Some.last.now) ≡ true = ap (λ s. follows c.args.rule (node_of s)) c.in-Switch.is ∙ follows-Switch c.args.rule c.in-Switch.selector c.in-Switch.cases ∙ ap (λ (held : Vec SwitchCase Global). follows_switch c.args.rule (cases_of held.items)) (sym c.in-Switch.cases-is) ∙ sym c.in_ok-follows-in-New.ensures.follows ∙ c.if-follows.true in
    c.reserve_return-then-follows.ensures.succeeds (HasRoomAtTails-at_end c.args.rule c.args.block.now (length (pairs c.args.block.now) - 1) c.in-Some.last.now l c.in-Some.ensures.value found h)

pub reserve_in_block-returns-else-follows-clause-unchanged : goal.reserve_in_block-returns-else-follows-clause-unchanged
unfolding variant.out-Statement shown.hidden-the_row-Block-entries-2-0 shown.shape-the_row-Block-entries-2-0 denote.Hole.Carrier.out denote.Hole.Carrier.hidden
reserve_in_block-returns-else-follows-clause-unchanged t c =
    let inside : 0 < length (pairs c.args.block.now) = c.in-Some.ensures.some.0 refl in
    let l : length (pairs c.args.block.now) ≡ suc (length (pairs c.args.block.now) - 1) = omega arith in
    rw c.in-Switch.is (tree_of-SameNode c.args.block.now (length (pairs c.args.block.now) - 1) (variant.Switch c.in-Switch.selector c.in-Switch.cases) (variant.Switch c.in-Switch.selector c.reserve_in_switch.new.cases) l (c.in-Some.ensures.value ∙ ap Some c.in-Switch.is) (SameNode-Switch c.in-Switch.selector c.in-Switch.cases c.reserve_in_switch.new.cases (rw c.in-Switch.cases-is at c.in_ok-follows-in-New.ensures.unchanged)))

pub reserve_in_block-returns-else-follows-clause-room : goal.reserve_in_block-returns-else-follows-clause-room
unfolding variant.out-Statement shown.hidden-the_row-Block-entries-2-0 shown.shape-the_row-Block-entries-2-0 denote.Hole.Carrier.out denote.Hole.Carrier.hidden
reserve_in_block-returns-else-follows-clause-room t c =
    let inside : 0 < length (pairs c.args.block.now) = c.in-Some.ensures.some.0 refl in
    let l : length (pairs c.args.block.now) ≡ suc (length (pairs c.args.block.now) - 1) = omega arith in
    let found : follows c.args.rule (node_of (variant.Switch c.in-Switch.selector c.in-Switch.cases)) ≡ false = follows-Switch c.args.rule c.in-Switch.selector c.in-Switch.cases ∙ ap (λ (held : Vec SwitchCase Global). follows_switch c.args.rule (cases_of held.items)) (sym c.in-Switch.cases-is) ∙ sym c.in_ok-follows-in-New.ensures.follows ∙ c.if-follows.false in
    rw c.in-Switch.is (HasRoomAtTails-from_inside c.args.rule c.args.block.now (length (pairs c.args.block.now) - 1) (variant.Switch c.in-Switch.selector c.in-Switch.cases) (variant.Switch c.in-Switch.selector c.reserve_in_switch.new.cases) l (c.in-Some.ensures.value ∙ ap Some c.in-Switch.is) found (SameNode-Switch c.in-Switch.selector c.in-Switch.cases c.reserve_in_switch.new.cases (rw c.in-Switch.cases-is at c.in_ok-follows-in-New.ensures.unchanged)) (HasRoomInside-from_Switch c.args.rule c.in-Switch.selector c.reserve_in_switch.new.cases c.in_ok-follows-in-New.ensures.room))

pub reserve_in_block-returns-in-Break-clause-unchanged : goal.reserve_in_block-returns-in-Break-clause-unchanged
reserve_in_block-returns-in-Break-clause-unchanged t c =
    let inside : 0 < length (pairs c.args.block.now) = c.in-Some.ensures.some.0 refl in
    let l : length (pairs c.args.block.now) ≡ suc (length (pairs c.args.block.now) - 1) = omega arith in
    tree_of-SameNode c.args.block.now (length (pairs c.args.block.now) - 1) c.in-Some.last.now c.in-Some.last.now l c.in-Some.ensures.value refl

pub reserve_in_block-returns-in-Break-clause-room : goal.reserve_in_block-returns-in-Break-clause-room
reserve_in_block-returns-in-Break-clause-room t c =
    let inside : 0 < length (pairs c.args.block.now) = c.in-Some.ensures.some.0 refl in
    let l : length (pairs c.args.block.now) ≡ suc (length (pairs c.args.block.now) - 1) = omega arith in
    HasRoomAtTails-jump c.args.rule c.args.block.now (length (pairs c.args.block.now) - 1) c.in-Some.last.now break l c.in-Some.ensures.value (ap node_of c.in-Break.is)

pub reserve_in_block-returns-in-Continue-clause-unchanged : goal.reserve_in_block-returns-in-Continue-clause-unchanged
reserve_in_block-returns-in-Continue-clause-unchanged t c =
    let inside : 0 < length (pairs c.args.block.now) = c.in-Some.ensures.some.0 refl in
    let l : length (pairs c.args.block.now) ≡ suc (length (pairs c.args.block.now) - 1) = omega arith in
    tree_of-SameNode c.args.block.now (length (pairs c.args.block.now) - 1) c.in-Some.last.now c.in-Some.last.now l c.in-Some.ensures.value refl

pub reserve_in_block-returns-in-Continue-clause-room : goal.reserve_in_block-returns-in-Continue-clause-room
reserve_in_block-returns-in-Continue-clause-room t c =
    let inside : 0 < length (pairs c.args.block.now) = c.in-Some.ensures.some.0 refl in
    let l : length (pairs c.args.block.now) ≡ suc (length (pairs c.args.block.now) - 1) = omega arith in
    HasRoomAtTails-jump c.args.rule c.args.block.now (length (pairs c.args.block.now) - 1) c.in-Some.last.now continue l c.in-Some.ensures.value (ap node_of c.in-Continue.is)

pub reserve_in_block-returns-in-Return-clause-unchanged : goal.reserve_in_block-returns-in-Return-clause-unchanged
reserve_in_block-returns-in-Return-clause-unchanged t c =
    let inside : 0 < length (pairs c.args.block.now) = c.in-Some.ensures.some.0 refl in
    let l : length (pairs c.args.block.now) ≡ suc (length (pairs c.args.block.now) - 1) = omega arith in
    tree_of-SameNode c.args.block.now (length (pairs c.args.block.now) - 1) c.in-Some.last.now c.in-Some.last.now l c.in-Some.ensures.value refl

pub reserve_in_block-returns-in-Return-clause-room : goal.reserve_in_block-returns-in-Return-clause-room
reserve_in_block-returns-in-Return-clause-room t c =
    let inside : 0 < length (pairs c.args.block.now) = c.in-Some.ensures.some.0 refl in
    let l : length (pairs c.args.block.now) ≡ suc (length (pairs c.args.block.now) - 1) = omega arith in
    HasRoomAtTails-jump c.args.rule c.args.block.now (length (pairs c.args.block.now) - 1) c.in-Some.last.now (return c.in-Return.value) l c.in-Some.ensures.value (ap node_of c.in-Return.is)

pub reserve_in_block-returns-in-Kill-clause-unchanged : goal.reserve_in_block-returns-in-Kill-clause-unchanged
reserve_in_block-returns-in-Kill-clause-unchanged t c =
    let inside : 0 < length (pairs c.args.block.now) = c.in-Some.ensures.some.0 refl in
    let l : length (pairs c.args.block.now) ≡ suc (length (pairs c.args.block.now) - 1) = omega arith in
    tree_of-SameNode c.args.block.now (length (pairs c.args.block.now) - 1) c.in-Some.last.now c.in-Some.last.now l c.in-Some.ensures.value refl

pub reserve_in_block-returns-in-Kill-clause-room : goal.reserve_in_block-returns-in-Kill-clause-room
reserve_in_block-returns-in-Kill-clause-room t c =
    let inside : 0 < length (pairs c.args.block.now) = c.in-Some.ensures.some.0 refl in
    let l : length (pairs c.args.block.now) ≡ suc (length (pairs c.args.block.now) - 1) = omega arith in
    HasRoomAtTails-jump c.args.rule c.args.block.now (length (pairs c.args.block.now) - 1) c.in-Some.last.now kill l c.in-Some.ensures.value (ap node_of c.in-Kill.is)

-- ---- the cases

pub reserve_in_cases-returns-in_err-reserve_in_block-clause-unchanged : goal.reserve_in_cases-returns-in_err-reserve_in_block-clause-unchanged
reserve_in_cases-returns-in_err-reserve_in_block-clause-unchanged t c =
    let x = c.index_mut-case.result.now in
    let i = c.loop-i.i in
    let now = c.loop-i.cases.items in
    let inside : i < length now = omega (arith, c.args.cases.now.ok.0, c.loop-i.invariant.0.0) in
    let read : (d : SwitchCase) → x ≡ get_or now i d = get_or_read now i x inside c.index_mut-case.ensures.value in
    let y : SwitchCase = record x { body = c.reserve_in_block.new.block } in
    cases_of-set now i y inside (λ d. cases_of-body x c.reserve_in_block.new.block c.in_err-reserve_in_block.ensures.unchanged ∙ ap (λ (z : SwitchCase). cases_of (z ∷ [])) (read d)) ∙ c.loop-i.invariant.1

pub reserve_in_cases-returns-in_err-reserve_in_block-clause-succeeds : goal.reserve_in_cases-returns-in_err-reserve_in_block-clause-succeeds
reserve_in_cases-returns-in_err-reserve_in_block-clause-succeeds t c =
    λ h.
    let x = c.index_mut-case.result.now in
    let i = c.loop-i.i in
    let now = c.loop-i.cases.items in
    let old = c.args.cases.now.items in
    let inside : i < length now = omega (arith, c.args.cases.now.ok.0, c.loop-i.invariant.0.0) in
    let within : i < length old = omega (arith, c.loop-i.invariant.0.0) in
    let same : x ≡ get_or old i x = get_or_read now i x inside c.index_mut-case.ensures.value x ∙ c.loop-i.invariant.0.1 i x (omega arith) in
    absurd (cc (c.in_err-reserve_in_block.ensures.succeeds (h i x (slice_get_read old (length old) i x refl within same) c.if-not-case.true)))

pub reserve_in_cases-loop-i-preserved : goal.reserve_in_cases-loop-i-preserved
reserve_in_cases-loop-i-preserved t c =
    let x = c.index_mut-case.result.now in
    let i = c.loop-i.i in
    let now = c.loop-i.cases.items in
    let inside : i < length now = omega (arith, c.args.cases.now.ok.0, c.loop-i.invariant.0.0) in
    let read : (d : SwitchCase) → x ≡ get_or now i d = get_or_read now i x inside c.index_mut-case.ensures.value in
    elim c.if-not-case.branch [
      | reserve_in_cases-then-not-case+in_ok-reserve_in_block w ↦
          let y : SwitchCase = record x { body = w.reserve_in_block.new.block } in
          subst (λ (zs : List SwitchCase). ReservedTo c.args.rule c.args.cases.now.items zs (i + 1)) (sym (ap (λ v. v.items) w.cases-is)) (ReservedTo-set c.args.rule c.args.cases.now.items now i x y inside read (cases_of-body x w.reserve_in_block.new.block w.in_ok-reserve_in_block.ensures.unchanged) (λ stays. w.in_ok-reserve_in_block.ensures.room) c.loop-i.invariant)
      | reserve_in_cases-else-not-case w ↦
          subst (λ (zs : List SwitchCase). ReservedTo c.args.rule c.args.cases.now.items zs (i + 1)) (sym (ap (λ v. v.items) w.cases-is)) (ReservedTo-set c.args.rule c.args.cases.now.items now i x x inside read refl (λ stays. absurd (cc (stays, w.if-not-case.false))) c.loop-i.invariant)
    ]

pub reserve_in_cases-returns-clause-room : goal.reserve_in_cases-returns-clause-room
reserve_in_cases-returns-clause-room t c =
    let x = c.index_mut-end.result.now in
    let i = c.len-last.result - 1 in
    let now = c.loop-i.cases.items in
    let old = c.args.cases.now.items in
    let some = eqb-false _ _ (sym c.is_empty.ensures ∙ c.if-is_empty.false) in
    let l : length old ≡ suc i = omega (arith, some, c.len-last.ensures, c.args.cases.now.ok.0) in
    let at : c.loop-i.i ≡ i = omega (arith, c.loop-i-test.false, c.loop-i.auto.i-end) in
    let kept : ReservedTo c.args.rule old now i = subst (λ (k : ℕ). ReservedTo c.args.rule old now k) at c.loop-i.invariant in
    let inside : i < length now = omega (arith, l, kept.0.0) in
    let read : (d : SwitchCase) → x ≡ get_or now i d = get_or_read now i x inside c.index_mut-end.ensures.value in
    let y : SwitchCase = record x { body = c.reserve_in_block-2.new.block } in
    on_ok_weaker c.reserve_in_block-2.result (λ h. ReservedTo-last c.args.rule old now i x y l read (cases_of-body x c.reserve_in_block-2.new.block c.reserve_in_block-2.ensures.unchanged) (λ stays. h) kept) c.reserve_in_block-2.ensures.room

pub reserve_in_cases-returns-clause-unchanged : goal.reserve_in_cases-returns-clause-unchanged
reserve_in_cases-returns-clause-unchanged t c =
    let x = c.index_mut-end.result.now in
    let i = c.len-last.result - 1 in
    let now = c.loop-i.cases.items in
    let old = c.args.cases.now.items in
    let some = eqb-false _ _ (sym c.is_empty.ensures ∙ c.if-is_empty.false) in
    let l : length old ≡ suc i = omega (arith, some, c.len-last.ensures, c.args.cases.now.ok.0) in
    let at : c.loop-i.i ≡ i = omega (arith, c.loop-i-test.false, c.loop-i.auto.i-end) in
    let kept : ReservedTo c.args.rule old now i = subst (λ (k : ℕ). ReservedTo c.args.rule old now k) at c.loop-i.invariant in
    let inside : i < length now = omega (arith, l, kept.0.0) in
    let read : (d : SwitchCase) → x ≡ get_or now i d = get_or_read now i x inside c.index_mut-end.ensures.value in
    let y : SwitchCase = record x { body = c.reserve_in_block-2.new.block } in
    cases_of-set now i y inside (λ d. cases_of-body x c.reserve_in_block-2.new.block c.reserve_in_block-2.ensures.unchanged ∙ ap (λ (z : SwitchCase). cases_of (z ∷ [])) (read d)) ∙ kept.1

pub reserve_in_cases-returns-clause-succeeds : goal.reserve_in_cases-returns-clause-succeeds
reserve_in_cases-returns-clause-succeeds t c =
    λ h.
    let x = c.index_mut-end.result.now in
    let i = c.len-last.result - 1 in
    let now = c.loop-i.cases.items in
    let old = c.args.cases.now.items in
    let some = eqb-false _ _ (sym c.is_empty.ensures ∙ c.if-is_empty.false) in
    let l : length old ≡ suc i = omega (arith, some, c.len-last.ensures, c.args.cases.now.ok.0) in
    let at : c.loop-i.i ≡ i = omega (arith, c.loop-i-test.false, c.loop-i.auto.i-end) in
    let kept : ReservedTo c.args.rule old now i = subst (λ (k : ℕ). ReservedTo c.args.rule old now k) at c.loop-i.invariant in
    let inside : i < length now = omega (arith, l, kept.0.0) in
    let read : (d : SwitchCase) → x ≡ get_or now i d = get_or_read now i x inside c.index_mut-end.ensures.value in
    let within : i < length old = omega (arith, l) in
    let same : x ≡ get_or old i x = read x ∙ kept.0.1 i x (omega arith) in
    c.reserve_in_block-2.ensures.succeeds (h i x (slice_get_read old (length old) i x refl within same) c.if-end.false)
