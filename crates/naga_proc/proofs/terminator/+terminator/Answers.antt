use Rattle.std.proofs.Common.{◌≡◌, ◌∙◌, sym, ap, subst, refl, ℕ, suc, ◌<◌, ◌-◌, ◌+◌, List, length, get_or, Some, true, false, rules, arith}
use Rattle.std.proofs.lemmas.Bool.{eqb-false}
use Rattle.std.proofs.lemmas.List.{get_or_read}
use Rattle.std.specs.declared.alloc.Global.{Global}
use Rattle.std.specs.declared.vec.Vec.{Vec}
use Rattle.naga_ir.specs.Block.{pairs}
use Rattle.naga_ir.specs.View.{cases_of, node_of}
use Rattle.naga_ir.specs.Tree.{break, continue, kill, return}
use Rattle.naga_ir.specs.declared.block.Block.{size-Block}
use Rattle.naga_ir.specs.declared.statement.Statement.{size-Statement, the_lemmas}
use Rattle.naga_ir.specs.declared.statement.Statement as variant
use Rattle.naga_ir.specs.declared.statement.Statement.TheBlock as shown
use Rattle.naga_ir.specs.declared.statement.SwitchCase.{SwitchCase}
use Rattle.naga_ir.proofs.SizeBlockLemmas.{size-statement_at}
use Rattle.naga_proc.specs.Closing.{GetsReturn, follows, follows_switch, leaves_open}
use Rattle.naga_proc.specs.Closing.Room.{CasesHaveRoom, HasRoomAtTails}
use Rattle.naga_proc.proofs.Closing.HasRoomInsideLemmas.{HasRoomInside}
use Rattle.naga_proc.proofs.Closing.ClosedToLemmas.{ClosedTo, ClosedTo-last, ClosedTo-set, CasesClosed-each, CaseClosed-body, CaseClosed-falling}
use Rattle.naga_proc.proofs.Closing.ClosedTreeOfLemmas.{ClosedBy-jump, ClosedBy-nested, ClosedBy-shut, ClosedBy-returned_last, ClosedBy-returned_open}
use Rattle.naga_proc.proofs.Closing.FollowsLemmas.{follows-If, follows-Old, follows-Switch, follows-wider}
use Rattle.naga_proc.proofs.Closing.GetsReturnLemmas.{gets_return-empty}
use Rattle.naga_proc.proofs.Closing.HasRoomAtTailsLemmas.{HasRoomAtTails-inside, HasRoomAtTails-at_end, HasRoomAtTails-empty}
use Rattle.naga_proc.proofs.Closing.HasRoomInsideLemmas.{HasRoomInside-Block, HasRoomInside-accept, HasRoomInside-reject, HasRoomInside-Switch}
use Rattle.naga_proc.proofs.Closing.InsideAreLemmas.{InsideAre-If, InsideAre-Switch}
use Rattle.naga_proc.proofs.Closing.TailsAreLemmas.{InsideAre-open_itself}
use Rattle.naga_proc.specs.declared.terminator.rule.Rule.TheVariants.{Old}
use Rattle.naga_proc.proofs.terminator.+terminator.Goals.{close_cases-then-not-case, close_cases-else-not-case}
use Rattle.naga_proc.proofs.terminator.+terminator.Goals as goal

-- ---- a block

pub close_block-push_return-requires : goal.close_block-push_return-requires
close_block-push_return-requires t c =
    let l : length (pairs c.args.block.now) ≡ 0 = search rules in
    HasRoomAtTails-empty c.args.rule c.args.block.now l c.requires

pub close_block-returns-in_default : goal.close_block-returns-in_default
close_block-returns-in_default t c =
    let l : length (pairs c.args.block.now) ≡ 0 = search rules in
    ClosedBy-returned_open c.args.rule c.args.block.now c.push_return.new.block (gets_return-empty Old c.args.block.now l) c.push_return.ensures

pub close_block-push_return-requires-then-leaves_open : goal.close_block-push_return-requires-then-leaves_open
close_block-push_return-requires-then-leaves_open t c =
    let inside : 0 < length (pairs c.args.block.now) = c.in-Some.ensures.some.0 refl in
    let l : length (pairs c.args.block.now) ≡ suc (length (pairs c.args.block.now) - 1) = omega arith in
    let leaves : leaves_open (node_of c.in-Some.last.now) ≡ true = sym c.leaves_open.ensures ∙ c.if-leaves_open.true in
    let gets : follows Old (node_of c.in-Some.last.now) ≡ true = follows-Old (node_of c.in-Some.last.now) ∙ leaves in
    HasRoomAtTails-at_end c.args.rule c.args.block.now (length (pairs c.args.block.now) - 1) c.in-Some.last.now l c.in-Some.ensures.value (follows-wider c.args.rule (node_of c.in-Some.last.now) gets) c.requires

pub close_block-returns-then-leaves_open : goal.close_block-returns-then-leaves_open
close_block-returns-then-leaves_open t c =
    let inside : 0 < length (pairs c.args.block.now) = c.in-Some.ensures.some.0 refl in
    let l : length (pairs c.args.block.now) ≡ suc (length (pairs c.args.block.now) - 1) = omega arith in
    let leaves : leaves_open (node_of c.in-Some.last.now) ≡ true = sym c.leaves_open.ensures ∙ c.if-leaves_open.true in
    let gets : follows Old (node_of c.in-Some.last.now) ≡ true = follows-Old (node_of c.in-Some.last.now) ∙ leaves in
    ClosedBy-returned_last c.args.rule c.args.block.now c.push_return-then-leaves_open.new.block (length (pairs c.args.block.now) - 1) c.in-Some.last.now c.in-Some.last.now l c.in-Some.ensures.value (follows-wider c.args.rule (node_of c.in-Some.last.now) gets) (InsideAre-open_itself (follows c.args.rule) GetsReturn (node_of c.in-Some.last.now) gets) c.push_return-then-leaves_open.ensures

pub close_block-close_block-requires : goal.close_block-close_block-requires
close_block-close_block-requires t c =
    let inside : 0 < length (pairs c.args.block.now) = c.in-Some.ensures.some.0 refl in
    let l : length (pairs c.args.block.now) ≡ suc (length (pairs c.args.block.now) - 1) = omega arith in
    let lt : size-Statement c.in-Some.last.now < size-Block c.args.block.now =
    size-statement_at c.args.block.now (length (pairs c.args.block.now) - 1) c.in-Some.last.now c.in-Some.ensures.value
    in
    (search (rules, the_lemmas, lt), subst (HasRoomAtTails c.args.rule) (sym c.in-Block.inner-is) (HasRoomInside-Block c.args.rule c.in-Block.inner (subst (HasRoomInside c.args.rule) c.in-Block.is (HasRoomAtTails-inside c.args.rule c.args.block.now (length (pairs c.args.block.now) - 1) c.in-Some.last.now l c.in-Some.ensures.value c.requires))))

pub close_block-returns-in-Block : goal.close_block-returns-in-Block
unfolding variant.out-Statement shown.hidden-the_row-Block-entries-2-0 shown.shape-the_row-Block-entries-2-0 denote.Hole.Carrier.out denote.Hole.Carrier.hidden
close_block-returns-in-Block t c =
    let inside : 0 < length (pairs c.args.block.now) = c.in-Some.ensures.some.0 refl in
    let l : length (pairs c.args.block.now) ≡ suc (length (pairs c.args.block.now) - 1) = omega arith in
    rw c.in-Block.is (ClosedBy-nested c.args.rule c.args.block.now (length (pairs c.args.block.now) - 1) c.in-Block.inner c.close_block.new.block l (c.in-Some.ensures.value ∙ ap Some c.in-Block.is) (rw c.in-Block.inner-is at c.close_block.ensures))

pub close_block-close_block-requires-in-If : goal.close_block-close_block-requires-in-If
close_block-close_block-requires-in-If t c =
    let inside : 0 < length (pairs c.args.block.now) = c.in-Some.ensures.some.0 refl in
    let l : length (pairs c.args.block.now) ≡ suc (length (pairs c.args.block.now) - 1) = omega arith in
    let lt : size-Statement c.in-Some.last.now < size-Block c.args.block.now =
    size-statement_at c.args.block.now (length (pairs c.args.block.now) - 1) c.in-Some.last.now c.in-Some.ensures.value
    in
    (search (rules, the_lemmas, lt), subst (HasRoomAtTails c.args.rule) (sym c.in-If.accept-is) (HasRoomInside-accept c.args.rule c.in-If.condition c.in-If.accept c.in-If.reject (subst (HasRoomInside c.args.rule) c.in-If.is (HasRoomAtTails-inside c.args.rule c.args.block.now (length (pairs c.args.block.now) - 1) c.in-Some.last.now l c.in-Some.ensures.value c.requires))))

pub close_block-close_block-requires-in-If-2 : goal.close_block-close_block-requires-in-If-2
close_block-close_block-requires-in-If-2 t c =
    let inside : 0 < length (pairs c.args.block.now) = c.in-Some.ensures.some.0 refl in
    let l : length (pairs c.args.block.now) ≡ suc (length (pairs c.args.block.now) - 1) = omega arith in
    let lt : size-Statement c.in-Some.last.now < size-Block c.args.block.now =
    size-statement_at c.args.block.now (length (pairs c.args.block.now) - 1) c.in-Some.last.now c.in-Some.ensures.value
    in
    (search (rules, the_lemmas, lt), subst (HasRoomAtTails c.args.rule) (sym c.in-If.reject-is) (HasRoomInside-reject c.args.rule c.in-If.condition c.in-If.accept c.in-If.reject (subst (HasRoomInside c.args.rule) c.in-If.is (HasRoomAtTails-inside c.args.rule c.args.block.now (length (pairs c.args.block.now) - 1) c.in-Some.last.now l c.in-Some.ensures.value c.requires))))

pub close_block-returns-in-If : goal.close_block-returns-in-If
unfolding variant.out-Statement shown.hidden-the_row-Block-entries-2-0 shown.shape-the_row-Block-entries-2-0 denote.Hole.Carrier.out denote.Hole.Carrier.hidden
close_block-returns-in-If t c =
    let inside : 0 < length (pairs c.args.block.now) = c.in-Some.ensures.some.0 refl in
    let l : length (pairs c.args.block.now) ≡ suc (length (pairs c.args.block.now) - 1) = omega arith in
    rw c.in-If.is (ClosedBy-shut c.args.rule c.args.block.now (length (pairs c.args.block.now) - 1) (variant.If c.in-If.condition c.in-If.accept c.in-If.reject) (variant.If c.in-If.condition c.close_block-in-If.new.block c.close_block-in-If-2.new.block) l (c.in-Some.ensures.value ∙ ap Some c.in-If.is) (follows-If c.args.rule c.in-If.condition c.in-If.accept c.in-If.reject) (InsideAre-If c.args.rule c.in-If.condition c.in-If.accept c.close_block-in-If.new.block c.in-If.reject c.close_block-in-If-2.new.block (rw c.in-If.accept-is at c.close_block-in-If.ensures) (rw c.in-If.reject-is at c.close_block-in-If-2.ensures)))

pub close_block-close_last_switch-requires : goal.close_block-close_last_switch-requires
close_block-close_last_switch-requires t c =
    let inside : 0 < length (pairs c.args.block.now) = c.in-Some.ensures.some.0 refl in
    let l : length (pairs c.args.block.now) ≡ suc (length (pairs c.args.block.now) - 1) = omega arith in
    let lt : size-Statement c.in-Some.last.now < size-Block c.args.block.now =
    size-statement_at c.args.block.now (length (pairs c.args.block.now) - 1) c.in-Some.last.now c.in-Some.ensures.value
    in
    (search (rules, the_lemmas, lt), subst (λ cases. CasesHaveRoom c.args.rule cases.items) (sym c.in-Switch.cases-is) (HasRoomInside-Switch c.args.rule c.in-Switch.selector c.in-Switch.cases (subst (HasRoomInside c.args.rule) c.in-Switch.is (HasRoomAtTails-inside c.args.rule c.args.block.now (length (pairs c.args.block.now) - 1) c.in-Some.last.now l c.in-Some.ensures.value c.requires))))

pub close_block-close_switch-requires : goal.close_block-close_switch-requires
close_block-close_switch-requires t c =
    let inside : 0 < length (pairs c.args.block.now) = c.in-Some.ensures.some.0 refl in
    let l : length (pairs c.args.block.now) ≡ suc (length (pairs c.args.block.now) - 1) = omega arith in
    let lt : size-Statement c.in-Some.last.now < size-Block c.args.block.now =
    size-statement_at c.args.block.now (length (pairs c.args.block.now) - 1) c.in-Some.last.now c.in-Some.ensures.value
    in
    (search (rules, the_lemmas, lt), subst (λ cases. CasesHaveRoom c.args.rule cases.items) (sym c.in-Switch.cases-is) (HasRoomInside-Switch c.args.rule c.in-Switch.selector c.in-Switch.cases (subst (HasRoomInside c.args.rule) c.in-Switch.is (HasRoomAtTails-inside c.args.rule c.args.block.now (length (pairs c.args.block.now) - 1) c.in-Some.last.now l c.in-Some.ensures.value c.requires))))

pub close_block-returns-in-Old : goal.close_block-returns-in-Old
unfolding variant.out-Statement shown.hidden-the_row-Block-entries-2-0 shown.shape-the_row-Block-entries-2-0 denote.Hole.Carrier.out denote.Hole.Carrier.hidden
close_block-returns-in-Old t c =
    let inside : 0 < length (pairs c.args.block.now) = c.in-Some.ensures.some.0 refl in
    let l : length (pairs c.args.block.now) ≡ suc (length (pairs c.args.block.now) - 1) = omega arith in
    let shut : follows c.args.rule (node_of (variant.Switch c.in-Switch.selector c.in-Switch.cases)) ≡ false = ap (λ rule. follows rule (node_of (variant.Switch c.in-Switch.selector c.in-Switch.cases))) c.in-Old.is ∙ follows-Switch Old c.in-Switch.selector c.in-Switch.cases in
    rw c.in-Switch.is (ClosedBy-shut c.args.rule c.args.block.now (length (pairs c.args.block.now) - 1) (variant.Switch c.in-Switch.selector c.in-Switch.cases) (variant.Switch c.in-Switch.selector c.close_last_switch.new.cases) l (c.in-Some.ensures.value ∙ ap Some c.in-Switch.is) shut (InsideAre-Switch c.args.rule c.in-Switch.selector c.in-Switch.cases c.close_last_switch.new.cases (rw c.in-Switch.cases-is at c.close_last_switch.ensures)))

pub close_block-push_return-requires-then-close_switch : goal.close_block-push_return-requires-then-close_switch
close_block-push_return-requires-then-close_switch t c =
    let inside : 0 < length (pairs c.args.block.now) = c.in-Some.ensures.some.0 refl in
    let l : length (pairs c.args.block.now) ≡ suc (length (pairs c.args.block.now) - 1) = omega arith in
    let found : follows c.args.rule (node_of c.in-Some.last.now) ≡ true = ap (λ s. follows c.args.rule (node_of s)) c.in-Switch.is ∙ follows-Switch c.args.rule c.in-Switch.selector c.in-Switch.cases ∙ ap (λ held. follows_switch c.args.rule (cases_of held.items)) (sym c.in-Switch.cases-is) ∙ sym c.close_switch.ensures.follows ∙ c.if-close_switch.true in
    HasRoomAtTails-at_end c.args.rule c.args.block.now (length (pairs c.args.block.now) - 1) c.in-Some.last.now l c.in-Some.ensures.value found c.requires

pub close_block-returns-then-close_switch : goal.close_block-returns-then-close_switch
unfolding variant.out-Statement shown.hidden-the_row-Block-entries-2-0 shown.shape-the_row-Block-entries-2-0 denote.Hole.Carrier.out denote.Hole.Carrier.hidden
close_block-returns-then-close_switch t c =
    let inside : 0 < length (pairs c.args.block.now) = c.in-Some.ensures.some.0 refl in
    let l : length (pairs c.args.block.now) ≡ suc (length (pairs c.args.block.now) - 1) = omega arith in
    let found : follows c.args.rule (node_of (variant.Switch c.in-Switch.selector c.in-Switch.cases)) ≡ true = follows-Switch c.args.rule c.in-Switch.selector c.in-Switch.cases ∙ ap (λ (held : Vec SwitchCase Global). follows_switch c.args.rule (cases_of held.items)) (sym c.in-Switch.cases-is) ∙ sym c.close_switch.ensures.follows ∙ c.if-close_switch.true in
    ClosedBy-returned_last c.args.rule c.args.block.now c.push_return-then-close_switch.new.block (length (pairs c.args.block.now) - 1) (variant.Switch c.in-Switch.selector c.in-Switch.cases) (variant.Switch c.in-Switch.selector c.close_switch.new.cases) l (c.in-Some.ensures.value ∙ ap Some c.in-Switch.is) found (InsideAre-Switch c.args.rule c.in-Switch.selector c.in-Switch.cases c.close_switch.new.cases (rw c.in-Switch.cases-is at c.close_switch.ensures.closed)) (rw c.in-Switch.is at c.push_return-then-close_switch.ensures)

pub close_block-returns-else-close_switch : goal.close_block-returns-else-close_switch
unfolding variant.out-Statement shown.hidden-the_row-Block-entries-2-0 shown.shape-the_row-Block-entries-2-0 denote.Hole.Carrier.out denote.Hole.Carrier.hidden
close_block-returns-else-close_switch t c =
    let inside : 0 < length (pairs c.args.block.now) = c.in-Some.ensures.some.0 refl in
    let l : length (pairs c.args.block.now) ≡ suc (length (pairs c.args.block.now) - 1) = omega arith in
    let found : follows c.args.rule (node_of (variant.Switch c.in-Switch.selector c.in-Switch.cases)) ≡ false = follows-Switch c.args.rule c.in-Switch.selector c.in-Switch.cases ∙ ap (λ (held : Vec SwitchCase Global). follows_switch c.args.rule (cases_of held.items)) (sym c.in-Switch.cases-is) ∙ sym c.close_switch.ensures.follows ∙ c.if-close_switch.false in
    rw c.in-Switch.is (ClosedBy-shut c.args.rule c.args.block.now (length (pairs c.args.block.now) - 1) (variant.Switch c.in-Switch.selector c.in-Switch.cases) (variant.Switch c.in-Switch.selector c.close_switch.new.cases) l (c.in-Some.ensures.value ∙ ap Some c.in-Switch.is) found (InsideAre-Switch c.args.rule c.in-Switch.selector c.in-Switch.cases c.close_switch.new.cases (rw c.in-Switch.cases-is at c.close_switch.ensures.closed)))

pub close_block-returns-in-Break : goal.close_block-returns-in-Break
close_block-returns-in-Break t c =
    let inside : 0 < length (pairs c.args.block.now) = c.in-Some.ensures.some.0 refl in
    let l : length (pairs c.args.block.now) ≡ suc (length (pairs c.args.block.now) - 1) = omega arith in
    ClosedBy-jump c.args.rule c.args.block.now (length (pairs c.args.block.now) - 1) c.in-Some.last.now break l c.in-Some.ensures.value (ap node_of c.in-Break.is)

pub close_block-returns-in-Continue : goal.close_block-returns-in-Continue
close_block-returns-in-Continue t c =
    let inside : 0 < length (pairs c.args.block.now) = c.in-Some.ensures.some.0 refl in
    let l : length (pairs c.args.block.now) ≡ suc (length (pairs c.args.block.now) - 1) = omega arith in
    ClosedBy-jump c.args.rule c.args.block.now (length (pairs c.args.block.now) - 1) c.in-Some.last.now continue l c.in-Some.ensures.value (ap node_of c.in-Continue.is)

pub close_block-returns-in-Return : goal.close_block-returns-in-Return
close_block-returns-in-Return t c =
    let inside : 0 < length (pairs c.args.block.now) = c.in-Some.ensures.some.0 refl in
    let l : length (pairs c.args.block.now) ≡ suc (length (pairs c.args.block.now) - 1) = omega arith in
    ClosedBy-jump c.args.rule c.args.block.now (length (pairs c.args.block.now) - 1) c.in-Some.last.now (return c.in-Return.value) l c.in-Some.ensures.value (ap node_of c.in-Return.is)

pub close_block-returns-in-Kill : goal.close_block-returns-in-Kill
close_block-returns-in-Kill t c =
    let inside : 0 < length (pairs c.args.block.now) = c.in-Some.ensures.some.0 refl in
    let l : length (pairs c.args.block.now) ≡ suc (length (pairs c.args.block.now) - 1) = omega arith in
    ClosedBy-jump c.args.rule c.args.block.now (length (pairs c.args.block.now) - 1) c.in-Some.last.now kill l c.in-Some.ensures.value (ap node_of c.in-Kill.is)

-- ---- the cases

pub close_cases-returns-then-is_empty : goal.close_cases-returns-then-is_empty
close_cases-returns-then-is_empty t c =
    let none : length c.args.cases.now.items ≡ 0 = search rules in
    CasesClosed-each c.args.rule c.args.cases.now.items c.args.cases.now.items refl (λ k d q. absurd (omega (arith, none)))

pub close_cases-loop-i-preserved : goal.close_cases-loop-i-preserved
close_cases-loop-i-preserved t c =
    let x = c.index_mut-case.result.now in
    let i = c.loop-i.i in
    let now = c.loop-i.cases.items in
    let inside : i < length now = omega (arith, c.args.cases.now.ok.0, c.loop-i.invariant.0.0) in
    let read : (d : SwitchCase) → x ≡ get_or now i d = get_or_read now i x inside c.index_mut-case.ensures.value in
    elim c.if-not-case.branch [
      | close_cases-then-not-case w ↦
          let y : SwitchCase = record x { body = w.close_block.new.block } in
          subst (λ (zs : List SwitchCase). ClosedTo c.args.rule c.args.cases.now.items zs (i + 1)) (sym (ap (λ v. v.items) w.cases-is)) (ClosedTo-set c.args.rule c.args.cases.now.items now i x y inside read (CaseClosed-body c.args.rule x w.close_block.new.block w.if-not-case.true w.close_block.ensures) c.loop-i.invariant)
      | close_cases-else-not-case w ↦
          subst (λ (zs : List SwitchCase). ClosedTo c.args.rule c.args.cases.now.items zs (i + 1)) (sym (ap (λ v. v.items) w.cases-is)) (ClosedTo-set c.args.rule c.args.cases.now.items now i x x inside read (CaseClosed-falling c.args.rule x w.if-not-case.false) c.loop-i.invariant)
    ]

pub close_cases-returns-then-not-end : goal.close_cases-returns-then-not-end
close_cases-returns-then-not-end t c =
    let x = c.index_mut-end.result.now in
    let i = c.len-last.result - 1 in
    let now = c.loop-i.cases.items in
    let old = c.args.cases.now.items in
    let some = eqb-false _ _ (sym c.is_empty.ensures ∙ c.if-is_empty.false) in
    let l : length old ≡ suc i = omega (arith, some, c.len-last.ensures, c.args.cases.now.ok.0) in
    let at : c.loop-i.i ≡ i = omega (arith, c.loop-i-test.false, c.loop-i.auto.i-end) in
    let kept : ClosedTo c.args.rule old now i = subst (λ (k : ℕ). ClosedTo c.args.rule old now k) at c.loop-i.invariant in
    let inside : i < length now = omega (arith, l, kept.0.0) in
    let read : (d : SwitchCase) → x ≡ get_or now i d = get_or_read now i x inside c.index_mut-end.ensures.value in
    let y : SwitchCase = record x { body = c.close_block-then-not-end.new.block } in
    ClosedTo-last c.args.rule old now i x y l read (CaseClosed-body c.args.rule x c.close_block-then-not-end.new.block c.if-not-end.true c.close_block-then-not-end.ensures) kept

pub close_cases-returns-else-not-end : goal.close_cases-returns-else-not-end
close_cases-returns-else-not-end t c =
    let x = c.index_mut-end.result.now in
    let i = c.len-last.result - 1 in
    let now = c.loop-i.cases.items in
    let old = c.args.cases.now.items in
    let some = eqb-false _ _ (sym c.is_empty.ensures ∙ c.if-is_empty.false) in
    let l : length old ≡ suc i = omega (arith, some, c.len-last.ensures, c.args.cases.now.ok.0) in
    let at : c.loop-i.i ≡ i = omega (arith, c.loop-i-test.false, c.loop-i.auto.i-end) in
    let kept : ClosedTo c.args.rule old now i = subst (λ (k : ℕ). ClosedTo c.args.rule old now k) at c.loop-i.invariant in
    let inside : i < length now = omega (arith, l, kept.0.0) in
    let read : (d : SwitchCase) → x ≡ get_or now i d = get_or_read now i x inside c.index_mut-end.ensures.value in
    ClosedTo-last c.args.rule old now i x x l read (CaseClosed-falling c.args.rule x c.if-not-end.false) kept
