use Rattle.std.proofs.Common.{◌≡◌, ◌∙◌, sym, ap, subst, refl, suc, ◌-◌, ◌<◌, List, length, Some, true, false, rules, arith}
use Rattle.std.proofs.Math.ListN.{set}
use Rattle.std.proofs.lemmas.Result.{on_ok_weaker, on_err_weaker}
use Rattle.std.specs.Prelude.{OnErr, OnOk, slice_get}
use Rattle.std.specs.declared.alloc.Global.{Global}
use Rattle.std.specs.declared.vec.Vec.{Vec}
use Rattle.naga_ir.specs.Block.{pairs, statements}
use Rattle.naga_ir.specs.Lends.{with_statement}
use Rattle.naga_ir.specs.Tree.{Tree}
use Rattle.naga_ir.specs.View.{cases_of, node_of, tree_of}
use Rattle.naga_ir.specs.declared.block.Block.{size-Block}
use Rattle.naga_ir.specs.declared.statement.Statement.{size-Statement, the_lemmas}
use Rattle.naga_ir.specs.declared.statement.Statement as variant
use Rattle.naga_ir.specs.declared.statement.Statement.TheBlock as shown
use Rattle.naga_ir.specs.declared.statement.SwitchCase.{SwitchCase}
use Rattle.naga_ir.proofs.SizeBlockLemmas.{size-statement_at}
use Rattle.naga_proc.specs.Closing.{ClosedBy, follows, goes_straight_through}
use Rattle.naga_proc.specs.Closing.Room.{CasesHaveRoom, HasRoomAtTails}
use Rattle.naga_proc.specs.declared.terminator.rule.Rule.TheVariants.{Old}
use Rattle.naga_proc.proofs.Closing.ClosedByLemmas.{CasesClosed}
use Rattle.naga_proc.proofs.Closing.ClosedToLemmas.{CaseClosed-body}
use Rattle.naga_proc.proofs.Closing.ClosedTreeOfLemmas.{ClosedBy-nested, ClosedBy-returned_open, ClosedBy-shut}
use Rattle.naga_proc.proofs.Closing.FollowsLemmas.{follows-Switch}
use Rattle.naga_proc.proofs.Closing.GetsReturnLemmas.{gets_return-empty}
use Rattle.naga_proc.proofs.Closing.GoesStraightThroughLemmas.{goes_straight_through-only, goes_straight_through-shut}
use Rattle.naga_proc.proofs.Closing.HasRoomAtTailsLemmas.{HasRoomAtTails-empty, HasRoomAtTails-inside, HasRoomAtTails-nested, HasRoomAtTails-rewritten}
use Rattle.naga_proc.proofs.Closing.HasRoomInsideLemmas.{HasRoomInside-Switch}
use Rattle.naga_proc.proofs.Closing.InsideAreLemmas.{InsideAre-Switch}
use Rattle.naga_proc.proofs.Closing.SameNodeLemmas.{SameNode-Switch, cases_of-body, tree_of-SameNode, tree_of-nested}
use Rattle.naga_proc.proofs.terminator.+ensure_block_returns_by.Goals.{ensure_block_returns_by-in_default-last-via-in-Switch+else-goes_straight_through, ensure_block_returns_by-in_default-last-via-in-Emit-1}
use Rattle.naga_proc.proofs.terminator.+ensure_block_returns_by.Goals as goal

-- ---- an empty block

pub ensure_block_returns_by-returns-in_default-clause-closed : goal.ensure_block_returns_by-returns-in_default-clause-closed
ensure_block_returns_by-returns-in_default-clause-closed t c =
    let l : length (pairs c.args.block.now) ≡ 0 = search rules in
    on_ok_weaker c.add_return.result (ClosedBy-returned_open c.args.rule c.args.block.now c.add_return.new.block (gets_return-empty Old c.args.block.now l)) c.add_return.ensures.ok

pub ensure_block_returns_by-returns-in_default-clause-succeeds : goal.ensure_block_returns_by-returns-in_default-clause-succeeds
ensure_block_returns_by-returns-in_default-clause-succeeds t c =
    λ h.
    let l : length (pairs c.args.block.now) ≡ 0 = search rules in
    c.add_return.ensures.succeeds (HasRoomAtTails-empty c.args.rule c.args.block.now l h)

-- ---- a block that ends in a nested block

pub ensure_block_returns_by-ensure_block_returns_by-requires : goal.ensure_block_returns_by-ensure_block_returns_by-requires
ensure_block_returns_by-ensure_block_returns_by-requires t c =
    let lt : size-Statement c.in-Some.last.now < size-Block c.args.block.now =
    size-statement_at c.args.block.now (length (pairs c.args.block.now) - 1) c.in-Some.last.now c.in-Some.ensures.value
    in
    (search (rules, the_lemmas, lt), tt)

pub ensure_block_returns_by-returns-in-Block : goal.ensure_block_returns_by-returns-in-Block
unfolding variant.out-Statement shown.hidden-the_row-Block-entries-2-0 shown.shape-the_row-Block-entries-2-0 denote.Hole.Carrier.out denote.Hole.Carrier.hidden
ensure_block_returns_by-returns-in-Block t c =
    let inside : 0 < length (pairs c.args.block.now) = c.in-Some.ensures.some.0 refl in
    let l : length (pairs c.args.block.now) ≡ suc (length (pairs c.args.block.now) - 1) = omega arith in
    let found : slice_get (statements c.args.block.now) (length (pairs c.args.block.now) - 1) ≡ Some (variant.Block c.in-Block.inner) = c.in-Some.ensures.value ∙ ap Some c.in-Block.is in
    record {
      closed = rw c.in-Block.is (on_ok_weaker c.ensure_block_returns_by.result (ClosedBy-nested c.args.rule c.args.block.now (length (pairs c.args.block.now) - 1) c.in-Block.inner c.ensure_block_returns_by.new.block l found) (rw c.in-Block.inner-is at c.ensure_block_returns_by.ensures.closed));
      unchanged = rw c.in-Block.is (on_err_weaker c.ensure_block_returns_by.result (tree_of-nested c.args.block.now (length (pairs c.args.block.now) - 1) c.in-Block.inner c.ensure_block_returns_by.new.block l found) (rw c.in-Block.inner-is at c.ensure_block_returns_by.ensures.unchanged));
      succeeds = λ h. c.ensure_block_returns_by.ensures.succeeds (rw c.in-Block.inner-is (HasRoomAtTails-nested c.args.rule c.args.block.now (length (pairs c.args.block.now) - 1) c.in-Block.inner l found h));
    }

-- ---- a block that ends in a switch with one case, to which the returns are confined

pub ensure_block_returns_by-ensure_only_case_returns-requires : goal.ensure_block_returns_by-ensure_only_case_returns-requires
ensure_block_returns_by-ensure_only_case_returns-requires t c =
    let lt : size-Statement c.in-Some.last.now < size-Block c.args.block.now =
    size-statement_at c.args.block.now (length (pairs c.args.block.now) - 1) c.in-Some.last.now c.in-Some.ensures.value
    in
    (search (rules, the_lemmas, lt), ap (λ (xs : List SwitchCase). goes_straight_through c.args.rule (cases_of xs)) (sym c.deref.ensures.value) ∙ sym c.goes_straight_through.ensures ∙ c.if-goes_straight_through.true)

pub ensure_block_returns_by-returns-in-Switch : goal.ensure_block_returns_by-returns-in-Switch
unfolding variant.out-Statement shown.hidden-the_row-Block-entries-2-0 shown.shape-the_row-Block-entries-2-0 denote.Hole.Carrier.out denote.Hole.Carrier.hidden
ensure_block_returns_by-returns-in-Switch t c =
    let inside : 0 < length (pairs c.args.block.now) = c.in-Some.ensures.some.0 refl in
    let l : length (pairs c.args.block.now) ≡ suc (length (pairs c.args.block.now) - 1) = omega arith in
    let found = c.in-Some.ensures.value ∙ ap Some c.in-Switch.is in
    let straight : goes_straight_through c.args.rule (cases_of c.in-Switch.cases.items) ≡ true = ap (λ (held : Vec SwitchCase Global). goes_straight_through c.args.rule (cases_of held.items)) (sym c.in-Switch.cases-is) ∙ ap (λ (xs : List SwitchCase). goes_straight_through c.args.rule (cases_of xs)) (sym c.deref.ensures.value) ∙ sym c.goes_straight_through.ensures ∙ c.if-goes_straight_through.true in
    let shut : follows c.args.rule (node_of (variant.Switch c.in-Switch.selector c.in-Switch.cases)) ≡ false = follows-Switch c.args.rule c.in-Switch.selector c.in-Switch.cases ∙ goes_straight_through-shut c.args.rule (cases_of c.in-Switch.cases.items) straight in
    record {
      closed = rw c.in-Switch.is (on_ok_weaker c.ensure_only_case_returns.result (λ h. ClosedBy-shut c.args.rule c.args.block.now (length (pairs c.args.block.now) - 1) (variant.Switch c.in-Switch.selector c.in-Switch.cases) (variant.Switch c.in-Switch.selector c.ensure_only_case_returns.new.cases) l found shut (InsideAre-Switch c.args.rule c.in-Switch.selector c.in-Switch.cases c.ensure_only_case_returns.new.cases h)) (rw c.in-Switch.cases-is at c.ensure_only_case_returns.ensures.closed));
      unchanged = rw c.in-Switch.is (on_err_weaker c.ensure_only_case_returns.result (λ h. tree_of-SameNode c.args.block.now (length (pairs c.args.block.now) - 1) (variant.Switch c.in-Switch.selector c.in-Switch.cases) (variant.Switch c.in-Switch.selector c.ensure_only_case_returns.new.cases) l found (SameNode-Switch c.in-Switch.selector c.in-Switch.cases c.ensure_only_case_returns.new.cases h)) (rw c.in-Switch.cases-is at c.ensure_only_case_returns.ensures.unchanged));
      succeeds = λ h. c.ensure_only_case_returns.ensures.succeeds (rw c.in-Switch.cases-is (HasRoomInside-Switch c.args.rule c.in-Switch.selector c.in-Switch.cases (HasRoomAtTails-inside c.args.rule c.args.block.now (length (pairs c.args.block.now) - 1) (variant.Switch c.in-Switch.selector c.in-Switch.cases) l found h)));
    }

pub ensure_only_case_returns-returns : goal.ensure_only_case_returns-returns
ensure_only_case_returns-returns t c =
    let x = c.index_mut.result.now in
    let only = goes_straight_through-only c.args.rule c.args.cases.now.items x c.requires c.index_mut.ensures.value in
    record {
      closed = on_ok_weaker c.ensure_block_returns_by.result (λ h. subst (λ (xs : List SwitchCase). CasesClosed c.args.rule (cases_of xs) (cases_of (set xs 0 (record x { body = c.ensure_block_returns_by.new.block })))) (sym only.0) (CaseClosed-body c.args.rule x c.ensure_block_returns_by.new.block only.1 h)) c.ensure_block_returns_by.ensures.closed;
      unchanged = on_err_weaker c.ensure_block_returns_by.result (λ h. subst (λ (xs : List SwitchCase). cases_of (set xs 0 (record x { body = c.ensure_block_returns_by.new.block })) ≡ cases_of xs) (sym only.0) (cases_of-body x c.ensure_block_returns_by.new.block h)) c.ensure_block_returns_by.ensures.unchanged;
      succeeds = λ h. c.ensure_block_returns_by.ensures.succeeds (subst (CasesHaveRoom c.args.rule) only.0 h 0 x refl only.1);
    }

-- ---- a block that ends in another statement, which is written back as it was

pub ensure_block_returns_by-returns-in_default-last : goal.ensure_block_returns_by-returns-in_default-last
unfolding variant.out-Statement shown.hidden-the_row-Block-entries-2-0 shown.shape-the_row-Block-entries-2-0 denote.Hole.Carrier.out denote.Hole.Carrier.hidden
ensure_block_returns_by-returns-in_default-last t c =
    let inside : 0 < length (pairs c.args.block.now) = c.in-Some.ensures.some.0 refl in
    let l : length (pairs c.args.block.now) ≡ suc (length (pairs c.args.block.now) - 1) = omega arith in
    let is : c.in_default-last.block ≡ with_statement c.args.block.now (length (pairs c.args.block.now) - 1) c.in-Some.last.now = elim c.in_default-last.branch [
      | ensure_block_returns_by-in_default-last-via-in-Switch+else-goes_straight_through w ↦
          w.block-is ∙ rw w.in-Switch.is (ap (λ (held : Vec SwitchCase Global). with_statement c.args.block.now (length (pairs c.args.block.now) - 1) (variant.Switch w.in-Switch.selector held)) (rw w.in-Switch.is at w.in-Switch.cases-is))
      | ensure_block_returns_by-in_default-last-via-in-Emit-1 w ↦ w.block-is
    ]
    in
    let same = ap tree_of is ∙ tree_of-SameNode c.args.block.now (length (pairs c.args.block.now) - 1) c.in-Some.last.now c.in-Some.last.now l c.in-Some.ensures.value refl in
    record {
      closed = subst (λ (old : Tree). OnOk c.ensure_end_returns.result (ClosedBy c.args.rule old (tree_of c.ensure_end_returns.new.block))) same c.ensure_end_returns.ensures.closed;
      unchanged = subst (λ (old : Tree). OnErr c.ensure_end_returns.result (tree_of c.ensure_end_returns.new.block ≡ old)) same c.ensure_end_returns.ensures.unchanged;
      succeeds = λ h. c.ensure_end_returns.ensures.succeeds (subst (HasRoomAtTails c.args.rule) (sym is) (HasRoomAtTails-rewritten c.args.rule c.args.block.now (length (pairs c.args.block.now) - 1) c.in-Some.last.now l c.in-Some.ensures.value h));
    }
