use Rattle.std.proofs.Common.{◌≡◌, ◌≢◌, ◌<◌, ◌+◌, ◌-◌, ◌∷◌, drop, false, sym, ◌∙◌, ap, subst, rules, arith}
use Rattle.std.proofs.lemmas.List.{drop_all}
use Rattle.naga_ir.specs.Control.{node_of_control}
use Rattle.naga_ir.specs.Tree.{is_plain, break, continue, kill, return, branch, switch}
use Rattle.naga_ir.specs.View.{tree_of, node_of, cases_of}
use Rattle.naga_runs.specs.declared.run.Ending.TheVariants.{Normal, Break}
use Rattle.naga_runs.specs.Replay.Walking.{Walked}
use Rattle.naga_runs.specs.Runs.{BlockRuns, StatementRuns, CasesRun, LoopRuns, TurnRuns, undecided, unselected, entered, values}
use Rattle.naga_runs.proofs.CasesRunLemmas.{CasesRun-next, CasesRun-falls, CasesRun-broken, CasesRun-ends, CasesRun-past, CasesRun-body_meets}
use Rattle.naga_runs.proofs.CompletesLemmas.{Completes, Completes-itself}
use Rattle.naga_runs.proofs.LoopRunsLemmas.{LoopRuns-next, LoopRuns-again, LoopRuns-left, LoopRuns-over, LoopRuns-no_turn, LoopRuns-turn_meets}
use Rattle.naga_runs.proofs.MeetsPlainLemmas.{MeetsPlain-in_body, MeetsPlain-in_continuing}
use Rattle.naga_runs.proofs.SoFarLemmas.{SoFar, SoFar-begin, SoFar-go_on, SoFar-stop, SoFar-finish, SoFar-lighter, SoFar-meets}
use Rattle.naga_runs.proofs.StatementRunsLemmas.{StatementRuns-jumps, StatementRuns-node_of, StatementRuns-nested, StatementRuns-loop, StatementRuns-rejects, StatementRuns-accepts, StatementRuns-selects}
use Rattle.naga_runs.proofs.TurnRunsLemmas.{TurnRuns-in_body, TurnRuns-in_continuing, TurnRuns-whole, GoesOn-test_false}
use Rattle.naga_runs.proofs.WalkedLemmas.{Walked-cut_stop}
use Rattle.naga_runs.proofs.WalksByLemmas.{WalksBy-error}
use Rattle.naga_runs.proofs.WeightLemmas.{tree_weight, node_weight, cases_weight, tree_weight-body, cases_weight-from}
use Rattle.naga_runs.proofs.walk.Walk.+walk.Goals.{run_cases-in_default-via-in-Normal+else-case, run_cases-in_default-via-in_default}
use Rattle.naga_runs.proofs.walk.Walk.+walk.Goals as goal

pub run_block-statements-init : goal.run_block-statements-init
run_block-statements-init t c =
    SoFar-begin c.args.turns c.args.block.now c.into_iter-statement-iterator.result c.args.self.now c.at-stop.result c.into_iter-statement-iterator.ensures.into_iter_gives c.at-stop.ensures

pub run_block-run_statement-requires : goal.run_block-run_statement-requires
run_block-run_statement-requires t c =
    let so : SoFar c.args.turns (tree_of c.args.block.now) (c.in-Some.statement.now ∷ c.next.new.self) c.args.self.now c.statements.self c.statements.stop =
    subst (λ xs. SoFar c.args.turns (tree_of c.args.block.now) xs c.args.self.now c.statements.self c.statements.stop) c.in-Some.ensures.steps c.statements.invariant
    in
    let lt : node_weight (node_of c.in-Some.statement.now) < tree_weight (tree_of c.args.block.now) =
    SoFar-lighter c.args.turns (tree_of c.args.block.now) c.in-Some.statement.now c.next.new.self c.args.self.now c.statements.self c.statements.stop so
    in
    (search (rules, lt), tt)

pub run_block-returns-in_err-stop : goal.run_block-returns-in_err-stop
run_block-returns-in_err-stop t c =
    let so : SoFar c.args.turns (tree_of c.args.block.now) (c.in-Some.statement.now ∷ c.next.new.self) c.args.self.now c.statements.self c.statements.stop =
    subst (λ xs. SoFar c.args.turns (tree_of c.args.block.now) xs c.args.self.now c.statements.self c.statements.stop) c.in-Some.ensures.steps c.statements.invariant
    in
    WalksBy-error (BlockRuns c.args.turns (tree_of c.args.block.now)) c.args.self.now c.run_statement.new.self c.from_residual.result c.from_residual.ensures.0
    (SoFar-meets c.args.turns (tree_of c.args.block.now) c.in-Some.statement.now c.next.new.self c.args.self.now c.statements.self c.statements.stop so c.in_err-stop.ensures)

pub run_block-returns-then-ne : goal.run_block-returns-then-ne
run_block-returns-then-ne t c =
    let so : SoFar c.args.turns (tree_of c.args.block.now) (c.in-Some.statement.now ∷ c.next.new.self) c.args.self.now c.statements.self c.statements.stop =
    subst (λ xs. SoFar c.args.turns (tree_of c.args.block.now) xs c.args.self.now c.statements.self c.statements.stop) c.in-Some.ensures.steps c.statements.invariant
    in
    let over : c.in_ok-stop.stop.ending ≢ Normal = search rules in
    SoFar-stop c.args.turns (tree_of c.args.block.now) c.in-Some.statement.now c.next.new.self c.args.self.now c.statements.self c.run_statement.new.self c.statements.stop c.in_ok-stop.stop so c.in_ok-stop.ensures over

pub run_block-statements-preserved : goal.run_block-statements-preserved
run_block-statements-preserved t c =
    let so : SoFar c.args.turns (tree_of c.args.block.now) (c.in-Some.statement.now ∷ c.next.new.self) c.args.self.now c.statements.self c.statements.stop =
    subst (λ xs. SoFar c.args.turns (tree_of c.args.block.now) xs c.args.self.now c.statements.self c.statements.stop) c.in-Some.ensures.steps c.statements.invariant
    in
    let normal : c.in_ok-stop.stop.ending ≡ Normal = search rules in
    SoFar-go_on c.args.turns (tree_of c.args.block.now) c.in-Some.statement.now c.next.new.self c.args.self.now c.statements.self c.run_statement.new.self c.statements.stop c.in_ok-stop.stop so c.in_ok-stop.ensures normal

pub run_block-returns : goal.run_block-returns
run_block-returns t c =
    SoFar-finish c.args.turns (tree_of c.args.block.now) c.args.self.now c.statements.self c.statements.stop
    (subst (λ xs. SoFar c.args.turns (tree_of c.args.block.now) xs c.args.self.now c.statements.self c.statements.stop) c.in-None.ensures.steps.0 c.statements.invariant)

pub run_branch-run_block-requires : goal.run_branch-run_block-requires
run_branch-run_block-requires t c =
    let lt : tree_weight (tree_of c.args.reject.now) < tree_weight (tree_of c.args.accept.now) + tree_weight (tree_of c.args.reject.now) + 1 = omega arith in
    (search (rules, lt), tt)

pub run_branch-run_block-requires-in-Some : goal.run_branch-run_block-requires-in-Some
run_branch-run_block-requires-in-Some t c =
    let lt : tree_weight (tree_of c.args.accept.now) < tree_weight (tree_of c.args.accept.now) + tree_weight (tree_of c.args.reject.now) + 1 = omega arith in
    (search (rules, lt), tt)

pub run_branch-returns-in-None : goal.run_branch-returns-in-None
run_branch-returns-in-None t c =
    λ condition.
    Walked-cut_stop (StatementRuns c.args.turns (branch condition (tree_of c.args.accept.now) (tree_of c.args.reject.now))) c.args.self.now c.next_answer.new.self c.at.result c.at.ensures
    c.in-None.ensures.trace c.in-None.ensures.none.0 c.in-None.ensures.none.1 undecided

pub run_branch-returns-in-Some-eq0 : goal.run_branch-returns-in-Some-eq0
run_branch-returns-in-Some-eq0 t c =
    let no : c.in-Some-eq0.field-0 ≡ 0 = search rules in
    StatementRuns-rejects c.args.turns (tree_of c.args.accept.now) (tree_of c.args.reject.now) c.args.self.now c.next_answer.new.self c.run_block.new.self c.in-Some-eq0.field-0 c.run_block.result
    c.in-Some-eq0.ensures.trace c.in-Some-eq0.ensures.some no c.run_block.ensures

pub run_branch-returns-in-Some : goal.run_branch-returns-in-Some
run_branch-returns-in-Some t c =
    let yes : c.in-Some.field-0 ≢ 0 = search rules in
    StatementRuns-accepts c.args.turns (tree_of c.args.accept.now) (tree_of c.args.reject.now) c.args.self.now c.next_answer.new.self c.run_block-in-Some.new.self c.in-Some.field-0 c.run_block-in-Some.result
    c.in-Some.ensures.trace c.in-Some.ensures.some yes c.run_block-in-Some.ensures

pub run_cases-cases-init : goal.run_cases-cases-init
run_cases-cases-init t c =
    Completes-itself (CasesRun c.args.turns (cases_of c.args.cases.now)) c.args.self.now

pub run_cases-run_block-requires : goal.run_cases-run_block-requires
run_cases-run_block-requires t c =
    let lt : tree_weight (tree_of c.case-item.result.body) < cases_weight (cases_of c.args.cases.now) =
    subst (λ x. tree_weight (tree_of x.body) < cases_weight (cases_of c.args.cases.now)) (sym c.case-item.is) (tree_weight-body c.args.cases.now c.cases.case-index c.case-item.result c.cases-test.true)
    in
    (search (rules, lt), tt)

pub run_cases-returns-in_err-stop : goal.run_cases-returns-in_err-stop
run_cases-returns-in_err-stop t c =
    let xs = c.args.cases.now in
    let i = c.cases.case-index in
    let x = c.case-item.result in
    let Whole = CasesRun c.args.turns (cases_of xs) in
    let completes = CasesRun-next c.args.turns xs i x Whole c.args.self.now c.cases.self c.cases-test.true c.case-item.is c.cases.invariant in
    WalksBy-error Whole c.args.self.now c.run_block.new.self c.from_residual.result c.from_residual.ensures.0
    (CasesRun-body_meets c.args.turns x (drop (i + 1) xs) Whole c.args.self.now c.cases.self completes c.in_err-stop.ensures)

pub run_cases-returns-in-Break : goal.run_cases-returns-in-Break
run_cases-returns-in-Break t c =
    let xs = c.args.cases.now in
    let i = c.cases.case-index in
    let x = c.case-item.result in
    let Whole = CasesRun c.args.turns (cases_of xs) in
    let completes = CasesRun-next c.args.turns xs i x Whole c.args.self.now c.cases.self c.cases-test.true c.case-item.is c.cases.invariant in
    subst (λ s. Walked Whole c.args.self.now c.run_block.new.self s) (sym c.out_of_switch.ensures)
    (CasesRun-broken c.args.turns x (drop (i + 1) xs) Whole c.args.self.now c.cases.self c.run_block.new.self c.in_ok-stop.stop completes c.in_ok-stop.ensures c.in-Break.is)

pub run_cases-returns-in_default : goal.run_cases-returns-in_default
run_cases-returns-in_default t c =
    let xs = c.args.cases.now in
    let i = c.cases.case-index in
    let x = c.case-item.result in
    let Whole = CasesRun c.args.turns (cases_of xs) in
    let completes = CasesRun-next c.args.turns xs i x Whole c.args.self.now c.cases.self c.cases-test.true c.case-item.is c.cases.invariant in
    elim c.in_default.branch [
      | run_cases-in_default-via-in-Normal+else-case w ↦
          let other : c.in_ok-stop.stop.ending ≢ Break = λ p. cc in
          let shut : x.fall_through ≡ false = w.if-case.false in
          CasesRun-ends c.args.turns x (drop (i + 1) xs) Whole c.args.self.now c.cases.self c.run_block.new.self c.in_ok-stop.stop completes c.in_ok-stop.ensures other (λ p q. cc)
      | run_cases-in_default-via-in_default w ↦
          let other : c.in_ok-stop.stop.ending ≢ Break = search rules in
          let abnormal : c.in_ok-stop.stop.ending ≢ Normal = search rules in
          CasesRun-ends c.args.turns x (drop (i + 1) xs) Whole c.args.self.now c.cases.self c.run_block.new.self c.in_ok-stop.stop completes c.in_ok-stop.ensures other (λ p q. abnormal p)
    ]

pub run_cases-cases-preserved : goal.run_cases-cases-preserved
run_cases-cases-preserved t c =
    let xs = c.args.cases.now in
    let i = c.cases.case-index in
    let x = c.case-item.result in
    let Whole = CasesRun c.args.turns (cases_of xs) in
    let completes = CasesRun-next c.args.turns xs i x Whole c.args.self.now c.cases.self c.cases-test.true c.case-item.is c.cases.invariant in
    CasesRun-falls c.args.turns x (drop (i + 1) xs) Whole c.args.self.now c.cases.self c.run_block.new.self c.in_ok-stop.stop completes c.in_ok-stop.ensures c.in-Normal.is c.if-case.true

pub run_cases-returns : goal.run_cases-returns
run_cases-returns t c =
    let xs = c.args.cases.now in
    let Whole = CasesRun c.args.turns (cases_of xs) in
    subst (λ s. Walked Whole c.args.self.now c.cases.self s) (sym c.out_of_switch-2.ensures)
    (CasesRun-past c.args.turns Whole c.args.self.now c.cases.self
    (subst (λ l. Completes (CasesRun c.args.turns (cases_of l)) Whole c.args.self.now c.cases.self) (drop_all c.cases.case-index xs c.cases-test.false) c.cases.invariant))

pub run_loop-each-init : goal.run_loop-each-init
run_loop-each-init t c =
    let n = c.args.turns in
    let b = tree_of c.args.body.now in
    let d = tree_of c.args.continuing.now in
    let i = c.args.break_if.now in
    let Whole = LoopRuns n n b d i in
    let all : n - 0 ≡ n = omega arith in
    subst (λ x. Completes (LoopRuns n x b d i) Whole c.args.self.now c.args.self.now) (sym all) (Completes-itself Whole c.args.self.now)

pub run_loop-run_turn-requires : goal.run_loop-run_turn-requires
run_loop-run_turn-requires t c =
    let lt : tree_weight (tree_of c.args.body.now) + tree_weight (tree_of c.args.continuing.now) + 1 < tree_weight (tree_of c.args.body.now) + tree_weight (tree_of c.args.continuing.now) + 2 = omega arith in
    (search (rules, lt), tt)

pub run_loop-returns-in_err-stop : goal.run_loop-returns-in_err-stop
run_loop-returns-in_err-stop t c =
    let n = c.args.turns in
    let b = tree_of c.args.body.now in
    let d = tree_of c.args.continuing.now in
    let i = c.args.break_if.now in
    let Whole = LoopRuns n n b d i in
    let k = n - (c.each._turn + 1) in
    let completes = LoopRuns-next n c.each._turn b d i Whole c.args.self.now c.each.self (omega arith) c.each.invariant in
    WalksBy-error Whole c.args.self.now c.run_turn.new.self c.from_residual.result c.from_residual.ensures.0
    (LoopRuns-turn_meets n k b d i Whole c.args.self.now c.each.self completes c.in_err-stop.ensures)

pub run_loop-returns-in-Break : goal.run_loop-returns-in-Break
run_loop-returns-in-Break t c =
    let n = c.args.turns in
    let b = tree_of c.args.body.now in
    let d = tree_of c.args.continuing.now in
    let i = c.args.break_if.now in
    let Whole = LoopRuns n n b d i in
    let k = n - (c.each._turn + 1) in
    let completes = LoopRuns-next n c.each._turn b d i Whole c.args.self.now c.each.self (omega arith) c.each.invariant in
    subst (λ s. Walked Whole c.args.self.now c.run_turn.new.self s) (sym c.at.ensures)
    (LoopRuns-left n k b d i Whole c.args.self.now c.each.self c.run_turn.new.self c.in_ok-stop.stop completes c.in_ok-stop.ensures c.in-Break.is)

pub run_loop-returns-in_default : goal.run_loop-returns-in_default
run_loop-returns-in_default t c =
    let n = c.args.turns in
    let b = tree_of c.args.body.now in
    let d = tree_of c.args.continuing.now in
    let i = c.args.break_if.now in
    let Whole = LoopRuns n n b d i in
    let k = n - (c.each._turn + 1) in
    let completes = LoopRuns-next n c.each._turn b d i Whole c.args.self.now c.each.self (omega arith) c.each.invariant in
    let abnormal : c.in_ok-stop.stop.ending ≢ Normal = search rules in
    let other : c.in_ok-stop.stop.ending ≢ Break = search rules in
    LoopRuns-over n k b d i Whole c.args.self.now c.each.self c.run_turn.new.self c.in_ok-stop.stop completes c.in_ok-stop.ensures abnormal other

pub run_loop-each-preserved : goal.run_loop-each-preserved
run_loop-each-preserved t c =
    let n = c.args.turns in
    let b = tree_of c.args.body.now in
    let d = tree_of c.args.continuing.now in
    let i = c.args.break_if.now in
    let Whole = LoopRuns n n b d i in
    let k = n - (c.each._turn + 1) in
    let completes = LoopRuns-next n c.each._turn b d i Whole c.args.self.now c.each.self (omega arith) c.each.invariant in
    LoopRuns-again n k b d i Whole c.args.self.now c.each.self c.run_turn.new.self c.in_ok-stop.stop completes c.in_ok-stop.ensures c.in-Normal.is

pub run_loop-returns : goal.run_loop-returns
run_loop-returns t c =
    let n = c.args.turns in
    let b = tree_of c.args.body.now in
    let d = tree_of c.args.continuing.now in
    let i = c.args.break_if.now in
    let Whole = LoopRuns n n b d i in
    let none : n - c.each._turn ≡ 0 = omega arith in
    subst (λ s. Walked Whole c.args.self.now c.each.self s) (sym c.at-2.ensures)
    (LoopRuns-no_turn n b d i Whole c.args.self.now c.each.self
    (subst (λ x. Completes (LoopRuns n x b d i) Whole c.args.self.now c.each.self) none c.each.invariant))

pub run_statement-run_block-requires : goal.run_statement-run_block-requires
run_statement-run_block-requires t c =
    let weight = ap node_weight (c.control.ensures.node ∙ ap (node_of_control c.args.statement.now) c.in-Block.is) in
    let lt : tree_weight (tree_of c.in-Block.inner.now) < node_weight (node_of c.args.statement.now) = omega arith in
    (search (rules, lt), tt)

pub run_statement-run_branch-requires : goal.run_statement-run_branch-requires
run_statement-run_branch-requires t c =
    let weight = ap node_weight (c.control.ensures.node ∙ ap (node_of_control c.args.statement.now) c.in-If.is) in
    let lt : tree_weight (tree_of c.in-If.accept.now) + tree_weight (tree_of c.in-If.reject.now) + 1 < node_weight (node_of c.args.statement.now) = omega arith in
    (search (rules, lt), tt)

pub run_statement-run_switch-requires : goal.run_statement-run_switch-requires
run_statement-run_switch-requires t c =
    let weight = ap node_weight (c.control.ensures.node ∙ ap (node_of_control c.args.statement.now) c.in-Switch.is) in
    let lt : cases_weight (cases_of c.in-Switch.cases.now) + 1 < node_weight (node_of c.args.statement.now) = omega arith in
    (search (rules, lt), tt)

pub run_statement-run_loop-requires : goal.run_statement-run_loop-requires
run_statement-run_loop-requires t c =
    let weight = ap node_weight (c.control.ensures.node ∙ ap (node_of_control c.args.statement.now) c.in-Loop.is) in
    let lt : tree_weight (tree_of c.in-Loop.body.now) + tree_weight (tree_of c.in-Loop.continuing.now) + 2 < node_weight (node_of c.args.statement.now) = omega arith in
    (search (rules, lt), tt)

pub run_statement-returns-in-Block : goal.run_statement-returns-in-Block
run_statement-returns-in-Block t c =
    StatementRuns-nested c.args.turns c.args.statement.now (tree_of c.in-Block.inner.now) c.args.self.now c.run_block.new.self c.run_block.result
    (c.control.ensures.node ∙ ap (node_of_control c.args.statement.now) c.in-Block.is) c.run_block.ensures

pub run_statement-returns-in-If : goal.run_statement-returns-in-If
run_statement-returns-in-If t c =
    let node = branch c.in-If.condition (tree_of c.in-If.accept.now) (tree_of c.in-If.reject.now) in
    StatementRuns-node_of c.args.turns c.args.statement.now node c.args.self.now c.run_branch.new.self c.run_branch.result
    (c.control.ensures.node ∙ ap (node_of_control c.args.statement.now) c.in-If.is) (c.run_branch.ensures c.in-If.condition)

pub run_statement-returns-in-Switch : goal.run_statement-returns-in-Switch
run_statement-returns-in-Switch t c =
    let node = switch c.in-Switch.selector (cases_of c.in-Switch.cases.now) in
    StatementRuns-node_of c.args.turns c.args.statement.now node c.args.self.now c.run_switch.new.self c.run_switch.result
    (c.control.ensures.node ∙ ap (node_of_control c.args.statement.now) c.in-Switch.is) (c.run_switch.ensures c.in-Switch.selector)

pub run_statement-returns-in-Loop : goal.run_statement-returns-in-Loop
run_statement-returns-in-Loop t c =
    StatementRuns-loop c.args.turns c.args.statement.now (tree_of c.in-Loop.body.now) (tree_of c.in-Loop.continuing.now) c.in-Loop.break_if c.args.self.now c.run_loop.new.self c.run_loop.result
    (c.control.ensures.node ∙ ap (node_of_control c.args.statement.now) c.in-Loop.is) c.run_loop.ensures

pub run_statement-returns-in-Break : goal.run_statement-returns-in-Break
run_statement-returns-in-Break t c =
    StatementRuns-jumps c.args.turns c.args.statement.now break c.args.self.now c.at.result (c.control.ensures.node ∙ ap (node_of_control c.args.statement.now) c.in-Break.is) c.at.ensures

pub run_statement-returns-in-Continue : goal.run_statement-returns-in-Continue
run_statement-returns-in-Continue t c =
    StatementRuns-jumps c.args.turns c.args.statement.now continue c.args.self.now c.at-in-Continue.result (c.control.ensures.node ∙ ap (node_of_control c.args.statement.now) c.in-Continue.is) c.at-in-Continue.ensures

pub run_statement-returns-in-Return : goal.run_statement-returns-in-Return
run_statement-returns-in-Return t c =
    StatementRuns-jumps c.args.turns c.args.statement.now (return c.in-Return.value) c.args.self.now c.at-in-Return.result (c.control.ensures.node ∙ ap (node_of_control c.args.statement.now) c.in-Return.is) c.at-in-Return.ensures

pub run_statement-returns-in-Kill : goal.run_statement-returns-in-Kill
run_statement-returns-in-Kill t c =
    StatementRuns-jumps c.args.turns c.args.statement.now kill c.args.self.now c.at-in-Kill.result (c.control.ensures.node ∙ ap (node_of_control c.args.statement.now) c.in-Kill.is) c.at-in-Kill.ensures

pub run_statement-meet-requires : goal.run_statement-meet-requires
run_statement-meet-requires t c =
    ap is_plain (c.control.ensures.node ∙ ap (node_of_control c.args.statement.now) c.in-Plain.is)

pub run_statement-returns-in-Plain : goal.run_statement-returns-in-Plain
run_statement-returns-in-Plain t c = c.meet.ensures c.args.turns

pub run_switch-run_cases-requires : goal.run_switch-run_cases-requires
run_switch-run_cases-requires t c =
    let cs = cases_of c.args.cases.now in
    let fewer = cases_weight-from (entered (values cs) c.in-Some.answer) cs in
    let same = ap cases_weight c.entered_cases.ensures in
    let lt : cases_weight (cases_of c.entered_cases.result.now) < cases_weight (cases_of c.args.cases.now) + 1 = omega arith in
    (search (rules, lt), tt)

pub run_switch-returns-in-None : goal.run_switch-returns-in-None
run_switch-returns-in-None t c =
    λ selector.
    Walked-cut_stop (StatementRuns c.args.turns (switch selector (cases_of c.args.cases.now))) c.args.self.now c.next_answer.new.self c.at.result c.at.ensures
    c.in-None.ensures.trace c.in-None.ensures.none.0 c.in-None.ensures.none.1 unselected

pub run_switch-returns-in-Some : goal.run_switch-returns-in-Some
run_switch-returns-in-Some t c =
    StatementRuns-selects c.args.turns (cases_of c.args.cases.now) (cases_of c.entered_cases.result.now) c.args.self.now c.next_answer.new.self c.run_cases.new.self c.in-Some.answer c.run_cases.result
    c.in-Some.ensures.trace c.in-Some.ensures.some c.entered_cases.ensures c.run_cases.ensures

pub run_turn-run_block-requires : goal.run_turn-run_block-requires
run_turn-run_block-requires t c =
    let lt : tree_weight (tree_of c.args.body.now) < tree_weight (tree_of c.args.body.now) + tree_weight (tree_of c.args.continuing.now) + 1 = omega arith in
    (search (rules, lt), tt)

pub run_turn-run_block-requires-2 : goal.run_turn-run_block-requires-2
run_turn-run_block-requires-2 t c =
    let lt : tree_weight (tree_of c.args.continuing.now) < tree_weight (tree_of c.args.body.now) + tree_weight (tree_of c.args.continuing.now) + 1 = omega arith in
    (search (rules, lt), tt)

pub run_turn-returns-in_err-stop : goal.run_turn-returns-in_err-stop
run_turn-returns-in_err-stop t c =
    let b = tree_of c.args.body.now in
    let d = tree_of c.args.continuing.now in
    WalksBy-error (TurnRuns c.args.turns b d c.args.break_if.now) c.args.self.now c.run_block.new.self c.from_residual.result c.from_residual.ensures.0
    (MeetsPlain-in_body c.args.turns b d c.args.break_if.now c.args.self.now.answers.now c.in_err-stop.ensures)

pub run_turn-returns-in_err-stop-2 : goal.run_turn-returns-in_err-stop-2
run_turn-returns-in_err-stop-2 t c =
    let b = tree_of c.args.body.now in
    let d = tree_of c.args.continuing.now in
    WalksBy-error (TurnRuns c.args.turns b d c.args.break_if.now) c.args.self.now c.run_block-2.new.self c.from_residual-in_err-stop-2.result c.from_residual-in_err-stop-2.ensures.0
    (MeetsPlain-in_continuing c.args.turns b d c.args.break_if.now c.args.self.now c.run_block.new.self c.in_ok-stop.stop c.in_ok-stop.ensures (c.goes_on.ensures.0 c.if-not-goes_on.false) c.in_err-stop-2.ensures)

pub run_turn-returns-then-not-goes_on : goal.run_turn-returns-then-not-goes_on
run_turn-returns-then-not-goes_on t c =
    TurnRuns-in_body c.args.turns (tree_of c.args.body.now) (tree_of c.args.continuing.now) c.args.break_if.now c.args.self.now c.run_block.new.self c.in_ok-stop.stop c.in_ok-stop.ensures
    (GoesOn-test_false c.goes_on.result c.in_ok-stop.stop.ending c.goes_on.ensures c.if-not-goes_on.true)

pub run_turn-returns-then-not-goes_on-2 : goal.run_turn-returns-then-not-goes_on-2
run_turn-returns-then-not-goes_on-2 t c =
    TurnRuns-in_continuing c.args.turns (tree_of c.args.body.now) (tree_of c.args.continuing.now) c.args.break_if.now c.args.self.now c.run_block.new.self c.run_block-2.new.self c.in_ok-stop.stop c.in_ok-stop-2.stop c.in_ok-stop.ensures (c.goes_on.ensures.0 c.if-not-goes_on.false) c.in_ok-stop-2.ensures
    (GoesOn-test_false c.goes_on-2.result c.in_ok-stop-2.stop.ending c.goes_on-2.ensures c.if-not-goes_on-2.true)

pub run_turn-returns : goal.run_turn-returns
run_turn-returns t c =
    TurnRuns-whole c.args.turns (tree_of c.args.body.now) (tree_of c.args.continuing.now) c.args.break_if.now c.args.self.now c.run_block.new.self c.run_block-2.new.self c.ask.new.self c.in_ok-stop.stop c.in_ok-stop-2.stop c.ask.result c.in_ok-stop.ensures (c.goes_on.ensures.0 c.if-not-goes_on.false) c.in_ok-stop-2.ensures (c.goes_on-2.ensures.0 c.if-not-goes_on-2.false) c.ask.ensures
