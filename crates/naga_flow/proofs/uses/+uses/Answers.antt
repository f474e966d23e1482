use Rattle.std.proofs.Common.{◌≡◌, ◌∙◌, [], ◌∷◌, ap, refl, sym, subst}
use Rattle.std.proofs.lemmas.List.{drop_all}
use Rattle.naga_ir.specs.View.{node_of, tree_of}
use Rattle.naga_valid.proofs.IsRestLemmas.{IsRest-next}
use Rattle.naga_flow.specs.Misuses.{Judged, NodeMisuse}
use Rattle.naga_flow.specs.Readings.{read_in}
use Rattle.naga_flow.specs.Tracking.{known_of, scope_of}
use Rattle.naga_flow.specs.Uses.{where_reached}
use Rattle.naga_flow.specs.Walked.{HasPassed}
use Rattle.naga_flow.specs.Ways.{either, only_off}
use Rattle.naga_flow.specs.declared.ways.Ways.{Ways}
use Rattle.naga_flow.proofs.HasWalkedLemmas.{HasWalked-kept}
use Rattle.naga_flow.proofs.JumpsLemmas.{drop-here}
use Rattle.naga_flow.proofs.MisusesLemmas.{IfMisuse-passed_on}
use Rattle.naga_flow.proofs.WalkLemmas.{IsCasing-end, IsCasing-fails, IsWalking, IsWalking-fails, IsWalking-next, ends-fails, ends-passes, loop-walked, plain-walked, return-walked}
use Rattle.naga_flow.proofs.uses.+uses.Goals as goal

-- ---- a block

pub walk_block-statements-preserved : goal.walk_block-statements-preserved
walk_block-statements-preserved t c =
    let is : c.statements.statement-iterator ≡ (c.in-Some.statement.now, c.in-Some.span.now) ∷ c.next.new.self = c.in-Some.ensures.steps in record {
      rest = IsRest-next (λ _. Unit {0}) _ _ _ _ is c.statements.invariant.rest tt;
      walking = subst (λ walked. IsWalking (read_in c.args.reading.now) c.args.number c.args.known.now (tree_of c.args.block.now) c.next.new.self walked c.walk_statement.new.known) (sym c.followed-walked.ensures)
          (IsWalking-next (read_in c.args.reading.now) c.args.number c.args.known.now (tree_of c.args.block.now) _ c.next.new.self c.in-Some.statement.now c.in-Some.span.now
          c.statements.walked c.statements.known is c.statements.invariant.walking c.in-Ok.passed c.walk_statement.new.known c.len-in-Ok.result c.len-in-Ok.ensures c.in-Ok.ensures);
    }

pub walk_block-returns-in-Err : goal.walk_block-returns-in-Err
walk_block-returns-in-Err t c =
    let is : c.statements.statement-iterator ≡ (c.in-Some.statement.now, c.in-Some.span.now) ∷ c.next.new.self = c.in-Some.ensures.steps in
    IfMisuse-passed_on c.in-Err.error c.in-Err.ensures
    (IsWalking-fails (read_in c.args.reading.now) c.args.number c.args.known.now (tree_of c.args.block.now) _ c.next.new.self c.in-Some.statement.now c.in-Some.span.now
    c.statements.walked c.statements.known is c.statements.invariant.walking)

-- ---- the cases of a switch

pub walk_cases-returns-in-Err : goal.walk_cases-returns-in-Err
walk_cases-returns-in-Err t c =
    IfMisuse-passed_on c.in-Err.error c.in-Err.ensures
    (IsCasing-fails (read_in c.args.reading.now) c.args.number c.args.known.now c.args.cases.now _ _ c.case-item.result c.cases.next c.cases.ways c.cases.known
    (drop-here c.args.cases.now c.cases.case-index c.case-item.result c.cases-test.true c.case-item.is) c.cases.invariant)

pub walk_cases-returns : goal.walk_cases-returns
walk_cases-returns t c =
    IsCasing-end (read_in c.args.reading.now) c.args.number c.args.known.now c.args.cases.now _ c.cases.next c.cases.ways c.cases.known c.passed.result c.either.result
    (drop_all c.cases.case-index c.args.cases.now c.cases-test.false) c.cases.invariant c.passed.ensures
    (c.either.ensures ∙ ap (λ first. either first c.cases.ways) (c.only_off.ensures ∙ ap only_off c.may_be_passed.ensures))

-- ---- loops

pub walk_certain-returns-in-Ok : goal.walk_certain-returns-in-Ok
walk_certain-returns-in-Ok t c =
    HasWalked-kept (read_in c.args.reading.now) c.args.number c.args.known.now (tree_of c.args.block.now) c.in-Ok.walked c.walk_block.new.known c.in-Ok.ensures c.doubt_from.new.self c.passed.result
    c.passed.ensures c.doubt_from.ensures

pub walk_continuing-returns-in-Ok-require_present : goal.walk_continuing-returns-in-Ok-require_present
walk_continuing-returns-in-Ok-require_present t c =
    let expressions = read_in c.args.reading.now in
    ends-passes expressions c.args.number c.args.span c.args.before c.args.known.now (tree_of c.args.continuing.now) c.args.break_if c.args.repeated c.in-Ok.repeated c.in-Ok.is
    (read_in c.where_reached-reading.result) (c.where_reached-reading.ensures ∙ ap (λ t. where_reached t expressions) c.may_go_on.ensures) c.in-Ok-walk_certain.continued c.walk_certain.new.known _
    c.in-Ok-walk_certain.ensures c.in-Ok-require_present.ensures c.passed.result (c.passed.ensures ∙ ap (λ (ways : Ways). record { next = c.in-Ok-walk_certain.continued.next; ways = ways }) c.only_off.ensures)
    c.forget_from.ensures

pub walk_continuing-returns-in-Err-require_present : goal.walk_continuing-returns-in-Err-require_present
walk_continuing-returns-in-Err-require_present t c =
    let expressions = read_in c.args.reading.now in
    ends-fails expressions c.args.number c.args.span c.args.before c.args.known.now (tree_of c.args.continuing.now) c.args.break_if c.args.repeated c.in-Ok.repeated c.in-Ok.is
    (read_in c.where_reached-reading.result) (c.where_reached-reading.ensures ∙ ap (λ t. where_reached t expressions) c.may_go_on.ensures) c.in-Ok-walk_certain.continued c.walk_certain.new.known []
    c.in-Ok-walk_certain.ensures c.in-Err-require_present.error c.in-Err-require_present.ensures

pub walk_statement-returns-in-Loop : goal.walk_statement-returns-in-Loop
walk_statement-returns-in-Loop t c =
    let expressions = read_in c.args.reading.now in
    let old = c.args.known.now in
    subst (λ node. Judged c.walk_continuing.result (λ passed. HasPassed expressions c.args.number old node passed c.walk_continuing.new.known)
    (NodeMisuse expressions c.args.number c.args.span (known_of old) (scope_of old) node)) (sym c.in-Loop.ensures.node)
    (loop-walked expressions c.args.number c.args.span old (tree_of c.in-Loop.body.now) (tree_of c.in-Loop.continuing.now) c.in-Loop.break_if c.saturating_add-next.result c.saturating_add-next.ensures
    c.walk_certain-repeated.new.known c.walk_continuing.new.known c.len-before.result c.len-before.ensures c.walk_certain-repeated.result c.walk_continuing.result c.walk_certain-repeated.ensures c.walk_continuing.ensures)

-- ---- statements without blocks

pub walk_statement-returns-in-Plain : goal.walk_statement-returns-in-Plain
walk_statement-returns-in-Plain t c =
    plain-walked (read_in c.args.reading.now) c.args.number c.args.span c.args.known.now c.walk_plain-found.new.known (node_of c.args.statement.now) c.saturating_add-next.result c.saturating_add-next.ensures
    c.only_off.result c.walk_plain-found.result c.passed_if.result c.passed_if.ensures c.args.statement.now c.in-Plain.ensures.node c.only_off.ensures c.walk_plain-found.ensures

pub walk_statement-returns-in-Return : goal.walk_statement-returns-in-Return
walk_statement-returns-in-Return t c =
    return-walked (read_in c.args.reading.now) c.args.number c.args.span c.args.known.now c.args.known.now (node_of c.args.statement.now) c.saturating_add-next.result c.saturating_add-next.ensures
    c.only_off-in-Return.result c.require_present-found.result c.passed_if-in-Return.result c.passed_if-in-Return.ensures c.in-Return.value c.in-Return.ensures.node c.only_off-in-Return.ensures refl
    c.require_present-found.ensures
