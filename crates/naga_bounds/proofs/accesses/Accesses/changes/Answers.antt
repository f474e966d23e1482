use Rattle.std.proofs.Common.{◌≡◌, ◌≤◌, ◌∙◌, ◌∷◌, [], ap, arith, length, length-append, subst, sym}
use Rattle.naga_bounds.specs.Changes.{change_at, counts_by}
use Rattle.naga_bounds.proofs.PlannedLemmas.{ArePlanned, planned-earlier, planned-next}
use Rattle.naga_bounds.proofs.accesses.Accesses.changes.Goals as goal

pub expressions-preserved : goal.expressions-preserved
expressions-preserved c =
    let code = c.args.self.now in
    let counts = counts_by c.args.overrides.now code.types in
    let pushed = c.in_default-push_change.ensures.pushed in
    record {
      len = omega (arith, ap length pushed.2, length-append c.expressions.changes.items (pushed.0 ∷ []), c.expressions.invariant.len);
      planned = subst (ArePlanned counts code) (sym pushed.2)
          (planned-next counts code c.expressions.changes.items c.expressions.index pushed.0 c.expressions.invariant.len c.expressions.invariant.planned
          (ap (change_at counts code) (sym c.at-access.ensures) ∙ pushed.1));
      room = subst (λ capacity. length code.arena ≤ capacity) (sym c.push_change.ensures.capacity) c.expressions.invariant.room;
    }

pub returns-in-Err-clause-error : goal.returns-in-Err-clause-error
returns-in-Err-clause-error c =
    let code = c.args.self.now in
    let counts = counts_by c.args.overrides.now code.types in
    record {
      unclamped = c.in-Err.ensures.error.0;
      earlier = λ other within. planned-earlier counts code c.expressions.changes.items c.expressions.index c.expressions.invariant.len
          c.expressions.invariant.planned other (omega (arith, within, c.at-access.ensures));
    }
