use Rattle.std.proofs.Common.{rules, arith, ap, ◌≡◌, ◌∙◌, ◌+◌, ◌<◌, drop, length, subst, sym}
use Rattle.std.specs.Option.{option_map}
use Rattle.std.specs.Prelude.{option_to_list}
use Rattle.std.specs.declared.ops.ControlFlow.TheVariants.{Break, Continue}
use Rattle.naga_valid.specs.Places.{global_overrides}
use Rattle.naga_valid.specs.Visits.{AreVisited}
use Rattle.naga_valid.specs.declared.reference.Reference.TheVariants as reference
use Rattle.naga_valid.proofs.AreVisitedLemmas.{Resumes-next, Resumes-stop, global_overrides-rest, length-global_overrides}
use Rattle.naga_valid.proofs.references.entry_point.ArrayOptionHandleExpression3Refers.visit_references.Goals as goal

pub returns-in-Break : goal.returns-in-Break
returns-in-Break g c =
    let short : length c.args.self.now ≡ 3 = search rules in
    let within : c.loop-expression.expression-index < length c.args.self.now = search rules in
    let is = global_overrides-rest c.args.self.now c.loop-expression.expression-index c.expression-item.result within c.expression-item.is in
    record {
      visited =
          Resumes-stop g.V.Visitor.visits c.args.visitor.now c.loop-expression.visitor c.optional.new.visitor (global_overrides c.args.self.now) (global_overrides (drop c.loop-expression.expression-index c.args.self.now)) (option_to_list (option_map reference.GlobalExpression c.expression-item.result)) (global_overrides (drop (c.loop-expression.expression-index + 1) c.args.self.now)) c.in-Break.stop c.loop-expression.invariant is
          (subst (λ to. AreVisited g.V.Visitor.visits c.loop-expression.visitor (option_to_list to) (Break c.in-Break.stop) c.optional.new.visitor) (c.global.ensures ∙ ap (option_map reference.GlobalExpression) (sym c.expression-item.is)) c.in-Break.ensures.visited);
      fits = omega (arith, short, length-global_overrides c.args.self.now);
    }

pub loop-expression-preserved : goal.loop-expression-preserved
loop-expression-preserved g c =
    let within : c.loop-expression.expression-index < length c.args.self.now = search rules in
    let is = global_overrides-rest c.args.self.now c.loop-expression.expression-index c.expression-item.result within c.expression-item.is in
    Resumes-next g.V.Visitor.visits c.args.visitor.now c.loop-expression.visitor c.optional.new.visitor (global_overrides c.args.self.now) (global_overrides (drop c.loop-expression.expression-index c.args.self.now)) (option_to_list (option_map reference.GlobalExpression c.expression-item.result)) (global_overrides (drop (c.loop-expression.expression-index + 1) c.args.self.now)) c.loop-expression.invariant is
    (subst (λ to. AreVisited g.V.Visitor.visits c.loop-expression.visitor (option_to_list to) (Continue tt) c.optional.new.visitor) (c.global.ensures ∙ ap (option_map reference.GlobalExpression) (sym c.expression-item.is)) c.in-Continue.ensures.visited)
