use Rattle.std.proofs.Common.{rules, ◌≡◌, ◌∷◌, [], IsTrue}
use Rattle.naga_valid.specs.Expressions.{references_of_expression}
use Rattle.naga_valid.proofs.IsRestLemmas.{IsRest-end, IsRest-first, IsRest-itself, IsRest-next}
use Rattle.naga_valid.proofs.handles.rule.first_reference_unlike.Goals as goal

pub loop-reference-init : goal.loop-reference-init
loop-reference-init g c =
    IsRest-itself (g.R.Rule.Permits c.args.module.now c.args.rule.now c.args.index) _ (references_of_expression c.args.expression.now) (search rules)

pub returns-then-not-allows : goal.returns-then-not-allows
returns-then-not-allows g c =
    let is : c.loop-reference.reference-iterator ≡ c.in-Some.reference ∷ c.next.new.self = search rules in
    let refused : IsTrue c.allows.result → ⊥ = search rules in
    (IsRest-first (g.R.Rule.Permits c.args.module.now c.args.rule.now c.args.index) _ _ _ _ is c.loop-reference.invariant, λ permitted. refused (c.allows.ensures.1 permitted))

pub loop-reference-preserved : goal.loop-reference-preserved
loop-reference-preserved g c =
    let is : c.loop-reference.reference-iterator ≡ c.in-Some.reference ∷ c.next.new.self = search rules in
    IsRest-next (g.R.Rule.Permits c.args.module.now c.args.rule.now c.args.index) _ _ _ _ is c.loop-reference.invariant (c.allows.ensures.0 (search rules))

pub returns : goal.returns
returns g c =
    let is : c.loop-reference.reference-iterator ≡ [] = search rules in
    IsRest-end (g.R.Rule.Permits c.args.module.now c.args.rule.now c.args.index) _ _ is c.loop-reference.invariant
