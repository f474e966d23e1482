use Rattle.naga_arena.specs.Arena.{values}
use Rattle.naga_valid.specs.Expressions.{references_of_expression}
use Rattle.naga_valid.specs.declared.place.Part.TheVariants as part
use Rattle.naga_valid.proofs.FindsElementLemmas.{FindsElement-none, FindsElement-some}
use Rattle.naga_valid.proofs.handles.function.check_expressions.Goals as goal

pub returns-in-None : goal.returns-in-None
returns-in-None c = FindsElement-none references_of_expression (λ index. record c.args.limits.now { expressions = index }) (values c.args.function.now.expressions) c.iter.result c.iter.ensures.rest c.in-None.ensures

pub returns-in-Some : goal.returns-in-Some
returns-in-Some c =
    let outside = FindsElement-some references_of_expression (λ index. record c.args.limits.now { expressions = index }) (values c.args.function.now.expressions) c.iter.result c.iter.ensures.rest c.in-Some.found.0 c.in-Some.found.1 c.in-Some.ensures in
    (part.Expression c.in-Some.found.0, (c.part.ensures, outside.0, outside.1))
