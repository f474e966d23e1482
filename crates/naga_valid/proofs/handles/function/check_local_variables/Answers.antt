use Rattle.naga_arena.specs.Arena.{values}
use Rattle.naga_valid.specs.Declarations.{references_of_local_variable}
use Rattle.naga_valid.specs.declared.place.Part.TheVariants as part
use Rattle.naga_valid.proofs.FindsElementLemmas.{FindsElement-none, FindsElement-some}
use Rattle.naga_valid.proofs.handles.function.check_local_variables.Goals as goal

pub returns-in-None : goal.returns-in-None
returns-in-None c = FindsElement-none references_of_local_variable (λ index. c.args.limits.now) (values c.args.function.now.local_variables) c.iter.result c.iter.ensures.rest c.in-None.ensures

pub returns-in-Some : goal.returns-in-Some
returns-in-Some c =
    let outside = FindsElement-some references_of_local_variable (λ index. c.args.limits.now) (values c.args.function.now.local_variables) c.iter.result c.iter.ensures.rest c.in-Some.found.0 c.in-Some.found.1 c.in-Some.ensures in
    (part.LocalVariable c.in-Some.found.0, (c.part.ensures, outside.0, outside.1))
