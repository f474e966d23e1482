use Rattle.std.proofs.Common.{◌∷◌, [], Some, subst}
use Rattle.naga_typing.specs.Checks.{Checks}
use Rattle.naga_typing.specs.Composites.{first_components}
use Rattle.naga_typing.specs.Expressions.{of_components}
use Rattle.naga_typing.specs.TypedFunctions.{FitsIn}
use Rattle.naga_typing.specs.declared.requirement.FirstComponents.{FirstComponents}
use Rattle.naga_typing.specs.declared.requirement.Requirement.TheVariants as requirement
use Rattle.naga_typing.proofs.ChecksLemmas.{Checks-ended, Checks-then}
use Rattle.naga_typing.proofs.typed_function.TypedFunction.check_parts.Goals as goal

pub returns-in-Ok : goal.returns-in-Ok
returns-in-Ok c =
    let entries = λ (first : FirstComponents). Some (requirement.VectorEntries c.args.ty first) ∷ [] in
    Checks-then (FitsIn c.args.self.now) (of_components c.args.ty 0 c.args.components.now) (entries (first_components c.args.components.now))
    c.check_one.result c.in-Ok.ensures
    (subst (λ first. Checks (FitsIn c.args.self.now) (entries first) c.check_one.result) c.first_components-first.ensures c.check_one.ensures)

pub returns-in-Err : goal.returns-in-Err
returns-in-Err c =
    Checks-ended (FitsIn c.args.self.now) (of_components c.args.ty 0 c.args.components.now)
    (Some (requirement.VectorEntries c.args.ty (first_components c.args.components.now)) ∷ []) c.in-Err.unmet c.in-Err.ensures
