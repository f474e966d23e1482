use Rattle.std.proofs.Common.{◌∷◌, [], Some, length}
use Rattle.naga_typing.specs.Expressions.{of_parts}
use Rattle.naga_typing.specs.TypedFunctions.{FitsIn}
use Rattle.naga_typing.specs.declared.requirement.Requirement.TheVariants as requirement
use Rattle.naga_typing.proofs.ChecksLemmas.{Checks-ended, Checks-then}
use Rattle.naga_typing.proofs.typed_function.TypedFunction.check_compose.Goals as goal

pub returns-in-Ok : goal.returns-in-Ok
returns-in-Ok c =
    let count = Some (requirement.ComponentCount c.args.ty (length c.args.components.now)) ∷ [] in
    Checks-then (FitsIn c.args.self.now) count (of_parts c.args.ty c.args.components.now) c.check_parts.result c.in-Ok.ensures
    c.check_parts.ensures

pub returns-in-Err : goal.returns-in-Err
returns-in-Err c =
    let count = Some (requirement.ComponentCount c.args.ty (length c.args.components.now)) ∷ [] in
    Checks-ended (FitsIn c.args.self.now) count (of_parts c.args.ty c.args.components.now) c.in-Err.unmet c.in-Err.ensures
