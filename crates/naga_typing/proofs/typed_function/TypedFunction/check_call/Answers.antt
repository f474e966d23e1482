use Rattle.std.proofs.Common.{◌∷◌, [], Bool, Some, length, subst}
use Rattle.std.specs.Option.{is_some}
use Rattle.std.specs.Prelude.{All}
use Rattle.naga_flow.specs.Tracking.{IsFirstNot}
use Rattle.naga_typing.specs.Statements.{of_arguments}
use Rattle.naga_typing.specs.TypedFunctions.{FitsIn}
use Rattle.naga_typing.specs.declared.requirement.Requirement.TheVariants as requirement
use Rattle.naga_typing.proofs.ChecksLemmas.{Checks-ended, Checks-then}
use Rattle.naga_typing.proofs.typed_function.TypedFunction.check_call.Goals as goal

pub returns-in-Ok : goal.returns-in-Ok
returns-in-Ok c =
    let called = λ (s : Bool). Some (requirement.ArgumentCount c.args.function (length c.args.arguments.now)) ∷ Some (requirement.CallResult c.args.function s) ∷ [] in
    Checks-then (FitsIn c.args.self.now) (called (is_some c.args.outcome)) (of_arguments c.args.function 0 c.args.arguments.now) c.check_arguments.result
    (subst (λ s. All (FitsIn c.args.self.now) (called s)) c.is_some.ensures c.in-Ok.ensures) c.check_arguments.ensures

pub returns-in-Err : goal.returns-in-Err
returns-in-Err c =
    let called = λ (s : Bool). Some (requirement.ArgumentCount c.args.function (length c.args.arguments.now)) ∷ Some (requirement.CallResult c.args.function s) ∷ [] in
    Checks-ended (FitsIn c.args.self.now) (called (is_some c.args.outcome)) (of_arguments c.args.function 0 c.args.arguments.now) c.in-Err.unmet
    (subst (λ s. IsFirstNot (FitsIn c.args.self.now) (called s) (Some c.in-Err.unmet)) c.is_some.ensures c.in-Err.ensures)
