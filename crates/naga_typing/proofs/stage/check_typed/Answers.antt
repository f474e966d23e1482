use Rattle.std.proofs.Common.{subst, sym}
use Rattle.naga_typing.specs.Stages.{IsInvalidFunction}
use Rattle.naga_typing.proofs.TypedModulesLemmas.{FunctionIsTyped-stages, IsFault-stages, IsInvalidFunction-stop}
use Rattle.naga_typing.proofs.stage.check_typed.Goals as goal

pub returns-in-Ok-check_uses : goal.returns-in-Ok-check_uses
returns-in-Ok-check_uses c = FunctionIsTyped-stages c.args.typed.now c.in-Ok.ensures c.in-Ok-check_uses.ensures

pub returns-in-Err-check_uses : goal.returns-in-Err-check_uses
returns-in-Err-check_uses c = IsFault-stages c.args.typed.now c.in-Ok.ensures c.in-Err-check_uses.fault c.in-Err-check_uses.ensures

pub returns-in-Err : goal.returns-in-Err
returns-in-Err c =
    subst (IsInvalidFunction c.args.typed.now.«module».now c.args.typed.now.function.now) (sym c.invalid_function.ensures)
    (IsInvalidFunction-stop c.args.typed.now c.in-Err.stop c.in-Err.ensures)
