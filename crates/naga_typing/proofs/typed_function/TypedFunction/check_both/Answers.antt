use Rattle.std.proofs.Common.{◌∷◌, []}
use Rattle.naga_typing.specs.TypedFunctions.{FitsIn}
use Rattle.naga_typing.proofs.ChecksLemmas.{Checks-ended, Checks-then}
use Rattle.naga_typing.proofs.typed_function.TypedFunction.check_both.Goals as goal

pub returns-in-Ok : goal.returns-in-Ok
returns-in-Ok c =
    Checks-then (FitsIn c.args.self.now) (c.args.first ∷ []) (c.args.second ∷ []) c.check_one-in-Ok.result c.in-Ok.ensures
    c.check_one-in-Ok.ensures

pub returns-in-Err : goal.returns-in-Err
returns-in-Err c =
    Checks-ended (FitsIn c.args.self.now) (c.args.first ∷ []) (c.args.second ∷ []) c.in-Err.unmet c.in-Err.ensures
