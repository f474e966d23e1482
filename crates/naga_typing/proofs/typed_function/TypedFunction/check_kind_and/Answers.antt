use Rattle.std.proofs.Common.{◌∷◌, []}
use Rattle.naga_typing.specs.Expressions.{of}
use Rattle.naga_typing.specs.Statements.{of_kind}
use Rattle.naga_typing.specs.TypedFunctions.{FitsIn}
use Rattle.naga_typing.proofs.ChecksLemmas.{Checks-ended, Checks-then}
use Rattle.naga_typing.proofs.typed_function.TypedFunction.check_kind_and.Goals as goal

pub returns-in-Ok : goal.returns-in-Ok
returns-in-Ok c =
    Checks-then (FitsIn c.args.self.now) (of_kind c.args.operand c.args.kind ∷ []) (of c.args.expected c.args.other ∷ [])
    c.check_expected.result c.in-Ok.ensures c.check_expected.ensures

pub returns-in-Err : goal.returns-in-Err
returns-in-Err c =
    Checks-ended (FitsIn c.args.self.now) (of_kind c.args.operand c.args.kind ∷ []) (of c.args.expected c.args.other ∷ [])
    c.in-Err.unmet c.in-Err.ensures
