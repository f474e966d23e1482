use Rattle.std.proofs.Common.{◌≡◌, ◌∙◌, Some, arith, length}
use Rattle.std.proofs.lemmas.List.{length-map}
use Rattle.naga_arena.specs.Arena.{values}
use Rattle.naga_typing.specs.TypedFunctions.{context_of, signature_of}
use Rattle.naga_typing.proofs.FaultsLemmas.{IsExpressionFault-operand, IsExpressionFault-untyped, typing-short}
use Rattle.naga_typing.proofs.stage.first_fault.Goals as goal

pub check_operands-requires-clause-within : goal.check_operands-requires-clause-within
check_operands-requires-clause-within c =
    let typed = c.args.typed.now in
    let expressions = c.args.expressions.now in
    let same : length (values expressions) ≡ length expressions = length-map expressions _ in
    let short = typing-short (context_of typed) (values expressions) typed.known.now c.args.error c.requires.stopped in
    omega (arith, same, short, c.requires.at, c.index.ensures.value)

pub returns-in-Ok : goal.returns-in-Ok
returns-in-Ok c =
    let typed = c.args.typed.now in
    IsExpressionFault-untyped (context_of typed) (signature_of typed) (values c.args.expressions.now) typed.known.now
    c.args.expression c.args.error c.requires.stopped c.requires.at c.index.result c.index.ensures.value c.in-Ok.ensures

pub returns-in-Err : goal.returns-in-Err
returns-in-Err c =
    let typed = c.args.typed.now in
    IsExpressionFault-operand (context_of typed) (signature_of typed) (values c.args.expressions.now) typed.known.now
    (Some c.args.error) c.requires.stopped c.index.result (c.index.ensures.value ∙ c.requires.at) c.in-Err.fault c.in-Err.ensures
