use Rattle.std.proofs.Common.{◌≡◌, ◌≤◌, None, arith, length}
use Rattle.std.proofs.lemmas.List.{length-map}
use Rattle.naga_arena.specs.Arena.{values}
use Rattle.naga_typing.specs.TypedFunctions.{context_of, signature_of}
use Rattle.naga_typing.proofs.FaultsLemmas.{ExpressionsAreTyped-all, IsExpressionFault-operand, typing-length}
use Rattle.naga_typing.proofs.stage.check_all.Goals as goal

pub returns-in-Ok : goal.returns-in-Ok
returns-in-Ok c =
    let typed = c.args.typed.now in
    let expressions = c.args.expressions.now in
    let same : length (values expressions) ≡ length expressions = length-map expressions _ in
    let past : length (values expressions) ≤ c.len.result = omega (arith, same, c.len.ensures.value) in
    (c.requires, ExpressionsAreTyped-all (context_of typed) (signature_of typed) (values expressions) typed.known.now c.requires c.len.result past c.in-Ok.ensures)

pub returns-in-Err : goal.returns-in-Err
returns-in-Err c =
    let typed = c.args.typed.now in
    let expressions = c.args.expressions.now in
    let same : length (values expressions) ≡ length expressions = length-map expressions _ in
    let all = typing-length (context_of typed) (values expressions) typed.known.now c.requires in
    let count : c.len.result ≡ length typed.known.now = omega (arith, same, all, c.len.ensures.value) in
    IsExpressionFault-operand (context_of typed) (signature_of typed) (values expressions) typed.known.now None c.requires c.len.result count
    c.in-Err.fault c.in-Err.ensures
