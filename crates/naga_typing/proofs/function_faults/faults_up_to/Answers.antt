use Rattle.std.proofs.Common.{◌≡◌, arith, length}
use Rattle.std.proofs.lemmas.List.{length-map}
use Rattle.naga_arena.specs.Arena.{values}
use Rattle.naga_typing.specs.TypedFunctions.{context_of}
use Rattle.naga_typing.proofs.FaultsLemmas.{typing-short}
use Rattle.naga_typing.proofs.FunctionFaultsLemmas.{AreFirstFaults-untyped}
use Rattle.naga_typing.proofs.function_faults.faults_up_to.Goals as goal

pub push_operands-requires-clause-within : goal.push_operands-requires-clause-within
push_operands-requires-clause-within c =
    let typed = c.args.typed.now in
    let expressions = typed.function.now.expressions in
    let same : length (values expressions) ≡ length expressions = length-map expressions _ in
    let short = typing-short (context_of typed) (values expressions) typed.known.now c.args.error c.requires.stopped in
    omega (arith, same, short, c.requires.at, c.index.ensures.value)

pub returns : goal.returns
returns c =
    AreFirstFaults-untyped c.args.typed.now c.args.limit c.args.expression c.args.error c.requires.at c.requires.stopped c.index.result c.index.ensures.value
    c.new-faults.result.items c.push_operands.new.faults.items c.push.new.faults.items c.new-faults.ensures.items
    c.in_ok-push_operands.ensures c.in_ok-push.ensures
