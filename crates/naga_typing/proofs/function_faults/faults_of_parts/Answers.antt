use Rattle.std.proofs.Common.{◌≡◌, ◌≤◌, arith, length}
use Rattle.std.proofs.lemmas.List.{length-map}
use Rattle.naga_arena.specs.Arena.{values}
use Rattle.naga_typing.proofs.FunctionFaultsLemmas.{AreFirstFaults-parts}
use Rattle.naga_typing.proofs.function_faults.faults_of_parts.Goals as goal

pub returns : goal.returns
returns c =
    let expressions = c.args.typed.now.function.now.expressions in
    let same : length (values expressions) ≡ length expressions = length-map expressions _ in
    let past : length (values expressions) ≤ c.len.result = omega (arith, same, c.len.ensures.value) in
    AreFirstFaults-parts c.args.typed.now c.args.limit c.requires c.len.result past c.new-faults.result.items c.push_operands.new.faults.items
    c.push_variables.new.faults.items c.push_block.new.faults.items c.new-faults.ensures.items
    c.in_ok-push_operands.ensures c.in_ok-push_variables.ensures c.in_ok-push_block.ensures.adds
