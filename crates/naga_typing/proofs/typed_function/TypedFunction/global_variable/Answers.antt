use Rattle.naga_arena.specs.Arena.{values}
use Rattle.naga_typing.specs.Initials.{of_global_variable}
use Rattle.naga_typing.proofs.FaultsLemmas.{slot-at}
use Rattle.naga_typing.proofs.typed_function.TypedFunction.global_variable.Goals as goal

pub returns : goal.returns
returns c =
    slot-at of_global_variable (values c.args.self.now.«module».now.global_variables) c.args.index c.at-handle.result c.index-declared.result.now c.of_type_if.result
    c.at-handle.ensures c.index-declared.ensures c.of_type_if.ensures
