use Rattle.std.proofs.Common.{take}
use Rattle.naga_arena.specs.Arena.{values}
use Rattle.naga_typing.specs.FunctionFaults.{AddsFaults, expression_parts}
use Rattle.naga_typing.specs.TypedFunctions.{context_of, signature_of}
use Rattle.naga_typing.proofs.typed_function.TypedFunction.push_operands.Given as goal

-- the faults of the expressions before the index were appended
abbrev pub invariant-expressions : goal.invariant-expressions
invariant-expressions l =
    AddsFaults l.self l.limit
    (take l.index (expression_parts (context_of l.self) (signature_of l.self) l.self.known.now (values l.self.function.now.expressions)))
    l.initial.faults.items l.faults.items
