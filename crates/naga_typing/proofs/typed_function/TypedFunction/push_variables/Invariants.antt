use Rattle.std.proofs.Common.{take}
use Rattle.naga_typing.specs.FunctionFaults.{AddsFaults, variable_parts}
use Rattle.naga_typing.specs.Initials.{locals_of}
use Rattle.naga_typing.specs.TypedFunctions.{context_of, signature_of}
use Rattle.naga_typing.proofs.typed_function.TypedFunction.push_variables.Given as goal

-- the faults of the variables before the position were appended
abbrev pub invariant-variables : goal.invariant-variables
invariant-variables l =
    AddsFaults l.self l.limit
    (take l.position (variable_parts (context_of l.self) (signature_of l.self) l.self.known.now (locals_of l.self.function.now)))
    l.initial.faults.items l.faults.items
