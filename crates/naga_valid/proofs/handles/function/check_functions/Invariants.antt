use Rattle.std.specs.List.{enumerate_from}
use Rattle.naga_arena.specs.Arena.{values}
use Rattle.naga_valid.proofs.FaultLemmas.{IsFunctionWithin}
use Rattle.naga_valid.proofs.IsRestLemmas.{IsRest}
use Rattle.naga_valid.proofs.handles.function.check_functions.Given as goal

abbrev pub invariant-loop-handle : goal.invariant-loop-handle
invariant-loop-handle l =
    IsRest (λ entry. IsFunctionWithin l.module entry.0 entry.1) l.handle-iterator (enumerate_from 0 (values l.module.functions))
