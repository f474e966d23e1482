use Rattle.std.proofs.Common.{length}
use Rattle.naga_ir.specs.Block.{pairs}
use Rattle.naga_proc.proofs.Building.IsAtTurnLemmas.{IsAtTurn}
use Rattle.naga_proc.proofs.builder.build.Given as goal

abbrev pub invariant-commands : goal.invariant-commands
invariant-commands l =
    IsAtTurn l.fn.commands.items (length l.yielded) l.built.expressions (pairs l.built.block) l.built.emitted.items l.emitter
