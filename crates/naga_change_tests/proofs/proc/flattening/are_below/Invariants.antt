use Rattle.std.proofs.Common.{◌<◌, take}
use Rattle.std.specs.Prelude.{All}
use Rattle.naga_change_tests.proofs.proc.flattening.are_below.Given as goal

abbrev pub invariant-loop-handle : goal.invariant-loop-handle
invariant-loop-handle l = All (λ handle. handle < l.len) (take l.handle-index l.handles)
