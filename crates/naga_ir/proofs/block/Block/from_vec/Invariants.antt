use Rattle.std.proofs.Common.{◌≡◌, ◌+◌, ◌≤◌, vec_len, vec_capacity}
use Rattle.std.specs.Vec.Iter.{into_iter_len}
use Rattle.naga_ir.specs.Block.{with_undefined}
use Rattle.naga_ir.proofs.block.Block.from_vec.Given as goal

abbrev pub invariant-statements : goal.invariant-statements
invariant-statements l =
    (l.entries.items ≡ with_undefined l.yielded) × (vec_len l.entries + into_iter_len l.statement-iterator ≤ vec_capacity l.entries)
