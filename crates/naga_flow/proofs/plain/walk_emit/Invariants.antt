use Rattle.std.proofs.Common.{◌-◌}
use Rattle.std.specs.List.{range_with_len}
use Rattle.naga_flow.specs.Readings.{read_in}
use Rattle.naga_flow.specs.Results.{emitted_by}
use Rattle.naga_flow.proofs.EmitLemmas.{IsEmitted}
use Rattle.naga_flow.proofs.plain.walk_emit.Given as goal

-- the expressions before this one have been evaluated
abbrev pub invariant-emitted : goal.invariant-emitted
invariant-emitted l =
    IsEmitted (read_in l.reading) l.fn.known l.known (emitted_by l.statement) (range_with_len l.index (l.index-end - l.index))
