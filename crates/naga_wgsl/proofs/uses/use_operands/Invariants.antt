use Rattle.std.proofs.Common.{◌≡◌, drop}
use Rattle.std.specs.List.{flat_map}
use Rattle.naga_valid.specs.Operands.{operands_of}
use Rattle.naga_wgsl.specs.Counts.{use_each}
use Rattle.naga_wgsl.proofs.uses.use_operands.Given as goal

-- the operands of the expressions from this one on are still to be counted
abbrev pub invariant-loop-expression : goal.invariant-loop-expression
invariant-loop-expression l =
    use_each l.uses (flat_map operands_of (drop l.expression-index l.values)) ≡ use_each l.initial.uses (flat_map operands_of l.values)
