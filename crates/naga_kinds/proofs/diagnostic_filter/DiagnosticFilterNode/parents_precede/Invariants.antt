use Rattle.std.specs.Prelude.{◌↔◌}
use Rattle.naga_kinds.specs.Search.{ParentsPrecede}
use Rattle.naga_kinds.proofs.FindsLemmas.{PrecedeEach}
use Rattle.naga_kinds.proofs.diagnostic_filter.DiagnosticFilterNode.parents_precede.Given as goal

-- Each parent of the remaining nodes precedes its node if and only if this is true for all nodes.
abbrev pub invariant-loop-handle : goal.invariant-loop-handle
invariant-loop-handle l = PrecedeEach l.handle-iterator ↔ ParentsPrecede l.arena
