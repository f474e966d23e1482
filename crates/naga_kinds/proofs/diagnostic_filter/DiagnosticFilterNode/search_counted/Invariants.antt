use Rattle.std.proofs.Common.{◌+◌, ◌<◌, ◌≤◌, length}
use Rattle.std.specs.Prelude.{IfSome}
use Rattle.std.specs.Option.{option_map_or}
use Rattle.naga_kinds.proofs.FindsLemmas.{Carries}
use Rattle.naga_kinds.proofs.diagnostic_filter.DiagnosticFilterNode.search_counted.Given as goal

-- The next node is in the arena, no more nodes remain than the bound allows, and the result of a search from the next
-- node determines the result of the search from the leaf.
abbrev pub invariant-nodes : goal.invariant-nodes
invariant-nodes l =
    record {
      within : IfSome l.next (λ here. here < length l.arena);
      bound : l.looked_at + option_map_or (λ here. here + 1) l.next 0 ≤ option_map_or (λ leaf. leaf + 1) l.fn.node 0;
      carries : Carries l.arena l.fn.node l.triggering_rule l.next l.looked_at;
    }

-- the index of the next node plus 1, or 0 if there is no next node
abbrev pub decreases-nodes : goal.decreases-nodes
decreases-nodes l = option_map_or (λ here. here + 1) l.next 0
