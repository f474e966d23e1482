use Rattle.std.proofs.Common.{Some}
use Rattle.naga_flow.specs.Chains.{indices_from}
use Rattle.naga_flow.specs.Tracking.{known_of}
use Rattle.naga_flow.specs.Uses.{IsKnown, expressions_in}
use Rattle.naga_flow.proofs.ChainsLemmas.{EachEndsReady, indices_ahead}
use Rattle.naga_flow.proofs.IsFirstNotLemmas.{IsLeft}
use Rattle.naga_flow.proofs.reading.unread_index.Given as goal

-- the indices from the next one on are left
abbrev pub invariant-chain : goal.invariant-chain
invariant-chain l = record {
  left : IsLeft (IsKnown (expressions_in l.expressions) (known_of l.known)) (indices_from l.expressions l.next) (indices_from l.expressions (Some l.fn.first));
  ends : EachEndsReady l.expressions l.next;
}

abbrev pub decreases-chain : goal.decreases-chain
decreases-chain l = indices_ahead l.next
