use Rattle.std.proofs.Common.{◌≡◌, ◌+◌, length, length-append, ◌∙◌, ap, sym, rules}
use Rattle.naga_arena.proofs.EnumerateFromLemmas.{enumerate_from-last}
use Rattle.naga_arena.proofs.arena.drain.DrainDoubleEndedIterator.next_back.Goals as goal

pub returns-clause-steps : goal.returns-clause-steps
returns-clause-steps g c =
    let last = enumerate_from-last c.self.inside.first _ _ c.self.inside.spans.items _ c.index-span.result.now c.self.invariant.0 c.in_ok-value.ensures in
    let handle : c.at-handle.result ≡ c.self.inside.first + length (g.V.Values.rest c.next_value_back.new.self) = search rules in
    let place : c.index.result ≡ c.self.inside.first + length (g.V.Values.rest c.next_value_back.new.self) = c.index.ensures.value ∙ handle in
    rw (handle, c.index-span.ensures, place) (sym c.self.view_is ∙ last)

pub returns-clause-goes : goal.returns-clause-goes
returns-clause-goes g c =
    let shorter = simp length-append at (ap length (returns-clause-steps g c)) in
    search rules
