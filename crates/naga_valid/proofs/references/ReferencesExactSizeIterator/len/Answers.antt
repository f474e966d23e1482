use Rattle.std.proofs.Common.{arith, ◌≡◌, ◌+◌, ◌≤◌, ap, drop, length, subst}
use Rattle.std.proofs.lemmas.List.{length-drop}
use Rattle.naga_valid.proofs.CountsDownLemmas.{Finds, IsAt-within, counts_down-finds}
use Rattle.naga_valid.proofs.references.ReferencesExactSizeIterator.len.Goals as goal

pub overflow_sub-result-in-Continue : goal.overflow_sub-result-in-Continue
overflow_sub-result-in-Continue g c =
    let list = g.P.Refers.references c.self.inside.part.now in
    let passed : c.new-nth.result.left ≡ c.visit_references.new.visitor.left + length list = subst (λ answer. Finds list c.new-nth.result.left answer c.visit_references.new.visitor) c.in-Continue.is (counts_down-finds c.new-nth.result list c.visit_references.result c.visit_references.new.visitor c.visit_references.ensures.visited) in
    let inside : c.self.inside.position ≤ length list = c.self.invariant in
    omega (arith, passed, inside, c.new-nth.ensures, c.left.ensures)

pub unreachable-requires : goal.unreachable-requires
unreachable-requires g c =
    let list = g.P.Refers.references c.self.inside.part.now in
    let found = subst (λ answer. Finds list c.new-nth.result.left answer c.visit_references.new.visitor) c.in-Break.is (counts_down-finds c.new-nth.result list c.visit_references.result c.visit_references.new.visitor c.visit_references.ensures.visited) in
    omega (arith, IsAt-within list c.new-nth.result.left c.in-Break.field-0 found, c.new-nth.ensures, c.visit_references.ensures.fits)

pub returns-clause-value : goal.returns-clause-value
returns-clause-value g c =
    let list = g.P.Refers.references c.self.inside.part.now in
    let passed : c.new-nth.result.left ≡ c.visit_references.new.visitor.left + length list = subst (λ answer. Finds list c.new-nth.result.left answer c.visit_references.new.visitor) c.in-Continue.is (counts_down-finds c.new-nth.result list c.visit_references.result c.visit_references.new.visitor c.visit_references.ensures.visited) in
    let inside : c.self.inside.position ≤ length list = c.self.invariant in
    let shown : length (drop c.self.inside.position list) ≡ length c.args.self.now = ap length c.self.view_is in
    omega (arith, passed, inside, length-drop c.self.inside.position list, shown, c.new-nth.ensures, c.left.ensures)
