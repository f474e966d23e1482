use Rattle.std.proofs.Common.{arith, ◌≡◌, ◌∙◌, ◌+◌, ◌≤◌, ◌∷◌, [], ap, drop, length, subst, sym}
use Rattle.std.proofs.Math.ListN.{drop_of_length-le}
use Rattle.naga_valid.proofs.CountsDownLemmas.{Finds, IsAt, IsAt-within, counts_down-finds}
use Rattle.naga_valid.proofs.references.ReferencesIterator.next.Goals as goal

pub overflow_add-self : goal.overflow_add-self
overflow_add-self g c =
    let list = g.P.Refers.references c.self.inside.part.now in
    let found = subst (λ answer. Finds list c.new-nth.result.left answer c.visit_references.new.visitor) c.in-Break.is (counts_down-finds c.new-nth.result list c.visit_references.result c.visit_references.new.visitor c.visit_references.ensures.visited) in
    omega (arith, IsAt-within list c.new-nth.result.left c.in-Break.reference found, c.new-nth.ensures, c.visit_references.ensures.fits)

pub invariant_of-self : goal.invariant_of-self
invariant_of-self g c =
    let list = g.P.Refers.references c.self.inside.part.now in
    let found = subst (λ answer. Finds list c.new-nth.result.left answer c.visit_references.new.visitor) c.in-Break.is (counts_down-finds c.new-nth.result list c.visit_references.result c.visit_references.new.visitor c.visit_references.ensures.visited) in
    omega (arith, IsAt-within list c.new-nth.result.left c.in-Break.reference found, c.new-nth.ensures)

pub returns-in-Continue-clause-steps : goal.returns-in-Continue-clause-steps
returns-in-Continue-clause-steps g c =
    let list = g.P.Refers.references c.self.inside.part.now in
    let passed : c.new-nth.result.left ≡ c.visit_references.new.visitor.left + length list = subst (λ answer. Finds list c.new-nth.result.left answer c.visit_references.new.visitor) c.in-Continue.is (counts_down-finds c.new-nth.result list c.visit_references.result c.visit_references.new.visitor c.visit_references.ensures.visited) in
    let past : length list ≤ c.self.inside.position = omega (arith, passed, c.new-nth.ensures) in
    let none : c.args.self.now ≡ [] = sym c.self.view_is ∙ drop_of_length-le list past in
    (none, none)

pub returns-in-Break-clause-steps : goal.returns-in-Break-clause-steps
returns-in-Break-clause-steps g c =
    let list = g.P.Refers.references c.self.inside.part.now in
    let found = subst (λ answer. Finds list c.new-nth.result.left answer c.visit_references.new.visitor) c.in-Break.is (counts_down-finds c.new-nth.result list c.visit_references.result c.visit_references.new.visitor c.visit_references.ensures.visited) in
    sym c.self.view_is ∙ subst (λ n. IsAt list n c.in-Break.reference) c.new-nth.ensures found

pub returns-in-Break-clause-goes : goal.returns-in-Break-clause-goes
returns-in-Break-clause-goes g c =
    let list = g.P.Refers.references c.self.inside.part.now in
    let found = subst (λ answer. Finds list c.new-nth.result.left answer c.visit_references.new.visitor) c.in-Break.is (counts_down-finds c.new-nth.result list c.visit_references.result c.visit_references.new.visitor c.visit_references.ensures.visited) in
    let steps : c.args.self.now ≡ c.in-Break.reference ∷ drop (c.self.inside.position + 1) list = sym c.self.view_is ∙ subst (λ n. IsAt list n c.in-Break.reference) c.new-nth.ensures found in
    record {
      on = λ _. (tt, tt, omega (arith, ap length steps));
      keeps = tt;
      rests = λ _. tt;
    }
