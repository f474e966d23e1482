use Rattle.std.proofs.Common.{◌≡◌, ◌∙◌, ap, refl, Some, None}
use Rattle.std.specs.Borrow.{Bor}
use Rattle.std.specs.FinSet.{contains}
use Rattle.std.specs.Prelude.{if◌then◌else◌}
use Rattle.naga_sets.specs.HandleSet.{BoundedSet}
use Rattle.naga_compact.proofs.KeptElementsLemmas.{kept_elements-Retains}
use Rattle.naga_compact.proofs.OnOkLemmas.{on_ok}
use Rattle.naga_compact.proofs.renumbering.Renumbering.retain.Goals as goal

pub returns-clause-kept : goal.returns-clause-kept
returns-clause-kept g c =
    on_ok c.retain_mut.result
    (kept_elements-Retains _ c.args.self.now (λ p. p.0 ≡ c.args.self)
    (λ p h x a q same called. (called.met.1.1 ∙ ap (λ (r : Bor BoundedSet). if contains r.now.members h then Some x else None) same, called.met.1.0 ∙ same))
    record { 0 = c.args.self } refl c.args.arena.now c.retain_mut.new.self)
    c.retain_mut.ensures.retained
