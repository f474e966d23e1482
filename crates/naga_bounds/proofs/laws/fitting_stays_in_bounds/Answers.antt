use Rattle.std.proofs.Common.{subst, [], Bool, ℕ}
use Rattle.naga_ir.specs.View.{tree_of}
use Rattle.naga_flow.specs.Readings.{emitted_in}
use Rattle.naga_flow.specs.Uses.{UsesKnown}
use Rattle.naga_meaning.specs.Functions.{code_of, initials}
use Rattle.naga_meaning.specs.Values.{entered}
use Rattle.naga_bounds.specs.Laws.{IsSizeIn}
use Rattle.naga_bounds.specs.Modules.{typed_in}
use Rattle.naga_bounds.specs.Reach.{at_use}
use Rattle.naga_bounds.proofs.InBoundsLemmas.{stays-in-bounds}
use Rattle.naga_bounds.proofs.laws.fitting_stays_in_bounds.Goals as goal

pub returns : goal.returns
returns g c whole inside fits precede fixed same uses look by number unsigned_number respects has stay turns start =
    stays-in-bounds look by number unsigned_number (typed_in whole inside) precede (IsSizeIn (typed_in whole inside)) (λ base handle is. (base, is)) respects has stay
    (entered by (code_of look (at_use (typed_in whole inside)) inside.expressions) (initials inside.local_variables) start) fits (tree_of inside.body)
    (subst (λ (chosen : ℕ → Bool). UsesKnown (emitted_in chosen inside.expressions) [] (tree_of inside.body)) (λ i handle. same handle i) uses) turns
