use Rattle.std.proofs.Common.{subst, [], Bool, ℕ}
use Rattle.naga_ir.specs.View.{tree_of}
use Rattle.naga_flow.specs.Readings.{emitted_in}
use Rattle.naga_flow.specs.Uses.{UsesKnown}
use Rattle.naga_meaning.specs.Calls.{called}
use Rattle.naga_meaning.specs.Functions.{code_of, initials}
use Rattle.naga_meaning.specs.Values.{entered}
use Rattle.naga_bounds.specs.Laws.{IsSizeIn}
use Rattle.naga_bounds.specs.Modules.{typed_in}
use Rattle.naga_bounds.specs.Reach.{at_use}
use Rattle.naga_bounds.proofs.CallsLemmas.{called-elements, called-lengths-stay, called-respects}
use Rattle.naga_bounds.proofs.InBoundsLemmas.{stays-in-bounds}
use Rattle.naga_bounds.proofs.laws.calls.fitting_stays_in_bounds_with_calls.Goals as goal

pub returns : goal.returns
returns g c whole inside fits precede fixed same uses look by number unsigned_number respects has stay calls keep find called_turns depth turns start =
    let inner = called look find calls by called_turns depth in
    let IsSize = IsSizeIn (typed_in whole inside) in
    stays-in-bounds look inner number unsigned_number (typed_in whole inside) precede IsSize (λ base handle is. (base, is))
    (called-respects look by number find calls called_turns stay keep unsigned_number respects depth)
    (called-elements look by number find calls called_turns stay keep IsSize has depth) (called-lengths-stay look by number find calls called_turns stay keep depth)
    (entered inner (code_of look (at_use (typed_in whole inside)) inside.expressions) (initials inside.local_variables) start) fits (tree_of inside.body)
    (subst (λ (chosen : ℕ → Bool). UsesKnown (emitted_in chosen inside.expressions) [] (tree_of inside.body)) (λ i handle. same handle i) uses) turns
