use Rattle.naga_ir.specs.View.{tree_of}
use Rattle.naga_meaning.specs.Functions.{code_of, initials}
use Rattle.naga_meaning.specs.Values.{entered}
use Rattle.naga_bounds.specs.Laws.{IsSizeIn}
use Rattle.naga_bounds.specs.Modules.{typed_in}
use Rattle.naga_bounds.specs.Reach.{at_use}
use Rattle.naga_bounds.proofs.InBoundsLemmas.{stays-in-bounds}
use Rattle.naga_bounds.proofs.RestrictedFunctionLemmas.{restricted-emitted, restricted-fit, restricted-precede}
use Rattle.naga_bounds.proofs.laws.restricted_stays_in_bounds.Goals as goal

pub returns : goal.returns
returns g c whole old new functions within precede restricts look by number unsigned_number respects has stay turns start =
    let code = typed_in whole new in
    stays-in-bounds look by number unsigned_number code (restricted-precede whole old new precede restricts)
    (IsSizeIn code) (λ base handle is. (base, is)) respects has stay
    (entered by (code_of look (at_use code) new.expressions) (initials new.local_variables) start)
    (restricted-fit whole old new precede restricts) (tree_of new.body)
    (restricted-emitted whole old new precede restricts functions within).0 turns
