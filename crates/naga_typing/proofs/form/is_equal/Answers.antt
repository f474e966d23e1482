use Rattle.std.proofs.Common.{◌≡◌, Bool, subst, sym}
use Rattle.std.specs.Bool.{Decides}
use Rattle.naga_ir.proofs.TypeOfLemmas.{inner_of-decides}
use Rattle.naga_ir.specs.Types.{inner_of}
use Rattle.naga_typing.proofs.form.is_equal.Goals as goal

pub returns : goal.returns
returns c =
    subst (λ (b : Bool). Decides b (inner_of c.args.first.now ≡ inner_of c.args.second.now)) (sym c.eq.ensures)
    (inner_of-decides c.args.first.now c.args.second.now)
