use Rattle.std.proofs.Common.{◌≡◌, ◌∙◌, subst}
use Rattle.naga_bounds.specs.Reach.{at_use}
use Rattle.naga_bounds.proofs.accesses.Accesses.is_place.Goals as goal

pub returns : goal.returns
returns c =
    subst (λ code. c.contains.result ≡ at_use code c.args.handle) c.self.view_is
    (c.contains.ensures.value ∙ c.self.invariant c.args.handle)
