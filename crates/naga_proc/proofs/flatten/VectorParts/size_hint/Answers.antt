use Rattle.std.proofs.Common.{◌+◌, ◌≤◌, length, subst, arith}
use Rattle.naga_proc.specs.Flatten.{copies_left}
use Rattle.naga_proc.proofs.Flattening.SpreadLemmas.{take-least}
use Rattle.naga_proc.proofs.flatten.VectorParts.size_hint.Goals as goal

pub returns-clause-lower : goal.returns-clause-lower
returns-clause-lower c =
    let least = c.held_at_least-least.result in
    let cut : least ≤ c.self.inside.left = omega (arith, c.held_at_least-least.ensures) in
    let counted : least ≤ length (copies_left c.self.inside.repeat) + length c.self.inside.opened =
    omega (arith, c.held_at_least-least.ensures, c.held_copies.ensures, c.at_least.ensures) in
    subst (λ handles. least ≤ length handles) c.self.view_is
    (take-least c.self.inside.expressions.now c.self.inside.left least c.self.inside.repeat c.self.inside.opened cut counted)
