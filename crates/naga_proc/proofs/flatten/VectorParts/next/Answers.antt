use Rattle.std.proofs.Common.{◌≡◌, ◌<◌, [], ◌∷◌, length, rules, arith}
use Rattle.std.proofs.lemmas.List.Elements.{All-rest}
use Rattle.naga_proc.specs.Flatten.{copies_left}
use Rattle.naga_proc.proofs.Flattening.SpreadLemmas.{take-handle}
use Rattle.naga_proc.proofs.flatten.VectorParts.next.Goals as goal

pub invariant_of-self-2 : goal.invariant_of-self-2
invariant_of-self-2 c =
    let some : c.self.inside.opened ≡ c.in_ok-handle.handle ∷ c.next.new.self = search rules in (
      All-rest (λ handle. handle < length c.self.inside.expressions.now) c.in_ok-handle.handle c.next.new.self c.self.inside.opened some c.self.invariant.0,
      omega (arith, c.self.invariant.1),
    )

pub returns : goal.returns
returns c =
    let some : c.self.inside.opened ≡ c.in_ok-handle.handle ∷ c.next.new.self = search rules in
    let none : copies_left c.self.inside.repeat ≡ [] = search rules in
    let left : 0 < c.self.inside.left = omega (arith, c.if-self-eq0.false) in
    take-handle c.self.inside.expressions.now c.self.inside.left c.in_ok-handle.handle c.repeat_at-value.result.value c.repeat_at-value.result.left
    c.self.inside.repeat c.self.inside.opened c.next.new.self c.args.self.now left none some c.repeat_at-value.ensures c.self.view_is
