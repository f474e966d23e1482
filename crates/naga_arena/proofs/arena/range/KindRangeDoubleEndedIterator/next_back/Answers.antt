use Rattle.std.proofs.Common.{◌≡◌, ◌-◌, ap, arith}
use Rattle.naga_arena.proofs.HandlesOfLemmas.{length-handles_of}
use Rattle.naga_arena.proofs.arena.range.KindRangeDoubleEndedIterator.next_back.Goals as goal

pub returns-then-self-clause-goes : goal.returns-then-self-clause-goes
returns-then-self-clause-goes g c =
    let first : c.self.inside.inner.start ≡ c.args.self.now.0 = ap (λ bounds. bounds.0) c.self.view_is in
    let past : c.self.inside.inner.end ≡ c.args.self.now.1 = ap (λ bounds. bounds.1) c.self.view_is in
    let before = length-handles_of c.args.self.now in
    let after = length-handles_of (c.self.inside.inner.start, c.self.inside.inner.end - 1) in
    record { on = λ _. (tt, tt, omega (arith, before, after)); keeps = tt; rests = λ _. tt }
