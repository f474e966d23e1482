use Rattle.naga_proc.proofs.Flattening.AreLevelsLemmas.{Left, work}
use Rattle.naga_proc.proofs.flatten.Opened.next.Given as goal

-- the levels yield the handles that they yielded at the start
abbrev pub invariant-open : goal.invariant-open
invariant-open l = Left l.self-inside.expressions.now l.self-inside.inner.now l.self-inside.middle.now l.self-inside.outer.now l.fn.self

abbrev pub decreases-open : goal.decreases-open
decreases-open l = work l.self-inside.expressions.now l.self-inside.middle.now l.self-inside.outer.now
