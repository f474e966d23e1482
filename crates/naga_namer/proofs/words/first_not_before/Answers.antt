use Rattle.std.proofs.Common.{◌∙◌, ◌+◌, ◌-◌, ◌/◌, sym, arith}
use Rattle.naga_namer.proofs.SearchLemmas.{lower-half, upper-half}
use Rattle.naga_namer.proofs.words.first_not_before.Goals as goal

pub halves-preserved-then-precedes : goal.halves-preserved-then-precedes
halves-preserved-then-precedes c =
    upper-half c.args.text.now c.args.words.now c.requires c.halves.low c.halves.high (c.halves.low + (c.halves.high - c.halves.low) / 2) _
    c.halves.invariant (omega arith) (omega (arith, c.halves-test.true)) (sym c.precedes.ensures ∙ c.if-precedes.true)

pub halves-preserved : goal.halves-preserved
halves-preserved c =
    lower-half c.args.text.now c.args.words.now c.requires c.halves.low c.halves.high (c.halves.low + (c.halves.high - c.halves.low) / 2) _
    c.halves.invariant (omega arith) (omega (arith, c.halves-test.true)) (sym c.precedes.ensures ∙ c.if-precedes.false)
