use Rattle.std.proofs.Common.{◌≡◌, ◌+◌, ◌∙◌, sym, suc, ap, arith, add-one}
use Rattle.naga_runs.proofs.FirstDefaultLemmas.{default_from, default_from-here, default_from-later, default_from-past}
use Rattle.naga_runs.proofs.walk.default_position.Goals as goal

pub returns-then-is_default-clause-position : goal.returns-then-is_default-clause-position
returns-then-is_default-clause-position c =
    let here : default_from c.args.cases.now c.loop-i.i ≡ 0 =
    default_from-here c.args.cases.now c.loop-i.i c.index-cases-i.result c.loop-i-test.true (sym c.is_default.ensures ∙ c.if-is_default.true)
    in
    omega (arith, c.loop-i.invariant, here)

pub loop-i-preserved : goal.loop-i-preserved
loop-i-preserved c =
    let later : default_from c.args.cases.now c.loop-i.i ≡ suc (default_from c.args.cases.now (suc c.loop-i.i)) =
    default_from-later c.args.cases.now c.loop-i.i c.index-cases-i.result c.loop-i-test.true (sym c.is_default.ensures ∙ c.if-is_default.false)
    in
    let same : default_from c.args.cases.now (c.loop-i.i + 1) ≡ default_from c.args.cases.now (suc c.loop-i.i) =
    ap (default_from c.args.cases.now) (add-one c.loop-i.i)
    in
    omega (arith, c.loop-i.invariant, later, same)

pub returns-clause-position : goal.returns-clause-position
returns-clause-position c =
    let past : default_from c.args.cases.now c.loop-i.i ≡ 0 = default_from-past c.args.cases.now c.loop-i.i (omega (arith, c.loop-i-test.false)) in
    omega (arith, c.loop-i.invariant, past, c.loop-i-test.false, c.loop-i.auto.i-end)
