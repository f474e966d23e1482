use Rattle.std.proofs.Common.{◌≤◌, arith, below_more, length, refl, subst}
use Rattle.std.proofs.lemmas.Bool.{false≢true}
use Rattle.naga_valid.specs.Valid.{RefersBefore, SizePrecedes}
use Rattle.naga_valid.proofs.SizePrecedesLemmas.{RefersBefore-later, SizePrecedes-all}
use Rattle.naga_valid.proofs.handles.sizes.check_sizes.Goals as goal

pub returns-in-Err-clause-valid : goal.returns-in-Err-clause-valid
returns-in-Err-clause-valid c = (λ ok. absurd (false≢true ok), λ all. absurd (c.in-Err.ensures.fault.1 (all c.at.result)))

pub loop-index-preserved : goal.loop-index-preserved
loop-index-preserved c = record {
  precede = below_more (λ ty. SizePrecedes c.args.module.now ty) c.loop-index.index c.loop-index.invariant.precede (subst (SizePrecedes c.args.module.now) c.at.ensures c.in-Ok.ensures.precedes);
  tested = λ expression before. RefersBefore-later c.args.module.now c.loop-index.index expression (subst (λ ty. RefersBefore c.args.module.now ty expression) c.at.ensures (c.in-Ok.ensures.tested expression before));
}

pub returns-clause-valid : goal.returns-clause-valid
returns-clause-valid c =
    let past : length c.args.module.now.types ≤ c.loop-index.index = omega (arith, c.len-index-end.ensures.value, c.loop-index-test.false) in
    (λ _. SizePrecedes-all c.args.module.now c.loop-index.index past c.loop-index.invariant.precede, λ _. refl)
