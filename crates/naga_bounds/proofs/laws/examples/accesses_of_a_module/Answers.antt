use Rattle.std.proofs.Common.{◌≡◌, refl, Bool, true, false}
use Rattle.naga_bounds.proofs.ExampleModuleLemmas.{main-fits}
use Rattle.naga_bounds.proofs.laws.examples.accesses_of_a_module.Goals as goal

pub returns-clause-misfit : goal.returns-clause-misfit
returns-clause-misfit c of = refl

pub returns-clause-fits : goal.returns-clause-fits
returns-clause-fits c of = main-fits of

pub returns-clause-long : goal.returns-clause-long
returns-clause-long c of = refl

pub returns-clause-long_old : goal.returns-clause-long_old
returns-clause-long_old c of = refl

pub returns-clause-long_new : goal.returns-clause-long_new
returns-clause-long_new c of = refl

pub returns-clause-short : goal.returns-clause-short
returns-clause-short c of = λ stays. let e : false ≡ true = stays in cc

pub returns-clause-short_new : goal.returns-clause-short_new
returns-clause-short_new c of = refl

pub returns-clause-short_old : goal.returns-clause-short_old
returns-clause-short_old c of = refl

pub returns-clause-clamped : goal.returns-clause-clamped
returns-clause-clamped c of = refl
