use Rattle.std.proofs.Common.{refl}
use Rattle.naga_bounds.proofs.laws.examples.swizzles_are_watched.Goals as goal

pub returns-clause-misfit : goal.returns-clause-misfit
returns-clause-misfit c of = refl

pub returns-clause-past : goal.returns-clause-past
returns-clause-past c of = refl

pub returns-clause-inside : goal.returns-clause-inside
returns-clause-inside c of = refl
