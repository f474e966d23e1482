use Rattle.std.proofs.Common.{ap, refl}
use Rattle.naga_meaning.specs.Values.{emit}
use Rattle.naga_meaning.proofs.NothingLemmas.{no_handles, nothing-alike, nothing-removed}
use Rattle.naga_meaning.proofs.laws.replacing.empty_emits_do_nothing.Goals as goal

pub returns-clause-unchanged : goal.returns-clause-unchanged
returns-clause-unchanged g c = λ look by code first last less world. ap (λ handles. emit by code handles world) (no_handles first last less)

pub returns-clause-goes_on : goal.returns-clause-goes_on
returns-clause-goes_on g c = λ look by code range world. refl

pub returns-clause-removed : goal.returns-clause-removed
returns-clause-removed g c = nothing-removed

pub returns-clause-alike : goal.returns-clause-alike
returns-clause-alike g c = nothing-alike
