use Rattle.naga_flow.specs.Readings.{expressions_by}
use Rattle.naga_wgsl.proofs.WithInlineLemmas.{names-bound, names-known}
use Rattle.naga_meaning.proofs.IsClosedReadingLemmas.{closed-read}
use Rattle.naga_wgsl.proofs.laws.texts.names_are_in_scope.Goals as goal

pub returns-clause-known : goal.returns-clause-known
returns-clause-known g c =
    λ look by at_use inline arena precede closed may body uses.
    names-known look by at_use inline arena precede (expressions_by at_use arena).reads (closed-read look by at_use arena precede closed) may body uses

pub returns-clause-bound : goal.returns-clause-bound
returns-clause-bound g c = names-bound
