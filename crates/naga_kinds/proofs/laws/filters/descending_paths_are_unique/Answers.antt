use Rattle.naga_kinds.proofs.PathLemmas.{Path-from, Path-unique}
use Rattle.naga_kinds.proofs.laws.filters.descending_paths_are_unique.Goals as goal

pub returns : goal.returns
returns c next start descends =
    let found = Path-from descends start in
    (found.0, found.1, λ other along. Path-unique along found.1)
