use Rattle.std.proofs.lemmas.Result.{MatchResult-weaker}
use Rattle.naga_bounds.proofs.PartsLemmas.{AreEntriesRestrictedTo-module, RestrictsEntries-module}
use Rattle.naga_bounds.proofs.modules.restrict.Goals as goal

pub returns : goal.returns
returns c =
    let old = c.args.«module».now in
    let half = c.restrict_functions.new.«module» in
    let new = c.restrict_entry_points.new.«module» in
    MatchResult-weaker c.restrict_entry_points.result c.restrict_entry_points.ensures
    (λ _ is. RestrictsEntries-module old half new c.in_default.ensures is)
    (λ error is. AreEntriesRestrictedTo-module old half new c.in_default.ensures error.owner error.obstacle is)
