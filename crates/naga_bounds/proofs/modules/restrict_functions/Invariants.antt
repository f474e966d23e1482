use Rattle.std.proofs.Common.{◌≡◌}
use Rattle.naga_compact.proofs.AllZipLemmas.{ReplacedTo}
use Rattle.naga_bounds.specs.RestrictedModules.{RestrictsElement}
use Rattle.naga_bounds.proofs.modules.restrict_functions.Given as goal

-- the functions before the index are restricted, and nothing else changes
abbrev pub invariant-functions : goal.invariant-functions
invariant-functions l =
    ReplacedTo (RestrictsElement l.initial.«module») l.index l.initial.«module».functions l.«module».functions
    × (l.«module» ≡ record l.initial.«module» { functions = l.«module».functions })
