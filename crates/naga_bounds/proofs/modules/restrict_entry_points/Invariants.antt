use Rattle.std.proofs.Common.{◌≡◌}
use Rattle.naga_compact.proofs.AllZipLemmas.{ReplacedTo}
use Rattle.naga_bounds.specs.RestrictedModules.{RestrictsEntry}
use Rattle.naga_bounds.proofs.modules.restrict_entry_points.Given as goal

-- the entry points before the position are restricted, and nothing else changes
abbrev pub invariant-entry_points : goal.invariant-entry_points
invariant-entry_points l =
    ReplacedTo (RestrictsEntry l.initial.«module») l.position l.initial.«module».entry_points.items l.«module».entry_points.items
    × (l.«module» ≡ record l.initial.«module» { entry_points = l.«module».entry_points })
