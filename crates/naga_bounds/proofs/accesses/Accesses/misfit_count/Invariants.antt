use Rattle.std.proofs.Common.{◌≡◌, ◌≤◌}
use Rattle.std.specs.List.{count_by, range_with_len}
use Rattle.std.specs.Prelude.{is_some, map}
use Rattle.naga_bounds.specs.Fits.{misfit}
use Rattle.naga_bounds.proofs.accesses.Accesses.misfit_count.Given as goal

-- the accesses before this expression are counted
abbrev pub invariant-expressions : goal.invariant-expressions
invariant-expressions l = record {
  counted : l.count ≡ count_by is_some (map (misfit l.self) (range_with_len 0 l.index));
  fits : l.count ≤ l.index;
}
