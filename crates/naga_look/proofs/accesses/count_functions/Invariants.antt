use Rattle.std.proofs.Common.{◌≡◌, ◌<◌, ◌^◌, drop}
use Rattle.naga_look.specs.Accesses.{with_misfits}
use Rattle.naga_look.proofs.accesses.count_functions.Given as goal

-- the functions from this one on are still to be counted
abbrev pub invariant-functions : goal.invariant-functions
invariant-functions l = record {
  counted : with_misfits l.«module» l.total (drop l.function-index l.functions) ≡ with_misfits l.«module» 0 l.functions;
  fits : l.total < 2 ^ 64;
}
