use Rattle.std.proofs.Common.{◌≡◌, fold, string_bytes}
use Rattle.naga_namer.specs.Bases.{appended}
use Rattle.naga_namer.proofs.base.push_characters.Given as goal

-- the characters so far are in the base
abbrev pub invariant-loop-c : goal.invariant-loop-c
invariant-loop-c l = string_bytes l.base ≡ fold appended (string_bytes l.initial.base) l.yielded
