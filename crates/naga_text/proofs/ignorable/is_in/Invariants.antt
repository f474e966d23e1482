use Rattle.std.proofs.Common.{◌≡◌, drop}
use Rattle.naga_text.specs.Escapes.{is_in}
use Rattle.naga_text.proofs.ignorable.is_in.Given as goal

-- the character is in one of the ranges exactly if it is in one of those that are left
abbrev pub invariant-rows : goal.invariant-rows
invariant-rows l = is_in (drop l.range-index l.table) l.c ≡ is_in l.table l.c
