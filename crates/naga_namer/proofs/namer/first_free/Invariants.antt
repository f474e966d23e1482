use Rattle.std.proofs.Common.{◌≡◌, ◌≤◌, ◌<◌, ℕ, true}
use Rattle.naga_namer.specs.Names.{is_reserved, name_of}
use Rattle.naga_namer.specs.Languages.{reserved_in}
use Rattle.naga_namer.proofs.namer.first_free.Given as goal

-- the names of all numbers so far are reserved
abbrev pub invariant-numbers : goal.invariant-numbers
invariant-numbers l = (k : ℕ) → l.start ≤ k → k < l.number
    → is_reserved (reserved_in l.language) (name_of (reserved_in l.language) l.base k) ≡ true
