use Rattle.std.proofs.Common.{◌≡◌, [], ◌∷◌, ◌++◌, false, take}
use Rattle.std.specs.List.{list_any}
use Rattle.naga_namer.specs.Bases.{begin_alike, underscore}
use Rattle.naga_namer.proofs.base.may_have_prefix.Given as goal

-- no name of the base could begin with one of the prefixes so far
abbrev pub invariant-loop-prefix : goal.invariant-loop-prefix
invariant-loop-prefix l =
    list_any (λ prefix. begin_alike prefix.now (l.base ++ underscore ∷ [])) (take l.prefix-index l.prefixes) ≡ false
