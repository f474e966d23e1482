-- The tokens of a text, as a reader returns them that counts how deep lists and objects are nested.
use Rattle.std.specs.Prelude.{ℕ, suc, ◌-◌, List, [], ◌∷◌, Bool, true, cond, nat_lt}
use Rattle.json.specs.Token.{Token, begin_array, begin_object, end_array, end_object, bad}
use Rattle.naga_json.specs.declared.nesting.TheConstants.{MAX_NESTING}

-- how many lists and objects have begun and not ended after a token
abbrev pub levels_after : ℕ → Token → ℕ
levels_after levels begin_array = suc levels
levels_after levels begin_object = suc levels
levels_after levels end_array = levels - 1
levels_after levels end_object = levels - 1
levels_after levels other = levels

-- whether a token begins no list and no object, or one that is nested no deeper than is read
abbrev pub may_follow : ℕ → Token → Bool
may_follow levels begin_array = nat_lt levels MAX_NESTING
may_follow levels begin_object = nat_lt levels MAX_NESTING
may_follow levels other = true

-- the tokens, with a bad one in place of each that begins a list or an object that is nested too deep
abbrev pub shallow : ℕ → List Token → List Token
shallow levels [] = []
shallow levels (t ∷ ts) = cond (may_follow levels t) (t ∷ shallow (levels_after levels t) ts) (bad ∷ shallow levels ts)
