-- How many arrays and objects have begun and not ended after some tokens.
use Rattle.std.specs.Prelude.{ℕ, suc, ◌-◌, List, Option, Some, None, cond, nat_lt}
use Rattle.std.specs.List.{fold}
use Rattle.naga_json.specs.declared.nesting.TheConstants.{MAX_NESTING}
use Rattle.json.specs.Token.{Token, begin_array, begin_object, end_array, end_object}

-- one more array or object has begun, unless there are as many as can be
abbrev pub one_more : Option ℕ → Option ℕ
one_more None = None
one_more (Some levels) = cond (nat_lt levels MAX_NESTING) (Some (suc levels)) None

-- an array or object has ended
abbrev pub one_less : Option ℕ → Option ℕ
one_less None = None
one_less (Some levels) = Some (levels - 1)

-- the levels after a token
abbrev pub levels_at : Option ℕ → Token → Option ℕ
levels_at levels begin_array = one_more levels
levels_at levels begin_object = one_more levels
levels_at levels end_array = one_less levels
levels_at levels end_object = one_less levels
levels_at levels other = levels

-- the levels after the tokens, or `None` if there were more than can be at once
abbrev pub levels_after : List Token → Option ℕ
levels_after = fold levels_at (Some 0)
