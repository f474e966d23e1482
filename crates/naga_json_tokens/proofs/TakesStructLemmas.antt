-- Objects that are taken field by field, in the order of the declaration.
use Rattle.std.proofs.Common.{◌≡◌, ◌∙◌, ap, ℕ, List, ◌∷◌, Option, Some}
use Rattle.json.specs.Json.{Json, object, Members, no_members, member}
use Rattle.json.specs.Token.{Token}
use Rattle.naga_json_tokens.specs.Takes.{Takes, TakesField, json_before, members_before}

-- The tokens `old` are those of members that mean the value, and the end of an object, and then the tokens `new`.
pub record TakesMembers {V : Type 0} (meaning : Members → Option V) (value : V) (old new : List Token) : Type 0 where
  pub members : Members
  pub tokens : old ≡ members_before members new
  pub means : meaning members ≡ Some value

-- an object, with its beginning
pub takes_object : {V : Type 0} (meaning : Json → Option V) (value : V) (old first new : List Token) → old ≡ Token.begin_object ∷ first → TakesMembers (λ ms. meaning (object ms)) value first new
    → Takes meaning value old new
takes_object meaning value old first new begun taken = record {
  json = object taken.members;
  tokens = begun ∙ ap (λ ts. Token.begin_object ∷ ts) taken.tokens;
  means = taken.means;
}

-- the first field, and then the others
pub takes_first : {A V : Type 0} (name : List ℕ) (m : Json → Option A) (a : A) (meaning : Members → Option V) (value : V) (old middle new : List Token) → TakesField name m a old middle
    → ((j : Json) → m j ≡ Some a → TakesMembers (λ ms. meaning (member name j ms)) value middle new) → TakesMembers meaning value old new
takes_first name m a meaning value old middle new first others =
    let rest = others first.json first.means in
    record {
      members = member name first.json rest.members;
      tokens = first.tokens ∙ ap (λ ts. Token.key name ∷ json_before first.json ts) rest.tokens;
      means = rest.means;
    }

-- no more fields
pub takes_last : {V : Type 0} (meaning : Members → Option V) (value : V) (old new : List Token) → old ≡ Token.end_object ∷ new → meaning no_members ≡ Some value → TakesMembers meaning value old new
takes_last meaning value old new ended means = record { members = no_members; tokens = ended; means = means }
