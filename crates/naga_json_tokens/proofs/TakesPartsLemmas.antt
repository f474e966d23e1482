-- Objects that are taken field by field: the parts of a nested tuple.
use Rattle.std.proofs.Common.{◌≡◌, ◌∙◌, ap, ℕ, List, ◌∷◌, Option, Some}
use Rattle.std.specs.Prelude.{⊤}
use Rattle.json.specs.Json.{Json, object, Members, no_members}
use Rattle.json.specs.Token.{Token}
use Rattle.naga_json_tokens.specs.TakesParts.{MeanWith, TakesParts, members_with}
use Rattle.naga_json_tokens.specs.Takes.{Takes, TakesField, json_before}

pub takes_no_parts : (old new : List Token) → old ≡ Token.end_object ∷ new → TakesParts {T = ⊤} {J = ⊤} (λ jsons. no_members) (λ jsons parts. ⊤) tt old new
takes_no_parts old new ended = record { jsons = tt; tokens = ended; means = tt }

-- the first field, and then the others
pub takes_more_parts : {A V T J : Type 0} (view : A → V) (meaning : Json → Option V) (members : List (List ℕ) → J → Members) (Mean : J → T → Type 0) (names : List (List ℕ)) (name : List ℕ) (others : List (List ℕ)) (first : A) (parts : T) (old middle new : List Token)
    → names ≡ name ∷ others → TakesField name meaning (view first) old middle → TakesParts (members others) Mean parts middle new
    → TakesParts (members_with members names) (MeanWith view meaning Mean) (first, parts) old new
takes_more_parts view meaning members Mean names name others first parts old middle new is taken rest = record {
  jsons = (taken.json, rest.jsons);
  tokens = rw is (taken.tokens ∙ ap (λ ts. Token.key name ∷ json_before taken.json ts) rest.tokens);
  means = (taken.means, rest.means);
}

-- an object, with its beginning
pub takes_struct : {T J V : Type 0} (members : J → Members) (Mean : J → T → Type 0) (parts : T) (meaning : Json → Option V) (value : V) (old first new : List Token) → old ≡ Token.begin_object ∷ first → TakesParts members Mean parts first new
    → ((jsons : J) → Mean jsons parts → meaning (object (members jsons)) ≡ Some value) → Takes meaning value old new
takes_struct members Mean parts meaning value old first new begun taken means = record {
  json = object (members taken.jsons);
  tokens = begun ∙ ap (λ ts. Token.begin_object ∷ ts) taken.tokens;
  means = means taken.jsons taken.means;
}
