-- Variants that hold a value, and fields whose names are taken before their values.
use Rattle.std.proofs.Common.{◌≡◌, ◌∙◌, ap, ℕ, List, ◌∷◌, Option, Some}
use Rattle.json.specs.Json.{Json, object, no_members, member}
use Rattle.json.specs.Token.{Token}
use Rattle.naga_json_tokens.specs.Takes.{Takes, TakesField, json_before}

-- a name, and then a value
pub takes_field : {A : Type 0} (name : List ℕ) (meaning : Json → Option A) (value : A) (old middle new : List Token)
    → old ≡ Token.key name ∷ middle → Takes meaning value middle new → TakesField name meaning value old new
takes_field name meaning value old middle new named taken = record {
  json = taken.json;
  tokens = named ∙ ap (λ ts. Token.key name ∷ ts) taken.tokens;
  means = taken.means;
}

-- an object with one member
pub takes_holder : {A V : Type 0} (name : List ℕ) (held : Json → Option A) (value : A) (meaning : Json → Option V) (v : V) (old o1 o2 o3 new : List Token)
    → old ≡ Token.begin_object ∷ o1 → o1 ≡ Token.key name ∷ o2 → Takes held value o2 o3 → o3 ≡ Token.end_object ∷ new
    → ((j : Json) → held j ≡ Some value → meaning (object (member name j no_members)) ≡ Some v)
    → Takes meaning v old new
takes_holder name held value meaning v old o1 o2 o3 new begun named taken ended means = record {
  json = object (member name taken.json no_members);
  tokens = begun ∙ ap (λ ts. Token.begin_object ∷ ts) (named ∙ ap (λ ts. Token.key name ∷ ts) (taken.tokens ∙ ap (json_before taken.json) ended));
  means = means taken.json taken.means;
}
