-- A value that is taken as another one.
use Rattle.std.proofs.Common.{◌≡◌, ap, ℕ, List, ◌∷◌, Option, Some, None, IfSome, sym, ◌∙◌}
use Rattle.json.specs.Json.{Json, string}
use Rattle.json.specs.Token.{Token}
use Rattle.naga_json_tokens.specs.Takes.{Takes}

-- what means one value means another one
pub takes_map : {A V : Type 0} (held : Json → Option A) (value : A) (meaning : Json → Option V) (v : V) (old new : List Token)
    → Takes held value old new → ((j : Json) → held j ≡ Some value → meaning j ≡ Some v) → Takes meaning v old new
takes_map held value meaning v old new taken means = record {
  json = taken.json;
  tokens = taken.tokens;
  means = means taken.json taken.means;
}

-- a variant that is a name
pub takes_word : {V : Type 0} (name : List ℕ) (meaning : Json → Option V) (v : V) (old new : List Token) → old ≡ Token.string name ∷ new → meaning (string name) ≡ Some v → Takes meaning v old new
takes_word name meaning v old new is means = record { json = string name; tokens = is; means = means }

-- a value that may be that of a variant that is a name, as `view` sees it
pub takes_named_as : {X V : Type 0} (view : X → V) (name : List ℕ) (meaning : Json → Option V) (o : Option X) (old new : List Token) → old ≡ Token.string name ∷ new → IfSome o (λ found. meaning (string name) ≡ Some (view found))
    → IfSome o (λ found. Takes meaning (view found) old new)
takes_named_as view name meaning None old new is means = tt
takes_named_as view name meaning (Some found) old new is means = takes_word name meaning (view found) old new is means

-- what means a value by other rows
pub takes_rows : {X V : Type 0} (view : X → V) (first other : Json → Option V) (o : Option X) (old new : List Token) → ((j : Json) → other j ≡ first j) → IfSome o (λ found. Takes first (view found) old new)
    → IfSome o (λ found. Takes other (view found) old new)
takes_rows view first other None old new same taken = tt
takes_rows view first other (Some found) old new same taken =
    takes_map first (view found) other (view found) old new taken (λ j means. same j ∙ means)

-- an equal value
pub takes_value : {V : Type 0} (meaning : Json → Option V) (v other : V) (old new : List Token) → other ≡ v → Takes meaning v old new → Takes meaning other old new
takes_value meaning v other old new same taken =
    takes_map meaning v meaning other old new taken (λ j means. means ∙ ap Some (sym same))
