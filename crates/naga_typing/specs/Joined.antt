-- Lists that a relation gives the elements of another list, joined end to end.
use Rattle.std.specs.Prelude.{◌≡◌, ℕ, ◌-◌, List, ◌++◌, flat_map, length, take}
use Rattle.std.specs.List.{AllZip}

-- what the relation gives each of these, one after another
pub record AreJoined {A B : Type 0} (Gives : A → List B → Type 0) (all : List A) (joined : List B) : Type 0 where
  pub lists : List (List B)
  pub each : AllZip Gives all lists
  pub are : joined ≡ flat_map (λ (list : List B). list) lists

-- what the relation gives this one was appended
abbrev pub Adds : {A B : Type 0} → (A → List B → Type 0) → A → (old new : List B) → Type 0
Adds {B = B} Gives one old new = (list : List B) × Gives one list × (new ≡ old ++ list)

-- what the relation gives each of these was appended
abbrev pub AddsJoined : {A B : Type 0} → (A → List B → Type 0) → List A → (old new : List B) → Type 0
AddsJoined {B = B} Gives all old new = (joined : List B) × AreJoined Gives all joined × (new ≡ old ++ joined)

-- what the relation gives each of these was appended, as far as the list may grow: to this many elements
abbrev pub AddsUpTo : {A B : Type 0} → (limit : ℕ) → (A → List B → Type 0) → List A → (old new : List B) → Type 0
AddsUpTo {B = B} limit Gives all old new =
    (joined : List B) × AreJoined Gives all joined × (new ≡ old ++ take (limit - length old) joined)
