-- A name that no row of a table has finds nothing.
use Rattle.std.proofs.Common.{◌≡◌, ◌≢◌, ℕ, List, [], ◌∷◌, ◌++◌, Option, Some, None, Bool, true, false, cond, refl, ◌∙◌, sym}
use Rattle.std.proofs.lemmas.Slice.Eq.{bytes_eq-Decides}
use Rattle.std.specs.Bool.{Decides}
use Rattle.std.specs.Str.{bytes_eq}
use Rattle.json.specs.Json.{Json}
use Rattle.naga_json.specs.Numbers.{◌>>=◌}
use Rattle.naga_json.specs.Objects.{choose, find_row}
use Rattle.naga_json.proofs.BindLemmas.{at_some}
use Rattle.std.specs.Prelude.{⊤}

-- none of the rows has this name
abbrev pub Misses : {A : Type 0} → List (List ℕ × A) → List ℕ → Type 0
Misses [] name = ⊤
Misses (row ∷ rows) name = (name ≢ row.0) × Misses rows name

pub false_from_Decides : {P : Type 0} (b : Bool) → Decides b P → ¬ P → b ≡ false
false_from_Decides true d h = absurd (h (d.0 refl))
false_from_Decides false d h = refl

pub other_name : {A : Type 0} (known name : List ℕ) (x y : A) → name ≢ known → cond (bytes_eq known name) x y ≡ y
other_name known name x y h = rw (false_from_Decides (bytes_eq known name) (bytes_eq-Decides known name) (λ e. h (sym e))) refl

pub choose-misses : {A : Type 0} (rows : List (List ℕ × Option A)) (name : List ℕ) → Misses rows name → choose rows name ≡ None
choose-misses [] name h = refl
choose-misses (row ∷ rows) name (other, others) = other_name row.0 name row.1 (choose rows name) other ∙ choose-misses rows name others

pub holder-misses : {A : Type 0} (rows : Json → List (List ℕ × Option A)) (o : Option (List ℕ × Json)) (name : List ℕ) (held : Json) → Some (name, held) ≡ o → Misses (rows held) name → None ≡ (o >>= λ v. choose (rows v.1) v.0)
holder-misses rows o name held found h = sym (at_some o (name, held) (λ v. choose (rows v.1) v.0) (sym found) ∙ choose-misses (rows held) name h)

pub choose-append : {A : Type 0} (rows more : List (List ℕ × Option A)) (name : List ℕ) → Misses rows name → choose (rows ++ more) name ≡ choose more name
choose-append [] more name h = refl
choose-append (row ∷ rows) more name (other, others) = other_name row.0 name row.1 (choose (rows ++ more) name) other ∙ choose-append rows more name others

pub find_row-misses : {A : Type 0} (rows : List (List ℕ × A)) (name : List ℕ) → Misses rows name → find_row rows name ≡ None
find_row-misses [] name h = refl
find_row-misses (row ∷ rows) name (other, others) = other_name row.0 name (Some row.1) (find_row rows name) other ∙ find_row-misses rows name others
