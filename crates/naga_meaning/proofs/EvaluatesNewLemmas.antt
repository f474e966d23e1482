-- Expressions that are not known.
use Rattle.std.proofs.Common.{◌≡◌, ◌∙◌, sym, refl, inl, inr, ℕ, Bool, true, false, List, [], ◌∷◌, arith}
use Rattle.std.proofs.lemmas.List.Elements.{Contains-append_cases}
use Rattle.std.specs.List.{Contains}
use Rattle.std.specs.Prelude.{if◌then◌else◌, nat_eq}
use Rattle.naga_flow.proofs.IncludesLemmas.{Contains-one}
use Rattle.naga_meaning.proofs.RenamesCodeLemmas.{eq-yes}

-- the list has the number
abbrev has : List ℕ → ℕ → Bool
has [] x = false
has (y ∷ ys) x = if nat_eq y x then true else has ys x

has-first : (t : Bool) (later : Bool) → (if t then true else later) ≡ false → (t ≡ false) × (later ≡ false)
has-first true later h = absurd (let clash : true ≡ false = h in cc)
has-first false later h = (refl, h)

pub not-contained : (xs : List ℕ) (x : ℕ) → has xs x ≡ false → ¬ Contains xs x
not-contained [] x h c = absurd (omega (arith, c.1))
not-contained (y ∷ ys) x h c =
    let both = has-first (nat_eq y x) (has ys x) h in
    elim (Contains-append_cases (y ∷ []) ys x c) [
      | inl here ↦ absurd (let is : true ≡ false = sym (eq-yes y x (Contains-one y x here)) ∙ both.0 in cc)
      | inr there ↦ not-contained ys x both.1 there
    ]
