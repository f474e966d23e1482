-- What is unfinished determines which bytes may follow, and how the text can end.
use Rattle.std.proofs.Common.{◌≡◌, ◌↔◌, ℕ, List, [], ◌∷◌, ◌++◌, refl, ap, ◌∙◌, sym, subst, Option, Some, None, IsSome, IsTrue, is_some}
use Rattle.naga_ir.specs.Tree.{Tree}
use Rattle.naga_notation.specs.declared.sign.Sign.{Sign}
use Rattle.naga_notation.specs.declared.sign.Sign.TheVariants.{Open, OpenCases, OpenCase, CloseCase}
use Rattle.naga_notation.specs.Outline.{Notation}
use Rattle.naga_notation.specs.Reading.State.{of_part, of_case, nothing, awaiting, switching, listing, defaulting, falling}
use Rattle.naga_notation.specs.Reading.{sign_of, Place, Outer, Begun, Reached, begun_at, at_statement, start, after_sign, read_byte, read_from, read}
use Rattle.naga_notation.specs.Refusal.{Begins}
use Rattle.naga_notation.specs.Reading.Unfinished.{follows_in, follows_begun, follows, ending}
use Rattle.naga_notation.proofs.BeginsLemmas.{Begins-read, read-Begins, read_from-nil}
use Rattle.naga_notation.proofs.IsSketchLemmas.{IsSketch-read}
use Rattle.naga_notation.proofs.ReadFromLemmas.{read_from-append}
use Rattle.naga_notation.proofs.SketchLemmas.{drawn_state, Notation-ending}

IsSome-from : {A : Type 0} (found : Option A) → (x : A) × (found ≡ Some x) → IsSome found
IsSome-from None (x, e) = absurd cc
IsSome-from (Some y) found = refl

IsSome-value : {A : Type 0} (found : Option A) → IsSome found → (x : A) × (found ≡ Some x)
IsSome-value None h = absurd cc
IsSome-value (Some y) h = (y, refl)

pub Begins-IsSome : (text : List ℕ) → Begins text ↔ IsSome (read text)
Begins-IsSome text = (
  (λ begins. IsSome-from (read text) (read-Begins text begins)),
  (λ some. (let found = IsSome-value (read text) some in Begins-read text found.0 found.1)),
)

-- a sign may follow exactly where there is a state after it
is_some-within : (outers : List Outer) (before : Tree) (place : Place) (current : Tree) (sign : Option Sign) → is_some (after_sign (at_statement (record { statements = before; place = place } ∷ outers) current) sign) ≡ follows_in (record { statements = before; place = place } ∷ outers) sign
is_some-within outers before (of_part part) current None = refl
is_some-within outers before (of_case case) current None = refl
is_some-within outers before (of_part part) current (Some Open) = refl
is_some-within outers before (of_part part) current (Some sign) = refl
is_some-within outers before (of_case case) current (Some Open) = refl
is_some-within outers before (of_case case) current (Some sign) = refl

is_some-begun : (outers : List Outer) (current : Tree) (begun : Begun) (sign : Option Sign) → is_some (after_sign (begun_at outers current begun) sign) ≡ follows_begun begun outers sign
is_some-begun [] current nothing None = refl
is_some-begun [] current nothing (Some Open) = refl
is_some-begun [] current nothing (Some sign) = refl
is_some-begun (outer ∷ outers) current nothing sign = is_some-within outers outer.statements outer.place current sign
is_some-begun outers current (awaiting part) None = refl
is_some-begun outers current (awaiting part) (Some Open) = refl
is_some-begun outers current (awaiting part) (Some sign) = refl
is_some-begun outers current switching None = refl
is_some-begun outers current switching (Some OpenCases) = refl
is_some-begun outers current switching (Some sign) = refl
is_some-begun outers current (listing cases) None = refl
is_some-begun outers current (listing cases) (Some OpenCase) = refl
is_some-begun outers current (listing cases) (Some sign) = refl
is_some-begun outers current (defaulting cases) None = refl
is_some-begun outers current (defaulting cases) (Some OpenCase) = refl
is_some-begun outers current (defaulting cases) (Some sign) = refl
is_some-begun outers current (falling case body) None = refl
is_some-begun outers current (falling case body) (Some CloseCase) = refl
is_some-begun outers current (falling case body) (Some sign) = refl

is_some-read_byte : (reached : Reached) (byte : ℕ) → is_some (read_byte reached byte) ≡ follows reached byte
is_some-read_byte reached byte = is_some-begun reached.outers reached.current reached.begun (sign_of byte)

read-push : (text : List ℕ) (reached : Reached) (byte : ℕ) → read text ≡ Some reached → read (text ++ byte ∷ []) ≡ read_byte reached byte
read-push text reached byte e =
    read_from-append (Some start) text (byte ∷ []) ∙ ap (λ r. read_from r (byte ∷ [])) e ∙ read_from-nil (read_byte reached byte)

pub Begins-follows : (text : List ℕ) (reached : Reached) (byte : ℕ) → read text ≡ Some reached → (Begins (text ++ byte ∷ []) ↔ IsTrue (follows reached byte))
Begins-follows text reached byte e =
    let same : is_some (read (text ++ byte ∷ [])) ≡ follows reached byte = ap is_some (read-push text reached byte e) ∙ is_some-read_byte reached byte in
    let whole = Begins-IsSome (text ++ byte ∷ []) in (
      (λ begins. sym same ∙ whole.0 begins),
      (λ follows_it. whole.1 (same ∙ follows_it)),
    )

pub Notation-unfinished : (text : List ℕ) (reached : Reached) → read text ≡ Some reached → (block : Tree) × Notation (text ++ ending reached) block
Notation-unfinished text reached e =
    let known = IsSketch-read text reached e in
    let ended = Notation-ending known.sketch in
    let here = subst (λ (t : List ℕ). Notation (t ++ ending (drawn_state known.sketch)) ended.0) known.leads ended.1 in
    (ended.0, subst (λ (r : Reached). Notation (text ++ ending r) ended.0) known.is here)
