-- A name determines its base and its number.
use Rattle.std.proofs.Common.{◌≡◌, ℕ, zero, suc, ◌<◌, ◌≤◌, ◌^◌, List, [], ◌∷◌, ◌++◌, Bool, true, false, ◌||◌, refl, ap, sym, ◌∙◌, arith, if◌then◌else◌}
use Rattle.std.specs.Prelude.{⊤}
use Rattle.std.specs.Fmt.{decimal}
use Rattle.std.proofs.lemmas.Fmt.{decimal_by_steps, decimal_injective}
use Rattle.naga_namer.specs.Bases.{last_or, underscore}
use Rattle.naga_namer.specs.Names.{Reserved, is_marked, is_reserved, name_of}
use Rattle.naga_namer.proofs.BoolLemmas.{digit-true}

-- each byte is an ASCII digit
abbrev pub AllDigits : List ℕ → Type 0
AllDigits [] = ⊤
AllDigits (byte ∷ rest) = (48 ≤ byte) × (byte ≤ 57) × AllDigits rest

-- the last byte is the last of what was appended
pub last-append : (default : ℕ) (xs : List ℕ) (byte : ℕ) (rest : List ℕ) → last_or default (xs ++ byte ∷ rest) ≡ last_or byte rest
last-append default [] byte rest = refl
last-append default (x ∷ xs) byte rest = last-append x xs byte rest

digits-append : (xs : List ℕ) (byte : ℕ) → AllDigits xs → 48 ≤ byte → byte ≤ 57 → AllDigits (xs ++ byte ∷ [])
digits-append [] byte all low high = (low, high, all)
digits-append (x ∷ xs) byte all low high = (all.0, all.1, digits-append xs byte all.2 low high)

-- the digits of a number, of which there is one
pub record AreDigits (bytes : List ℕ) : Type 0 where
  pub all : AllDigits bytes
  pub low : (default : ℕ) → 48 ≤ last_or default bytes
  pub high : (default : ℕ) → last_or default bytes ≤ 57

pub decimal-digits : (n : ℕ) → n < 2 ^ 64 → AreDigits (decimal n)
decimal-digits n small =
    decimal_by_steps (λ m ds. AreDigits ds)
    (λ m l. record { all = (omega arith, omega arith, tt); low = λ d. omega arith; high = λ d. omega arith })
    (λ m ds l h. record {
      all = digits-append ds _ h.all (omega arith) (omega arith);
      low = λ d. rw (last-append d ds) (omega arith);
      high = λ d. rw (last-append d ds) (omega arith);
    })
    n small

-- digits contain no `_`
no-underscore : (xs ds : List ℕ) → AllDigits (xs ++ 95 ∷ ds) → ⊥
no-underscore [] ds all = let high : 95 ≤ 57 = all.1 in omega arith
no-underscore (x ∷ xs) ds all = no-underscore xs ds all.2

-- what follows the last `_` determines what is before it
cut : (xs ys ds es : List ℕ) → AllDigits ds → AllDigits es → xs ++ 95 ∷ ds ≡ ys ++ 95 ∷ es → (xs ≡ ys) × (ds ≡ es)
cut [] [] ds es all also same = (refl, let e : 95 ∷ ds ≡ 95 ∷ es = same in cc)
cut [] (y ∷ ys) ds es all also same =
    let e : 95 ∷ ds ≡ y ∷ (ys ++ 95 ∷ es) = same in
    let rest : ds ≡ ys ++ 95 ∷ es = cc in
    absurd (no-underscore ys es (rw (← rest) all))
cut (x ∷ xs) [] ds es all also same =
    let e : x ∷ (xs ++ 95 ∷ ds) ≡ 95 ∷ es = same in
    let rest : es ≡ xs ++ 95 ∷ ds = cc in
    absurd (no-underscore xs ds (rw (← rest) also))
cut (x ∷ xs) (y ∷ ys) ds es all also same =
    let e : x ∷ (xs ++ 95 ∷ ds) ≡ y ∷ (ys ++ 95 ∷ es) = same in
    let rest : xs ++ 95 ∷ ds ≡ ys ++ 95 ∷ es = cc in
    let head : x ≡ y = cc in
    let both = cut xs ys ds es all also rest in
    let tail : xs ≡ ys = both.0 in
    (cc, both.1)

-- a name with a number ends in a digit
ends-low : (base : List ℕ) (n : ℕ) → n < 2 ^ 64 → 48 ≤ last_or 95 (base ++ 95 ∷ decimal n)
ends-low base n small = rw (last-append 95 base 95 (decimal n)) ((decimal-digits n small).low 95)

ends-high : (base : List ℕ) (n : ℕ) → n < 2 ^ 64 → last_or 95 (base ++ 95 ∷ decimal n) ≤ 57
ends-high base n small = rw (last-append 95 base 95 (decimal n)) ((decimal-digits n small).high 95)

-- the name of a base that is marked, or is not
abbrev marked_name : Bool → List ℕ → ℕ → List ℕ
marked_name true base zero = base ++ underscore ∷ []
marked_name false base zero = base
marked_name m base (suc before) = base ++ underscore ∷ decimal (suc before)

-- a base that ends in a digit is marked
abbrev MarksDigit : Bool → List ℕ → Type 0
MarksDigit m base = 48 ≤ last_or 95 base → last_or 95 base ≤ 57 → m ≡ true

-- a name without a number is not one with a number
apart : (m : Bool) (base other : List ℕ) (n : ℕ) → n < 2 ^ 64 → MarksDigit m base
    → marked_name m base zero ≡ other ++ 95 ∷ decimal n → ⊥
apart true base other n small marks same =
    let left : last_or 95 (base ++ 95 ∷ []) ≡ 95 = last-append 95 base 95 [] in
    let right : last_or 95 (base ++ 95 ∷ []) ≡ last_or 95 (other ++ 95 ∷ decimal n) = ap (last_or 95) same in
    let high : last_or 95 (other ++ 95 ∷ decimal n) ≤ 57 = ends-high other n small in
    omega arith
apart false base other n small marks same =
    let right : last_or 95 base ≡ last_or 95 (other ++ 95 ∷ decimal n) = ap (last_or 95) same in
    let low : 48 ≤ last_or 95 (other ++ 95 ∷ decimal n) = ends-low other n small in
    let high : last_or 95 (other ++ 95 ∷ decimal n) ≤ 57 = ends-high other n small in
    let marked : false ≡ true = marks (omega arith) (omega arith) in
    absurd (cc)

-- A base is not empty and does not end in `_`.
abbrev pub IsBase : List ℕ → Type 0
IsBase base = last_or underscore base ≡ underscore → ⊥

-- two names without numbers
plain : (m k : Bool) (base other : List ℕ) → IsBase base → IsBase other → marked_name m base zero ≡ marked_name k other zero
    → base ≡ other
plain true true base other is also same = (cut base other [] [] tt tt same).0
plain false false base other is also same = same
plain true false base other is also same =
    absurd (also (sym (ap (last_or 95) same) ∙ last-append 95 base 95 []))
plain false true base other is also same =
    absurd (is (ap (last_or 95) same ∙ last-append 95 other 95 []))

distinct : (m k : Bool) (base other : List ℕ) (number more : ℕ) → number < 2 ^ 64 → more < 2 ^ 64
    → MarksDigit m base → MarksDigit k other
    → IsBase base → IsBase other → marked_name m base number ≡ marked_name k other more → (base ≡ other) × (number ≡ more)
distinct m k base other zero zero small also marks mark is be same = (plain m k base other is be same, refl)
distinct m k base other zero (suc n) small also marks mark is be same =
    absurd (apart m base other (suc n) also marks same)
distinct m k base other (suc n) zero small also marks mark is be same =
    absurd (apart k other base (suc n) small mark (sym same))
distinct m k base other (suc n) (suc l) small also marks mark is be same =
    let both = cut base other (decimal (suc n)) (decimal (suc l)) (decimal-digits (suc n) small).all
    (decimal-digits (suc l) also).all same in
    (both.0, decimal_injective (suc n) (suc l) small also both.1)

at-zero : (m : Bool) (base : List ℕ) → (if m then base ++ underscore ∷ [] else base) ≡ marked_name m base zero
at-zero true base = refl
at-zero false base = refl

-- the name, by whether the base is marked
name-marked : (reserved : Reserved) (base : List ℕ) (number : ℕ)
    → name_of reserved base number ≡ marked_name (is_marked reserved base) base number
name-marked reserved base zero = at-zero (is_marked reserved base) base
name-marked reserved base (suc before) = refl

marks-digit : (reserved : Reserved) (base : List ℕ) → MarksDigit (is_marked reserved base) base
marks-digit reserved base low high =
    ap (λ (b : Bool). b || is_reserved reserved base) (digit-true (last_or 95 base) low high)

pub names-distinct : (reserved : Reserved) (base other : List ℕ) (number more : ℕ) → number < 2 ^ 64 → more < 2 ^ 64
    → IsBase base → IsBase other → name_of reserved base number ≡ name_of reserved other more → (base ≡ other) × (number ≡ more)
names-distinct reserved base other number more small also is be same =
    distinct (is_marked reserved base) (is_marked reserved other) base other number more small also
    (marks-digit reserved base) (marks-digit reserved other) is be
    (sym (name-marked reserved base number) ∙ same ∙ name-marked reserved other more)
