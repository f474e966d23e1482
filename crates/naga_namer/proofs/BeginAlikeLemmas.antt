-- Texts that are the same up to the end of the shorter one.
use Rattle.std.proofs.Common.{◌≡◌, ℕ, zero, suc, min, List, [], ◌∷◌, ◌++◌, Bool, true, false, cond, length, refl, ap, sym, ◌∙◌, arith, take, append_assoc, append-nil}
use Rattle.std.specs.Prelude.{All, codes}
use Rattle.std.specs.List.{AllByRecursion, list_any}
use Rattle.std.proofs.lemmas.Bool.{false≢true}
use Rattle.std.proofs.lemmas.List.{take-append-le}
use Rattle.std.proofs.lemmas.List.Elements.{All-from_recursion, recursion_from_All}
use Rattle.std.proofs.lemmas.Slice.Eq.{bytes_eq-Decides}
use Rattle.naga_namer.specs.Bases.{base_of, begin_alike, cleaned, generated, may_have_prefix, underscore}
use Rattle.naga_namer.specs.Names.{Reserved, name_of, is_marked}
use Rattle.naga_namer.specs.Scopes.{BeginsWith, LeavesGen}
use Rattle.naga_namer.proofs.BoolLemmas.{or-first, or-second}

-- two beginnings of one text begin alike
begin-alike : (a b more rest : List ℕ) → a ++ more ≡ b ++ rest → begin_alike a b ≡ true
begin-alike a b more rest same =
    let n : ℕ = min (length a) (length b) in
    let left : take n (a ++ more) ≡ take n a = take-append-le n a more (omega arith) in
    let right : take n (b ++ rest) ≡ take n b = take-append-le n b rest (omega arith) in
    let both : take n a ≡ take n b = sym left ∙ ap (take n) same ∙ right in
    (bytes_eq-Decides (take n a) (take n b)).1 both

not-prefix : (prefixes : List (List ℕ)) (text name : List ℕ) → list_any (λ prefix. begin_alike prefix text) prefixes ≡ false
    → ((prefix rest : List ℕ) → name ≡ prefix ++ rest → begin_alike prefix text ≡ true)
    → AllByRecursion (λ prefix. BeginsWith name prefix → ⊥) prefixes
not-prefix [] text name none alike = tt
not-prefix (prefix ∷ prefixes) text name none alike = (
  λ begins. let here : begin_alike prefix text ≡ true = alike prefix begins.0 begins.1 in absurd (false≢true (sym (or-first (begin_alike prefix text) (list_any (λ p. begin_alike p text) prefixes) none) ∙ here)),
  not-prefix prefixes text name (or-second (begin_alike prefix text) (list_any (λ p. begin_alike p text) prefixes) none) alike,
)

-- no prefix that is unlike `gen` is the beginning of a name that begins so
not-all : (prefixes : List (List ℕ)) (name more : List ℕ) → name ≡ codes "gen" ++ more
    → AllByRecursion (λ prefix. begin_alike prefix (codes "gen") ≡ false) prefixes
    → AllByRecursion (λ prefix. BeginsWith name prefix → ⊥) prefixes
not-all [] name more is unlike = tt
not-all (prefix ∷ prefixes) name more is unlike = (
  λ begins.
      let here : begin_alike prefix (codes "gen") ≡ true = begin-alike prefix (codes "gen") begins.0 more (sym begins.1 ∙ is) in
      let other : begin_alike prefix (codes "gen") ≡ false = unlike.0 in
      absurd (false≢true (sym other ∙ here)),
  not-all prefixes name more is unlike.1,
)

module _ (reserved : Reserved) (base : List ℕ) where
  -- what follows the base in a name
  tail-zero : (b : Bool) → (tail : List ℕ) × (cond b (base ++ underscore ∷ []) base ≡ base ++ tail)
  tail-zero true = (underscore ∷ [], refl)
  tail-zero false = ([], sym (append-nil base))

  name-tail : (number : ℕ) → (tail : List ℕ) × (name_of reserved base number ≡ base ++ tail)
  name-tail zero = tail-zero (is_marked reserved base)
  name-tail (suc before) = (underscore ∷ _, refl)

  -- a beginning of a name is like the base with `_`
  alike-zero : (b : Bool) (prefix rest : List ℕ) → cond b (base ++ underscore ∷ []) base ≡ prefix ++ rest
      → begin_alike prefix (base ++ underscore ∷ []) ≡ true
  alike-zero true prefix rest same =
      begin-alike prefix (base ++ underscore ∷ []) rest [] (sym same ∙ sym (append-nil (base ++ underscore ∷ [])))
  alike-zero false prefix rest same =
      begin-alike prefix (base ++ underscore ∷ []) (rest ++ underscore ∷ []) []
      (sym (append_assoc prefix rest (underscore ∷ [])) ∙ ap (λ (xs : List ℕ). xs ++ underscore ∷ []) (sym same)
      ∙ sym (append-nil (base ++ underscore ∷ [])))

  name-alike : (number : ℕ) (prefix rest : List ℕ) → name_of reserved base number ≡ prefix ++ rest
      → begin_alike prefix (base ++ underscore ∷ []) ≡ true
  name-alike zero prefix rest same = alike-zero (is_marked reserved base) prefix rest same
  name-alike (suc before) prefix rest same =
      begin-alike prefix (base ++ underscore ∷ []) rest _
      (sym same ∙ sym (append_assoc base (underscore ∷ []) _))

gen-first : (b : Bool) (base : List ℕ) → (rest : List ℕ) × (cond b (codes "gen") (codes "gen_") ++ base ≡ codes "gen" ++ rest)
gen-first true base = (base, refl)
gen-first false base = (underscore ∷ base, refl)

gen-begins : (base : List ℕ) → (rest : List ℕ) × (generated base ≡ codes "gen" ++ rest)
gen-begins base = gen-first _ base

prefixes-avoided : (reserved : Reserved) (base : List ℕ) (number : ℕ) (b : Bool) → LeavesGen reserved
    → may_have_prefix reserved.prefixes base ≡ b
    → AllByRecursion (λ prefix. BeginsWith (name_of reserved (cond b (generated base) base) number) prefix → ⊥) reserved.prefixes
prefixes-avoided reserved base number false leaves e =
    not-prefix reserved.prefixes (base ++ underscore ∷ []) (name_of reserved base number) e (name-alike reserved base number)
prefixes-avoided reserved base number true leaves e =
    let gen = gen-begins base in
    let tail = name-tail reserved (generated base) number in
    let whole : name_of reserved (generated base) number ≡ codes "gen" ++ (gen.0 ++ tail.0) =
    tail.1 ∙ ap (λ (xs : List ℕ). xs ++ tail.0) gen.1 ∙ append_assoc (codes "gen") gen.0 tail.0 in
    not-all reserved.prefixes (name_of reserved (generated base) number) (gen.0 ++ tail.0) whole
    (recursion_from_All (λ prefix. begin_alike prefix (codes "gen") ≡ false) reserved.prefixes leaves)

pub avoided : (reserved : Reserved) (label : List ℕ) (number : ℕ) → LeavesGen reserved
    → All (λ prefix. BeginsWith (name_of reserved (base_of reserved.prefixes label) number) prefix → ⊥) reserved.prefixes
avoided reserved label number leaves =
    All-from_recursion (λ prefix. BeginsWith (name_of reserved (base_of reserved.prefixes label) number) prefix → ⊥) reserved.prefixes
    (prefixes-avoided reserved (cleaned label) number (may_have_prefix reserved.prefixes (cleaned label)) leaves refl)
