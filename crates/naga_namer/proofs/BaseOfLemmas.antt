-- A base is an identifier that does not end in `_`.
use Rattle.std.proofs.Common.{◌≡◌, ℕ, ◌-◌, List, [], ◌∷◌, ◌++◌, Bool, true, false, ◌&&◌, ◌||◌, eqb, cond, length, refl, ap, sym, subst, ◌∙◌, arith, take}
use Rattle.std.specs.Prelude.{⊤, codes, chars, fold}
use Rattle.std.specs.Char.{is_ascii_alphanumeric, is_ascii_digit}
use Rattle.std.specs.Char.Unicode.Numeric.{is_numeric}
use Rattle.std.proofs.UnicodeAscii.{is_numeric_ascii}
use Rattle.std.proofs.lemmas.Bool.{false≢true}
use Rattle.naga_namer.specs.Bases.{appended, base_of, cleaned, code_text, ends_in_underscore, generated, last_or, may_have_prefix, separated, separates, trimmed, underscore, underscored}
use Rattle.naga_namer.specs.Scopes.{MayFollow}
use Rattle.naga_namer.proofs.BoolLemmas.{and-other, differs-from, digit-low, equal-from}
use Rattle.naga_namer.proofs.DistinctLemmas.{IsBase}
use Rattle.naga_namer.proofs.MayFollowLemmas.{code-may, letters-may, may-after, may-append}

-- the text does not begin with a digit
abbrev pub BeginsWell : List ℕ → Type 0
BeginsWell [] = ⊤
BeginsWell (byte ∷ rest) = is_ascii_digit byte ≡ false

-- a base that is being made
pub record IsClean (base : List ℕ) : Type 0 where
  pub may : MayFollow 0 base
  pub begins : BeginsWell base

begins-append : (byte : ℕ) (base more : List ℕ) → BeginsWell (byte ∷ base) → BeginsWell ((byte ∷ base) ++ more)
begins-append byte base more well = well

-- a clean base with more behind it
clean-append : (base more : List ℕ) → IsClean base → MayFollow (last_or 0 base) more → (length base ≡ 0 → BeginsWell more)
    → IsClean (base ++ more)
clean-append [] more clean may well = record { may = may; begins = well refl }
clean-append (byte ∷ base) more clean may well = record {
  may = may-append 0 (byte ∷ base) more clean.may may;
  begins = clean.begins;
}

choose : (b : Bool) (x y : List ℕ) → (b ≡ true → IsClean x) → (b ≡ false → IsClean y) → IsClean (cond b x y)
choose true x y first second = first refl
choose false x y first second = second refl

clean-underscored : (base : List ℕ) → IsClean base → IsClean (underscored base)
clean-underscored base clean =
    choose (eqb (last_or 0 base) 95) base (base ++ underscore ∷ []) (λ e. clean)
    (λ e. clean-append base (underscore ∷ []) clean
    (refl, λ same. absurd (differs-from (last_or 0 base) 95 e refl same), tt) (λ empty. refl))

not-separator : (c : ℕ) → separates c ≡ false → c ≡ underscore → ⊥
not-separator c other same = false≢true (sym other ∙ ap separates same)

clean-word : (base : List ℕ) (c : ℕ) → IsClean base → is_ascii_alphanumeric c ≡ true → separates c ≡ false
    → (length base ≡ 0 → is_ascii_digit c ≡ false) → IsClean (base ++ c ∷ [])
clean-word base c clean word other well =
    clean-append base (c ∷ []) clean
    (ap (λ (b : Bool). b || eqb c underscore) word, λ e. not-separator c other, tt) well

-- the last byte is the same whatever stands for none, if there is one
last-zero : (base : List ℕ) → eqb (last_or 95 base) 95 ≡ false → last_or 0 base ≡ 95 → ⊥
last-zero [] other same = false≢true (sym other)
last-zero (byte ∷ rest) other same = differs-from (last_or byte rest) 95 other refl same

separated-code : (base : List ℕ) (c : ℕ) (b : Bool) → IsClean base → b ≡ eqb (last_or 95 base) 95
    → IsClean (cond b base (base ++ underscore ∷ []) ++ code_text c)
separated-code base c true clean e =
    clean-append base (code_text c) clean (code-may (last_or 0 base) c) (λ empty. refl)
separated-code base c false clean e =
    let behind = clean-append base (underscore ∷ []) clean (refl, λ same other. last-zero base (sym e) same, tt) (λ empty. refl) in
    clean-append (base ++ underscore ∷ []) (code_text c) behind (code-may (last_or 0 (base ++ underscore ∷ [])) c) (λ empty. refl)

-- an ASCII digit is a numeric character
digit-numeric : (c : ℕ) → is_ascii_digit c ≡ true → is_numeric c ≡ true
digit-numeric c digit =
    sym (is_numeric_ascii c (digit-low c digit)) ∙ digit

no-digit : (c : ℕ) (b : Bool) → is_ascii_digit c ≡ b → is_numeric c ≡ false → is_ascii_digit c ≡ false
no-digit c true e other = absurd (false≢true (sym other ∙ digit-numeric c e))
no-digit c false e other = e

leading : (base : List ℕ) (c : ℕ) → (eqb (length base) 0 && is_numeric c) ≡ false → length base ≡ 0 → is_ascii_digit c ≡ false
leading base c e empty =
    no-digit c (is_ascii_digit c) refl (and-other (eqb (length base) 0) (is_numeric c) e (ap (λ (n : ℕ). eqb n 0) empty))

clean-appended : (base : List ℕ) (c : ℕ) → IsClean base → IsClean (appended base c)
clean-appended base c clean =
    let plain : List ℕ = cond (is_ascii_alphanumeric c) (base ++ c ∷ []) (separated base ++ code_text c) in
    choose (eqb (length base) 0 && is_numeric c) base (cond (separates c) (underscored base) plain) (λ e. clean) (λ first.
    choose (separates c) (underscored base) plain (λ e. clean-underscored base clean) (λ second.
    choose (is_ascii_alphanumeric c) (base ++ c ∷ []) (separated base ++ code_text c)
    (λ e. clean-word base c clean e second (leading base c first))
    (λ e. separated-code base c (eqb (last_or 95 base) 95) clean refl)))

clean-fold : (cs base : List ℕ) → IsClean base → IsClean (fold appended base cs)
clean-fold [] base clean = clean
clean-fold (c ∷ cs) base clean = clean-fold cs (appended base c) (clean-appended base c clean)

-- ---- without the `_` at its end

may-split : (p : ℕ) (xs ys : List ℕ) → MayFollow p (xs ++ ys) → MayFollow p xs × MayFollow (last_or p xs) ys
may-split p [] ys may = (tt, may)
may-split p (x ∷ xs) ys may = let both = may-split x xs ys may.2 in ((may.0, may.1, both.0), both.1)

-- all but the last byte
abbrev front : ℕ → List ℕ → List ℕ
front byte [] = []
front byte (next ∷ rest) = byte ∷ front next rest

front-last : (byte : ℕ) (rest : List ℕ) → byte ∷ rest ≡ front byte rest ++ last_or byte rest ∷ []
front-last byte [] = refl
front-last byte (next ∷ rest) = ap (λ (xs : List ℕ). byte ∷ xs) (front-last next rest)

front-take : (byte : ℕ) (rest : List ℕ) → take (length rest) (byte ∷ rest) ≡ front byte rest
front-take byte [] = refl
front-take byte (next ∷ rest) = ap (λ (xs : List ℕ). byte ∷ xs) (front-take next rest)

begins-front : (byte : ℕ) (rest : List ℕ) → BeginsWell (byte ∷ rest) → BeginsWell (front byte rest)
begins-front byte [] well = tt
begins-front byte (next ∷ rest) well = well

-- a base of which no `_` is left at its end
record IsFinished (base : List ℕ) : Type 0 where
  clean : IsClean base
  last : last_or 0 base ≡ underscore → ⊥

finished-front : (byte : ℕ) (rest : List ℕ) → IsClean (byte ∷ rest) → last_or byte rest ≡ underscore → IsFinished (front byte rest)
finished-front byte rest clean ends =
    let split : byte ∷ rest ≡ front byte rest ++ underscore ∷ [] = front-last byte rest ∙ ap (λ (last : ℕ). front byte rest ++ last ∷ []) ends in
    let P : List ℕ → Type 0 = λ text. MayFollow 0 text in
    let whole : MayFollow 0 (front byte rest ++ underscore ∷ []) = subst P split clean.may in
    let both = may-split 0 (front byte rest) (underscore ∷ []) whole in
    record {
      clean = record { may = both.0; begins = begins-front byte rest clean.begins };
      last = λ same. both.1.1 same refl;
    }

finish : (base : List ℕ) (b : Bool) → IsClean base → eqb (last_or 0 base) 95 ≡ b
    → IsFinished (cond b (take (length base - 1) base) base)
finish base false clean e = record { clean = clean; last = differs-from (last_or 0 base) 95 e refl }
finish [] true clean e = absurd (false≢true e)
finish (byte ∷ rest) true clean e =
    let ends : last_or byte rest ≡ underscore = equal-from (last_or byte rest) 95 e in
    let len : length (byte ∷ rest) - 1 ≡ length rest = omega arith in
    let shown : take (length (byte ∷ rest) - 1) (byte ∷ rest) ≡ front byte rest =
    ap (λ (n : ℕ). take n (byte ∷ rest)) len ∙ front-take byte rest in
    let P : List ℕ → Type 0 = λ text. IsFinished text in
    subst P (sym shown) (finished-front byte rest clean ends)

-- ---- the base

-- an identifier that does not end in `_`
pub record IsFine (base : List ℕ) : Type 0 where
  pub may : MayFollow 0 base
  pub begins : BeginsWell base
  pub is : IsBase base

unnamed-fine : IsFine (codes "unnamed")
unnamed-fine = record {
  may = letters-may 0 (codes "unnamed") refl;
  begins = refl;
  is = λ e. let same : 100 ≡ 95 = e in omega arith;
}

fine-or-unnamed : (base : List ℕ) (b : Bool) → eqb (length base) 0 ≡ b → IsFinished base → IsFine (cond b (codes "unnamed") base)
fine-or-unnamed base true e finished = unnamed-fine
fine-or-unnamed [] false e finished = absurd (false≢true (sym e))
fine-or-unnamed (byte ∷ rest) false e finished = record {
  may = finished.clean.may;
  begins = finished.clean.begins;
  is = finished.last;
}

cleaned-fine : (label : List ℕ) → IsFine (cleaned label)
cleaned-fine label =
    let base : List ℕ = fold appended [] (chars label) in
    fine-or-unnamed (trimmed base) (eqb (length (trimmed base)) 0) refl
    (finish base (ends_in_underscore base) (clean-fold (chars label) [] (record { may = tt; begins = tt })) refl)

behind-gen : (b : Bool) (byte : ℕ) (rest : List ℕ) → eqb byte 95 ≡ b → IsFine (byte ∷ rest)
    → IsFine ((cond b (codes "gen") (codes "gen_")) ++ byte ∷ rest)
behind-gen true byte rest e fine = record {
  may = may-append 0 (codes "gen") (byte ∷ rest) (letters-may 0 (codes "gen") refl)
      (may-after 0 110 (byte ∷ rest) fine.may (λ same. omega arith));
  begins = refl;
  is = fine.is;
}
behind-gen false byte rest e fine = record {
  may = may-append 0 (codes "gen") (underscore ∷ byte ∷ rest) (letters-may 0 (codes "gen") refl) (
    refl,
    λ same other. (let apart : 110 ≡ 95 = same in omega arith),
    (fine.may.0, λ same. differs-from byte 95 e refl, fine.may.2),
  );
  begins = refl;
  is = fine.is;
}

fine-generated : (base : List ℕ) → IsFine base → IsFine (generated base)
fine-generated [] fine = absurd (fine.is refl)
fine-generated (byte ∷ rest) fine = behind-gen (eqb byte 95) byte rest refl fine

fine-chosen : (b : Bool) (base : List ℕ) → IsFine base → IsFine (cond b (generated base) base)
fine-chosen true base fine = fine-generated base fine
fine-chosen false base fine = fine

pub base-fine : (prefixes : List (List ℕ)) (label : List ℕ) → IsFine (base_of prefixes label)
base-fine prefixes label = fine-chosen (may_have_prefix prefixes (cleaned label)) (cleaned label) (cleaned-fine label)
