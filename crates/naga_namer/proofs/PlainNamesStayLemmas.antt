-- A label that is an identifier of the right kind is its own name.
use Rattle.std.proofs.Common.{◌≡◌, ℕ, zero, suc, ◌+◌, ◌-◌, ◌<◌, List, [], ◌∷◌, ◌++◌, Bool, true, false, ◌&&◌, eqb, cond, length, refl, ap, sym, ◌∙◌, arith, take, append_assoc, append-nil, length-append, subst}
use Rattle.std.specs.Prelude.{codes, fold, slice_index}
use Rattle.std.specs.Char.{is_ascii_alphanumeric, is_ascii_digit}
use Rattle.std.specs.Char.Unicode.Numeric.{is_numeric}
use Rattle.std.proofs.UnicodeAscii.{is_numeric_ascii}
use Rattle.std.proofs.lemmas.Bool.{false≢true}
use Rattle.std.proofs.lemmas.Str.{chars-IsAscii}
use Rattle.naga_namer.specs.Bases.{appended, base_of, cleaned, code_text, generated, last_or, may_have_prefix, or_unnamed, separated, separates, trimmed, underscore, underscored}
use Rattle.naga_namer.specs.Names.{Counts, IsFirstFree, Reserved, is_marked, is_reserved, name_of}
use Rattle.naga_namer.specs.Scopes.{IsIdentifier, IsPlain, MayFollow, PlainNamesStay, is_word_byte}
use Rattle.naga_namer.proofs.BaseOfLemmas.{BeginsWell}
use Rattle.naga_namer.proofs.BoolLemmas.{cons-length, equal-from, or-second, other-word, separator-word, test-fails, word-low}
use Rattle.naga_namer.proofs.DistinctLemmas.{last-append}

ascii-at : (p : ℕ) (bytes : List ℕ) → MayFollow p bytes → (i : ℕ) → slice_index bytes i < 128
ascii-at p [] may i = omega arith
ascii-at p (byte ∷ rest) may zero = word-low byte may.0
ascii-at p (byte ∷ rest) may (suc i) = ascii-at byte rest may.2 i

-- the character is appended as it is
no-numeral : (empty : Bool) (c : ℕ) → c < 128 → (empty ≡ true → is_ascii_digit c ≡ false) → (empty && is_numeric c) ≡ false
no-numeral true c low well = sym (is_numeric_ascii c low) ∙ well refl
no-numeral false c low well = refl

word-kind : (base : List ℕ) (c : ℕ) (b : Bool) → separates c ≡ b → is_word_byte c ≡ true → (last_or 0 base ≡ underscore → c ≡ underscore → ⊥)
    → cond b (underscored base) (cond (is_ascii_alphanumeric c) (base ++ c ∷ []) (separated base ++ code_text c)) ≡ base ++ c ∷ []
word-kind base c true e word may =
    let is : c ≡ underscore = separator-word c e word in
    let other : eqb (last_or 0 base) 95 ≡ false = test-fails (last_or 0 base) 95 (λ same. may same is) in
    ap (λ (b : Bool). cond b base (base ++ underscore ∷ [])) other ∙ ap (λ (byte : ℕ). base ++ byte ∷ []) (sym is)
word-kind base c false e word may =
    ap (λ (b : Bool). cond b (base ++ c ∷ []) (separated base ++ code_text c)) (other-word c e word)

appended-word : (base : List ℕ) (c : ℕ) → is_word_byte c ≡ true → (last_or 0 base ≡ underscore → c ≡ underscore → ⊥)
    → (eqb (length base) 0 ≡ true → is_ascii_digit c ≡ false) → appended base c ≡ base ++ c ∷ []
appended-word base c word may well =
    ap (λ (b : Bool). cond b base (cond (separates c) (underscored base) (cond (is_ascii_alphanumeric c) (base ++ c ∷ []) (separated base ++ code_text c))))
    (no-numeral (eqb (length base) 0) c (word-low c word) well)
    ∙ word-kind base c (separates c) refl word may

not-empty : (base : List ℕ) (c : ℕ) → eqb (length (base ++ c ∷ [])) 0 ≡ true → ⊥
not-empty base c empty =
    let none : length (base ++ c ∷ []) ≡ 0 = equal-from (length (base ++ c ∷ [])) 0 empty in
    let longer : length (base ++ c ∷ []) ≡ length base + 1 = length-append base (c ∷ []) in
    omega arith

fold-words : (base rest : List ℕ) → MayFollow (last_or 0 base) rest → (eqb (length base) 0 ≡ true → BeginsWell rest)
    → fold appended base rest ≡ base ++ rest
fold-words base [] may well = sym (append-nil base)
fold-words base (c ∷ rest) may well =
    let here : appended base c ≡ base ++ c ∷ [] = appended-word base c may.0 may.1 well in
    let next : MayFollow (last_or 0 (base ++ c ∷ [])) rest = rw (last-append 0 base c []) may.2 in
    let more : fold appended (base ++ c ∷ []) rest ≡ (base ++ c ∷ []) ++ rest =
    fold-words (base ++ c ∷ []) rest next (λ empty. absurd (not-empty base c empty)) in
    ap (λ (text : List ℕ). fold appended text rest) here ∙ more ∙ append_assoc base (c ∷ []) rest

finished-word : (byte : ℕ) (rest : List ℕ) → (last_or byte rest ≡ underscore → ⊥) → or_unnamed (trimmed (byte ∷ rest)) ≡ byte ∷ rest
finished-word byte rest other =
    let last : eqb (last_or byte rest) 95 ≡ false = test-fails (last_or byte rest) 95 other in
    ap (λ (b : Bool). or_unnamed (cond b (take (length (byte ∷ rest) - 1) (byte ∷ rest)) (byte ∷ rest))) last
    ∙ ap (λ (b : Bool). cond b (codes "unnamed") (byte ∷ rest)) (cons-length byte rest)

cleaned-word : (label : List ℕ) → IsIdentifier label → (last_or 0 label ≡ underscore → ⊥) → cleaned label ≡ label
cleaned-word [] is other = absurd is
cleaned-word (byte ∷ rest) is other =
    ap (λ (cs : List ℕ). or_unnamed (trimmed (fold appended [] cs))) (chars-IsAscii (byte ∷ rest) (ascii-at 0 (byte ∷ rest) is.2))
    ∙ ap (λ (text : List ℕ). or_unnamed (trimmed text)) (fold-words [] (byte ∷ rest) is.2 (λ empty. is.0))
    ∙ finished-word byte rest other

base-word : (reserved : Reserved) (label : List ℕ) → IsIdentifier label → (last_or 0 label ≡ underscore → ⊥)
    → may_have_prefix reserved.prefixes label ≡ false → base_of reserved.prefixes label ≡ label
base-word reserved label is other prefix =
    ap (λ (text : List ℕ). cond (may_have_prefix reserved.prefixes text) (generated text) text) (cleaned-word label is other)
    ∙ ap (λ (b : Bool). cond b (generated label) label) prefix

-- the first number is free
first-number : (reserved : Reserved) (base : List ℕ) (number : ℕ) → is_marked reserved base ≡ false
    → IsFirstFree reserved base 0 number → name_of reserved base number ≡ base
first-number reserved base zero plain free = ap (λ (b : Bool). cond b (base ++ underscore ∷ []) base) plain
first-number reserved base (suc before) plain free =
    let taken : is_reserved reserved (name_of reserved base 0) ≡ true = free.first 0 (omega arith) (omega arith) in
    let is : name_of reserved base 0 ≡ base = ap (λ (b : Bool). cond b (base ++ underscore ∷ []) base) plain in
    let kept : is_reserved reserved base ≡ false = or-second (is_ascii_digit (last_or underscore base)) (is_reserved reserved base) plain in
    absurd (false≢true (sym kept ∙ ap (is_reserved reserved) (sym is) ∙ taken))

stays : (reserved : Reserved) (before : Counts) (base label : List ℕ) (number : ℕ) → base ≡ label → before label ≡ 0
    → IsFirstFree reserved base (before base) number → IsFirstFree reserved label 0 number
stays reserved before base label number same unused free =
    let P : List ℕ → Type 0 = λ text. IsFirstFree reserved text (before text) number in
    let at : IsFirstFree reserved label (before label) number = subst P same free in
    let Q : ℕ → Type 0 = λ start. IsFirstFree reserved label start number in
    subst Q unused at

-- a label that can be kept is its own base
pub base-plain : (reserved : Reserved) (label : List ℕ) → IsPlain reserved label → base_of reserved.prefixes label ≡ label
base-plain reserved label plain = base-word reserved label plain.identifier plain.complete plain.unprefixed

pub plain-names-stay : PlainNamesStay
plain-names-stay reserved before after label name plain unused names =
    let same : base_of reserved.prefixes label ≡ label = base-plain reserved label plain in
    let free : IsFirstFree reserved label 0 names.number =
    stays reserved before (base_of reserved.prefixes label) label names.number same unused names.free in
    names.is ∙ ap (λ (base : List ℕ). name_of reserved base names.number) same
    ∙ first-number reserved label names.number plain.unmarked free
