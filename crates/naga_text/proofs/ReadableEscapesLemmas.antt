-- Numbers and escaped texts contain only characters that show themselves.
use Rattle.std.proofs.Common.{◌≡◌, ◌∙◌, ◌⊎◌, ap, refl, arith, inl, inr, ℕ, ◌/◌, ◌%◌, ◌<◌, ◌≤◌, List, [], ◌∷◌, Bool, true, false}
use Rattle.std.specs.Prelude.{◌++◌, encode_utf8, encode_utf8_all, flat_map, codes, ◌==◌, ◌||◌, ◌&&◌, ℤ, pos, negsuc, chars, zero, suc}
use Rattle.std.specs.Char.{is_ascii}
use Rattle.std.specs.Fmt.{decimal, digit_glyph, digits, digits_onto, signed_decimal}
use Rattle.std.specs.List.{list_all}
use Rattle.std.proofs.lemmas.Bool.{agree_below_at, and_from, and_parts, cond-true, cond_both, eqb-true, or_cases}
use Rattle.std.proofs.lemmas.Nat.{mod_below}
use Rattle.std.proofs.lemmas.Str.{chars-encodes}
use Rattle.std.specs.Str.{all_scalars}
use Rattle.naga_text.specs.Escapes.{code_text, control_text, escaped, escaped_character, is_plain, visible, visible_character}
use Rattle.naga_text.specs.Readable.{IsPlain}
use Rattle.naga_text.proofs.SpellsLemmas.{Spells-append, Spells-ascii, Spells-character, Spells-flat_map}

-- ---- digits

abbrev passes : ℕ → Bool
passes c = is_ascii c && is_plain c

digit_glyph-passes : (upper : Bool) (d : ℕ) → d < 16 → passes (digit_glyph upper d) ≡ true
digit_glyph-passes true d below = agree_below_at (λ d. passes (digit_glyph true d)) (λ d. true) 16 d refl below
digit_glyph-passes false d below = agree_below_at (λ d. passes (digit_glyph false d)) (λ d. true) 16 d refl below

digits_onto-passes : (k base : ℕ) (upper : Bool) (n : ℕ) (after : List ℕ) → 0 < base → base ≤ 16 → list_all passes after ≡ true → list_all passes (digits_onto k base upper n after) ≡ true
digits_onto-passes zero base upper n after some few pass = pass
digits_onto-passes (suc k) base upper n after some few pass =
    let here = and_from _ _ (digit_glyph-passes upper (n % base) (omega (arith, mod_below n base some, few))) pass in
    cond_both (n / base == 0) _ _ (λ text. list_all passes text ≡ true) (λ e. here)
    (λ e. digits_onto-passes k base upper (n / base) (digit_glyph upper (n % base) ∷ after) some few here)

pub digits-plain : (base : ℕ) (upper : Bool) (n : ℕ) → 0 < base → base ≤ 16 → IsPlain (digits base upper n)
unfolding digits
digits-plain base upper n some few = Spells-ascii (digits base upper n) (digits_onto-passes 64 base upper n [] some few refl)

pub decimal-plain : (n : ℕ) → IsPlain (decimal n)
decimal-plain n = digits-plain 10 false n (omega arith) (omega arith)

pub signed_decimal-plain : (n : ℤ) → IsPlain (signed_decimal n)
signed_decimal-plain (pos n) = decimal-plain n
signed_decimal-plain (negsuc n) = Spells-append (Spells-ascii (45 ∷ []) refl) (decimal-plain (suc n))

-- ---- characters

code_text-plain : (c : ℕ) → IsPlain (code_text c)
code_text-plain c =
    Spells-append (Spells-ascii (codes "\\u{") refl) (Spells-append (digits-plain 16 false c (omega arith) (omega arith)) (Spells-ascii (codes "}") refl))

control_text-plain : (c : ℕ) → IsPlain (control_text c)
control_text-plain c =
    cond_both (c == 0) _ _ IsPlain (λ e. Spells-ascii (codes "\\0") refl)
    (λ e. cond_both (c == 9) _ _ IsPlain (λ e. Spells-ascii (codes "\\t") refl)
    (λ e. cond_both (c == 10) _ _ IsPlain (λ e. Spells-ascii (codes "\\n") refl)
    (λ e. cond_both (c == 13) _ _ IsPlain (λ e. Spells-ascii (codes "\\r") refl) (λ e. code_text-plain c))))

visible_character-plain : (c : ℕ) → IsPlain (visible_character c)
visible_character-plain c =
    cond_both (is_plain c) _ _ IsPlain (λ e. Spells-character c e) (λ e. control_text-plain c)

quote_or_backslash-plain : (c : ℕ) → ((c == 34) ≡ true) ⊎ ((c == 92) ≡ true) → is_plain c ≡ true
quote_or_backslash-plain c (inl is) = ap is_plain (eqb-true c 34 is)
quote_or_backslash-plain c (inr is) = ap is_plain (eqb-true c 92 is)

escaped_character-plain : (c : ℕ) → IsPlain (escaped_character c)
escaped_character-plain c =
    cond_both ((c == 34) || (c == 92)) _ _ IsPlain
    (λ e. Spells-append (Spells-ascii (codes "\\") refl) (Spells-character c (quote_or_backslash-plain c (or_cases (c == 34) (c == 92) e))))
    (λ e. visible_character-plain c)

-- ---- texts

-- a message as it is written
pub visible-plain : (message : List ℕ) → IsPlain (visible message)
visible-plain message = Spells-flat_map visible_character (chars message) visible_character-plain

-- a name as it is written
pub escaped-plain : (name : List ℕ) → IsPlain (escaped name)
escaped-plain name = Spells-flat_map escaped_character (chars name) escaped_character-plain

visible_character-unchanged : (cs : List ℕ) → list_all is_plain cs ≡ true → flat_map visible_character cs ≡ encode_utf8_all cs
visible_character-unchanged [] pass = refl
visible_character-unchanged (c ∷ cs) pass =
    let parts = and_parts (is_plain c) (list_all is_plain cs) pass in
    let here : visible_character c ≡ encode_utf8 c = cond-true (is_plain c) (encode_utf8 c) (control_text c) parts.0 in
    let rest = visible_character-unchanged cs parts.1 in
    λ i. here i ++ rest i

-- a message of plain characters is unchanged
pub visible-unchanged : (cs : List ℕ) → all_scalars cs ≡ true → list_all is_plain cs ≡ true → visible (encode_utf8_all cs) ≡ encode_utf8_all cs
visible-unchanged cs scalars pass = ap (flat_map visible_character) (chars-encodes cs scalars) ∙ visible_character-unchanged cs pass
