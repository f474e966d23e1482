-- Strings, a byte at a time.
use Rattle.std.proofs.Common.{◌≡◌, ◌≢◌, ◌⊎◌, inl, inr, ℕ, ◌+◌, ◌*◌, ◌<◌, ◌≤◌, Bool, true, false, cond, ◌&&◌, ◌==◌, nat_lt, leb, List, [], ◌∷◌, Option, Some, None, option_and_then, refl, sym, ap, ◌∙◌, arith}
use Rattle.std.proofs.lemmas.Bool.{and_parts, cond_both, ne_eqb, lt-ltb, le-ltb, lt-leb, le-leb, ltb-true, cases_order}
use Rattle.std.proofs.Math.Bool.{and-false}
use Rattle.std.specs.Char.{digit_value, is_digit, encode_utf8}
use Rattle.std.specs.Prelude.{is_some}
use Rattle.json.specs.Lex.{Class, quote, backslash, operator, space, other, in_string, lex_byte, lex}
use Rattle.json.specs.Text.{code_unit, content, is_high_surrogate, is_low_surrogate, plain, after_backslash, after_u, after_high, prepend, short_escape, surrogate_pair}
use Rattle.json.specs.Word.{is_operator, is_space}
use Rattle.json_fault.specs.Rest.{is_string}
use Rattle.json_fault.specs.declared.mode.Within.TheVariants.{Plain, Backslash, Unit, UnitD, Unit1, Unit2, Unit3, High2, High3, High, HighBackslash, Low, LowD}

is_some-prepend : (bytes : List ℕ) (o : Option (List ℕ)) → is_some (prepend bytes o) ≡ is_some o
is_some-prepend bytes None = refl
is_some-prepend bytes (Some s) = refl

pub in_string_passes : (x : ℕ) (xs : List ℕ) → x ≢ 34 → x ≢ 92 → lex in_string (x ∷ xs) ≡ lex in_string xs
unfolding lex
in_string_passes x xs no_quote no_backslash =
    let P : Class → Type 0 = λ c. lex_byte in_string c x xs (λ n. lex n xs) ≡ lex in_string xs in
    let spaced = cond (is_space x) space other in
    let operated = cond (is_operator x) operator spaced in
    ap (λ b. lex_byte in_string (cond b quote (cond (x == 92) backslash operated)) x xs (λ n. lex n xs)) (ne_eqb x 34 no_quote) ∙ ap (λ b. lex_byte in_string (cond b backslash operated) x xs (λ n. lex n xs)) (ne_eqb x 92 no_backslash)
    ∙ cond_both (is_operator x) operator spaced P (λ _. refl) (λ _. cond_both (is_space x) space other P (λ _. refl) (λ _. refl))

-- ---- characters and short escapes

pub plain-other : (x : ℕ) (xs : List ℕ) → x ≢ 34 → x ≢ 92 → 32 ≤ x → is_string Plain (x ∷ xs) ≡ is_string Plain xs
unfolding content
plain-other x xs no_quote no_backslash le =
    ap is_some (λ i. cond (ne_eqb x 34 no_quote i) (Some []) (cond (ne_eqb x 92 no_backslash i) (content after_backslash xs) (cond (le-ltb x 32 le i) None (prepend (x ∷ []) (content plain xs))))) ∙ is_some-prepend (x ∷ []) (content plain xs)

pub plain-control : (x : ℕ) (xs : List ℕ) → x < 32 → is_string Plain (x ∷ xs) ≡ false
unfolding content
plain-control x xs low =
    ap is_some (λ i. cond (ne_eqb x 34 (λ e. omega arith) i) (Some []) (cond (ne_eqb x 92 (λ e. omega arith) i) (content after_backslash xs) (cond (lt-ltb x 32 low i) None (prepend (x ∷ []) (content plain xs)))))

pub backslash-short : (x : ℕ) (xs : List ℕ) → x ≢ 117 → is_string Backslash (x ∷ xs) ≡ (is_some (short_escape x) && is_string Plain xs)
unfolding content
backslash-short x xs no_u = ap is_some (λ i. cond (ne_eqb x 117 no_u i) (content after_u xs) (option_and_then (λ c. prepend (c ∷ []) (content plain xs)) (short_escape x))) ∙ by_escape (short_escape x)
  where
    by_escape : (o : Option ℕ) → is_some (option_and_then (λ c. prepend (c ∷ []) (content plain xs)) o) ≡ (is_some o && is_some (content plain xs))
    by_escape None = refl
    by_escape (Some c) = is_some-prepend (c ∷ []) (content plain xs)

-- ---- code units

-- the byte is a hexadecimal digit
abbrev pub hex : ℕ → Bool
hex x = is_digit x 16

not_surrogate : (u : ℕ) → (u < 0xd800) ⊎ (0xe000 ≤ u) → (is_high_surrogate u ≡ false) × (is_low_surrogate u ≡ false)
not_surrogate u (inl low) = (ap (λ b. b && nat_lt u 0xdc00) (lt-leb 0xd800 u low), ap (λ b. b && nat_lt u 0xe000) (lt-leb 0xdc00 u (omega arith)))
not_surrogate u (inr high) = (ap (λ b. leb 0xd800 u && b) (le-ltb u 0xdc00 (omega arith)) ∙ and-false _, ap (λ b. leb 0xdc00 u && b) (le-ltb u 0xe000 high) ∙ and-false _)

module _ (a b c d : ℕ) (xs : List ℕ) where
  -- all four are hexadecimal digits
  abbrev all_hex : Bool
  all_hex = hex a && hex b && hex c && hex d

  -- the code unit of the four digits
  abbrev unit_value : ℕ
  unit_value = digit_value a * 4096 + digit_value b * 256 + digit_value c * 16 + digit_value d

  -- a string goes on after this code unit
  abbrev from_unit : ℕ → Bool
  from_unit u = is_some (cond (is_high_surrogate u) (content (after_high u) xs) (cond (is_low_surrogate u) None (prepend (encode_utf8 u) (content plain xs))))

  from_digits : (test : Bool) → is_some (option_and_then (λ u. cond (is_high_surrogate u) (content (after_high u) xs) (cond (is_low_surrogate u) None (prepend (encode_utf8 u) (content plain xs)))) (cond test (Some unit_value) None)) ≡ (test && from_unit unit_value)
  from_digits true = refl
  from_digits false = refl

  unit_is : is_some (content after_u (a ∷ b ∷ c ∷ d ∷ xs)) ≡ (all_hex && from_unit unit_value)
  unfolding content code_unit
  unit_is = from_digits all_hex

  parts : all_hex ≡ true → (digit_value a < 16) × (digit_value b < 16) × (digit_value c < 16) × (digit_value d < 16)
  parts all =
      let last = and_parts (hex a && hex b && hex c) (hex d) all in
      let third = and_parts (hex a && hex b) (hex c) last.0 in
      let second = and_parts (hex a) (hex b) third.0 in
      (ltb-true (digit_value a) 16 second.0, ltb-true (digit_value b) 16 second.1, ltb-true (digit_value c) 16 third.1, ltb-true (digit_value d) 16 last.1)

  when_hex : (test : Bool) (x y : Bool) → (test ≡ true → x ≡ y) → (test && x) ≡ (test && y)
  when_hex true x y f = f refl
  when_hex false x y f = refl

  -- no surrogate
  pub plain_unit : (digit_value a ≡ 13 → digit_value b < 8) → is_some (content after_u (a ∷ b ∷ c ∷ d ∷ xs)) ≡ (all_hex && is_some (content plain xs))
  plain_unit no_pair =
      unit_is
      ∙ when_hex all_hex (from_unit unit_value) (is_some (content plain xs)) (λ all.
      let le = parts all in
      let far = not_surrogate unit_value (by_order (cases_order (digit_value a) 13) le.0 le.1 le.2 le.3) in
      ap is_some (λ i. cond (far.0 i) (content (after_high unit_value) xs) (cond (far.1 i) None (prepend (encode_utf8 unit_value) (content plain xs)))) ∙ is_some-prepend (encode_utf8 unit_value) (content plain xs))
    where
      by_order : (digit_value a ≡ 13) ⊎ ((digit_value a < 13) ⊎ (13 < digit_value a)) → digit_value a < 16 → digit_value b < 16 → digit_value c < 16 → digit_value d < 16 → (unit_value < 0xd800) ⊎ (0xe000 ≤ unit_value)
      by_order (inl e) p q r s = let less = no_pair e in inl (omega arith)
      by_order (inr (inl less)) p q r s = inl (omega arith)
      by_order (inr (inr more)) p q r s = inr (omega arith)

  -- the second half of a pair
  from_low : (test : Bool) → is_some (cond test (prepend (encode_utf8 unit_value) (content plain xs)) None) ≡ (test && is_some (content plain xs))
  from_low true = is_some-prepend (encode_utf8 unit_value) (content plain xs)
  from_low false = refl

  module _ (high : ℕ) where
    low_digits : (hexes low : Bool) → is_some (option_and_then (λ l. cond low (prepend (encode_utf8 (surrogate_pair high l)) (content plain xs)) None) (cond hexes (Some unit_value) None)) ≡ (hexes && (low && is_some (content plain xs)))
    low_digits true true = is_some-prepend (encode_utf8 (surrogate_pair high unit_value)) (content plain xs)
    low_digits true false = refl
    low_digits false low = refl

    low_test : (hexes : Bool) → is_some (option_and_then (λ l. cond (is_low_surrogate l) (prepend (encode_utf8 (surrogate_pair high l)) (content plain xs)) None) (cond hexes (Some unit_value) None))
        ≡ (hexes && (is_low_surrogate unit_value && is_some (content plain xs)))
    low_test true = low_digits true (is_low_surrogate unit_value)
    low_test false = refl

    pair_test : (s u : ℕ) (test : Bool)
        → is_some (cond test (option_and_then (λ l. cond (is_low_surrogate l) (prepend (encode_utf8 (surrogate_pair high l)) (content plain xs)) None) (code_unit a b c d)) None) ≡ (test && (all_hex && (is_low_surrogate unit_value && is_some (content plain xs))))
    unfolding code_unit
    pair_test s u true = low_test all_hex
    pair_test s u false = refl

    pub pair_is : (s u : ℕ) → is_some (content (after_high high) (s ∷ u ∷ a ∷ b ∷ c ∷ d ∷ xs)) ≡ (((s == 92) && (u == 117)) && (all_hex && (is_low_surrogate unit_value && is_some (content plain xs))))
    unfolding content
    pair_is s u = pair_test s u ((s == 92) && (u == 117))

pub high_any : (high : ℕ) (xs : List ℕ) → is_some (content (after_high high) xs) ≡ is_some (content (after_high 0xd800) xs)
unfolding content
high_any high [] = refl
high_any high (s ∷ []) = refl
high_any high (s ∷ u ∷ []) = refl
high_any high (s ∷ u ∷ a ∷ []) = refl
high_any high (s ∷ u ∷ a ∷ b ∷ []) = refl
high_any high (s ∷ u ∷ a ∷ b ∷ c ∷ []) = refl
high_any high (s ∷ u ∷ a ∷ b ∷ c ∷ d ∷ xs) = pair_is a b c d xs high s u ∙ sym (pair_is a b c d xs 0xd800 s u)

far_from_pair : (a b c d : ℕ) (xs : List ℕ) → all_hex a b c d xs ≡ true → digit_value a ≢ 13 → is_low_surrogate (unit_value a b c d xs) ≡ false
far_from_pair a b c d xs all no_d = by_order (cases_order (digit_value a) 13) (parts a b c d xs all).1 (parts a b c d xs all).2 (parts a b c d xs all).3
  where
    by_order : (digit_value a ≡ 13) ⊎ ((digit_value a < 13) ⊎ (13 < digit_value a)) → digit_value b < 16 → digit_value c < 16 → digit_value d < 16 → is_low_surrogate (unit_value a b c d xs) ≡ false
    by_order (inl e) q r s = absurd (no_d e)
    by_order (inr (inl less)) q r s = (not_surrogate (unit_value a b c d xs) (inl (omega arith))).1
    by_order (inr (inr more)) q r s = (not_surrogate (unit_value a b c d xs) (inr (omega arith))).1

module _ (a b c d : ℕ) (xs : List ℕ) (is_d : digit_value a ≡ 13) where
  -- the first half of a pair
  high_unit : 8 ≤ digit_value b → digit_value b < 12 → is_some (content after_u (a ∷ b ∷ c ∷ d ∷ xs)) ≡ (all_hex a b c d xs && is_some (content (after_high 0xd800) xs))
  high_unit low high =
      let u = unit_value a b c d xs in
      unit_is a b c d xs
      ∙ when_hex a b c d xs (all_hex a b c d xs) (from_unit a b c d xs u) (is_some (content (after_high 0xd800) xs)) (λ all.
      let le = parts a b c d xs all in
      ap (λ t. is_some (cond (t && nat_lt u 0xdc00) (content (after_high u) xs) (cond (is_low_surrogate u) None (prepend (encode_utf8 u) (content plain xs))))) (le-leb 0xd800 u (omega arith))
      ∙ ap (λ t. is_some (cond t (content (after_high u) xs) (cond (is_low_surrogate u) None (prepend (encode_utf8 u) (content plain xs))))) (lt-ltb u 0xdc00 (omega arith)) ∙ high_any u xs)

  -- the second half of a pair, with no first half
  low_unit : 12 ≤ digit_value b → is_some (content after_u (a ∷ b ∷ c ∷ d ∷ xs)) ≡ false
  low_unit low =
      let u = unit_value a b c d xs in
      unit_is a b c d xs
      ∙ when_hex a b c d xs (all_hex a b c d xs) (from_unit a b c d xs u) false (λ all.
      let le = parts a b c d xs all in
      let is_high : is_high_surrogate u ≡ false = ap (λ t. leb 0xd800 u && t) (le-ltb u 0xdc00 (omega arith)) ∙ and-false (leb 0xd800 u) in
      let is_low : is_low_surrogate u ≡ true = (λ i. le-leb 0xdc00 u (omega arith) i && lt-ltb u 0xe000 (omega arith) i) in
      ap is_some (λ i. cond (is_high i) (content (after_high u) xs) (cond (is_low i) None (prepend (encode_utf8 u) (content plain xs)))))
      ∙ and-false (all_hex a b c d xs)

-- ---- a digit of an escape

hex_is : (x : ℕ) → digit_value x < 16 → hex x ≡ true
hex_is x h = lt-ltb (digit_value x) 16 h

hex_not : (x : ℕ) → 16 ≤ digit_value x → hex x ≡ false
hex_not x h = le-ltb (digit_value x) 16 h

never_d : (n : ℕ) (P : Type 0) → n ≡ 13 → n ≢ 13 → P
never_d n P e h = absurd (h e)

pub unit-digit : (x : ℕ) (xs : List ℕ) → digit_value x < 16 → digit_value x ≢ 13 → is_string Unit (x ∷ xs) ≡ is_string Unit1 xs
unfolding content
unit-digit x [] h no_d = refl
unit-digit x (b ∷ []) h no_d = refl
unit-digit x (b ∷ c ∷ []) h no_d = refl
unit-digit x (b ∷ c ∷ d ∷ xs) h no_d =
    plain_unit x b c d xs (λ e. absurd (no_d e)) ∙ ap (λ t. (((t && hex b) && hex c) && hex d) && is_some (content plain xs)) (hex_is x h) ∙ sym (plain_unit 48 b c d xs (λ e. omega arith))

pub unit-d : (x : ℕ) (xs : List ℕ) → digit_value x ≡ 13 → is_string Unit (x ∷ xs) ≡ is_string UnitD xs
unfolding content code_unit
unit-d x [] e = refl
unit-d x (b ∷ []) e = refl
unit-d x (b ∷ c ∷ []) e = refl
unit-d x (b ∷ c ∷ d ∷ xs) e =
    ap (λ v. is_some
    (option_and_then (λ u. cond (is_high_surrogate u) (content (after_high u) xs) (cond (is_low_surrogate u) None (prepend (encode_utf8 u) (content plain xs))))
    (cond (nat_lt v 16 && hex b && hex c && hex d) (Some (v * 4096 + digit_value b * 256 + digit_value c * 16 + digit_value d)) None))) e

pub unit-other : (x : ℕ) (xs : List ℕ) → 16 ≤ digit_value x → is_string Unit (x ∷ xs) ≡ false
unfolding content
unit-other x [] h = refl
unit-other x (b ∷ []) h = refl
unit-other x (b ∷ c ∷ []) h = refl
unit-other x (b ∷ c ∷ d ∷ xs) h = plain_unit x b c d xs (λ e. omega arith) ∙ ap (λ t. (((t && hex b) && hex c) && hex d) && is_some (content plain xs)) (hex_not x h)

pub unit1-digit : (x : ℕ) (xs : List ℕ) → digit_value x < 16 → is_string Unit1 (x ∷ xs) ≡ is_string Unit2 xs
unfolding content
unit1-digit x [] h = refl
unit1-digit x (c ∷ []) h = refl
unit1-digit x (c ∷ d ∷ xs) h = plain_unit 48 x c d xs (λ e. omega arith) ∙ ap (λ t. ((t && hex c) && hex d) && is_some (content plain xs)) (hex_is x h) ∙ sym (plain_unit 48 48 c d xs (λ e. omega arith))

pub unit1-other : (x : ℕ) (xs : List ℕ) → 16 ≤ digit_value x → is_string Unit1 (x ∷ xs) ≡ false
unfolding content
unit1-other x [] h = refl
unit1-other x (c ∷ []) h = refl
unit1-other x (c ∷ d ∷ xs) h = plain_unit 48 x c d xs (λ e. omega arith) ∙ ap (λ t. ((t && hex c) && hex d) && is_some (content plain xs)) (hex_not x h)

pub unit2-digit : (x : ℕ) (xs : List ℕ) → digit_value x < 16 → is_string Unit2 (x ∷ xs) ≡ is_string Unit3 xs
unfolding content
unit2-digit x [] h = refl
unit2-digit x (d ∷ xs) h = plain_unit 48 48 x d xs (λ e. omega arith) ∙ ap (λ t. (t && hex d) && is_some (content plain xs)) (hex_is x h) ∙ sym (plain_unit 48 48 48 d xs (λ e. omega arith))

pub unit2-other : (x : ℕ) (xs : List ℕ) → 16 ≤ digit_value x → is_string Unit2 (x ∷ xs) ≡ false
unfolding content
unit2-other x [] h = refl
unit2-other x (d ∷ xs) h = plain_unit 48 48 x d xs (λ e. omega arith) ∙ ap (λ t. (t && hex d) && is_some (content plain xs)) (hex_not x h)

pub unit3-digit : (x : ℕ) (xs : List ℕ) → digit_value x < 16 → is_string Unit3 (x ∷ xs) ≡ is_string Plain xs
unit3-digit x xs h = plain_unit 48 48 48 x xs (λ e. omega arith) ∙ ap (λ t. t && is_some (content plain xs)) (hex_is x h)

pub unit3-other : (x : ℕ) (xs : List ℕ) → 16 ≤ digit_value x → is_string Unit3 (x ∷ xs) ≡ false
unit3-other x xs h = plain_unit 48 48 48 x xs (λ e. omega arith) ∙ ap (λ t. t && is_some (content plain xs)) (hex_not x h)

-- ---- surrogates

pub unitd-digit : (x : ℕ) (xs : List ℕ) → digit_value x < 8 → is_string UnitD (x ∷ xs) ≡ is_string Unit2 xs
unfolding content
unitd-digit x [] h = refl
unitd-digit x (c ∷ []) h = refl
unitd-digit x (c ∷ d ∷ xs) h = plain_unit 100 x c d xs (λ e. h) ∙ ap (λ t. ((t && hex c) && hex d) && is_some (content plain xs)) (hex_is x (omega arith)) ∙ sym (plain_unit 48 48 c d xs (λ e. omega arith))

pub unitd-high : (x : ℕ) (xs : List ℕ) → 8 ≤ digit_value x → digit_value x < 12 → is_string UnitD (x ∷ xs) ≡ is_string High2 xs
unfolding content
unitd-high x [] low high = refl
unitd-high x (c ∷ []) low high = refl
unitd-high x (c ∷ d ∷ xs) low high =
    high_unit 100 x c d xs refl low high ∙ ap (λ t. ((t && hex c) && hex d) && is_some (content (after_high 0xd800) xs)) (hex_is x (omega arith)) ∙ sym (high_unit 100 56 c d xs refl (omega arith) (omega arith))

pub unitd-low : (x : ℕ) (xs : List ℕ) → 12 ≤ digit_value x → is_string UnitD (x ∷ xs) ≡ false
unfolding content
unitd-low x [] low = refl
unitd-low x (c ∷ []) low = refl
unitd-low x (c ∷ d ∷ xs) low = low_unit 100 x c d xs refl low

pub high2-digit : (x : ℕ) (xs : List ℕ) → digit_value x < 16 → is_string High2 (x ∷ xs) ≡ is_string High3 xs
unfolding content
high2-digit x [] h = refl
high2-digit x (d ∷ xs) h =
    high_unit 100 56 x d xs refl (omega arith) (omega arith) ∙ ap (λ t. (t && hex d) && is_some (content (after_high 0xd800) xs)) (hex_is x h) ∙ sym (high_unit 100 56 48 d xs refl (omega arith) (omega arith))

pub high2-other : (x : ℕ) (xs : List ℕ) → 16 ≤ digit_value x → is_string High2 (x ∷ xs) ≡ false
unfolding content
high2-other x [] h = refl
high2-other x (d ∷ xs) h = high_unit 100 56 x d xs refl (omega arith) (omega arith) ∙ ap (λ t. (t && hex d) && is_some (content (after_high 0xd800) xs)) (hex_not x h)

pub high3-digit : (x : ℕ) (xs : List ℕ) → digit_value x < 16 → is_string High3 (x ∷ xs) ≡ is_string High xs
high3-digit x xs h = high_unit 100 56 48 x xs refl (omega arith) (omega arith) ∙ ap (λ t. t && is_some (content (after_high 0xd800) xs)) (hex_is x h)

pub high3-other : (x : ℕ) (xs : List ℕ) → 16 ≤ digit_value x → is_string High3 (x ∷ xs) ≡ false
high3-other x xs h = high_unit 100 56 48 x xs refl (omega arith) (omega arith) ∙ ap (λ t. t && is_some (content (after_high 0xd800) xs)) (hex_not x h)

pub high-other : (x : ℕ) (xs : List ℕ) → x ≢ 92 → is_string High (x ∷ xs) ≡ false
unfolding content
high-other x [] h = refl
high-other x (u ∷ []) h = refl
high-other x (u ∷ a ∷ []) h = refl
high-other x (u ∷ a ∷ b ∷ []) h = refl
high-other x (u ∷ a ∷ b ∷ c ∷ []) h = refl
high-other x (u ∷ a ∷ b ∷ c ∷ d ∷ xs) h =
    pair_is a b c d xs 0xd800 x u ∙ ap (λ t. (t && (u == 117)) && (all_hex a b c d xs && (is_low_surrogate (unit_value a b c d xs) && is_some (content plain xs)))) (ne_eqb x 92 h)

pub high_backslash-other : (x : ℕ) (xs : List ℕ) → x ≢ 117 → is_string HighBackslash (x ∷ xs) ≡ false
unfolding content
high_backslash-other x [] h = refl
high_backslash-other x (a ∷ []) h = refl
high_backslash-other x (a ∷ b ∷ []) h = refl
high_backslash-other x (a ∷ b ∷ c ∷ []) h = refl
high_backslash-other x (a ∷ b ∷ c ∷ d ∷ xs) h = pair_is a b c d xs 0xd800 92 x ∙ ap (λ t. t && (all_hex a b c d xs && (is_low_surrogate (unit_value a b c d xs) && is_some (content plain xs)))) (ne_eqb x 117 h)

pub low-d : (x : ℕ) (xs : List ℕ) → digit_value x ≡ 13 → is_string Low (x ∷ xs) ≡ is_string LowD xs
unfolding content code_unit
low-d x [] e = refl
low-d x (b ∷ []) e = refl
low-d x (b ∷ c ∷ []) e = refl
low-d x (b ∷ c ∷ d ∷ xs) e =
    ap (λ v. is_some
    (option_and_then (λ l. cond (is_low_surrogate l) (prepend (encode_utf8 (surrogate_pair 0xd800 l)) (content plain xs)) None)
    (cond (nat_lt v 16 && hex b && hex c && hex d) (Some (v * 4096 + digit_value b * 256 + digit_value c * 16 + digit_value d)) None))) e

pub low-other : (x : ℕ) (xs : List ℕ) → digit_value x ≢ 13 → is_string Low (x ∷ xs) ≡ false
unfolding content
low-other x [] no_d = refl
low-other x (b ∷ []) no_d = refl
low-other x (b ∷ c ∷ []) no_d = refl
low-other x (b ∷ c ∷ d ∷ xs) no_d =
    let u = unit_value x b c d xs in
    pair_is x b c d xs 0xd800 92 117 ∙ when_hex x b c d xs (all_hex x b c d xs) (is_low_surrogate u && is_some (content plain xs)) false (λ all. ap (λ t. t && is_some (content plain xs)) (far_from_pair x b c d xs all no_d)) ∙ and-false (all_hex x b c d xs)

pub low_d-low : (x : ℕ) (xs : List ℕ) → 12 ≤ digit_value x → digit_value x < 16 → is_string LowD (x ∷ xs) ≡ is_string Unit2 xs
unfolding content
low_d-low x [] low high = refl
low_d-low x (c ∷ []) low high = refl
low_d-low x (c ∷ d ∷ xs) low high =
    let u = unit_value 100 x c d xs in
    pair_is 100 x c d xs 0xd800 92 117
    ∙ when_hex 100 x c d xs (all_hex 100 x c d xs) (is_low_surrogate u && is_some (content plain xs)) (is_some (content plain xs)) (λ all.
    let le = parts 100 x c d xs all in
    (λ i. (le-leb 0xdc00 u (omega arith) i && lt-ltb u 0xe000 (omega arith) i) && is_some (content plain xs)))
    ∙ ap (λ t. ((t && hex c) && hex d) && is_some (content plain xs)) (hex_is x high) ∙ sym (plain_unit 48 48 c d xs (λ e. omega arith))

pub low_d-other : (x : ℕ) (xs : List ℕ) → (digit_value x < 12) ⊎ (16 ≤ digit_value x) → is_string LowD (x ∷ xs) ≡ false
unfolding content
low_d-other x [] h = refl
low_d-other x (c ∷ []) h = refl
low_d-other x (c ∷ d ∷ xs) h =
    let u = unit_value 100 x c d xs in
    pair_is 100 x c d xs 0xd800 92 117 ∙ when_hex 100 x c d xs (all_hex 100 x c d xs) (is_low_surrogate u && is_some (content plain xs)) false (λ all. by_range h (parts 100 x c d xs all).1 (parts 100 x c d xs all).2 (parts 100 x c d xs all).3)
    ∙ and-false (all_hex 100 x c d xs)
  where
    by_range : (digit_value x < 12) ⊎ (16 ≤ digit_value x) → digit_value x < 16 → digit_value c < 16 → digit_value d < 16 → (is_low_surrogate (unit_value 100 x c d xs) && is_some (content plain xs)) ≡ false
    by_range (inl low) p q r = ap (λ t. (t && nat_lt (unit_value 100 x c d xs) 0xe000) && is_some (content plain xs)) (lt-leb 0xdc00 (unit_value 100 x c d xs) (omega arith))
    by_range (inr high) p q r = let never : ⊥ = omega arith in absurd never
