-- Characters that are escaped: lemmas on specs/Escapes.antt.
use Rattle.std.proofs.Common.{◌≡◌, ◌⊎◌, inl, inr, ◌∙◌, ap, refl, arith, ℕ, ◌<◌, ◌≤◌, Bool, true, false, length, get_or}
use Rattle.std.specs.Prelude.{not, ◌||◌, ◌==◌, nat_le}
use Rattle.std.specs.Char.{is_control}
use Rattle.std.specs.Int.{is_in_range}
use Rattle.std.proofs.lemmas.Bool.{and_from, and_parts, eqb-true, le-leb, leb-true, or_cases}
use Rattle.std.proofs.lemmas.List.Folds.{list_any_at}
use Rattle.naga_text.specs.Escapes.{ignorable_ranges, is_direction, is_ignorable, is_plain, is_separator}

ignorable-escaped : (c : ℕ) → is_ignorable c ≡ true → is_plain c ≡ false
ignorable-escaped c is = ap (λ b. not (is_control c || (is_separator c || b))) is ∙ shown (is_control c) (is_separator c)
  where
    shown : (a b : Bool) → not (a || (b || true)) ≡ false
    shown true b = refl
    shown false true = refl
    shown false false = refl

-- a range that contains another one
wider : (low high lo hi c : ℕ) → low ≤ lo → hi ≤ high → is_in_range lo hi c ≡ true → is_in_range low high c ≡ true
wider low high lo hi c below above is =
    let parts = and_parts (nat_le lo c) (nat_le c hi) is in
    and_from _ _ (le-leb low c (omega (arith, below, leb-true lo c parts.0))) (le-leb c high (omega (arith, above, leb-true c hi parts.1)))

-- the range with this position contains the character
in_range : (c position : ℕ) → position < length ignorable_ranges
    → is_in_range (get_or ignorable_ranges position (0, 0)).0 (get_or ignorable_ranges position (0, 0)).1 c ≡ true → is_ignorable c ≡ true
in_range c position inside is = list_any_at (λ range. is_in_range range.0 range.1 c) ignorable_ranges position (0, 0) inside is

-- a mark of direction is in one of these ranges
direction-ignorable : (c : ℕ) → is_direction c ≡ true → is_ignorable c ≡ true
direction-ignorable c is = first (or_cases _ _ is)
  where
    third : (is_in_range 0x202A 0x202E c ≡ true) ⊎ (is_in_range 0x2066 0x2069 c ≡ true) → is_ignorable c ≡ true
    third (inl inside) = in_range c 7 (omega arith) inside
    third (inr inside) = in_range c 8 (omega arith) (wider 0x2060 0x206F 0x2066 0x2069 c (omega arith) (omega arith) inside)

    second : (is_in_range 0x200E 0x200F c ≡ true) ⊎ ((is_in_range 0x202A 0x202E c || is_in_range 0x2066 0x2069 c) ≡ true) → is_ignorable c ≡ true
    second (inl inside) = in_range c 6 (omega arith) (wider 0x200B 0x200F 0x200E 0x200F c (omega arith) (omega arith) inside)
    second (inr more) = third (or_cases _ _ more)

    first : ((c == 0x061C) ≡ true) ⊎ ((is_in_range 0x200E 0x200F c || (is_in_range 0x202A 0x202E c || is_in_range 0x2066 0x2069 c)) ≡ true) → is_ignorable c ≡ true
    first (inl same) = ap is_ignorable (eqb-true c 0x061C same)
    first (inr more) = second (or_cases _ _ more)

-- a mark of direction is escaped
pub direction_is_escaped : (c : ℕ) → is_direction c ≡ true → is_plain c ≡ false
direction_is_escaped c is = ignorable-escaped c (direction-ignorable c is)
