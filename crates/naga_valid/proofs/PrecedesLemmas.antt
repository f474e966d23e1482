-- The lexicographic order of triples.
use Rattle.std.proofs.Common.{◌≡◌, refl, arith, ℕ, ◌<◌, ◌≤◌}

-- the first triple comes before the second: it does in the first number that differs
abbrev pub Precedes : ℕ × ℕ × ℕ → ℕ × ℕ × ℕ → Type 0
Precedes a b = (a.0 ≤ b.0) × (a.0 ≡ b.0 → (a.1 ≤ b.1) × (a.1 ≡ b.1 → a.2 < b.2))

pub Precedes-irreflexive : (a : ℕ × ℕ × ℕ) → Precedes a a → ⊥
Precedes-irreflexive a before = let less : a.2 < a.2 = (before.1 refl).1 refl in absurd (omega (arith, less))

pub Precedes-transitive : (a b c : ℕ × ℕ × ℕ) → Precedes a b → Precedes b c → Precedes a c
Precedes-transitive a b c first next = (
  omega (arith, first.0, next.0),
  λ same.
      let first_same : a.0 ≡ b.0 = omega (arith, first.0, next.0, same) in
      let next_same : b.0 ≡ c.0 = omega (arith, first.0, next.0, same) in
      let left = first.1 first_same in
      let right = next.1 next_same in (
        omega (arith, left.0, right.0),
        λ equal.
            let left_less : a.2 < b.2 = left.1 (omega (arith, left.0, right.0, equal)) in
            let right_less : b.2 < c.2 = right.1 (omega (arith, left.0, right.0, equal)) in
            omega (arith, left_less, right_less),
      ),
)

-- by the first number, and by the second
pub Precedes-by_first : (a b : ℕ × ℕ × ℕ) → a.0 < b.0 → Precedes a b
Precedes-by_first a b less = (omega (arith, less), λ same. absurd (omega (arith, less, same)))

pub Precedes-by_second : (a b : ℕ × ℕ × ℕ) → a.0 ≡ b.0 → a.1 < b.1 → Precedes a b
Precedes-by_second a b same less = (omega (arith, same), λ _. (omega (arith, less), λ equal. absurd (omega (arith, less, equal))))

pub Precedes-by_third : (a b : ℕ × ℕ × ℕ) → a.0 ≡ b.0 → a.1 ≤ b.1 → a.2 < b.2 → Precedes a b
Precedes-by_third a b same within less = (omega (arith, same), λ _. (within, λ _. less))
