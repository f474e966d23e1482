-- The first number after all that a sequence has up to an index.
use Rattle.std.proofs.Common.{◌≡◌, refl, arith, ℕ, zero, suc, ◌+◌, ◌<◌, ◌≤◌, Option, Some, None}
use Rattle.std.proofs.Math.Decide.{le_ind}
use Rattle.std.specs.Prelude.{max}

-- the number after this one, or 0 if there is none
abbrev pub after : Option ℕ → ℕ
after None = 0
after (Some number) = number + 1

pub after-least : (found : Option ℕ) (limit : ℕ) → ((number : ℕ) → found ≡ Some number → number < limit) → after found ≤ limit
after-least None limit below = omega arith
after-least (Some number) limit below = omega (arith, below number refl)

module _ (numbers : ℕ → Option ℕ) where
  -- the first number after all those up to this index
  abbrev pub first_after : ℕ → ℕ
  first_after zero = after (numbers zero)
  first_after (suc index) = max (first_after index) (after (numbers (suc index)))

  pub first_after-own : (index : ℕ) → after (numbers index) ≤ first_after index
  first_after-own zero = omega arith
  first_after-own (suc index) = omega arith

  pub first_after-later : (index later : ℕ) → index ≤ later → first_after index ≤ first_after later
  first_after-later index later within = le_ind (λ n. first_after index ≤ first_after n) (omega arith) (λ n _ before. omega (arith, before)) later within

  pub first_after-least : (index limit : ℕ) → ((other number : ℕ) → other ≤ index → numbers other ≡ Some number → number < limit) → first_after index ≤ limit
  first_after-least zero limit below = after-least (numbers zero) limit (λ number. below zero number (omega arith))
  first_after-least (suc index) limit below =
      let before = first_after-least index limit (λ other number within. below other number (omega (arith, within))) in
      let own = after-least (numbers (suc index)) limit (λ number. below (suc index) number (omega arith)) in
      omega (arith, before, own)
