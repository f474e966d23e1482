-- Lengths that are tested for zero.
use Rattle.std.proofs.Common.{◌≡◌, ◌∙◌, sym, ℕ, zero, suc, ◌<◌, ◌≤◌, true, false, true≢false, arith}
use Rattle.std.proofs.lemmas.Bool.Decides.{nat_tests}
use Rattle.std.specs.Bool.{◌==◌}

pub is_empty-false : (n : ℕ) → (n == 0) ≡ false → 0 < n
is_empty-false zero is = absurd (true≢false is)
is_empty-false (suc n) is = omega arith

pub is_empty-true : (n : ℕ) → (n == 0) ≡ true → n ≤ 0
is_empty-true zero is = omega arith
is_empty-true (suc n) is = let no : (suc n == 0) ≡ false = grind (arith, nat_tests) in absurd (true≢false (sym is ∙ no))
