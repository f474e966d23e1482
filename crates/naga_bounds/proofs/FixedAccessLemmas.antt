-- Accesses by constant indices below fixed lengths come after their bases.
use Rattle.std.proofs.Common.{◌≡◌, refl, ℕ, ◌<◌, Bool, true, false, Option, Some, None, arith}
use Rattle.std.proofs.lemmas.Bool.Decides.{nat_tests}
use Rattle.std.specs.Prelude.{◌&&◌, IfSome, if◌then◌else◌, nat_lt}
use Rattle.naga_flow.specs.ConstantChains.{BasesPrecede}
use Rattle.naga_flow.specs.Readings.{constant_base_of, passes}
use Rattle.naga_typifier.specs.Rows.{◌>>=◌}
use Rattle.naga_bounds.specs.Reach.{Typed, expression_at, is_fixed_access, is_fixed_access_to}

module _ (code : Typed) where
  precedes : (handle : ℕ) (base : Option ℕ)
      → IfSome (if passes (is_fixed_access_to code handle) base then base else None) (λ base. base < handle)
  precedes handle None = cc
  precedes handle (Some base) = go (nat_lt base handle) _ refl
    where
      go : (before below : Bool) → nat_lt base handle ≡ before
          → IfSome (if before && below then Some base else None) (λ base. base < handle)
      go false below test = cc
      go true false test = cc
      go true true test = grind (arith, nat_tests)

  pub BasesPrecede-fixed : (count : ℕ) → BasesPrecede (is_fixed_access code) code.arena count
  BasesPrecede-fixed count handle within = precedes handle (expression_at code handle >>= constant_base_of)
