-- The parts and the copies of a handle.
use Rattle.std.proofs.Common.{◌≡◌, ℕ, List, [], ◌∷◌, Some, None, ap}
use Rattle.std.specs.Option.{option_map_or}
use Rattle.std.specs.Prelude.{replicate}
use Rattle.naga_arena.specs.declared.span.Span.{Span}
use Rattle.naga_ir.specs.declared.expression.Expression.{Expression}
use Rattle.naga_proc.specs.Flatten.{copies, parts, compose_at, splat_at}

module _ (arena : List (Expression × Span)) (handle : ℕ) where
  pub parts-compose : (compose : ℕ × List ℕ) → compose_at arena handle ≡ Some compose → parts arena handle ≡ compose.1
  parts-compose compose found = ap (λ it. option_map_or (λ c. c.1) it (handle ∷ [])) found

  pub parts-another : compose_at arena handle ≡ None → parts arena handle ≡ handle ∷ []
  parts-another found = ap (λ it. option_map_or (λ c. c.1) it (handle ∷ [])) found

  pub copies-splat : (splat : ℕ × ℕ) → splat_at arena handle ≡ Some splat → copies arena handle ≡ replicate splat.0 splat.1
  copies-splat splat found = ap (λ it. option_map_or (λ s. replicate s.0 s.1) it (handle ∷ [])) found

  pub copies-another : splat_at arena handle ≡ None → copies arena handle ≡ handle ∷ []
  copies-another found = ap (λ it. option_map_or (λ s. replicate s.0 s.1) it (handle ∷ [])) found
