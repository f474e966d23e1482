-- Vectors of vectors nest narrower: a condition on each component separately.
use Rattle.std.proofs.Common.{◌≡◌, ◌<◌, ◌⊎◌, inl, inr, ℕ, List, Some, None, refl, subst}
use Rattle.std.specs.Prelude.{Contains}
use Rattle.naga_arena.specs.declared.span.Span.{Span}
use Rattle.naga_ir.specs.declared.expression.Expression.{Expression}
use Rattle.naga_ir.specs.declared.types.«Type».{«Type» as DeclaredType}
use Rattle.naga_proc.specs.Flatten.{size_at, compose_at, splat_at}
use Rattle.naga_proc.specs.Flatten.Leaves.{IsNarrower, IsReached, NestsNarrower, at_once, through}

module _ (arena : List (Expression × Span)) where
  -- the handle is a component, or is reached from one
  abbrev IsBelow : ℕ → List ℕ → ℕ → ℕ → Type 0
  IsBelow ty components outer handle =
      ((ty ≡ outer) × Contains components handle)
      ⊎ ((holder : ℕ) × (compose : ℕ × List ℕ) × Contains components holder × (compose_at arena holder ≡ Some compose) × IsReached arena compose.0 compose.1 outer handle)

  below_more : (ty outer holder handle : ℕ) (components : List ℕ) (compose : ℕ × List ℕ) → IsBelow ty components outer holder →
      compose_at arena holder ≡ Some compose → Contains compose.1 handle → IsBelow ty components compose.0 handle
  below_more ty outer holder handle components compose (inl first) is among = inr (holder, compose, first.1, is, at_once among)
  below_more ty outer holder handle components compose (inr later) is among = inr (later.0, later.1, later.2, later.3, through later.4 is among)

  IsBelow-component : {ty : ℕ} {components : List ℕ} {outer handle : ℕ} → IsReached arena ty components outer handle → IsBelow ty components outer handle
  IsBelow-component (at_once among) = inl (refl, among)
  IsBelow-component {ty} {components} (through {holder = holder} {outer = outer} {handle = handle} {compose = compose} reached is among) =
      below_more ty outer holder handle components compose (IsBelow-component reached) is among

-- each component that is a Compose nests narrower in its own type, and has fewer components than `ty`
abbrev ComposesNest : List (DeclaredType × Span) → List (Expression × Span) → ℕ → List ℕ → Type 0
ComposesNest types arena ty components =
    (handle : ℕ) (compose : ℕ × List ℕ) → Contains components handle → compose_at arena handle ≡ Some compose →
    NestsNarrower types arena compose.0 compose.1
    × (few : ℕ) × (many : ℕ) × (size_at types compose.0 ≡ Some few) × (size_at types ty ≡ Some many) × (few < many)

-- the value of a component that is a Splat is neither a Compose nor a Splat
abbrev SplatsAreFlat : List (Expression × Span) → List ℕ → Type 0
SplatsAreFlat arena components =
    (handle : ℕ) (splat : ℕ × ℕ) → Contains components handle → splat_at arena handle ≡ Some splat →
    (compose_at arena splat.1 ≡ None) × (splat_at arena splat.1 ≡ None)

pub NestsNarrower-by_components : (types : List (DeclaredType × Span)) (arena : List (Expression × Span)) (ty : ℕ) (components : List ℕ) →
    ComposesNest types arena ty components → SplatsAreFlat arena components → NestsNarrower types arena ty components
NestsNarrower-by_components types arena ty components nest flat = record {
  narrower = λ outer handle compose reached is.
      elim (IsBelow-component arena reached) [
        | inl first ↦
            let sizes = nest handle compose first.1 is in
            subst (λ around. IsNarrower types compose.0 around) first.0 (sizes.1, sizes.2, sizes.3, sizes.4, sizes.5)
        | inr later ↦
            (nest later.0 later.1 later.2 later.3).0.narrower outer handle compose later.4 is
      ];
  flat = λ outer handle splat reached is.
      elim (IsBelow-component arena reached) [
        | inl first ↦ flat handle splat first.1 is
        | inr later ↦ (nest later.0 later.1 later.2 later.3).0.flat outer handle splat later.4 is
      ];
}
