-- The leaves of a handle, at any depth, and the condition under which flattening finds all of them.
--
-- Components nest narrower if each `Compose` that is reached from them through `Compose` alone has a vector type with
-- fewer components than the vector of which it is a component, and if no value of a `Splat` is a `Compose` or a
-- `Splat`.
use Rattle.std.specs.Prelude.{◌≡◌, ◌<◌, ℕ, List, [], ◌∷◌, ◌++◌, Contains, Some, None}
use Rattle.std.specs.List.{repeat}
use Rattle.naga_arena.specs.declared.span.Span.{Span}
use Rattle.naga_proc.specs.Flatten.{size_at, compose_at, splat_at}
use Rattle.naga_ir.specs.declared.expression.Expression.{Expression}
use Rattle.naga_ir.specs.declared.types.Type.{«Type» as DeclaredType}

-- ---- leaves

mutual
  -- The leaves of a handle: for a Compose, those of its components, in order; for a Splat, those of its value, repeated
  -- as many times as its size; for every other handle, the handle itself.
  pub data HasLeaves (arena : List (Expression × Span)) : ℕ → List ℕ → Type 0 where
    composed : {handle : ℕ} {compose : ℕ × List ℕ} {leaves : List ℕ} →
        compose_at arena handle ≡ Some compose → HaveLeaves arena compose.1 leaves → HasLeaves arena handle leaves
    splatted : {handle : ℕ} {splat : ℕ × ℕ} {leaves : List ℕ} →
        splat_at arena handle ≡ Some splat → HasLeaves arena splat.1 leaves →
        HasLeaves arena handle (repeat splat.0 leaves)
    leaf : {handle : ℕ} → compose_at arena handle ≡ None → splat_at arena handle ≡ None →
        HasLeaves arena handle (handle ∷ [])

  -- the leaves of the handles of a list, concatenated in order
  pub data HaveLeaves (arena : List (Expression × Span)) : List ℕ → List ℕ → Type 0 where
    no_handles : HaveLeaves arena [] []
    joined : {handle : ℕ} {others leaves more : List ℕ} →
        HasLeaves arena handle leaves → HaveLeaves arena others more →
        HaveLeaves arena (handle ∷ others) (leaves ++ more)

-- ---- the condition under which flattening finds them

-- The second number is a handle that is reached from the components of a Compose of type `ty` through Compose
-- expressions only. The first is the type of the Compose that it is a component of.
pub data IsReached (arena : List (Expression × Span)) (ty : ℕ) (components : List ℕ) : ℕ → ℕ → Type 0 where
  at_once : {handle : ℕ} → Contains components handle → IsReached arena ty components ty handle
  through : {holder outer handle : ℕ} {compose : ℕ × List ℕ} →
      IsReached arena ty components outer holder → compose_at arena holder ≡ Some compose →
      Contains compose.1 handle → IsReached arena ty components compose.0 handle

-- both types are vector types, and the first has fewer components
abbrev pub IsNarrower : List (DeclaredType × Span) → ℕ → ℕ → Type 0
IsNarrower types inner outer =
    (few many : ℕ) × (size_at types inner ≡ Some few) × (size_at types outer ≡ Some many) × (few < many)

-- Of the handles that are reached through Compose expressions only, each Compose has a vector type with fewer
-- components than the type of the Compose that it is a component of, and the value of each Splat is neither a Compose
-- nor a Splat.
pub record NestsNarrower
    (types : List (DeclaredType × Span)) (arena : List (Expression × Span))
    (ty : ℕ) (components : List ℕ) : Type 0 where
  pub narrower : (outer handle : ℕ) (compose : ℕ × List ℕ) → IsReached arena ty components outer handle →
      compose_at arena handle ≡ Some compose → IsNarrower types compose.0 outer
  pub flat : (outer handle : ℕ) (splat : ℕ × ℕ) → IsReached arena ty components outer handle →
      splat_at arena handle ≡ Some splat →
      (compose_at arena splat.1 ≡ None) × (splat_at arena splat.1 ≡ None)
