-- The components of a vector: the handles with each Splat spread.
use Rattle.std.proofs.Common.{◌≡◌, ℕ, zero, suc, ◌+◌, ◌-◌, ◌<◌, ◌≤◌, List, [], ◌∷◌, ◌++◌, Option, Some, None, refl, sym, ap, subst, ◌∙◌, length, take, length-append, length-take, arith}
use Rattle.std.proofs.lemmas.List.{length-replicate}
use Rattle.std.proofs.lemmas.Option.{none-some, option_and_then_some, same_Some}
use Rattle.std.specs.Prelude.{replicate}
use Rattle.naga_arena.specs.Arena.{value_at}
use Rattle.naga_arena.specs.declared.span.Span.{Span}
use Rattle.naga_kinds.specs.Scalar.{components_of}
use Rattle.naga_kinds.specs.declared.scalar.VectorSize.{VectorSize}
use Rattle.naga_kinds.specs.declared.scalar.VectorSize.TheVariants.{Bi, Tri, Quad}
use Rattle.naga_ir.specs.Expression.{splat_of}
use Rattle.naga_ir.specs.declared.expression.Expression.{Expression}
use Rattle.naga_ir.specs.declared.expression.Expression.TheVariants.{Splat}
use Rattle.naga_proc.specs.Flatten.{copies, copies_left, spread, splat_at}
use Rattle.naga_proc.specs.declared.flatten.Repeat.{Repeat}
use Rattle.naga_proc.proofs.Flattening.PartsLemmas.{copies-splat, copies-another}

pub take-first : (n first : ℕ) (handles rest : List ℕ) → 0 < n → handles ≡ first ∷ rest → take n handles ≡ first ∷ take (n - 1) rest
take-first zero first handles rest some is = absurd (omega arith)
take-first (suc n) first handles rest some is =
    let one_less : n ≡ suc n - 1 = omega arith in
    ap (take (suc n)) is ∙ ap (λ k. first ∷ take k rest) one_less

pub components_of-more : (size : VectorSize) → 2 ≤ components_of size
components_of-more Bi = omega arith
components_of-more Tri = omega arith
components_of-more Quad = omega arith

pub components_of-less : (size : VectorSize) → components_of size ≤ 4
components_of-less Bi = omega arith
components_of-less Tri = omega arith
components_of-less Quad = omega arith

splat_of-more : (expression : Expression) (splat : ℕ × ℕ) → splat_of expression ≡ Some splat → 1 ≤ splat.0
splat_of-more (Splat size value) splat is =
    let more : 1 ≤ components_of size = omega (arith, components_of-more size) in
    subst (λ s. 1 ≤ s.0) (same_Some (components_of size, value) splat is) more
splat_of-more _ splat is = absurd (none-some splat is)

module _ (arena : List (Expression × Span)) where
  spread-first : (handle value more : ℕ) (handles rest : List ℕ) → handles ≡ handle ∷ rest → copies arena handle ≡ value ∷ replicate more value → spread arena handles ≡ value ∷ (replicate more value ++ spread arena rest)
  spread-first handle value more handles rest is copied =
      ap (spread arena) is ∙ ap (λ given. given ++ spread arena rest) copied

  -- if no copies are left, the next handle is yielded, or spread if it is a Splat
  pub take-handle : (left handle value more : ℕ) (repeat : Option Repeat) (handles rest seen : List ℕ) → 0 < left → copies_left repeat ≡ [] → handles ≡ handle ∷ rest → copies arena handle ≡ value ∷ replicate more value → take left (copies_left repeat ++ spread arena handles) ≡ seen → seen ≡ value ∷ take (left - 1) (replicate more value ++ spread arena rest)
  take-handle left handle value more repeat handles rest seen some none is copied sees =
      sym sees
      ∙ take-first left value (copies_left repeat ++ spread arena handles) (replicate more value ++ spread arena rest) some
      (ap (λ given. given ++ spread arena handles) none ∙ spread-first handle value more handles rest is copied)

  copies-some : (handle : ℕ) (found : Option (ℕ × ℕ)) → splat_at arena handle ≡ found → 1 ≤ length (copies arena handle)
  copies-some handle None is = subst (λ given. 1 ≤ length given) (sym (copies-another arena handle is)) (omega arith)
  copies-some handle (Some splat) is =
      let some = option_and_then_some splat_of (value_at arena handle) splat is (λ expression at found. splat_of-more expression splat found) in
      subst (λ given. 1 ≤ length given) (sym (copies-splat arena handle splat is)) (subst (λ n. 1 ≤ n) (sym (length-replicate splat.0 splat.1)) some)

  pub spread-longer : (handles : List ℕ) → length handles ≤ length (spread arena handles)
  spread-longer [] = omega arith
  spread-longer (handle ∷ handles) =
      let others = spread-longer handles in
      let one = copies-some handle (splat_at arena handle) refl in
      let both = length-append (copies arena handle) (spread arena handles) in
      omega (arith, others, one, both)

  -- `least` is a lower bound of the number of components left, if it is at most `left` and at most the number of copies
  -- and handles
  pub take-least : (left least : ℕ) (repeat : Option Repeat) (handles : List ℕ) → least ≤ left → least ≤ length (copies_left repeat) + length handles → least ≤ length (take left (copies_left repeat ++ spread arena handles))
  take-least left least repeat handles cut held =
      let taken = length-take left (copies_left repeat ++ spread arena handles) in
      let both = length-append (copies_left repeat) (spread arena handles) in
      let more = spread-longer handles in
      omega (arith, cut, held, taken, both, more)
