-- Expressions come after the expressions that they are made of.
use Rattle.std.proofs.Common.{◌≡◌, ℕ, ◌<◌, List, [], ◌∷◌, Some, ap, subst}
use Rattle.std.specs.Prelude.{All}
use Rattle.std.proofs.lemmas.List.Elements.{All-head}
use Rattle.std.proofs.lemmas.Option.{none-some, option_and_then_some, same_Some}
use Rattle.naga_arena.specs.Arena.{values, value_at}
use Rattle.naga_arena.specs.declared.span.Span.{Span}
use Rattle.naga_ir.specs.declared.expression.Expression.{Expression}
use Rattle.naga_ir.specs.declared.expression.Expression.TheVariants.{Access, AccessIndex}
use Rattle.naga_ir.specs.Chain.{ChainsPrecede, FollowsItsParts, made_of, next_base}
use Rattle.naga_ir.specs.Expression.{base_of}
use Rattle.naga_ir.proofs.EnumerateFromLemmas.{All-enumerate_from_at}

pub ChainsPrecede-at : (arena : List (Expression × Span)) (handle : ℕ) (expression : Expression) → value_at arena handle ≡ Some expression → ChainsPrecede arena → All (λ part. part < handle) (made_of expression)
ChainsPrecede-at arena handle expression found precede = All-enumerate_from_at FollowsItsParts (values arena) handle expression found precede

made_of-base : (expression : Expression) (base : ℕ) → base_of expression ≡ Some base → made_of expression ≡ base ∷ []
made_of-base (Access first index) base is = ap (λ part. part ∷ []) (same_Some first base is)
made_of-base (AccessIndex first index) base is = ap (λ part. part ∷ []) (same_Some first base is)
made_of-base _ base is = absurd (none-some base is)

pub ChainsPrecede-base : (arena : List (Expression × Span)) (handle base : ℕ) → next_base arena handle ≡ Some base → ChainsPrecede arena → base < handle
ChainsPrecede-base arena handle base found precede =
    option_and_then_some base_of (value_at arena handle) base found
    (λ expression at is.
    let P : ℕ → Type 0 = λ part. part < handle in
    All-head P base [] (subst (All P) (made_of-base expression base is) (ChainsPrecede-at arena handle expression at precede)))
