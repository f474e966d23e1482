-- Everything that flattening looks up is there.
use Rattle.std.proofs.Common.{◌≡◌, ℕ, ◌<◌, ◌≤◌, List, [], ◌∷◌, Option, Some, None, refl, sym, ap, subst, length, arith}
use Rattle.std.proofs.lemmas.List.{length-map}
use Rattle.std.proofs.lemmas.List.Elements.{All-append, All-cons, All-head, All-nil, All-tail, All-weaker}
use Rattle.std.proofs.lemmas.Option.{none-some, option_and_then_some, same_Some, slice_get_within}
use Rattle.std.specs.List.{flat_map}
use Rattle.std.specs.Prelude.{All, IfSome}
use Rattle.naga_arena.specs.Arena.{value_at, values}
use Rattle.naga_arena.specs.declared.span.Span.{Span}
use Rattle.naga_kinds.specs.Scalar.{components_of}
use Rattle.naga_ir.proofs.ChainsPrecedeLemmas.{ChainsPrecede-at}
use Rattle.naga_ir.specs.Chain.{ChainsPrecede, made_of}
use Rattle.naga_ir.specs.Expression.{compose_of}
use Rattle.naga_ir.specs.declared.expression.Expression.{Expression}
use Rattle.naga_ir.specs.declared.expression.Expression.TheVariants.{Compose}
use Rattle.naga_ir.specs.declared.types.TypeInner.{TypeInner}
use Rattle.naga_ir.specs.declared.types.TypeInner.TheVariants.{Vector}
use Rattle.naga_ir.specs.declared.types.«Type».{«Type» as DeclaredType}
use Rattle.naga_proc.specs.Flatten.{AreIn, CanFlatten, LevelsAreIn, opened, parts, size_at, vector_size, compose_at}
use Rattle.naga_proc.proofs.Flattening.PartsLemmas.{parts-compose, parts-another}
use Rattle.naga_proc.proofs.Flattening.SpreadLemmas.{components_of-more, components_of-less}

vector_size-between : (inner : TypeInner) (size : ℕ) → vector_size inner ≡ Some size → (2 ≤ size) × (size ≤ 4)
vector_size-between (Vector size scalar) number is =
    let same = same_Some (components_of size) number is in
    let P : ℕ → Type 0 = λ n. (2 ≤ n) × (n ≤ 4) in
    subst P same (components_of-more size, components_of-less size)
vector_size-between _ number is = absurd (none-some number is)

pub size_at-between : (types : List (DeclaredType × Span)) (ty size : ℕ) → size_at types ty ≡ Some size → (2 ≤ size) × (size ≤ 4)
size_at-between types ty size is =
    option_and_then_some (λ type. vector_size type.inner) (value_at types ty) size is (λ type at found. vector_size-between type.inner size found)

pub All-flat_map : {X A : Type 0} (P : X → Type 0) (Q : A → Type 0) (f : X → List A) → ((x : X) → P x → All Q (f x)) → (xs : List X) → All P xs → All Q (flat_map f xs)
All-flat_map P Q f gives [] all = All-nil Q
All-flat_map P Q f gives (x ∷ xs) all =
    All-append Q (f x) (flat_map f xs) (gives x (All-head P x xs all)) (All-flat_map P Q f gives xs (All-tail P x xs all))

made_of-compose : (expression : Expression) (compose : ℕ × List ℕ) → compose_of expression ≡ Some compose → made_of expression ≡ compose.1
made_of-compose (Compose ty components) compose is = ap (λ c. c.1) (same_Some (ty, components.items) compose is)
made_of-compose _ compose is = absurd (none-some compose is)

module _ (arena : List (Expression × Span)) (precede : ChainsPrecede arena) where
  -- the components come before the `Compose`
  pub AreIn-compose : (handle : ℕ) (compose : ℕ × List ℕ) → compose_at arena handle ≡ Some compose → AreIn arena compose.1
  AreIn-compose handle compose is =
      option_and_then_some compose_of (value_at arena handle) compose is (λ expression at found.
      let inside : handle < length arena = subst (λ n. handle < n) (length-map arena (λ pair. pair.0)) (slice_get_within (values arena) handle expression at) in
      let earlier = subst (All (λ part. part < handle)) (made_of-compose expression compose found) (ChainsPrecede-at arena handle expression at precede) in
      All-weaker (λ part. part < handle) (λ part. part < length arena) (λ part before. omega (arith, before, inside)) compose.1 earlier)

  AreIn-parts : (handle : ℕ) (found : Option (ℕ × List ℕ)) → compose_at arena handle ≡ found → handle < length arena → AreIn arena (parts arena handle)
  AreIn-parts handle None is within =
      subst (AreIn arena) (sym (parts-another arena handle is)) (All-cons (λ part. part < length arena) handle [] within (All-nil (λ part. part < length arena)))
  AreIn-parts handle (Some compose) is within =
      subst (AreIn arena) (sym (parts-compose arena handle compose is)) (AreIn-compose handle compose is)

  pub AreIn-opened : (handles : List ℕ) → AreIn arena handles → AreIn arena (opened arena handles)
  AreIn-opened handles all =
      All-flat_map (λ handle. handle < length arena) (λ handle. handle < length arena) (parts arena) (λ handle within. AreIn-parts handle (compose_at arena handle) refl within) handles all

  pub LevelsAreIn-opened : (components : List ℕ) → AreIn arena components → LevelsAreIn arena components
  LevelsAreIn-opened components all =
      record {
        components_in = all;
        opened_once = AreIn-opened components all;
        opened_twice = AreIn-opened (opened arena components) (AreIn-opened components all);
      }

IfSome-always : (P : Type 0) (size : Option ℕ) → P → IfSome size (λ _. P)
IfSome-always P None it = tt
IfSome-always P (Some size) it = it

pub CanFlatten-always : (types : List (DeclaredType × Span)) (arena : List (Expression × Span)) (ty : ℕ) (components : List ℕ) → ChainsPrecede arena → AreIn arena components → CanFlatten types arena ty components
CanFlatten-always types arena ty components precede all = IfSome-always (LevelsAreIn arena components) (size_at types ty) (LevelsAreIn-opened arena precede components all)

-- a `Compose` of the arena can be flattened
pub CanFlatten-compose : (arena : List (Expression × Span)) (handle ty : ℕ) (components : List ℕ) (types : List (DeclaredType × Span)) → ChainsPrecede arena → compose_at arena handle ≡ Some (ty, components) → CanFlatten types arena ty components
CanFlatten-compose arena handle ty components types precede is =
    CanFlatten-always types arena ty components precede (AreIn-compose arena precede handle (ty, components) is)
