-- Each handle has at most one list of leaves, and if vectors of vectors nest narrower, flattening finds it.
use Rattle.std.proofs.Common.{◌≡◌, ◌⊎◌, inl, inr, ℕ, zero, suc, ◌≤◌, List, [], ◌∷◌, ◌++◌, Option, Some, None, refl, sym, ap, subst, ◌∙◌, take, arith, append_assoc}
use Rattle.std.proofs.lemmas.List.{append-nil}
use Rattle.std.proofs.lemmas.List.Elements.{All-cons, All-contains_itself, All-head, All-nil, All-tail, All-weaker}
use Rattle.std.proofs.lemmas.Option.{none-some, option_and_then_some, same_Some}
use Rattle.std.specs.List.{repeat}
use Rattle.std.specs.Option.{option_map_or}
use Rattle.std.specs.Prelude.{All, Contains, option_and_then, replicate}
use Rattle.naga_arena.specs.Arena.{value_at}
use Rattle.naga_arena.specs.declared.span.Span.{Span}
use Rattle.naga_ir.specs.Expression.{compose_of, splat_of}
use Rattle.naga_ir.specs.declared.expression.Expression.{Expression}
use Rattle.naga_ir.specs.declared.expression.Expression.TheVariants.{Compose}
use Rattle.naga_ir.specs.declared.types.«Type».{«Type» as DeclaredType}
use Rattle.naga_proc.specs.Flatten.{copies, flattened, opened, parts, size_at, spread, compose_at, splat_at}
use Rattle.naga_proc.specs.Flatten.Leaves.{HasLeaves, HaveLeaves, IsReached, NestsNarrower, at_once, composed, leaf, joined, no_handles, splatted, through}
use Rattle.naga_proc.proofs.Flattening.CanFlattenLemmas.{All-flat_map, size_at-between}
use Rattle.naga_proc.proofs.Flattening.PartsLemmas.{copies-another, copies-splat, parts-another, parts-compose}

-- ---- at most one list of leaves

Some-same : {X : Type 0} {x y : X} (found : Option X) → found ≡ Some x → found ≡ Some y → x ≡ y
Some-same {x = x} {y = y} found first second = same_Some x y (sym first ∙ second)

Some-None : {X : Type 0} {x : X} (found : Option X) → found ≡ Some x → found ≡ None → ⊥
Some-None {x = x} found first second = none-some x (sym second ∙ first)

no_splat : (expression : Expression) (compose : ℕ × List ℕ) → compose_of expression ≡ Some compose → splat_of expression ≡ None
no_splat (Compose ty components) compose is = refl
no_splat _ compose is = absurd (none-some compose is)

module _ (arena : List (Expression × Span)) where
  compose_or_splat : (handle : ℕ) (compose : ℕ × List ℕ) (splat : ℕ × ℕ) → compose_at arena handle ≡ Some compose → splat_at arena handle ≡ Some splat → ⊥
  compose_or_splat handle compose splat is also =
      option_and_then_some compose_of (value_at arena handle) compose is
      (λ expression at found.
      none-some splat (sym (ap (option_and_then splat_of) at ∙ no_splat expression compose found) ∙ also))

  mutual
    pub HasLeaves-one : {handle : ℕ} {first second : List ℕ} → HasLeaves arena handle first → HasLeaves arena handle second → first ≡ second
    HasLeaves-one {handle} {second = second} (composed {compose = compose} is leaves) (composed {compose = other} also more) =
        HaveLeaves-one leaves (subst (λ c. HaveLeaves arena c.1 second) (Some-same (compose_at arena handle) also is) more)
    HasLeaves-one {handle} (composed {compose = compose} is leaves) (splatted {splat = splat} also more) = absurd (compose_or_splat handle compose splat is also)
    HasLeaves-one {handle} (composed is leaves) (leaf not_compose not_splat) = absurd (Some-None (compose_at arena handle) is not_compose)
    HasLeaves-one {handle} (splatted {splat = splat} is leaves) (composed {compose = compose} also more) = absurd (compose_or_splat handle compose splat also is)
    HasLeaves-one {handle} (splatted {splat = splat} {leaves = leaves} is first) (splatted {splat = other} {leaves = more} also second) =
        let same : other ≡ splat = Some-same (splat_at arena handle) also is in
        let each : leaves ≡ more = HasLeaves-one first (subst (λ s. HasLeaves arena s.1 more) same second) in
        ap (repeat splat.0) each ∙ ap (λ s. repeat s.0 more) (sym same)
    HasLeaves-one {handle} (splatted is leaves) (leaf not_compose not_splat) = absurd (Some-None (splat_at arena handle) is not_splat)
    HasLeaves-one {handle} (leaf not_compose not_splat) (composed is leaves) = absurd (Some-None (compose_at arena handle) is not_compose)
    HasLeaves-one {handle} (leaf not_compose not_splat) (splatted is leaves) = absurd (Some-None (splat_at arena handle) is not_splat)
    HasLeaves-one (leaf not_compose not_splat) (leaf also_no_compose also_no_splat) = refl

    pub HaveLeaves-one : {handles first second : List ℕ} → HaveLeaves arena handles first → HaveLeaves arena handles second → first ≡ second
    HaveLeaves-one no_handles no_handles = refl
    HaveLeaves-one (joined {leaves = leaves} {more = more} first others) (joined {leaves = also} {more = rest} second later) =
        ap (λ front. front ++ more) (HasLeaves-one first second) ∙ ap (λ back. also ++ back) (HaveLeaves-one others later)

  -- ---- opening keeps the leaves

  record Split (front back leaves : List ℕ) : Type 0 where
    first : List ℕ
    second : List ℕ
    of_front : HaveLeaves arena front first
    of_back : HaveLeaves arena back second
    whole : first ++ second ≡ leaves

  split : (front back : List ℕ) {leaves : List ℕ} → HaveLeaves arena (front ++ back) leaves → Split front back leaves
  split [] back {leaves} have = record { first = []; second = leaves; of_front = no_handles; of_back = have; whole = refl }
  split (handle ∷ front) back (joined {leaves = leaves} has have) =
      let rest = split front back have in
      record {
        first = leaves ++ rest.first;
        second = rest.second;
        of_front = joined has rest.of_front;
        of_back = rest.of_back;
        whole = append_assoc leaves rest.first rest.second ∙ ap (λ more. leaves ++ more) rest.whole;
      }

  HaveLeaves-alone : {handle : ℕ} {leaves : List ℕ} → HaveLeaves arena (handle ∷ []) leaves → HasLeaves arena handle leaves
  HaveLeaves-alone {handle} (joined {leaves = leaves} has no_handles) = subst (HasLeaves arena handle) (sym (append-nil leaves)) has

  HaveLeaves-parts : (handle : ℕ) (leaves : List ℕ) (found : Option (ℕ × List ℕ)) → compose_at arena handle ≡ found → HaveLeaves arena (parts arena handle) leaves → HasLeaves arena handle leaves
  HaveLeaves-parts handle leaves None is have = HaveLeaves-alone (subst (λ given. HaveLeaves arena given leaves) (parts-another arena handle is) have)
  HaveLeaves-parts handle leaves (Some compose) is have = composed is (subst (λ given. HaveLeaves arena given leaves) (parts-compose arena handle compose is) have)

  HaveLeaves-opened : (handles : List ℕ) (leaves : List ℕ) → HaveLeaves arena (opened arena handles) leaves → HaveLeaves arena handles leaves
  HaveLeaves-opened [] leaves have = have
  HaveLeaves-opened (handle ∷ handles) leaves have =
      let parted = split (parts arena handle) (opened arena handles) have in
      let first = HaveLeaves-parts handle parted.first (compose_at arena handle) refl parted.of_front in
      subst (HaveLeaves arena (handle ∷ handles)) parted.whole (joined first (HaveLeaves-opened handles parted.second parted.of_back))

  -- ---- handles that are leaves, or Splats of leaves

  record IsEnd (handle : ℕ) : Type 0 where
    no_compose : compose_at arena handle ≡ None
    of_leaf : (splat : ℕ × ℕ) → splat_at arena handle ≡ Some splat → (compose_at arena splat.1 ≡ None) × (splat_at arena splat.1 ≡ None)

  HaveLeaves-repeated : (n value : ℕ) → repeat n (value ∷ []) ≡ replicate n value
  HaveLeaves-repeated zero value = refl
  HaveLeaves-repeated (suc n) value = ap (λ rest. value ∷ rest) (HaveLeaves-repeated n value)

  IsEnd-HasLeaves : (handle : ℕ) (found : Option (ℕ × ℕ)) → splat_at arena handle ≡ found → IsEnd handle → HasLeaves arena handle (copies arena handle)
  IsEnd-HasLeaves handle None is ended = subst (HasLeaves arena handle) (sym (copies-another arena handle is)) (leaf ended.no_compose is)
  IsEnd-HasLeaves handle (Some splat) is ended =
      let value = ended.of_leaf splat is in
      subst (HasLeaves arena handle) (HaveLeaves-repeated splat.0 splat.1 ∙ sym (copies-splat arena handle splat is)) (splatted is (leaf value.0 value.1))

  IsEnd-HaveLeaves : (handles : List ℕ) → All IsEnd handles → HaveLeaves arena handles (spread arena handles)
  IsEnd-HaveLeaves [] all = no_handles
  IsEnd-HaveLeaves (handle ∷ handles) all =
      joined (IsEnd-HasLeaves handle (splat_at arena handle) refl (All-head IsEnd handle handles all)) (IsEnd-HaveLeaves handles (All-tail IsEnd handle handles all))

-- ---- vectors that nest narrower

module _ (types : List (DeclaredType × Span)) (arena : List (Expression × Span)) (ty : ℕ) (components : List ℕ) (nests : NestsNarrower types arena ty components) where
  -- the handle is reached, and is not a Compose or is in a vector of at most `bound` components
  record Nests (bound handle : ℕ) : Type 0 where
    outer : ℕ
    reached : IsReached arena ty components outer handle
    small : (compose_at arena handle ≡ None) ⊎ ((size : ℕ) × (size_at types outer ≡ Some size) × (size ≤ bound))

  narrower_size : (bound handle : ℕ) (compose : ℕ × List ℕ) → compose_at arena handle ≡ Some compose → Nests (suc bound) handle → (few : ℕ) × (size_at types compose.0 ≡ Some few) × (few ≤ bound)
  narrower_size bound handle compose is nested =
      let narrow = nests.narrower nested.outer handle compose nested.reached is in
      elim (nested.small) [
        | inl not_compose ↦ absurd (Some-None (compose_at arena handle) is not_compose)
        | inr sized ↦
            let same = Some-same (size_at types nested.outer) narrow.3 sized.1 in
            (narrow.0, narrow.2, omega (arith, same, narrow.4, sized.2))
      ]

  nested_parts : (bound handle : ℕ) (found : Option (ℕ × List ℕ)) → compose_at arena handle ≡ found → Nests (suc bound) handle → All (Nests bound) (parts arena handle)
  nested_parts bound handle None is nested =
      let itself_nests : Nests bound handle = record { outer = nested.outer; reached = nested.reached; small = inl is } in
      subst (All (Nests bound)) (sym (parts-another arena handle is)) (All-cons (Nests bound) handle [] itself_nests (All-nil (Nests bound)))
  nested_parts bound handle (Some compose) is nested =
      let sized = narrower_size bound handle compose is nested in
      let inside : All (Nests bound) compose.1 =
      All-weaker (Contains compose.1) (Nests bound)
      (λ part contains. record { outer = compose.0; reached = through nested.reached is contains; small = inr sized })
      compose.1 (All-contains_itself compose.1)
      in
      subst (All (Nests bound)) (sym (parts-compose arena handle compose is)) inside

  opened_nest : (bound : ℕ) (handles : List ℕ) → All (Nests (suc bound)) handles → All (Nests bound) (opened arena handles)
  opened_nest bound handles all =
      All-flat_map (Nests (suc bound)) (Nests bound) (parts arena) (λ handle nested. nested_parts bound handle (compose_at arena handle) refl nested) handles all

  not_composed : (handle : ℕ) (found : Option (ℕ × List ℕ)) → compose_at arena handle ≡ found → Nests 2 handle → compose_at arena handle ≡ None
  not_composed handle None is nested = is
  not_composed handle (Some compose) is nested =
      let sized = narrower_size 1 handle compose is nested in
      let bounds = size_at-between types compose.0 sized.0 sized.1 in
      absurd (omega (arith, bounds.0, sized.2))

  nests_end : (handle : ℕ) → Nests 2 handle → IsEnd arena handle
  nests_end handle nested =
      record {
        no_compose = not_composed handle (compose_at arena handle) refl nested;
        of_leaf = λ splat is. nests.flat nested.outer handle splat nested.reached is;
      }

  pub flattened_leaves : (size : ℕ) → size_at types ty ≡ Some size → (leaves : List ℕ) × HaveLeaves arena components leaves × (flattened types arena ty components ≡ take size leaves)
  flattened_leaves size is =
      let bounds = size_at-between types ty size is in
      let first : All (Nests 4) components =
      All-weaker (Contains components) (Nests 4)
      (λ part contains. record { outer = ty; reached = at_once contains; small = inr (size, is, bounds.1) })
      components (All-contains_itself components)
      in
      let twice = opened arena (opened arena components) in
      let ended : All (IsEnd arena) twice =
      All-weaker (Nests 2) (IsEnd arena) nests_end twice (opened_nest 2 (opened arena components) (opened_nest 3 components first))
      in
      let have = HaveLeaves-opened arena components (spread arena twice) (HaveLeaves-opened arena (opened arena components) (spread arena twice) (IsEnd-HaveLeaves arena twice ended)) in
      (spread arena twice, have, ap (λ it. option_map_or (λ n. take n (spread arena twice)) it components) is)
