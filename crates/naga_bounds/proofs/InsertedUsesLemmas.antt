-- A function whose accesses are clamped evaluates each expression before its value is used, if it did before.
use Rattle.std.proofs.Common.{◌≡◌, ◌∙◌, ◌+◌, ◌-◌, ◌<◌, ◌≤◌, ap, arith, length, length-append, refl, subst, sym, inl, inr, ℕ, zero, suc, Bool, true, false, List, [], ◌∷◌, ◌++◌, map, Option, Some}
use Rattle.std.proofs.lemmas.Bool.{cases_Bool}
use Rattle.std.proofs.lemmas.Bool.Decides.{nat_tests}
use Rattle.std.proofs.lemmas.List.{length_push}
use Rattle.std.proofs.lemmas.List.Elements.{All-cons, All-head, All-nil, All-tail, Contains-append_cases, Contains-append_right}
use Rattle.std.specs.List.{Contains, range_with_len, slice_get}
use Rattle.std.specs.Prelude.{⊤, if◌then◌else◌, nat_lt, option_map}
use Rattle.naga_kinds.specs.declared.operator.BinaryOperator.TheVariants.{Subtract}
use Rattle.naga_kinds.specs.declared.scalar.ScalarKind.TheVariants.{Uint}
use Rattle.naga_ir.specs.declared.expression.Expression.{Expression}
use Rattle.naga_ir.specs.declared.expression.Expression.TheVariants as expr
use Rattle.naga_ir.specs.declared.literal.Literal.TheVariants.{U32}
use Rattle.naga_valid.specs.Operands.{operands_of}
use Rattle.naga_valid.proofs.ContainsLemmas.{Contains-map}
use Rattle.naga_flow.specs.Places.{ready_in}
use Rattle.naga_flow.specs.Readings.{emitted_in}
use Rattle.naga_flow.specs.Results.{evaluation_of}
use Rattle.naga_flow.specs.Tracking.{Includes}
use Rattle.naga_flow.specs.Uses.{AreKnown, Expressions, IsKnown, MayUse, MayUseEach, OperandsAreKnown, operands_found, where_reached}
use Rattle.naga_flow.specs.declared.evaluation.Evaluation.{Evaluation}
use Rattle.naga_flow.specs.declared.evaluation.Evaluation.TheVariants as way
use Rattle.naga_flow.proofs.ConstantChainsLemmas.{constant_chains_in-ready}
use Rattle.naga_flow.proofs.IncludesLemmas.{Contains-one, Includes-chain}
use Rattle.naga_compact.specs.Operands.{OperandsPrecede}
use Rattle.naga_compact.specs.Renaming.{Renaming}
use Rattle.naga_compact.specs.derived.Renaming.{rename_expression}
use Rattle.naga_compact.proofs.RenamedOperandsLemmas.{operands_of-renamed}
use Rattle.naga_meaning.specs.Renaming.{Each}
use Rattle.naga_bounds.specs.Changes.{AreChanges, is_u32}
use Rattle.naga_bounds.specs.Reach.{Typed, at_use, contents_at, expression_at, is_fixed_access}
use Rattle.naga_bounds.specs.Restricted.{conversion, front_of_index, front_of_length, inserted, last_index, limit, minimum, moving, new_of, operand, operands, start_of}
use Rattle.naga_bounds.specs.declared.change.Change.{Change}
use Rattle.naga_bounds.specs.declared.change.Change.TheVariants.{Stays, Clamped}
use Rattle.naga_bounds.specs.declared.change.Clamp.{Clamp}
use Rattle.naga_bounds.specs.declared.change.ClampedIndex.{ClampedIndex}
use Rattle.naga_bounds.specs.declared.change.ClampedIndex.TheVariants as clamped_index
use Rattle.naga_bounds.specs.declared.length.Length.{Length}
use Rattle.naga_bounds.specs.declared.length.Length.TheVariants.{Fixed, Overridden, Counted}
use Rattle.naga_bounds.proofs.ClampOfLemmas.{IsClamped, changed-as, computed, constant}
use Rattle.naga_bounds.proofs.ClampedValuesLemmas.{range-append}
use Rattle.naga_bounds.proofs.NewHandlesLemmas.{front_at, made, new-is, value-there}
use Rattle.naga_bounds.proofs.RestrictedFitsLemmas.{EachIs, at_use-kept, base-inside, clamped-found, each-joined, front-part, index-part, inserted-part, last-part, minimum-part, operands-within, stays-found}
use Rattle.naga_bounds.proofs.RestrictedLemmas.{get-left, get-right}

-- ---- what is known after a list of expressions

abbrev pub pushed : List ℕ → List ℕ → List ℕ
pushed known [] = known
pushed known (x ∷ xs) = pushed (x ∷ known) xs

evaluation_of-renamed : (r : Renaming) → ((handle : ℕ) → r.functions handle ≡ handle) → (e : Expression) → evaluation_of (rename_expression r e) ≡ evaluation_of e
evaluation_of-renamed r same (expr.CallResult function) = ap way.Call (same function)
evaluation_of-renamed r same (expr.Literal literal) = refl
evaluation_of-renamed r same _ = refl

module _ (ex : Expressions) where
  pub known-join : (known xs ys : List ℕ) → OperandsAreKnown ex known xs → OperandsAreKnown ex (pushed known xs) ys → OperandsAreKnown ex known (xs ++ ys)
  known-join known [] ys h k = k
  known-join known (x ∷ xs) ys h k = (h.0, known-join (x ∷ known) xs ys h.1 k)

  -- where control never reaches a use, all operands are known
  pub nothing-read : (known xs : List ℕ) → OperandsAreKnown (where_reached false ex) known xs
  nothing-read known [] = tt
  nothing-read known (x ∷ xs) = (all-used (ex.operands x), nothing-read (x ∷ known) xs)
    where
      all-used : (ys : List ℕ) → MayUseEach (where_reached false ex) known ys
      all-used [] = All-nil (MayUse (where_reached false ex) known)
      all-used (y ∷ ys) = All-cons (MayUse (where_reached false ex) known) y ys (All-nil (IsKnown (where_reached false ex) known)) (all-used ys)

pub pushed-old : (known xs : List ℕ) (y : ℕ) → Contains known y → Contains (pushed known xs) y
pushed-old known [] y h = h
pushed-old known (x ∷ xs) y h = pushed-old (x ∷ known) xs y (Contains-append_right (x ∷ []) known y h)

pub pushed-new : (known xs : List ℕ) (y : ℕ) → Contains xs y → Contains (pushed known xs) y
pushed-new known [] y h = absurd (omega (arith, h.1))
pushed-new known (x ∷ xs) y h = elim (Contains-append_cases (x ∷ []) xs y h) [
  | inl first ↦ (let same : x ≡ y = Contains-one x y first in pushed-old (x ∷ known) xs y (subst (Contains (x ∷ known)) same (0, omega arith, refl)))
  | inr later ↦ pushed-new (x ∷ known) xs y later
]

pub pushed-includes : (known xs : List ℕ) → Includes (pushed known xs) known
pushed-includes known xs = record { each = λ y h. pushed-old known xs y h }

pub pushed-range : (k a p : ℕ) (known : List ℕ) → a ≤ p → p < a + k → Contains (pushed known (range_with_len a k)) p
pushed-range zero a p known low high = absurd (omega (arith, low, high))
pushed-range (suc k) a p known low high = go (λ less. pushed-range k (a + 1) p (a ∷ known) (omega (arith, less)) (omega (arith, high))) (nat_lt a p) refl
  where
    go : (a < p → Contains (pushed (a ∷ known) (range_with_len (a + 1) k)) p) → (t : Bool) → nat_lt a p ≡ t → Contains (pushed (a ∷ known) (range_with_len (a + 1) k)) p
    go later true test = later (grind (arith, nat_tests))
    go later false test =
        let behind : p ≤ a = grind (arith, nat_tests) in
        let same : a ≡ p = omega (arith, low, behind) in
        subst (Contains (pushed (a ∷ known) (range_with_len (a + 1) k))) same (pushed-old (a ∷ known) (range_with_len (a + 1) k) a (0, omega arith, refl))

module _ (counts : ℕ → Bool) (code code' : Typed) (changes : List Change) (planned : AreChanges counts code changes)
    (precede : OperandsPrecede code.arena) (arena_is : code'.arena ≡ made changes code.arena planned.all) (types_are : code'.types ≡ code.types)
    (contents_are : (x : ℕ) → x < length code.arena → contents_at code' (new_of changes x) ≡ contents_at code x) where
  abbrev F : ℕ → ℕ
  F = new_of changes

  abbrev R : Renaming
  R = moving changes

  abbrev N : ℕ
  N = length code.arena

  abbrev Old : ℕ → Option Expression
  Old = expression_at code

  abbrev New : ℕ → Option Expression
  New = expression_at code'

  abbrev pub old : Expressions
  old = emitted_in (is_fixed_access code) code.arena

  abbrev pub new : Expressions
  new = emitted_in (is_fixed_access code') code'.arena

  -- what is inserted is evaluated by an `Emit`
  abbrev IsEmitted : Expression → Type 0
  IsEmitted e = evaluation_of e ≡ way.Emit

  get-each : (xs : List Expression) → EachIs IsEmitted xs → (k : ℕ) → k < length xs → (e : Expression) × (slice_get xs k ≡ Some e) × IsEmitted e
  get-each [] h k less = absurd (omega (arith, less))
  get-each (x ∷ xs) h zero less = (x, refl, h.0)
  get-each (x ∷ xs) h (suc k) less = get-each xs h.1 k (omega (arith, less))

  inserted-emitted : (clamp : Clamp) (front here : ℕ) → EachIs IsEmitted (inserted R (Clamped clamp) front here)
  inserted-emitted clamp front here =
      each-joined IsEmitted (operands R clamp front here) (minimum R clamp front here ∷ [])
      (each-joined IsEmitted (last_index R clamp.length clamp.base (front + length (front_of_index clamp.index)) here) (conversion R clamp.index) (of_length clamp.length) (of_index clamp.index))
      (refl, tt)
    where
      of_length : (long : Length) → EachIs IsEmitted (last_index R long clamp.base (front + length (front_of_index clamp.index)) here)
      of_length (Fixed count) = tt
      of_length (Overridden handle) = (refl, tt)
      of_length Counted = (refl, (refl, tt))

      of_index : (index : ClampedIndex) → EachIs IsEmitted (conversion R index)
      of_index (clamped_index.Constant number) = tt
      of_index (clamped_index.Unsigned index) = tt
      of_index (clamped_index.Converted index) = (refl, tt)

  -- ---- uses

  reads-nothing : (known : List ℕ) (h : ℕ) → at_use code' h ≡ true → MayUse new known h
  reads-nothing known h so = subst (AreKnown new known) (sym (ap (λ t. if t then [] else h ∷ []) so)) (All-nil (IsKnown new known))

  reads-itself : (known : List ℕ) (h : ℕ) → at_use code' h ≡ false → IsKnown new known h → MayUse new known h
  reads-itself known h so is = subst (AreKnown new known) (sym (ap (λ t. if t then [] else h ∷ []) so)) (All-cons (IsKnown new known) h [] is (All-nil (IsKnown new known)))

  known-use : (known : List ℕ) (h : ℕ) → Contains known h → MayUse new known h
  known-use known h there = elim (cases_Bool (at_use code' h)) [ inl so ↦ reads-nothing known h so | inr no' ↦ reads-itself known h no' (inr there) ]

  ready-use : (known : List ℕ) (p : ℕ) (e : Expression) → New p ≡ Some e → ready_in (Some e) ≡ true → MayUse new known p
  ready-use known p e there so = reads-nothing known p (constant_chains_in-ready (is_fixed_access code') code'.arena p (ap ready_in there ∙ so))

  emit-form : (e : Expression) (clamp : Clamp) → IsClamped counts code e clamp → evaluation_of e ≡ way.Emit
  emit-form e clamp (computed base index is clamp_of) = ap evaluation_of is
  emit-form e clamp (constant base number is clamp_of) = ap evaluation_of is

  pub evaluation-kept : (x : ℕ) → x < N → new.evaluation (F x) ≡ old.evaluation x
  evaluation-kept x inside =
      let e = (value-there code.arena x inside).0 in
      let found = (value-there code.arena x inside).1 in
      elim (changed-as counts code changes planned x e found) [
        | inl stays ↦
            ap (option_map evaluation_of) (stays-found counts code code' changes planned precede arena_is types_are contents_are x e found stays.0)
            ∙ ap Some (evaluation_of-renamed R (λ handle. refl) e) ∙ sym (ap (option_map evaluation_of) found)
        | inr clamped ↦
            ap (option_map evaluation_of) (clamped-found counts code code' changes planned precede arena_is types_are contents_are x e clamped.0 found clamped.1)
            ∙ ap Some (sym (emit-form e clamped.0 clamped.2)) ∙ sym (ap (option_map evaluation_of) found)
      ]

  pub moved-use : (known known' : List ℕ) (y : ℕ) → y < N → Includes known' (map F known) → MayUse old known y → MayUse new known' (F y)
  moved-use known known' y inside includes may = elim (cases_Bool (at_use code y)) [
    | inl so ↦ reads-nothing known' (F y) (at_use-kept counts code code' changes planned precede arena_is types_are contents_are y inside ∙ so)
    | inr no' ↦
        let itself : IsKnown old known y = All-head (IsKnown old known) y [] (subst (AreKnown old known) (ap (λ t. if t then [] else y ∷ []) no') may) in
        reads-itself known' (F y) (at_use-kept counts code code' changes planned precede arena_is types_are contents_are y inside ∙ no') (is-known itself)
  ]
    where
      is-known : IsKnown old known y → IsKnown new known' (F y)
      is-known (inl ready) = inl (evaluation-kept y inside ∙ ready)
      is-known (inr there) = inr (includes.each (F y) (Contains-map F known y there))

  each-moved : (known known' : List ℕ) (ys : List ℕ) → Each (λ y. y < N) ys → Includes known' (map F known) → MayUseEach old known ys → MayUseEach new known' (map F ys)
  each-moved known known' [] inside includes may = All-nil (MayUse new known')
  each-moved known known' (y ∷ ys) inside includes may =
      All-cons (MayUse new known') (F y) (map F ys) (moved-use known known' y inside.0 includes (All-head (MayUse old known) y ys may))
      (each-moved known known' ys inside.1 includes (All-tail (MayUse old known) y ys may))

  -- the operands of what is here
  operands-at : (known : List ℕ) (p : ℕ) (e : Expression) → New p ≡ Some e → MayUseEach new known (operands_of e) → MayUseEach new known (new.operands p)
  operands-at known p e there may = subst (λ v. MayUseEach new known (operands_found v)) (sym there) may

  one-used : (known : List ℕ) (x : ℕ) → MayUse new known x → MayUseEach new known (x ∷ [])
  one-used known x h = All-cons (MayUse new known) x [] h (All-nil (MayUse new known))

  two-used : (known : List ℕ) (x y : ℕ) → MayUse new known x → MayUse new known y → MayUseEach new known (x ∷ y ∷ [])
  two-used known x y h k = All-cons (MayUse new known) x (y ∷ []) h (one-used known y k)

  -- ---- the group of an access that is clamped

  module _ (x : ℕ) (e : Expression) (clamp : Clamp) (found : Old x ≡ Some e) (at : slice_get changes x ≡ Some (Clamped clamp)) (is : IsClamped counts code e clamp)
      (known : List ℕ) (base_used : MayUse old known clamp.base) where
    abbrev front : ℕ
    front = front_at changes code.arena planned.all x

    abbrev here : ℕ
    here = start_of changes x

    abbrev lf : ℕ
    lf = front + length (front_of_index clamp.index)

    abbrev last_at : Length → List Expression
    last_at long = last_index R long clamp.base lf here

    abbrev last_len : ℕ
    last_len = length (last_at clamp.length)

    abbrev converts : ℕ
    converts = length (conversion R clamp.index)

    abbrev middle : ℕ
    middle = here + last_len

    abbrev Covers : List ℕ → Type 0
    Covers k = Includes k (map F known)

    part-at : (long : Length) → clamp.length ≡ long → (k p : ℕ) (part : Expression) → p ≡ lf + k → slice_get (front_of_length long) k ≡ Some part → New p ≡ Some part
    part-at long same k p part place there =
        front-part counts code code' changes planned precede arena_is types_are contents_are x e clamp found at is k p part place (ap (λ long. slice_get (front_of_length long) k) same ∙ there)

    last-at : (long : Length) → clamp.length ≡ long → (k p : ℕ) (part : Expression) → p ≡ here + k → slice_get (last_at long) k ≡ Some part → New p ≡ Some part
    last-at long same k p part place there =
        last-part counts code code' changes planned precede arena_is types_are contents_are x e clamp found at is k p part place (ap (λ long. slice_get (last_at long) k) same ∙ there)

    base-use : (k : List ℕ) → Covers k → MayUse new k (F clamp.base)
    base-use k covers = moved-use known k clamp.base (base-inside counts code code' changes planned precede arena_is types_are contents_are x e clamp found at is) covers base_used

    one-use : (long : Length) → clamp.length ≡ long → slice_get (front_of_length long) 0 ≡ Some (expr.Literal (U32 1)) → (k : List ℕ) → MayUse new k lf
    one-use long same there k = ready-use k lf (expr.Literal (U32 1)) (part-at long same 0 lf (expr.Literal (U32 1)) (omega arith) there) refl

    last-known : (long : Length) → clamp.length ≡ long → (k : List ℕ) → Covers k → OperandsAreKnown new k (range_with_len here (length (last_at long)))
    last-known (Fixed count) same k covers = tt
    last-known (Overridden handle) same k covers = (
      operands-at k here (expr.Binary Subtract (lf + 1) lf) (last-at (Overridden handle) same 0 here (expr.Binary Subtract (lf + 1) lf) (omega arith) refl)
          (two-used k (lf + 1) lf
          (ready-use k (lf + 1) (expr.Override handle) (part-at (Overridden handle) same 1 (lf + 1) (expr.Override handle) refl refl) refl)
          (one-use (Overridden handle) same refl k)),
      tt,
    )
    last-known Counted same k covers = (
      operands-at k here (expr.ArrayLength (F clamp.base)) (last-at Counted same 0 here (expr.ArrayLength (F clamp.base)) (omega arith) refl) (one-used k (F clamp.base) (base-use k covers)),
      (
        operands-at (here ∷ k) (here + 1) (expr.Binary Subtract here lf) (last-at Counted same 1 (here + 1) (expr.Binary Subtract here lf) refl refl)
            (two-used (here ∷ k) here lf (known-use (here ∷ k) here (0, omega arith, refl)) (one-use Counted same refl (here ∷ k))),
        tt,
      ),
    )

    limit-use : (long : Length) → clamp.length ≡ long → (k : List ℕ) → ((q : ℕ) → here ≤ q → q < here + length (last_at long) → Contains k q) → MayUse new k (limit R long lf here)
    limit-use (Fixed count) same k has = ready-use k lf (expr.Literal (U32 (count - 1))) (part-at (Fixed count) same 0 lf (expr.Literal (U32 (count - 1))) (omega arith) refl) refl
    limit-use (Overridden handle) same k has = known-use k here (has here (omega arith) (omega arith))
    limit-use Counted same k has = known-use k (here + 1) (has (here + 1) (omega arith) (omega arith))

    abbrev UsableIndex : ClampedIndex → Type 0
    UsableIndex (clamped_index.Constant k) = ⊤
    UsableIndex (clamped_index.Unsigned i) = MayUse old known i × (i < N)
    UsableIndex (clamped_index.Converted i) = MayUse old known i × (i < N)

    conversion-known : (index : ClampedIndex) → clamp.index ≡ index → UsableIndex index → (k : List ℕ) → Covers k → OperandsAreKnown new k (range_with_len middle (length (conversion R index)))
    conversion-known (clamped_index.Constant k') same usable k covers = tt
    conversion-known (clamped_index.Unsigned i) same usable k covers = tt
    conversion-known (clamped_index.Converted i) same usable k covers =
        let there : New middle ≡ Some (expr.As (F i) Uint (Some 4)) =
        inserted-part counts code code' changes planned precede arena_is types_are contents_are x e clamp found at is last_len middle (expr.As (F i) Uint (Some 4)) refl
        (get-left (operands R clamp front here) (minimum R clamp front here ∷ []) last_len (expr.As (F i) Uint (Some 4))
        (get-right (last_at clamp.length) (conversion R clamp.index) 0 last_len (omega arith) ∙ ap (λ index. slice_get (conversion R index) 0) same))
        in
        (operands-at k middle (expr.As (F i) Uint (Some 4)) there (one-used k (F i) (moved-use known k i usable.1 covers usable.0)), tt)

    operand-use : (index : ClampedIndex) → clamp.index ≡ index → UsableIndex index → (k : List ℕ) → Covers k → ((q : ℕ) → middle ≤ q → q < middle + length (conversion R index) → Contains k q) →
        MayUse new k (operand R index front middle)
    operand-use (clamped_index.Constant k') same usable k covers has =
        let place : front + 0 ≡ front = omega arith in
        ready-use k front (expr.Literal (U32 k'))
        (ap New (sym place)
        ∙ index-part counts code code' changes planned precede arena_is types_are contents_are x e clamp found at is 0 (expr.Literal (U32 k')) (ap (λ index. slice_get (front_of_index index) 0) same))
        refl
    operand-use (clamped_index.Unsigned i) same usable k covers has = moved-use known k i usable.1 covers usable.0
    operand-use (clamped_index.Converted i) same usable k covers has = known-use k middle (has middle (omega arith) (omega arith))

    -- the operands of all that is inserted, and of the access, are known
    pub group-known : UsableIndex clamp.index → (k : List ℕ) → Covers k → OperandsAreKnown new k (range_with_len here (F x - here) ++ F x ∷ [])
    group-known usable k covers =
        subst (λ xs. OperandsAreKnown new k (xs ++ F x ∷ [])) (sym whole)
        (known-join new k first (F x ∷ []) (known-join new k (range_with_len here last_len) second (last-known clamp.length refl k covers) second-known) access-known)
      where
        second : List ℕ
        second = range_with_len middle converts ++ (middle + converts) ∷ []

        first : List ℕ
        first = range_with_len here last_len ++ second

        count-is : F x - here ≡ last_len + (converts + 1)
        count-is =
            let all = new-is changes code.arena planned.all x (Clamped clamp) e at found in
            let pushed_is = length_push (operands R clamp front here) (minimum R clamp front here) in
            let parts = length-append (last_at clamp.length) (conversion R clamp.index) in
            omega (arith, all, pushed_is, parts)

        whole : range_with_len here (F x - here) ≡ first
        whole =
            ap (range_with_len here) count-is ∙ range-append here last_len (converts + 1)
            ∙ ap (λ rest. range_with_len here last_len ++ rest) (range-append middle converts 1)

        k1 : List ℕ
        k1 = pushed k (range_with_len here last_len)

        covers1 : Covers k1
        covers1 = Includes-chain (pushed-includes k (range_with_len here last_len)) covers

        k2 : List ℕ
        k2 = pushed k1 (range_with_len middle converts)

        covers2 : Covers k2
        covers2 = Includes-chain (pushed-includes k1 (range_with_len middle converts)) covers1

        limit_there : (q : ℕ) → here ≤ q → q < here + last_len → Contains k2 q
        limit_there q low high = pushed-old k1 (range_with_len middle converts) q (pushed-range last_len here q k low high)

        minimum_at : here + length (operands R clamp front here) ≡ middle + converts
        minimum_at = let parts = length-append (last_at clamp.length) (conversion R clamp.index) in omega (arith, parts)

        minimum-known : MayUseEach new k2 (new.operands (middle + converts))
        minimum-known =
            operands-at k2 (middle + converts) (minimum R clamp front here)
            (ap New (sym minimum_at) ∙ minimum-part counts code code' changes planned precede arena_is types_are contents_are x e clamp found at is)
            (two-used k2 (operand R clamp.index front middle) (limit R clamp.length lf here)
            (operand-use clamp.index refl usable k2 covers2 (λ q low high. pushed-range converts middle q k1 low high)) (limit-use clamp.length refl k2 limit_there))

        second-known : OperandsAreKnown new k1 second
        second-known = known-join new k1 (range_with_len middle converts) ((middle + converts) ∷ []) (conversion-known clamp.index refl usable k1 covers1) (minimum-known, tt)

        access-known : OperandsAreKnown new (pushed k first) (F x ∷ [])
        access-known = (
          operands-at (pushed k first) (F x) (expr.Access (F clamp.base) (here + length (operands R clamp front here)))
              (clamped-found counts code code' changes planned precede arena_is types_are contents_are x e clamp found at)
              (two-used (pushed k first) (F clamp.base) (here + length (operands R clamp front here)) (base-use (pushed k first) (Includes-chain (pushed-includes k first) covers))
              (known-use (pushed k first) (here + length (operands R clamp front here))
              (subst (λ xs. Contains (pushed k xs) (here + length (operands R clamp front here))) whole
              (let at_end = minimum_at in let all = count-is in pushed-range (F x - here) here (here + length (operands R clamp front here)) k (omega arith) (omega (arith, at_end, all)))))),
          tt,
        )

  -- ---- each expression

  -- what is inserted gets its value as the access does
  pub inserted-evaluation : (x : ℕ) → x < N → (how : Evaluation) → old.evaluation x ≡ Some how → (p : ℕ) → start_of changes x ≤ p → p < F x → new.evaluation p ≡ Some how
  inserted-evaluation x inside how is p low high =
      let e = (value-there code.arena x inside).0 in
      let found = (value-there code.arena x inside).1 in
      elim (changed-as counts code changes planned x e found) [
        | inl stays ↦ absurd (let whole = new-is changes code.arena planned.all x Stays e stays.0 found in omega (arith, whole, low, high))
        | inr clamped ↦
            let front = front_at changes code.arena planned.all x in
            let here = start_of changes x in
            let whole = new-is changes code.arena planned.all x (Clamped clamped.0) e clamped.1 found in
            let part = get-each (inserted R (Clamped clamped.0) front here) (inserted-emitted clamped.0 front here) (p - here) (omega (arith, whole, low, high)) in
            let there : New p ≡ Some part.0 =
            inserted-part counts code code' changes planned precede arena_is types_are contents_are x e clamped.0 found clamped.1 clamped.2 (p - here) p part.0 (omega (arith, low)) part.1
            in
            let same : Some way.Emit ≡ Some how = ap Some (sym (emit-form e clamped.0 clamped.2)) ∙ sym (ap (option_map evaluation_of) found) ∙ is in
            ap (option_map evaluation_of) there ∙ ap Some part.2 ∙ same
      ]

  -- the operands of what is in the place of an expression are known
  pub each-group : (x : ℕ) → x < N → (known known' : List ℕ) → Includes known' (map F known) → MayUseEach old known (old.operands x) →
      OperandsAreKnown new known' (range_with_len (start_of changes x) (F x - start_of changes x) ++ F x ∷ [])
  each-group x inside known known' covers may =
      let e = (value-there code.arena x inside).0 in
      let found = (value-there code.arena x inside).1 in
      let used : MayUseEach old known (operands_of e) = subst (λ v. MayUseEach old known (operands_found v)) found may in
      let before = operands-within counts code code' changes planned precede arena_is types_are contents_are x e found in
      elim (changed-as counts code changes planned x e found) [
        | inl stays ↦
            let none : F x - start_of changes x ≡ 0 = (let whole = new-is changes code.arena planned.all x Stays e stays.0 found in omega (arith, whole)) in
            subst (λ k. OperandsAreKnown new known' (range_with_len (start_of changes x) k ++ F x ∷ [])) (sym none) (
              operands-at known' (F x) (rename_expression R e) (stays-found counts code code' changes planned precede arena_is types_are contents_are x e found stays.0)
                  (subst (MayUseEach new known') (sym (operands_of-renamed R e)) (each-moved known known' (operands_of e) (lower (operands_of e) before) covers used)),
              tt,
            )
        | inr clamped ↦ by-form e found used before clamped.0 clamped.1 clamped.2 clamped.2
      ]
    where
      lower : (ys : List ℕ) → Each (λ y. y < x) ys → Each (λ y. y < N) ys
      lower [] h = tt
      lower (y ∷ ys) h = (let less = h.0 in omega (arith, less, inside), lower ys h.1)

      by-form : (e : Expression) → Old x ≡ Some e → MayUseEach old known (operands_of e) → Each (λ y. y < x) (operands_found (Some e)) → (clamp : Clamp) → slice_get changes x ≡ Some (Clamped clamp) →
          IsClamped counts code e clamp → IsClamped counts code e clamp → OperandsAreKnown new known' (range_with_len (start_of changes x) (F x - start_of changes x) ++ F x ∷ [])
      by-form e found used before clamp at is (computed base index form clamp_of) =
          let both_used : MayUseEach old known (base ∷ index ∷ []) = subst (λ e. MayUseEach old known (operands_of e)) form used in
          let both_before : Each (λ y. y < x) (base ∷ index ∷ []) = subst (λ e. Each (λ y. y < x) (operands_of e)) form before in
          let base_used = All-head (MayUse old known) base (index ∷ []) both_used in
          let index_used = All-head (MayUse old known) index [] (All-tail (MayUse old known) base (index ∷ []) both_used) in
          let low : index < x = both_before.1.0 in
          group-known x e clamp found at is known (subst (MayUse old known) (sym clamp_of.at_base) base_used)
          (subst (UsableIndex x e clamp found at is known (subst (MayUse old known) (sym clamp_of.at_base) base_used)) (sym clamp_of.index)
          (go (is_u32 (contents_at code index)) base_used (index_used, omega (arith, low, inside)))) known' covers
        where
          go : (t : Bool) → (base_used : MayUse old known base) → MayUse old known index × (index < N) →
              UsableIndex x e clamp found at is known (subst (MayUse old known) (sym clamp_of.at_base) base_used) (if t then clamped_index.Unsigned index else clamped_index.Converted index)
          go true base_used h = h
          go false base_used h = h
      by-form e found used before clamp at is (constant base number form clamp_of) =
          let one : MayUseEach old known (base ∷ []) = subst (λ e. MayUseEach old known (operands_of e)) form used in
          let base_used = All-head (MayUse old known) base [] one in
          group-known x e clamp found at is known (subst (MayUse old known) (sym clamp_of.at_base) base_used)
          (subst (UsableIndex x e clamp found at is known (subst (MayUse old known) (sym clamp_of.at_base) base_used)) (sym clamp_of.index) tt) known' covers
