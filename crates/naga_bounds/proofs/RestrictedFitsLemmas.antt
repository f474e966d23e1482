-- The accesses of a function in which those that did not fit are clamped.
use Rattle.std.proofs.Common.{◌≡◌, ◌∙◌, ◌+◌, ◌-◌, ◌<◌, ap, arith, length, refl, subst, sym, inl, inr, ℕ, zero, suc, Bool, true, false, List, [], ◌∷◌, ◌++◌, take, Option, Some, None, Result, Ok, Err}
use Rattle.std.proofs.Math.Bool.{or-true}
use Rattle.std.proofs.lemmas.Bool.Decides.{nat_tests}
use Rattle.std.specs.List.{slice_get, sum_by, zip}
use Rattle.std.specs.Prelude.{◌&&◌, ◌||◌, ⊤, if◌then◌else◌, nat_eq, nat_le, nat_lt, option_map}
use Rattle.naga_arena.specs.Arena.{value_at}
use Rattle.naga_arena.specs.declared.span.Span.{Span}
use Rattle.naga_kinds.specs.Scalar.{components_of}
use Rattle.naga_kinds.specs.Swizzle.{place_of}
use Rattle.naga_kinds.specs.declared.math.MathFunction.TheVariants.{Clamp as clamping, Min}
use Rattle.naga_kinds.specs.declared.operator.BinaryOperator.TheVariants.{And, Modulo, Subtract}
use Rattle.naga_kinds.specs.declared.operator.SwizzleComponent.{SwizzleComponent}
use Rattle.naga_ir.specs.Expression.{needs_pre_emit}
use Rattle.naga_ir.specs.declared.expression.Expression.{Expression}
use Rattle.naga_ir.specs.declared.expression.Expression.TheVariants as expr
use Rattle.naga_ir.specs.declared.literal.Literal as literal
use Rattle.naga_ir.specs.declared.literal.Literal.TheVariants.{U32}
use Rattle.naga_ir.specs.declared.types.TypeInner.{TypeInner}
use Rattle.naga_flow.specs.Places.{ready_in}
use Rattle.naga_flow.specs.Readings.{chosen_base, constant_base_of, passes, reaches_ready}
use Rattle.naga_flow.specs.Uses.{operands_found}
use Rattle.naga_compact.specs.Operands.{OperandsPrecede}
use Rattle.naga_compact.specs.Renaming.{Renaming}
use Rattle.naga_compact.specs.derived.Renaming.{rename_expression}
use Rattle.naga_meaning.specs.Renaming.{Each}
use Rattle.naga_meaning.proofs.EachLemmas.{operands-before}
use Rattle.naga_meaning.proofs.ReadsAlikeLemmas.{chosen_base-before}
use Rattle.naga_meaning.proofs.RenamesCodeLemmas.{eq-yes}
use Rattle.naga_typifier.specs.Context.{inner_at}
use Rattle.naga_typifier.specs.Rows.{◌>>=◌}
use Rattle.naga_bounds.specs.Changes.{AreChanges, is_decided, is_told}
use Rattle.naga_bounds.specs.Fits.{EachFits, are_ordered, bound_of, counted_by, difference_of, first_misfit, is_bounded, is_clamped, is_divisor, is_length, is_length_less_one, is_limit, is_unsigned, length_found, misfit, misfit_at, misfit_in, misfit_of, misfit_of_constant, misfit_of_index, number_of, or_unknown, override_of, unsigned_of}
use Rattle.naga_bounds.specs.Reach.{Typed, at_use, constant_index_of, contents_at, expression_at, is_below_fixed, is_fixed_access, length_at, length_reached, positions_of, reach_of}
use Rattle.naga_bounds.specs.Restricted.{changed, conversion, front_count, front_len, front_of, front_of_index, front_of_length, fronts, group, groups, inserted, last_index, limit, minimum, moving, new_of, operand, operands, start_of, width, with_span}
use Rattle.naga_bounds.specs.declared.cause.Cause.{Cause}
use Rattle.naga_bounds.specs.declared.cause.Cause.TheVariants.{Index}
use Rattle.naga_bounds.specs.declared.cause.Position.TheVariants.{Constant, Computed}
use Rattle.naga_bounds.specs.declared.change.Change.{Change}
use Rattle.naga_bounds.specs.declared.change.Change.TheVariants.{Stays, Clamped}
use Rattle.naga_bounds.specs.declared.change.Clamp.{Clamp}
use Rattle.naga_bounds.specs.declared.change.ClampedIndex.{ClampedIndex}
use Rattle.naga_bounds.specs.declared.change.ClampedIndex.TheVariants as clamped_index
use Rattle.naga_bounds.specs.declared.length.Length.{Length}
use Rattle.naga_bounds.specs.declared.length.Length.TheVariants.{Fixed, Overridden, Counted}
use Rattle.naga_bounds.proofs.ClampOfLemmas.{IsClamped, changed-as, computed, constant, stays, stays-plain}
use Rattle.naga_bounds.proofs.InBoundsLemmas.{IsBounded, and-true, both, bounded-form, by_divisor, by_first, by_interval, by_left, by_right, by_second, counted-form, less-form, one-passes, override-form, unsigned-form}
use Rattle.naga_bounds.proofs.NewHandlesLemmas.{front-found, front_at, group-found, made, new-found, new-grows, value-of, value-there, value-within}
use Rattle.naga_bounds.proofs.RestrictedLemmas.{get-left, get-right, in_group, sum-next, group-width}

-- ---- a property of each expression of the new arena

module _ (P : Expression → Type 0) where
  abbrev pub EachIs : List Expression → Type 0
  EachIs [] = ⊤
  EachIs (e ∷ es) = P e × EachIs es

  abbrev pub EachHas : List (Expression × Span) → Type 0
  EachHas [] = ⊤
  EachHas (entry ∷ entries) = P entry.0 × EachHas entries

  each-append : (xs ys : List (Expression × Span)) → EachHas xs → EachHas ys → EachHas (xs ++ ys)
  each-append [] ys h k = k
  each-append (x ∷ xs) ys h k = (h.0, each-append xs ys h.1 k)

  pub each-joined : (xs ys : List Expression) → EachIs xs → EachIs ys → EachIs (xs ++ ys)
  each-joined [] ys h k = k
  each-joined (x ∷ xs) ys h k = (h.0, each-joined xs ys h.1 k)

  each-found : (xs : List (Expression × Span)) (k : ℕ) (e : Expression) → EachHas xs → value_at xs k ≡ Some e → P e
  each-found [] k e h is = absurd (cc)
  each-found (x ∷ xs) zero e h is = subst P (let same : x.0 ≡ e = cc in same) h.0
  each-found (x ∷ xs) (suc k) e h is = each-found xs k e h.1 is

  module _ (r : Renaming) where
    each-spanned : (span : Span) (xs : List Expression) → EachIs xs → EachHas (with_span span xs)
    each-spanned span [] h = tt
    each-spanned span (x ∷ xs) h = (h.0, each-spanned span xs h.1)

    fronts-each : ((change : Change) → EachIs (front_of change)) → (changes : List Change) (entries : List (Expression × Span)) → EachHas (fronts (zip changes entries))
    fronts-each each [] entries = tt
    fronts-each each (change ∷ changes) [] = tt
    fronts-each each (change ∷ changes) (entry ∷ entries) =
        each-append (with_span entry.1 (front_of change)) (fronts (zip changes entries)) (each-spanned entry.1 (front_of change) (each change)) (fronts-each each changes entries)

    -- each group has it, wherever it begins
    abbrev InGroups : (changes : List Change) (entries : List (Expression × Span)) (front here : ℕ) → Type 0
    InGroups changes entries front here =
        (i front' here' : ℕ) (change : Change) (entry : Expression × Span) → slice_get changes i ≡ Some change → slice_get entries i ≡ Some entry →
        front' ≡ front + sum_by front_count (take i changes) → here' ≡ here + sum_by width (take i changes) → EachIs (in_group r change entry.0 front' here')

    groups-each : (changes : List Change) (entries : List (Expression × Span)) (front here : ℕ) → InGroups changes entries front here → EachHas (groups r (zip changes entries) front here)
    groups-each [] entries front here each = tt
    groups-each (change ∷ changes) [] front here each = tt
    groups-each (change ∷ changes) (entry ∷ entries) front here each =
        each-append (group r (change, entry) front here) (groups r (zip changes entries) (front + front_count change) (here + length (group r (change, entry) front here)))
        (each-spanned entry.1 (in_group r change entry.0 front here) (each 0 front here change entry refl refl (omega arith) (omega arith)))
        (groups-each changes entries (front + front_count change) (here + length (group r (change, entry) front here))
        (λ i front' here' other other' at at' f h.
        let fronts_are = sum-next front_count change changes i in
        let widths_are = sum-next width change changes i in
        let wide = group-width r change entry front here in
        each (suc i) front' here' other other' at at' (omega (arith, fronts_are, f)) (omega (arith, widths_are, wide, h))))

-- ---- what is inserted is no access

abbrev pub IsPlain : Expression → Type 0
IsPlain e = reach_of e ≡ None

front-plain : (change : Change) → EachIs IsPlain (front_of change)
front-plain Stays = tt
front-plain (Clamped clamp) = each-joined IsPlain (front_of_index clamp.index) (front_of_length clamp.length) (of_index clamp.index) (of_length clamp.length)
  where
    of_index : (index : ClampedIndex) → EachIs IsPlain (front_of_index index)
    of_index (clamped_index.Constant number) = (refl, tt)
    of_index (clamped_index.Unsigned index) = tt
    of_index (clamped_index.Converted index) = tt

    of_length : (long : Length) → EachIs IsPlain (front_of_length long)
    of_length (Fixed count) = (refl, tt)
    of_length (Overridden handle) = (refl, (refl, tt))
    of_length Counted = (refl, tt)

inserted-plain : (r : Renaming) (change : Change) (front here : ℕ) → EachIs IsPlain (inserted r change front here)
inserted-plain r Stays front here = tt
inserted-plain r (Clamped clamp) front here =
    each-joined IsPlain (operands r clamp front here) (minimum r clamp front here ∷ [])
    (each-joined IsPlain (last_index r clamp.length clamp.base (front + length (front_of_index clamp.index)) here) (conversion r clamp.index)
    (of_length clamp.length) (of_index clamp.index))
    (refl, tt)
  where
    of_length : (long : Length) → EachIs IsPlain (last_index r long clamp.base (front + length (front_of_index clamp.index)) here)
    of_length (Fixed count) = tt
    of_length (Overridden handle) = (refl, tt)
    of_length Counted = (refl, (refl, tt))

    of_index : (index : ClampedIndex) → EachIs IsPlain (conversion r index)
    of_index (clamped_index.Constant number) = tt
    of_index (clamped_index.Unsigned index) = tt
    of_index (clamped_index.Converted index) = (refl, tt)

-- ---- renamed expressions

needs_pre_emit-renamed : (r : Renaming) (e : Expression) → needs_pre_emit (rename_expression r e) ≡ needs_pre_emit e
needs_pre_emit-renamed r (expr.Literal literal) = refl
needs_pre_emit-renamed r _ = refl

constant_base_of-renamed : (r : Renaming) (e : Expression) → constant_base_of (rename_expression r e) ≡ option_map r.expressions (constant_base_of e)
constant_base_of-renamed r (expr.AccessIndex base index) = refl
constant_base_of-renamed r _ = refl

pub literal-form : (found : Option Expression) (n : ℕ) → (found >>= number_of) ≡ Some n → (written : literal.Literal) × (found ≡ Some (expr.Literal written))
literal-form (Some (expr.Literal written)) n h = (written, refl)
literal-form _ n h = absurd (cc)

-- where an access by a constant index may have no base there is no access at all
pub nothing : (t : Bool) → (if t then (let none : Option ℕ = None in none) else None) ≡ None
nothing true = refl
nothing false = refl

module _ (counts : ℕ → Bool) (code code' : Typed) (changes : List Change) (planned : AreChanges counts code changes)
    (precede : OperandsPrecede code.arena) (arena_is : code'.arena ≡ made changes code.arena planned.all) (types_are : code'.types ≡ code.types)
    (contents_are : (x : ℕ) → x < length code.arena → contents_at code' (new_of changes x) ≡ contents_at code x) where
  abbrev pub f : ℕ → ℕ
  f = new_of changes

  abbrev pub r : Renaming
  r = moving changes

  abbrev pub Old : ℕ → Option Expression
  Old = expression_at code

  abbrev pub New : ℕ → Option Expression
  New = expression_at code'

  -- an expression that stays
  pub stays-found : (x : ℕ) (e : Expression) → Old x ≡ Some e → slice_get changes x ≡ Some Stays → New (f x) ≡ Some (rename_expression r e)
  stays-found x e found at = ap (λ arena. value_at arena (f x)) arena_is ∙ new-found changes code.arena planned.all x Stays e at found

  pub plain-found : (x : ℕ) (e : Expression) → Old x ≡ Some e → reach_of e ≡ None → New (f x) ≡ Some (rename_expression r e)
  plain-found x e found plain = stays-found x e found (stays-plain counts code changes planned x e found plain)

  pub clamped-found : (x : ℕ) (e : Expression) (clamp : Clamp) → Old x ≡ Some e → slice_get changes x ≡ Some (Clamped clamp) → New (f x) ≡ Some (changed r (Clamped clamp) e (front_at changes code.arena planned.all x) (start_of changes x))
  clamped-found x e clamp found at = ap (λ arena. value_at arena (f x)) arena_is ∙ new-found changes code.arena planned.all x (Clamped clamp) e at found

  pub within : (x : ℕ) (e : Expression) → Old x ≡ Some e → x < length code.arena
  within x e found = value-within code.arena x e found

  pub operands-within : (x : ℕ) (e : Expression) → Old x ≡ Some e → Each (λ y. y < x) (operands_found (Some e))
  operands-within x e found = subst (λ v. Each (λ y. y < x) (operands_found v)) found (operands-before code.arena precede x)

  pub grows : (x y : ℕ) → x < y → y < length code.arena → f x < f y
  grows x y before inside = let same = planned.all in new-grows changes x y before (omega (arith, inside, same))

  length-kept : (x : ℕ) → x < length code.arena → length_at code' (f x) ≡ length_at code x
  length-kept x inside = λ i. contents_are x inside i >>= length_reached (inner_at (types_are i))

  length_found-kept : (x : ℕ) → x < length code.arena → length_found code' (contents_at code' (f x)) ≡ length_found code (contents_at code x)
  length_found-kept x inside = ap (length_found code') (contents_are x inside) ∙ go (contents_at code x)
    where
      go : (found : Option TypeInner) → length_found code' found ≡ length_found code found
      go None = refl
      go (Some contents) = ap (λ types. or_unknown (length_reached (inner_at types) contents)) types_are

  -- ---- what is evaluated where it is used

  fixed-kept : (x : ℕ) (e : Expression) → Old x ≡ Some e → New (f x) ≡ Some (rename_expression r e) → is_fixed_access code' (f x) ≡ is_fixed_access code x
  fixed-kept x e found found' =
      (λ i. passes (λ base. nat_lt base (f x) && passes (is_below_fixed (length_at code' base)) (found' i >>= constant_index_of)) (found' i >>= constant_base_of))
      ∙ go e found
      ∙ (λ i. passes (λ base. nat_lt base x && passes (is_below_fixed (length_at code base)) (sym found i >>= constant_index_of)) (sym found i >>= constant_base_of))
    where
      go : (e : Expression) → Old x ≡ Some e →
          passes (λ base. nat_lt base (f x) && passes (is_below_fixed (length_at code' base)) (constant_index_of (rename_expression r e))) (constant_base_of (rename_expression r e))
          ≡ passes (λ base. nat_lt base x && passes (is_below_fixed (length_at code base)) (constant_index_of e)) (constant_base_of e)
      go (expr.AccessIndex base number) found =
          let before : base < x = (operands-within x (expr.AccessIndex base number) found).0 in
          let inside = within x (expr.AccessIndex base number) found in
          let rises = grows base x before inside in
          let first : nat_lt (f base) (f x) ≡ true = grind (arith, nat_tests) in
          let second : nat_lt base x ≡ true = grind (arith, nat_tests) in
          let long = length-kept base (omega (arith, before, inside)) in
          (λ i. first i && is_below_fixed (long i) number) ∙ (λ i. sym second i && is_below_fixed (length_at code base) number)
      go _ found = refl

  -- an access that is clamped is not below a fixed length
  pub clamped-chosen : (x : ℕ) (e : Expression) (clamp : Clamp) → Old x ≡ Some e → IsClamped counts code e clamp → chosen_base (is_fixed_access code) code.arena x ≡ None
  clamped-chosen x e clamp found (computed base index is clamp_of) = (λ i. if is_fixed_access code x then ((found ∙ ap Some is) i >>= constant_base_of) else None) ∙ nothing (is_fixed_access code x)
  clamped-chosen x e clamp found (constant base number is clamp_of) =
      let here : Old x ≡ Some (expr.AccessIndex base number) = found ∙ ap Some is in
      (λ i. if (passes (λ base. nat_lt base x && passes (is_below_fixed (length_at code base)) (here i >>= constant_index_of)) (here i >>= constant_base_of)) then (here i >>= constant_base_of) else None)
      ∙ go (contents_at code base) refl (nat_lt base x)
    where
      undecided : (long : Length) → is_decided code long (Constant number) ≡ false → is_below_fixed (Some long) number ≡ false
      undecided (Fixed count) h = absurd (let e : true ≡ false = h in cc)
      undecided (Overridden handle) h = refl
      undecided Counted h = refl

      last : (t : Bool) (found : Option Length) → length_at code base ≡ found → or_unknown found ≡ Ok clamp.length → (if t && is_below_fixed (length_at code base) number then Some base else None) ≡ None
      last t None is so = absurd (cc)
      last t (Some long) is so =
          let same : long ≡ clamp.length = cc in
          let not_below : is_below_fixed (length_at code base) number ≡ false = ap (λ v. is_below_fixed v number) (is ∙ ap Some same) ∙ undecided clamp.length clamp_of.undecided in
          ap (λ b. if t && b then Some base else None) not_below ∙ either t
        where
          either : (t : Bool) → (if t && false then Some base else None) ≡ None
          either true = refl
          either false = refl

      go : (contents : Option TypeInner) → contents_at code base ≡ contents → (t : Bool) → (if t && is_below_fixed (length_at code base) number then Some base else None) ≡ None
      go None is t = absurd (let e = sym (ap (length_found code) is) ∙ clamp_of.length in cc)
      go (Some contents) is t =
          last t (length_reached (inner_at code.types) contents) (ap (λ v. v >>= length_reached (inner_at code.types)) is) (sym (ap (length_found code) is) ∙ clamp_of.length)

  pub clamped-ready : (e : Expression) (clamp : Clamp) → IsClamped counts code e clamp → needs_pre_emit e ≡ false
  clamped-ready e clamp (computed base index is clamp_of) = ap needs_pre_emit is
  clamped-ready e clamp (constant base number is clamp_of) = ap needs_pre_emit is

  ready-moved : (y : ℕ) → y < length code.arena → ready_in (New (f y)) ≡ ready_in (Old y)
  ready-moved y inside =
      let e = (value-there code.arena y inside).0 in
      let found = (value-there code.arena y inside).1 in
      elim (changed-as counts code changes planned y e found) [
        | inl stays ↦ ap ready_in (stays-found y e found stays.0) ∙ needs_pre_emit-renamed r e ∙ sym (ap ready_in found)
        | inr clamped ↦ ap ready_in (clamped-found y e clamped.0 found clamped.1) ∙ sym (clamped-ready e clamped.0 clamped.2) ∙ sym (ap ready_in found)
      ]

  base-moved : (y : ℕ) → y < length code.arena → chosen_base (is_fixed_access code') code'.arena (f y) ≡ option_map f (chosen_base (is_fixed_access code) code.arena y)
  base-moved y inside =
      let e = (value-there code.arena y inside).0 in
      let found = (value-there code.arena y inside).1 in
      elim (changed-as counts code changes planned y e found) [
        | inl stays ↦
            let here = stays-found y e found stays.0 in
            (λ i. if fixed-kept y e found here i then (here i >>= constant_base_of) else None)
            ∙ either e (is_fixed_access code y)
            ∙ (λ i. option_map f (if is_fixed_access code y then (sym found i >>= constant_base_of) else None))
        | inr clamped ↦
            (λ i. if is_fixed_access code' (f y) then (clamped-found y e clamped.0 found clamped.1 i >>= constant_base_of) else None)
            ∙ nothing (is_fixed_access code' (f y)) ∙ sym (ap (option_map f) (clamped-chosen y e clamped.0 found clamped.2))
      ]
    where
      either : (e : Expression) (t : Bool) → (if t then constant_base_of (rename_expression r e) else None) ≡ option_map f (if t then constant_base_of e else None)
      either e true = constant_base_of-renamed r e
      either e false = refl

  reaches-moved : (k l x : ℕ) → x < length code.arena → x < k → f x < l →
      reaches_ready (λ y. ready_in (New y)) (chosen_base (is_fixed_access code') code'.arena) l (f x) ≡ reaches_ready (λ y. ready_in (Old y)) (chosen_base (is_fixed_access code) code.arena) k x
  reaches-moved zero l x inside less less' = absurd (omega (arith, less))
  reaches-moved (suc k) zero x inside less less' = absurd (omega (arith, less'))
  reaches-moved (suc k) (suc l) x inside less less' =
      (λ i. ready-moved x inside i || passes (reaches_ready (λ y. ready_in (New y)) (chosen_base (is_fixed_access code') code'.arena) l) (base-moved x inside i))
      ∙ ap (λ t. ready_in (Old x) || t)
      (go (λ y before. let rises = grows y x before inside in reaches-moved k l y (omega (arith, before, inside)) (omega (arith, less, before)) (omega (arith, less', rises)))
      (chosen_base (is_fixed_access code) code.arena x) refl)
    where
      go : ((y : ℕ) → y < x → reaches_ready (λ y. ready_in (New y)) (chosen_base (is_fixed_access code') code'.arena) l (f y) ≡ reaches_ready (λ y. ready_in (Old y)) (chosen_base (is_fixed_access code) code.arena) k y) →
          (found : Option ℕ) → chosen_base (is_fixed_access code) code.arena x ≡ found →
          passes (reaches_ready (λ y. ready_in (New y)) (chosen_base (is_fixed_access code') code'.arena) l) (option_map f found) ≡ passes (reaches_ready (λ y. ready_in (Old y)) (chosen_base (is_fixed_access code) code.arena) k) found
      go later None is = refl
      go later (Some y) is = later y (chosen_base-before (is_fixed_access code) code.arena precede x y is)

  -- what is evaluated where it is used still is
  pub at_use-kept : (x : ℕ) → x < length code.arena → at_use code' (f x) ≡ at_use code x
  at_use-kept x inside = reaches-moved (suc x) (suc (f x)) x inside (omega arith) (omega arith)

  -- ---- limits

  unsigned-moved : (test : ℕ → Bool) (x : ℕ) → is_unsigned code test x ≡ true → is_unsigned code' test (f x) ≡ true
  unsigned-moved test x so =
      let form = unsigned-form test (Old x) so in
      ap (λ v. passes test (v >>= unsigned_of)) (plain-found x (expr.Literal (U32 form.0)) form.1 refl) ∙ form.2

  length-moved : (long : Length) (base x : ℕ) → base < length code.arena → is_length code long base x ≡ true → is_length code' long (f base) (f x) ≡ true
  length-moved (Fixed count) base x inside so = absurd (let e : false ≡ true = so in cc)
  length-moved Counted base x inside so =
      let tests = both (passes (nat_eq base) (Old x >>= counted_by)) (at_use code base) so in
      let form = counted-form (nat_eq base) (Old x) tests.0 in
      let same : base ≡ form.0 = (let t : nat_eq base form.0 ≡ true = form.2 in grind (arith, nat_tests)) in
      and-true (passes (nat_eq (f base)) (New (f x) >>= counted_by)) (at_use code' (f base))
      (ap (λ v. passes (nat_eq (f base)) (v >>= counted_by)) (plain-found x (expr.ArrayLength form.0) form.1 refl) ∙ eq-yes (f base) (f form.0) (ap f same))
      (at_use-kept base inside ∙ tests.1)
  length-moved (Overridden handle) base x inside so =
      let form = override-form (nat_eq handle) (Old x) so in
      ap (λ v. passes (nat_eq handle) (v >>= override_of)) (plain-found x (expr.Override form.0) form.1 refl) ∙ form.2

  less-moved : (long : Length) (base x : ℕ) → base < length code.arena → is_length_less_one code long base (Old x >>= difference_of) ≡ true → is_length_less_one code' long (f base) (New (f x) >>= difference_of) ≡ true
  less-moved long base x inside so =
      let form = less-form code long base (Old x) so in
      ap (λ v. is_length_less_one code' long (f base) (v >>= difference_of)) (plain-found x (expr.Binary Subtract form.left form.right) form.found_as refl)
      ∙ and-true (is_length code' long (f base) (f form.left)) (is_unsigned code' (nat_eq 1) (f form.right)) (length-moved long base form.left inside form.is_long) (unsigned-moved (nat_eq 1) form.right form.is_one)

  limit-moved : (long : Length) (base x : ℕ) → base < length code.arena → is_limit code long base x ≡ true → is_limit code' long (f base) (f x) ≡ true
  limit-moved (Fixed count) base x inside so = unsigned-moved (λ number. nat_lt number count) x so
  limit-moved (Overridden handle) base x inside so = less-moved (Overridden handle) base x inside so
  limit-moved Counted base x inside so = less-moved Counted base x inside so

  -- ---- indices

  abbrev unless : Bool → ℕ → Option Cause
  unless t index = if t then None else Some (Index index)

  divisor-moved : (long : Length) (base x : ℕ) → base < length code.arena → is_divisor code long base x ≡ true → is_divisor code' long (f base) (f x) ≡ true
  divisor-moved (Fixed count) base x inside so = unsigned-moved (λ number. nat_lt 0 number && nat_le number count) x so
  divisor-moved (Overridden handle) base x inside so = absurd (let e : false ≡ true = so in cc)
  divisor-moved Counted base x inside so = length-moved Counted base x inside so

  ordered-moved : (low high : ℕ) → are_ordered code low high ≡ true → are_ordered code' (f low) (f high) ≡ true
  ordered-moved low high ordered =
      let form = unsigned-form (λ least. nat_eq least 0 || is_unsigned code (λ number. nat_le least number) high) (Old low) ordered in
      ap (λ v. passes (λ least. nat_eq least 0 || is_unsigned code' (λ number. nat_le least number) (f high)) (v >>= unsigned_of))
      (plain-found low (expr.Literal (U32 form.0)) form.1 refl)
      ∙ elim (one-passes (nat_eq form.0 0) (is_unsigned code (λ number. nat_le form.0 number) high) form.2) [
        | inl least ↦ ap (λ t. t || is_unsigned code' (λ number. nat_le form.0 number) (f high)) least
        | inr less ↦
            ap (λ t. nat_eq form.0 0 || t) (unsigned-moved (λ number. nat_le form.0 number) high less) ∙ or-true (nat_eq form.0 0)
      ]

  -- an index that is bounded has no number of its own
  bounded-fits : (long : Length) (base index : ℕ) (e : Expression) → New index ≡ Some e → number_of e ≡ None → is_bounded code' long base (bound_of e) ≡ true
      → misfit_of_index code' long base index (New index >>= number_of) ≡ None
  bounded-fits long base index e is none so =
      ap (λ v. misfit_of_index code' long base index (v >>= number_of)) is ∙ ap (misfit_of_index code' long base index) none
      ∙ ap (λ v. unless (is_bounded code' long base (v >>= bound_of)) index) is ∙ ap (λ t. unless t index) so

  bounded-moved : (long : Length) (base index : ℕ) → base < length code.arena → {e : Expression} → IsBounded code long base e → Old index ≡ Some e
      → misfit_of_index code' long (f base) (f index) (New (f index) >>= number_of) ≡ None
  bounded-moved long base index inside (by_first {arg} {limit} so) is =
      bounded-fits long (f base) (f index) (expr.Math Min (f arg) (Some (f limit)) None None) (plain-found index (expr.Math Min arg (Some limit) None None) is refl) refl
      (ap (λ t. t || is_limit code' long (f base) (f limit)) (limit-moved long base arg inside so))
  bounded-moved long base index inside (by_second {arg} {limit} so) is =
      bounded-fits long (f base) (f index) (expr.Math Min (f arg) (Some (f limit)) None None) (plain-found index (expr.Math Min arg (Some limit) None None) is refl) refl
      (ap (λ t. is_limit code' long (f base) (f arg) || t) (limit-moved long base limit inside so) ∙ or-true (is_limit code' long (f base) (f arg)))
  bounded-moved long base index inside (by_interval {arg} {low} {high} so ordered) is =
      bounded-fits long (f base) (f index) (expr.Math clamping (f arg) (Some (f low)) (Some (f high)) None)
      (plain-found index (expr.Math clamping arg (Some low) (Some high) None) is refl) refl
      (and-true (is_limit code' long (f base) (f high)) (are_ordered code' (f low) (f high)) (limit-moved long base high inside so) (ordered-moved low high ordered))
  bounded-moved long base index inside (by_left {left} {right} so) is =
      bounded-fits long (f base) (f index) (expr.Binary And (f left) (f right)) (plain-found index (expr.Binary And left right) is refl) refl
      (ap (λ t. t || is_limit code' long (f base) (f right)) (limit-moved long base left inside so))
  bounded-moved long base index inside (by_right {left} {right} so) is =
      bounded-fits long (f base) (f index) (expr.Binary And (f left) (f right)) (plain-found index (expr.Binary And left right) is refl) refl
      (ap (λ t. is_limit code' long (f base) (f left) || t) (limit-moved long base right inside so) ∙ or-true (is_limit code' long (f base) (f left)))
  bounded-moved long base index inside (by_divisor {left} {right} so) is =
      bounded-fits long (f base) (f index) (expr.Binary Modulo (f left) (f right)) (plain-found index (expr.Binary Modulo left right) is refl) refl
      (divisor-moved long base right inside so)

  index-moved : (long : Length) (base index : ℕ) → base < length code.arena → (number : Option ℕ) → (Old index >>= number_of) ≡ number → misfit_of_index code long base index number ≡ None
      → misfit_of_index code' long (f base) (f index) (New (f index) >>= number_of) ≡ None
  index-moved long base index inside (Some number) is fits =
      let form = literal-form (Old index) number is in
      let number_is : (New (f index) >>= number_of) ≡ Some number =
      ap (λ v. v >>= number_of) (plain-found index (expr.Literal form.0) form.1 refl) ∙ sym (ap (λ v. v >>= number_of) form.1) ∙ is
      in
      ap (misfit_of_index code' long (f base) (f index)) number_is ∙ fits
  index-moved long base index inside None is fits = go (is_clamped code long base index) refl fits
    where
      go : (t : Bool) → is_clamped code long base index ≡ t → unless t index ≡ None → misfit_of_index code' long (f base) (f index) (New (f index) >>= number_of) ≡ None
      go false so none = absurd (cc)
      go true so none =
          let form = bounded-form code long base (Old index) so in
          bounded-moved long base index inside form.2 form.1

  constants-moved : (long : Length) (base base' : ℕ) (components : List SwizzleComponent) → first_misfit code' long base' (positions_of components) ≡ first_misfit code long base (positions_of components)
  constants-moved long base base' [] = refl
  constants-moved long base base' (component ∷ components) =
      ap (λ rest. elim (misfit_of_constant long (place_of component)) as (λ _. Option Cause) [ None ↦ rest | Some cause ↦ Some cause ]) (constants-moved long base base' components)

  abbrev one : Option Cause → Option Cause
  one m = elim m as (λ _. Option Cause) [ None ↦ None | Some cause ↦ Some cause ]

  one-none : (m : Option Cause) → one m ≡ None → m ≡ None
  one-none None h = refl
  one-none (Some cause) h = absurd (let e : Some cause ≡ None = h in cc)

  -- ---- an access that stays

  fits-moved : (x : ℕ) (e : Expression) → Old x ≡ Some e → misfit_of code (reach_of e) ≡ None → misfit_of code' (reach_of (rename_expression r e)) ≡ None
  fits-moved x (expr.Access base index) found fits = go (length_found code (contents_at code base)) refl fits
    where
      inside : base < length code.arena
      inside = let before : base < x = (operands-within x (expr.Access base index) found).0 in let below = within x (expr.Access base index) found in omega (arith, before, below)

      go : (long : Result Length Cause) → length_found code (contents_at code base) ≡ long → misfit_in code long (record { base = base; positions = Computed index ∷ [] }) ≡ None → misfit_of code' (reach_of (rename_expression r (expr.Access base index))) ≡ None
      go (Err cause) is none = absurd (let e : Some cause ≡ None = none in cc)
      go (Ok long) is none =
          ap (λ v. misfit_in code' v (record { base = f base; positions = Computed (f index) ∷ [] })) (length_found-kept base inside ∙ is)
          ∙ ap one (index-moved long base index inside (Old index >>= number_of) refl (one-none (misfit_at code long base (Computed index)) none))
  fits-moved x (expr.AccessIndex base number) found fits =
      let before : base < x = (operands-within x (expr.AccessIndex base number) found).0 in
      let below = within x (expr.AccessIndex base number) found in
      ap (λ v. misfit_in code' v (record { base = f base; positions = Constant number ∷ [] })) (length_found-kept base (omega (arith, before, below)))
      ∙ go (length_found code (contents_at code base)) ∙ fits
    where
      go : (long : Result Length Cause) → misfit_in code' long (record { base = f base; positions = Constant number ∷ [] }) ≡ misfit_in code long (record { base = base; positions = Constant number ∷ [] })
      go (Err cause) = refl
      go (Ok long) = refl
  fits-moved x (expr.Swizzle size vector pattern) found fits =
      let before : vector < x = (operands-within x (expr.Swizzle size vector pattern) found).0 in
      let below = within x (expr.Swizzle size vector pattern) found in
      ap (λ v. misfit_in code' v (record { base = f vector; positions = positions_of (take (components_of size) pattern) })) (length_found-kept vector (omega (arith, before, below)))
      ∙ go (length_found code (contents_at code vector)) ∙ fits
    where
      go : (long : Result Length Cause) → misfit_in code' long (record { base = f vector; positions = positions_of (take (components_of size) pattern) })
          ≡ misfit_in code long (record { base = vector; positions = positions_of (take (components_of size) pattern) })
      go (Err cause) = refl
      go (Ok long) = constants-moved long vector (f vector) (take (components_of size) pattern)
  fits-moved x _ found fits = refl

  -- ---- an access that is clamped

  -- a length that a type gives, of what a computed index chooses from, is not 0
  abbrev pub Positive : Type 0
  Positive = (x base index count : ℕ) → Old x ≡ Some (expr.Access base index) → length_found code (contents_at code base) ≡ Ok (Fixed count) → 0 < count

  module _ (x : ℕ) (e : Expression) (clamp : Clamp) (found : Old x ≡ Some e) (at : slice_get changes x ≡ Some (Clamped clamp)) (is : IsClamped counts code e clamp) where
    abbrev pub front : ℕ
    front = front_at changes code.arena planned.all x

    abbrev pub here : ℕ
    here = start_of changes x

    abbrev pub limit_front : ℕ
    limit_front = front + length (front_of_index clamp.index)

    -- the parts of the clamp are found there
    pub front-part : (k p : ℕ) (part : Expression) → p ≡ limit_front + k → slice_get (front_of_length clamp.length) k ≡ Some part → New p ≡ Some part
    front-part k p part place is =
        ap (λ arena. value_at arena p) arena_is
        ∙ front-found changes code.arena planned.all x (Clamped clamp) e at found (length (front_of_index clamp.index) + k) p part (omega (arith, place))
        (get-right (front_of_index clamp.index) (front_of_length clamp.length) k (length (front_of_index clamp.index) + k) refl ∙ is)

    pub index-part : (k : ℕ) (part : Expression) → slice_get (front_of_index clamp.index) k ≡ Some part → New (front + k) ≡ Some part
    index-part k part is =
        ap (λ arena. value_at arena (front + k)) arena_is
        ∙ front-found changes code.arena planned.all x (Clamped clamp) e at found k (front + k) part refl (get-left (front_of_index clamp.index) (front_of_length clamp.length) k part is)

    pub inserted-part : (k p : ℕ) (part : Expression) → p ≡ here + k → slice_get (inserted r (Clamped clamp) front here) k ≡ Some part → New p ≡ Some part
    inserted-part k p part place is =
        ap (λ arena. value_at arena p) arena_is
        ∙ group-found changes code.arena planned.all x (Clamped clamp) e at found k p part place
        (get-left (inserted r (Clamped clamp) front here) (changed r (Clamped clamp) e front here ∷ []) k part is)

    pub last-part : (k p : ℕ) (part : Expression) → p ≡ here + k → slice_get (last_index r clamp.length clamp.base limit_front here) k ≡ Some part → New p ≡ Some part
    last-part k p part place is =
        inserted-part k p part place
        (get-left (operands r clamp front here) (minimum r clamp front here ∷ []) k part
        (get-left (last_index r clamp.length clamp.base limit_front here) (conversion r clamp.index) k part is))

    pub minimum-part : New (here + length (operands r clamp front here)) ≡ Some (minimum r clamp front here)
    minimum-part =
        inserted-part (length (operands r clamp front here)) (here + length (operands r clamp front here)) (minimum r clamp front here) refl
        (get-right (operands r clamp front here) (minimum r clamp front here ∷ []) 0 (length (operands r clamp front here)) (omega arith))

    pub base-inside : clamp.base < length code.arena
    base-inside = go is
      where
        go : IsClamped counts code e clamp → clamp.base < length code.arena
        go (computed base index is clamp_of) =
            let before : base < x = (operands-within x (expr.Access base index) (found ∙ ap Some is)).0 in
            let below = within x e found in
            omega (arith, clamp_of.at_base, before, below)
        go (constant base number is clamp_of) =
            let before : base < x = (operands-within x (expr.AccessIndex base number) (found ∙ ap Some is)).0 in
            let below = within x e found in
            omega (arith, clamp_of.at_base, before, below)

    pub long-is : length_found code (contents_at code clamp.base) ≡ Ok clamp.length
    long-is = go is
      where
        go : IsClamped counts code e clamp → length_found code (contents_at code clamp.base) ≡ Ok clamp.length
        go (computed base index is clamp_of) = ap (λ b. length_found code (contents_at code b)) clamp_of.at_base ∙ clamp_of.length
        go (constant base number is clamp_of) = ap (λ b. length_found code (contents_at code b)) clamp_of.at_base ∙ clamp_of.length

    not-empty : Positive → (count : ℕ) → clamp.length ≡ Fixed count → 0 < count
    not-empty positive count long = go is
      where
        go : IsClamped counts code e clamp → 0 < count
        go (computed base index is clamp_of) = positive x base index count (found ∙ ap Some is) (clamp_of.length ∙ ap Ok long)
        go (constant base number is clamp_of) = absurd (let e : true ≡ false = sym (ap (λ long. is_decided code long (Constant number)) long) ∙ clamp_of.undecided in cc)

    pub told-at_use : clamp.length ≡ Counted → at_use code clamp.base ≡ true
    told-at_use long = go is
      where
        go : IsClamped counts code e clamp → at_use code clamp.base ≡ true
        go (computed base index is clamp_of) = ap (at_use code) clamp_of.at_base ∙ sym (ap (λ long. is_told counts code long base) long) ∙ clamp_of.told
        go (constant base number is clamp_of) = ap (at_use code) clamp_of.at_base ∙ sym (ap (λ long. is_told counts code long base) long) ∙ clamp_of.told

    limit-fits : Positive → (long : Length) → clamp.length ≡ long → is_limit code' long (f clamp.base) (limit r long limit_front here) ≡ true
    limit-fits positive (Fixed count) long =
        let some = not-empty positive count long in
        ap (λ v. passes (λ number. nat_lt number count) (v >>= unsigned_of)) (front-part 0 limit_front (expr.Literal (U32 (count - 1))) (omega arith) (ap (λ long. slice_get (front_of_length long) 0) long))
        ∙ (let test : nat_lt (count - 1) count ≡ true = grind (arith, nat_tests) in test)
    limit-fits positive (Overridden handle) long =
        ap (λ v. is_length_less_one code' (Overridden handle) (f clamp.base) (v >>= difference_of))
        (last-part 0 here (expr.Binary Subtract (limit_front + 1) limit_front) (omega arith) (ap (λ long. slice_get (last_index r long clamp.base limit_front here) 0) long))
        ∙ and-true (is_length code' (Overridden handle) (f clamp.base) (limit_front + 1)) (is_unsigned code' (nat_eq 1) limit_front)
        (ap (λ v. passes (nat_eq handle) (v >>= override_of)) (front-part 1 (limit_front + 1) (expr.Override handle) refl (ap (λ long. slice_get (front_of_length long) 1) long)) ∙ eq-yes handle handle refl)
        (ap (λ v. passes (nat_eq 1) (v >>= unsigned_of)) (front-part 0 limit_front (expr.Literal (U32 1)) (omega arith) (ap (λ long. slice_get (front_of_length long) 0) long)))
    limit-fits positive Counted long =
        ap (λ v. is_length_less_one code' Counted (f clamp.base) (v >>= difference_of))
        (last-part 1 (here + 1) (expr.Binary Subtract here limit_front) refl (ap (λ long. slice_get (last_index r long clamp.base limit_front here) 1) long))
        ∙ and-true (is_length code' Counted (f clamp.base) here) (is_unsigned code' (nat_eq 1) limit_front)
        (and-true (passes (nat_eq (f clamp.base)) (New here >>= counted_by)) (at_use code' (f clamp.base))
        (ap (λ v. passes (nat_eq (f clamp.base)) (v >>= counted_by)) (last-part 0 here (expr.ArrayLength (f clamp.base)) (omega arith) (ap (λ long. slice_get (last_index r long clamp.base limit_front here) 0) long))
        ∙ eq-yes (f clamp.base) (f clamp.base) refl)
        (at_use-kept clamp.base base-inside ∙ told-at_use long))
        (ap (λ v. passes (nat_eq 1) (v >>= unsigned_of)) (front-part 0 limit_front (expr.Literal (U32 1)) (omega arith) (ap (λ long. slice_get (front_of_length long) 0) long)))

    clamped-fits : Positive → misfit_of code' (reach_of (changed r (Clamped clamp) e front here)) ≡ None
    clamped-fits positive =
        let m : ℕ = here + length (operands r clamp front here) in
        let first : ℕ = operand r clamp.index front (here + length (last_index r clamp.length clamp.base limit_front here)) in
        ap (λ v. misfit_in code' v (record { base = f clamp.base; positions = Computed m ∷ [] })) (length_found-kept clamp.base base-inside ∙ long-is)
        ∙ ap one
        (ap (λ v. misfit_of_index code' clamp.length (f clamp.base) m (v >>= number_of)) minimum-part
        ∙ ap (λ t. unless t m)
        (ap (λ v. is_bounded code' clamp.length (f clamp.base) (v >>= bound_of)) minimum-part
        ∙ ap (λ t. is_limit code' clamp.length (f clamp.base) first || t) (limit-fits positive clamp.length refl) ∙ or-true (is_limit code' clamp.length (f clamp.base) first)))

  module _ (positive : Positive) where
    -- ---- the new arena

    abbrev Fits : Expression → Type 0
    Fits e = misfit_of code' (reach_of e) ≡ None

    plain-fits : (es : List Expression) → EachIs IsPlain es → EachIs Fits es
    plain-fits [] h = tt
    plain-fits (e ∷ es) h = (ap (misfit_of code') h.0, plain-fits es h.1)

    changed-fits : (i : ℕ) (change : Change) (entry : Expression × Span) → slice_get changes i ≡ Some change → slice_get code.arena i ≡ Some entry →
        (front' here' : ℕ) → front' ≡ front_at changes code.arena planned.all i → here' ≡ start_of changes i → Fits (changed r change entry.0 front' here')
    changed-fits i change entry at at' front' here' f h =
        let found : Old i ≡ Some entry.0 = value-of code.arena i entry.0 entry.1 at' in
        elim (changed-as counts code changes planned i entry.0 found) [
          | inl stays ↦
              let same : change ≡ Stays = (let e : Some change ≡ Some Stays = sym at ∙ stays.0 in cc) in
              subst (λ c. Fits (changed r c entry.0 front' here')) (sym same)
              (fits-moved i entry.0 found (sym (ap (λ v. misfit_of code (v >>= reach_of)) found) ∙ stays.1))
          | inr clamped ↦
              let same : change ≡ Clamped clamped.0 = (let e : Some change ≡ Some (Clamped clamped.0) = sym at ∙ clamped.1 in cc) in
              (λ j. misfit_of code' (reach_of (changed r (same j) entry.0 (f j) (h j)))) ∙ clamped-fits i entry.0 clamped.0 found clamped.1 clamped.2 positive
        ]

    each-fits : EachHas Fits (made changes code.arena planned.all)
    each-fits =
        each-append Fits (fronts (zip changes code.arena)) (groups r (zip changes code.arena) 0 (front_len changes))
        (fronts-each Fits r (λ change. plain-fits (front_of change) (front-plain change)) changes code.arena)
        (groups-each Fits r changes code.arena 0 (front_len changes)
        (λ i front' here' change entry at at' f h.
        each-joined Fits (inserted r change front' here') (changed r change entry.0 front' here' ∷ [])
        (plain-fits (inserted r change front' here') (inserted-plain r change front' here'))
        (changed-fits i change entry at at' front' here' (omega (arith, f)) h, tt)))

    pub restricted-fits : EachFits code'
    restricted-fits handle = go (New handle) refl
      where
        go : (found : Option Expression) → New handle ≡ found → misfit code' handle ≡ None
        go None is = ap (λ v. misfit_of code' (v >>= reach_of)) is
        go (Some e) is =
            ap (λ v. misfit_of code' (v >>= reach_of)) is
            ∙ each-found Fits (made changes code.arena planned.all) handle e each-fits (sym (ap (λ arena. value_at arena handle) arena_is) ∙ is)
