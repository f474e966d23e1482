-- The expressions that are chosen are those that are written out.
use Rattle.std.proofs.Common.{◌≡◌, ◌∙◌, sym, ap, subst, refl, inl, inr, ◌⊎◌, ℕ, suc, ◌<◌, ◌≤◌, Bool, true, false, List, length, arith}
use Rattle.std.proofs.lemmas.Bool.{cases_lt}
use Rattle.std.proofs.lemmas.Bool.Decides.{nat_tests}
use Rattle.std.specs.FinSet.{contains, contains-empty}
use Rattle.std.specs.List.{Contains}
use Rattle.std.specs.Ordering.{nat_cmp}
use Rattle.std.specs.Prelude.{◌||◌, ◌&&◌, ◌↔◌, not, nat_lt, if◌then◌else◌}
use Rattle.naga_arena.specs.Arena.{value_at}
use Rattle.naga_arena.specs.declared.span.Span.{Span}
use Rattle.naga_ir.specs.declared.expression.Expression.{Expression}
use Rattle.naga_ir.specs.declared.module.Function.{Function}
use Rattle.naga_sets.specs.HandleSet.{BoundedSet, none_below}
use Rattle.naga_flow.specs.Uses.{operands_found}
use Rattle.naga_compact.specs.Compaction.{IsMember}
use Rattle.naga_compact.specs.Marks.{puts}
use Rattle.naga_compact.specs.Operands.{IsReached, OperandsPrecede}
use Rattle.naga_compact.proofs.IsReachedLemmas.{IsReached-more}
use Rattle.naga_compact.proofs.MarkLemmas.{puts-has, puts-new}
use Rattle.naga_meaning.specs.Readings.{chains_in}
use Rattle.naga_meaning.proofs.EachLemmas.{operands-before}
use Rattle.naga_wgsl.specs.Choices.{AreChoicesIn, AreChosen, depth_at, may_be_written_out, must_be_written_out}
use Rattle.naga_wgsl.specs.Counts.{is_used_once}
use Rattle.naga_wgsl.specs.Pure.{may_be_inline}
use Rattle.naga_wgsl.specs.WrittenOut.{AreWrittenOut, IsInOffset, IsInline, IsWrittenOut, depth_in, offsets_in, times_in, uses_in}
use Rattle.naga_wgsl.specs.declared.choices.Choices.{Choices}
use Rattle.naga_wgsl.proofs.ChainsInLemmas.{chains_in-past, missing}
use Rattle.naga_wgsl.proofs.DepthByLemmas.{depth_by-out, depth_out, depth_out-same}
use Rattle.naga_wgsl.proofs.HasFirstLemmas.{HasFirst-all}
use Rattle.naga_wgsl.proofs.UsesLemmas.{once}

-- ---- marks from none

-- the marks that are put into no others
pub puts-none : (bound : ℕ) (hs : List ℕ) (h : ℕ) → (contains (puts (none_below bound) hs).members h ≡ true) ↔ ((h < bound) × Contains hs h)
puts-none bound hs h = (there, λ so. puts-has (none_below bound) hs h so.0 so.1)
  where
    there : contains (puts (none_below bound) hs).members h ≡ true → (h < bound) × Contains hs h
    there member = elim (puts-new (none_below bound) hs h member) [
      | inl old ↦ absurd (let e : false ≡ true = sym (contains-empty nat_cmp h) ∙ old in cc)
      | inr new ↦ (new.1, new.0)
    ]

-- what is reached from the offsets is in an offset
pub reached-in_offset : (arena : List (Expression × Span)) (h : ℕ) →
    IsReached arena (IsMember (puts (none_below (length arena)) (offsets_in arena))) h ↔ IsInOffset arena h
reached-in_offset arena h =
    let roots = puts (none_below (length arena)) (offsets_in arena) in (
      IsReached-more arena (IsMember roots) (λ x. (x < length arena) × Contains (offsets_in arena) x) (λ x. (puts-none (length arena) (offsets_in arena) x).0) h,
      IsReached-more arena (λ x. (x < length arena) × Contains (offsets_in arena) x) (IsMember roots) (λ x. (puts-none (length arena) (offsets_in arena) x).1) h,
    )

-- marks that began with none
pub marked-from_none : (bound : ℕ) (hs : List ℕ) (begun new : BoundedSet) → begun ≡ none_below bound → new ≡ puts begun hs → new ≡ puts (none_below bound) hs
marked-from_none bound hs begun new is made = made ∙ ap (λ s. puts s hs) is

-- what is marked from the offsets is in an offset
pub in_offset-marked : (arena : List (Expression × Span)) (roots marks found : BoundedSet) → roots ≡ puts (none_below (length arena)) (offsets_in arena) →
    ((h : ℕ) → (contains marks.members h ≡ true) ↔ IsReached arena (IsMember roots) h) → found ≡ marks →
    (h : ℕ) → (contains found.members h ≡ true) ↔ IsInOffset arena h
in_offset-marked arena roots marks found are reached is h =
    let here : (contains marks.members h ≡ true) ↔ IsReached arena (IsMember (puts (none_below (length arena)) (offsets_in arena))) h =
    subst (λ (s : BoundedSet). (contains marks.members h ≡ true) ↔ IsReached arena (IsMember s) h) are (reached h)
    in
    let both = reached-in_offset arena h in
    subst (λ (s : BoundedSet). (contains s.members h ≡ true) ↔ IsInOffset arena h) (sym is)
    (λ m. both.0 (here.0 m), λ o. here.1 (both.1 o))

-- what is marked from the names has a name
pub named-marked : (bound : ℕ) (hs : List ℕ) (found : BoundedSet) → found ≡ puts (none_below bound) hs →
    (h : ℕ) → h < bound → (contains found.members h ≡ true) ↔ Contains hs h
named-marked bound hs found is h inside =
    let both = puts-none bound hs h in
    subst (λ (s : BoundedSet). (contains s.members h ≡ true) ↔ Contains hs h) (sym is) (λ m. (both.0 m).1, λ so. both.1 (inside, so))

-- ---- booleans

both-true : (s t : Bool) → (s && t) ≡ true → (s ≡ true) × (t ≡ true)
both-true true t h = (refl, h)
both-true false t h = absurd (let e : false ≡ true = h in cc)

true-both : (s t : Bool) → s ≡ true → t ≡ true → (s && t) ≡ true
true-both s t a b = ap (λ x. x && t) a ∙ b

either-true : (s t : Bool) → (s || t) ≡ true → (s ≡ true) ⊎ (t ≡ true)
either-true true t h = inl refl
either-true false t h = inr h

true-left : (s t : Bool) → s ≡ true → (s || t) ≡ true
true-left s t h = ap (λ x. x || t) h

true-right : (s t : Bool) → t ≡ true → (s || t) ≡ true
true-right true t h = refl
true-right false t h = h

not-true : (t : Bool) → not t ≡ true → ¬ (t ≡ true)
not-true true h is = let e : false ≡ true = h in cc
not-true false h is = let e : false ≡ true = is in cc

true-not : (t : Bool) → ¬ (t ≡ true) → not t ≡ true
true-not true h = absurd (h refl)
true-not false h = refl

-- the depth is above 0 where the expression is written out
above : (t : Bool) (d : ℕ) → nat_lt 0 (if t then suc d else 0) ≡ t
above true d = grind (arith, nat_tests)
above false d = grind (arith, nat_tests)

-- ---- what is chosen

module _ (function : Function) (choices : Choices) (are : AreChoicesIn function choices) (precede : OperandsPrecede function.expressions) where
  abbrev arena : List (Expression × Span)
  arena = choices.expressions.now

  abbrev operands : ℕ → List ℕ
  operands x = operands_found (value_at arena x)

  abbrev must : ℕ → Bool
  must = must_be_written_out choices

  abbrev may : ℕ → Bool
  may = may_be_written_out choices

  same_arena : arena ≡ function.expressions
  same_arena = are.expressions

  precede_here : OperandsPrecede arena
  precede_here = subst OperandsPrecede (sym same_arena) precede

  abbrev out : ℕ → ℕ
  out = depth_out must may operands (operands-before arena precede_here)

  -- the test by which an expression is chosen
  abbrev test : ℕ → Bool
  test x = must x || (nat_lt (out x) 17 && may x)

  above-test : (x : ℕ) → nat_lt 0 (depth_at choices x) ≡ test x
  above-test x = ap (nat_lt 0) (depth_by-out must may operands (operands-before arena precede_here) x) ∙ above (test x) _

  past-inline : (x : ℕ) → length arena ≤ x → may_be_inline (value_at arena x) ≡ false
  past-inline x past = ap may_be_inline (missing arena x past)

  test-past : (x : ℕ) → length arena ≤ x → test x ≡ false
  test-past x past =
      let chain : contains choices.chains.members x ≡ false = are.chains x ∙ (ap (λ a. chains_in a x) (sym same_arena) ∙ chains_in-past arena x past) in
      let inline = past-inline x past in
      none (contains choices.chains.members x) (contains choices.in_offsets.members x) (may_be_inline (value_at arena x)) (is_used_once choices.uses x) (not (contains choices.named.members x)) (nat_lt (out x) 17) chain inline
    where
      none : (c o i u n l : Bool) → c ≡ false → i ≡ false → ((c || (o && i)) || (l && ((i && u) && n))) ≡ false
      none c o i u n l a b = (λ k. (a k || (o && b k)) || (l && ((b k && u) && n))) ∙ rest o l
        where
          rest : (o l : Bool) → ((o && false) || (l && false)) ≡ false
          rest true true = refl
          rest true false = refl
          rest false true = refl
          rest false false = refl

  -- an expression that may be inline is in the arena
  inline-within : (x : ℕ) → may_be_inline (value_at arena x) ≡ true → x < length function.expressions
  inline-within x h = elim (cases_lt x (length arena)) [
    | inl inside ↦ subst (λ (a : List (Expression × Span)). x < length a) same_arena inside
    | inr past ↦ absurd (let e : false ≡ true = sym (past-inline x past) ∙ h in cc)
  ]

  module _ (written : BoundedSet) (chosen : AreChosen choices (length arena) written) where
    abbrev is : ℕ → Bool
    is = contains written.members

    member : (x : ℕ) → is x ≡ nat_lt 0 (depth_at choices x)
    member = HasFirst-all (λ x. nat_lt 0 (depth_at choices x)) (length arena) written chosen.chosen (λ x past. above-test x ∙ test-past x past)

    depth-same : (x : ℕ) → depth_in is arena x ≡ out x
    depth-same = depth_out-same must may operands (operands-before arena precede_here) is member

    -- what is known of an expression that may be written out
    short-then : (x : ℕ) → may x ≡ true → nat_lt (out x) 17 ≡ true → IsInline function is x
    short-then x h low =
        let one = both-true (may_be_inline (value_at arena x) && is_used_once choices.uses x) (not (contains choices.named.members x)) h in
        let two = both-true (may_be_inline (value_at arena x)) (is_used_once choices.uses x) one.0 in
        let inside = inline-within x two.0 in
        let t = times_in (uses_in function) x in
        let short : out x ≤ 16 = grind (arith, nat_tests, low) in
        record {
          may = subst (λ a. may_be_inline (value_at a x) ≡ true) same_arena two.0;
          chosen = inr (record {
            used = (once t).0 ((λ k. sym (are.uses.used x inside) k && not (sym (are.uses.again x inside) k)) ∙ two.1);
            unnamed = λ named. not-true (contains choices.named.members x) one.1 ((are.named x inside).1 named);
            depth = subst (λ (a : List (Expression × Span)). depth_in is a x ≤ 16) same_arena (subst (λ d. d ≤ 16) (sym (depth-same x)) short);
          });
        }

    there : (x : ℕ) → is x ≡ true → IsWrittenOut function is x
    there x h = elim (either-true (must x) (nat_lt (out x) 17 && may x) (sym (member x ∙ above-test x) ∙ h)) [
      | inl so ↦ elim (either-true (contains choices.chains.members x) (contains choices.in_offsets.members x && may_be_inline (value_at arena x)) so) [
        | inl chain ↦ inl (sym (are.chains x) ∙ chain)
        | inr offset ↦
            let two = both-true (contains choices.in_offsets.members x) (may_be_inline (value_at arena x)) offset in
            inr (record { may = subst (λ a. may_be_inline (value_at a x) ≡ true) same_arena two.1; chosen = inl ((are.in_offsets x).0 two.0) })
      ]
      | inr so ↦ let two = both-true (nat_lt (out x) 17) (may x) so in inr (short-then x two.1 two.0)
    ]

    from-test : (x : ℕ) → test x ≡ true → is x ≡ true
    from-test x h = member x ∙ (above-test x ∙ h)

    inline-then : (x : ℕ) → IsInline function is x → test x ≡ true
    inline-then x so =
        let may_here : may_be_inline (value_at arena x) ≡ true = subst (λ a. may_be_inline (value_at a x) ≡ true) (sym same_arena) so.may in
        let inside = inline-within x may_here in
        elim so.chosen [
          | inl offset ↦
              true-left (must x) (nat_lt (out x) 17 && may x)
              (true-right (contains choices.chains.members x) (contains choices.in_offsets.members x && may_be_inline (value_at arena x))
              (true-both (contains choices.in_offsets.members x) (may_be_inline (value_at arena x)) ((are.in_offsets x).1 offset) may_here))
          | inr short ↦
              let t = times_in (uses_in function) x in
              let used : is_used_once choices.uses x ≡ true = (λ k. are.uses.used x inside k && not (are.uses.again x inside k)) ∙ (once t).1 short.used in
              let unnamed = true-not (contains choices.named.members x) (λ m. short.unnamed ((are.named x inside).0 m)) in
              let low : out x ≤ 16 = subst (λ d. d ≤ 16) (depth-same x) (subst (λ (a : List (Expression × Span)). depth_in is a x ≤ 16) (sym same_arena) short.depth) in
              let fits : nat_lt (out x) 17 ≡ true = grind (arith, nat_tests, low) in
              true-right (must x) (nat_lt (out x) 17 && may x)
              (true-both (nat_lt (out x) 17) (may x) fits
              (true-both (may_be_inline (value_at arena x) && is_used_once choices.uses x) (not (contains choices.named.members x))
              (true-both (may_be_inline (value_at arena x)) (is_used_once choices.uses x) may_here used) unnamed))
        ]

    back : (x : ℕ) → IsWrittenOut function is x → is x ≡ true
    back x (inl chain) = from-test x (true-left (must x) (nat_lt (out x) 17 && may x) (true-left (contains choices.chains.members x) (contains choices.in_offsets.members x && may_be_inline (value_at arena x)) (are.chains x ∙ chain)))
    back x (inr inline) = from-test x (inline-then x inline)

    pub AreWrittenOut-chosen : AreWrittenOut function written
    AreWrittenOut-chosen = record {
      bound = chosen.bound ∙ ap length same_arena;
      each = λ x. (there x, back x);
    }
