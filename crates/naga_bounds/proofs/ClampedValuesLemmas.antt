-- What is inserted before an access that is clamped gives an index with the number of the old one, if the old one was in
-- bounds.
use Rattle.std.proofs.Common.{◌≡◌, ◌∙◌, ◌+◌, ◌-◌, ◌<◌, ◌≤◌, ap, arith, length, length-append, refl, subst, sym, inl, inr, ℕ, zero, suc, Bool, true, false, List, [], ◌∷◌, ◌++◌, map, Option, Some, None, Ok}
use Rattle.std.proofs.lemmas.Bool.{cases_lt}
use Rattle.std.proofs.lemmas.Bool.Decides.{nat_tests}
use Rattle.std.proofs.lemmas.List.{length_push}
use Rattle.std.specs.List.{range_with_len, slice_get}
use Rattle.std.specs.Prelude.{◌&&◌, if◌then◌else◌, nat_le, nat_lt, option_map}
use Rattle.naga_arena.specs.Limits.{max_len}
use Rattle.naga_kinds.specs.declared.operator.BinaryOperator.TheVariants.{Subtract}
use Rattle.naga_kinds.specs.declared.scalar.ScalarKind.TheVariants.{Uint}
use Rattle.naga_ir.specs.Expression.{needs_pre_emit}
use Rattle.naga_ir.specs.declared.expression.Expression.{Expression}
use Rattle.naga_ir.specs.declared.expression.Expression.TheVariants as expr
use Rattle.naga_ir.specs.declared.literal.Literal.TheVariants.{U32}
use Rattle.naga_ir.specs.declared.types.TypeInner.{TypeInner}
use Rattle.naga_valid.specs.Expressions.{references_of_expression}
use Rattle.naga_valid.specs.Operands.{operands_of}
use Rattle.naga_valid.specs.declared.reference.Reference.{Reference}
use Rattle.naga_valid.specs.declared.reference.Reference.TheVariants as reference
use Rattle.naga_flow.specs.Places.{ready_in}
use Rattle.naga_flow.specs.Readings.{constant_base_of}
use Rattle.naga_flow.specs.Uses.{operands_found}
use Rattle.naga_flow.proofs.ConstantChainsLemmas.{constant_chains_in-last, constant_chains_in-ready}
use Rattle.naga_compact.specs.Operands.{OperandsPrecede}
use Rattle.naga_compact.specs.Renaming.{Renaming, rename_reference}
use Rattle.naga_compact.specs.derived.Renaming.{rename_expression}
use Rattle.naga_compact.proofs.RenamedOperandsLemmas.{operands_of-renamed}
use Rattle.naga_compact.proofs.derived_lemmas.RenamedVariantsLemmas.{references_of_expression-renamed}
use Rattle.naga_meaning.specs.Forms.{ExpressionForm}
use Rattle.naga_meaning.specs.Functions.{Meanings, code_of, looked_up, shape_of}
use Rattle.naga_meaning.specs.Values.{Code, World, emit, emitted_value, put, value, value_within}
use Rattle.naga_meaning.proofs.EachLemmas.{operands-before}
use Rattle.naga_meaning.proofs.RenamesCodeLemmas.{eq-no, eq-yes}
use Rattle.naga_meaning.proofs.derived.FormsLemmas.{expression_form-renamed}
use Rattle.naga_typifier.specs.Context.{inner_at}
use Rattle.naga_typifier.specs.Rows.{◌>>=◌}
use Rattle.naga_bounds.specs.Changes.{AreChanges, is_decided, is_told, is_u32}
use Rattle.naga_bounds.specs.Fits.{length_found}
use Rattle.naga_bounds.specs.Reach.{Typed, at_use, contents_at, expression_at, is_fixed_access, length_at, length_reached, reach_of}
use Rattle.naga_bounds.specs.Respects.{HasElements, HaveShortLengths, RespectsClamps, RespectsIndices, applied, array_length, difference, element, element_at, literal_value, override_value, unsigned}
use Rattle.naga_bounds.specs.Restricted.{conversion, front_of_index, front_of_length, inserted, last_index, limit, minimum, moving, new_of, operand, operands, start_of}
use Rattle.naga_bounds.specs.Watched.{count, count_at, is_below, is_in_bounds, is_there}
use Rattle.naga_bounds.specs.declared.cause.Position.TheVariants.{Constant}
use Rattle.naga_bounds.specs.declared.change.Change.{Change}
use Rattle.naga_bounds.specs.declared.change.Change.TheVariants.{Clamped}
use Rattle.naga_bounds.specs.declared.change.Clamp.{Clamp}
use Rattle.naga_bounds.specs.declared.change.ClampedIndex.{ClampedIndex}
use Rattle.naga_bounds.specs.declared.change.ClampedIndex.TheVariants as clamped_index
use Rattle.naga_bounds.specs.declared.length.Length.{Length}
use Rattle.naga_bounds.specs.declared.length.Length.TheVariants.{Fixed, Overridden, Counted}
use Rattle.naga_bounds.proofs.ClampOfLemmas.{IsClampOf, IsClamped, changed-as, computed, constant}
use Rattle.naga_bounds.proofs.InBoundsLemmas.{both}
use Rattle.naga_bounds.proofs.IsTypedLemmas.{found-length}
use Rattle.naga_bounds.proofs.MovedLemmas.{Inside, IsSame, Moved, MovesCode, inside-less, less-inside, put-inserted, value-moved}
use Rattle.naga_bounds.proofs.NewHandlesLemmas.{front_at, made, new-distinct, new-grows, new-is, new-next, start-rises, value-there}
use Rattle.naga_bounds.proofs.RestrictedFitsLemmas.{at_use-kept, base-inside, clamped-chosen, clamped-found, clamped-ready, front-part, index-part, inserted-part, last-part, long-is, minimum-part, operands-within, stays-found, within}
use Rattle.naga_bounds.proofs.RestrictedLemmas.{get-left, get-right}

-- ---- ranges and tests

pub range-append : (a m k : ℕ) → range_with_len a (m + k) ≡ range_with_len a m ++ range_with_len (a + m) k
range-append a zero k =
    let left : 0 + k ≡ k = omega arith in
    let right : a + 0 ≡ a = omega arith in
    ap (range_with_len a) left ∙ ap (λ b. range_with_len b k) (sym right)
range-append a (suc m) k =
    let left : suc m + k ≡ suc (m + k) = omega arith in
    let right : (a + 1) + m ≡ a + suc m = omega arith in
    ap (range_with_len a) left ∙ ap (λ rest. a ∷ rest) (range-append (a + 1) m k ∙ ap (λ b. range_with_len (a + 1) m ++ range_with_len b k) right)

pub is_below-form : (p q : Option ℕ) → is_below p q ≡ true → (m : ℕ) × (count : ℕ) × (p ≡ Some m) × (q ≡ Some count) × (m < count)
is_below-form (Some m) (Some count) h = (m, count, refl, refl, (let t : nat_lt m count ≡ true = h in grind (arith, nat_tests)))
is_below-form (Some m) None h = absurd (let e : false ≡ true = h in cc)
is_below-form None q h = absurd (let e : false ≡ true = h in cc)

below-suc : (m count : ℕ) → m < count → (last : ℕ) × (count ≡ suc last) × (m ≤ last)
below-suc m zero h = absurd (omega (arith, h))
below-suc m (suc last) h = (last, refl, omega (arith, h))

-- the state is the same, and so are the values before this handle
pub record Keeps {Value State : Type 0} (h : ℕ) (b b' : World Value State) : Type 0 where
  pub state : b'.state ≡ b.state
  pub values : (q : ℕ) → q < h → b'.values q ≡ b.values q

keeps-itself : {Value State : Type 0} (h : ℕ) (b : World Value State) → Keeps h b b
keeps-itself h b = record { state = refl; values = λ q less. refl }

keeps-put : {Value State : Type 0} (h p : ℕ) (v : Value) (b : World Value State) → h ≤ p → Keeps h b (put p v b)
keeps-put h p v b past = record { state = refl; values = λ q less. ap (λ t. if t then v else b.values q) (eq-no q p (λ e. omega (arith, e, less, past))) }

put-here : {Value State : Type 0} (p : ℕ) (v : Value) (b : World Value State) → (put p v b).values p ≡ v
put-here p v b = ap (λ t. if t then v else b.values p) (eq-yes p p refl)

module _ {Thing Value State : Type 0} (look : Reference → Thing) (by : Meanings Thing Value State) (number unsigned_number : Value → Option ℕ)
    (counts : ℕ → Bool) (code code' : Typed) (changes : List Change) (planned : AreChanges counts code changes)
    (precede : OperandsPrecede code.arena) (arena_is : code'.arena ≡ made changes code.arena planned.all) (types_are : code'.types ≡ code.types)
    (contents_are : (x : ℕ) → x < length code.arena → contents_at code' (new_of changes x) ≡ contents_at code x) where
  abbrev pub f : ℕ → ℕ
  f = new_of changes

  abbrev pub r : Renaming
  r = moving changes

  abbrev pub n : ℕ
  n = length code.arena

  abbrev pub Old : ℕ → Option Expression
  Old = expression_at code

  abbrev pub New : ℕ → Option Expression
  New = expression_at code'

  abbrev pub c : Code (Option (ExpressionForm × List (Option Thing)))
  c = code_of look (at_use code) code.arena

  abbrev pub c' : Code (Option (ExpressionForm × List (Option Thing)))
  c' = code_of look (at_use code') code'.arena

  -- ---- what stays

  name-same : (name : Reference) → looked_up look (rename_reference r name) ≡ looked_up look name
  name-same (reference.Expression handle) = refl
  name-same _ = refl

  pub names-same : (names : List Reference) → map (looked_up look) (map (rename_reference r) names) ≡ map (looked_up look) names
  names-same [] = refl
  names-same (name ∷ names) = λ i. name-same name i ∷ names-same names i

  shape-same : (e : Expression) → shape_of look (rename_expression r e) ≡ shape_of look e
  shape-same e = λ i. (expression_form-renamed r e i, (ap (map (looked_up look)) (references_of_expression-renamed r e) ∙ names-same (references_of_expression e)) i)

  pub stays-same : (x : ℕ) (e : Expression) → Old x ≡ Some e → New (f x) ≡ Some (rename_expression r e) → IsSame by n f c c' x
  stays-same x e found found' = (
    (λ i. option_map (shape_of look) (found' i)) ∙ ap Some (shape-same e) ∙ sym (ap (option_map (shape_of look)) found),
    ap operands_found found' ∙ operands_of-renamed r e ∙ sym (ap (λ v. map f (operands_found v)) found),
  )

  -- ---- the codes

  clamped-stored : (x : ℕ) (e : Expression) (clamp : Clamp) → Old x ≡ Some e → IsClamped counts code e clamp → at_use code x ≡ false
  clamped-stored x e clamp found is =
      constant_chains_in-last (is_fixed_access code) code.arena x (ap ready_in found ∙ clamped-ready counts code code' changes planned precede arena_is types_are contents_are e clamp is)
      (clamped-chosen counts code code' changes planned precede arena_is types_are contents_are x e clamp found is)

  same-at_use : (x : ℕ) → x < n → at_use code x ≡ true → IsSame by n f c c' x
  same-at_use x inside so =
      let e = (value-there code.arena x inside).0 in
      let found = (value-there code.arena x inside).1 in
      elim (changed-as counts code changes planned x e found) [
        | inl stays ↦ stays-same x e found (stays-found counts code code' changes planned precede arena_is types_are contents_are x e found stays.0)
        | inr clamped ↦ absurd (let clash : true ≡ false = sym so ∙ clamped-stored x e clamped.0 found clamped.2 in cc)
      ]

  pub moves : MovesCode by n f c c'
  moves = record {
    grows = λ x y so so' before. (let less = inside-less by n f c c' y so' in let same = planned.all in new-grows changes x y before (omega (arith, less, same)));
    distinct = λ x y so so' equal.
        (let less = inside-less by n f c c' x so in let less' = inside-less by n f c c' y so' in let same = planned.all in new-distinct changes x y (omega (arith, less, same)) (omega (arith, less', same)) equal);
    at_use = λ x so. at_use-kept counts code code' changes planned precede arena_is types_are contents_are x (inside-less by n f c c' x so);
    before = λ x so. operands-before code.arena precede x;
    same = λ x so is. same-at_use x (inside-less by n f c c' x so) is;
  }

  -- ---- values of the new expressions

  none : (t : Bool) (e : Expression) → constant_base_of e ≡ None → (if t then constant_base_of e else None) ≡ None
  none true e h = h
  none false e h = refl

  stored : (p : ℕ) (e : Expression) (b : World Value State) → New p ≡ Some e → needs_pre_emit e ≡ false → constant_base_of e ≡ None → value by c' b p ≡ b.values p
  stored p e b found other no_base =
      let not_used : at_use code' p ≡ false =
      constant_chains_in-last (is_fixed_access code') code'.arena p (ap ready_in found ∙ other)
      ((λ i. if is_fixed_access code' p then (found i >>= constant_base_of) else None) ∙ none (is_fixed_access code' p) e no_base)
      in
      λ i. if not_used i then by.compute (c'.shape p) (map (value_within by c' p b) (c'.operands p)) b.state else b.values p

  ready : (p : ℕ) (e : Expression) (b : World Value State) → New p ≡ Some e → needs_pre_emit e ≡ true → operands_of e ≡ [] → value by c' b p ≡ applied look by e [] b.state
  ready p e b found so no_operands =
      let used : at_use code' p ≡ true = constant_chains_in-ready (is_fixed_access code') code'.arena p (ap ready_in found ∙ so) in
      (λ i. if used i then by.compute (c'.shape p) (map (value_within by c' p b) (c'.operands p)) b.state else b.values p)
      ∙ (λ i. by.compute (option_map (shape_of look) (found i)) (map (value_within by c' p b) (operands_found (found i))) b.state)
      ∙ (λ i. by.compute (Some (shape_of look e)) (map (value_within by c' p b) (no_operands i)) b.state)

  emitted : (p : ℕ) (e : Expression) (b : World Value State) → New p ≡ Some e → emitted_value by c' b p ≡ by.compute (Some (shape_of look e)) (map (value by c' b) (operands_of e)) b.state
  emitted p e b found = λ i. by.compute (option_map (shape_of look) (found i)) (map (value by c' b) (operands_found (found i))) b.state

  pub emit-append : (xs ys : List ℕ) (b : World Value State) → emit by c' (xs ++ ys) b ≡ emit by c' ys (emit by c' xs b)
  emit-append [] ys b = refl
  emit-append (x ∷ xs) ys b = emit-append xs ys (put x (emitted_value by c' b x) b)

  module _ (IsSize : ℕ → Type 0) (sizes : (base handle : ℕ) → length_at code base ≡ Some (Overridden handle) → IsSize handle)
      (respects : RespectsIndices look by number unsigned_number) (clamps : RespectsClamps look by number unsigned_number)
      (has : HasElements look by number IsSize) (short : HaveShortLengths look by number IsSize)
      (x : ℕ) (e : Expression) (clamp : Clamp) (found : Old x ≡ Some e) (at : slice_get changes x ≡ Some (Clamped clamp)) (is : IsClamped counts code e clamp)
      (a : World Value State) where
    abbrev front : ℕ
    front = front_at changes code.arena planned.all x

    abbrev here : ℕ
    here = start_of changes x

    abbrev lf : ℕ
    lf = front + length (front_of_index clamp.index)

    abbrev last_at : Length → List Expression
    last_at long = last_index r long clamp.base lf here

    abbrev last_len : ℕ
    last_len = length (last_at clamp.length)

    abbrev converts : ℕ
    converts = length (conversion r clamp.index)

    -- the value that the index has, as a number
    abbrev OperandIs : ClampedIndex → ℕ → Type 0
    OperandIs (clamped_index.Constant k) m = k ≡ m
    OperandIs (clamped_index.Unsigned i) m = (number (value by c a i) ≡ Some m) × (i < n)
    OperandIs (clamped_index.Converted i) m = (number (value by c a i) ≡ Some m) × (i < n)

    -- the access is in bounds
    pub record IsBound : Type 0 where
      pub m : ℕ
      pub last : ℕ
      pub operand_is : OperandIs clamp.index m
      pub counted : count look by number code clamp.length (value by c a clamp.base) a.state ≡ Some (suc last)
      pub is_least : m ≤ last
      pub old : (v : Value) → number v ≡ Some m → emitted_value by c a x ≡ element look by (value by c a clamp.base) v a.state

    length-is : length_at code clamp.base ≡ Some clamp.length
    length-is = go (contents_at code clamp.base) refl (long-is counts code code' changes planned precede arena_is types_are contents_are x e clamp found at is)
      where
        go : (contents : Option TypeInner) → contents_at code clamp.base ≡ contents → length_found code (contents_at code clamp.base) ≡ Ok clamp.length → length_at code clamp.base ≡ Some clamp.length
        go None known h = absurd (let e = sym (ap (length_found code) known) ∙ h in cc)
        go (Some contents) known h =
            ap (λ v. v >>= length_reached (inner_at code.types)) known ∙ found-length (length_reached (inner_at code.types) contents) clamp.length (sym (ap (length_found code) known) ∙ h)

    abbrev counted_at : ℕ → Option ℕ
    counted_at base = count_at look by number code a base (length_at code base)

    bound-form : (base : ℕ) (p : Option ℕ) → clamp.base ≡ base → (is_below p (counted_at base) && true) ≡ true
        → (m : ℕ) × (last : ℕ) × (p ≡ Some m) × (count look by number code clamp.length (value by c a clamp.base) a.state ≡ Some (suc last)) × (m ≤ last)
    bound-form base p same h =
        let form = is_below-form p (counted_at base) (both (is_below p (counted_at base)) true h).0 in
        let next = below-suc form.0 form.1 form.4 in
        let known : counted_at clamp.base ≡ Some (suc next.0) = ap counted_at same ∙ form.3 ∙ ap Some next.1 in
        (form.0, next.0, form.2, sym (ap (count_at look by number code a clamp.base) length-is) ∙ known, next.2)

    unsigned-or : (t : Bool) (i m : ℕ) → (number (value by c a i) ≡ Some m) × (i < n) → OperandIs (if t then clamped_index.Unsigned i else clamped_index.Converted i) m
    unsigned-or true i m h = h
    unsigned-or false i m h = h

    -- the element that a computed index chooses is that of the constant one
    constant-element : (base k : ℕ) (v : Value) (last : ℕ) → IsClampOf counts code clamp base (Constant k) → number v ≡ Some k →
        count look by number code clamp.length (value by c a clamp.base) a.state ≡ Some (suc last) → k ≤ last → element look by (value by c a base) v a.state ≡ element_at look by (value by c a base) k a.state
    constant-element base k v last clamp_of is counted below = go clamp.length refl counted
      where
        go : (long : Length) → clamp.length ≡ long → count look by number code long (value by c a clamp.base) a.state ≡ Some (suc last) → element look by (value by c a base) v a.state ≡ element_at look by (value by c a base) k a.state
        go (Fixed n) of_length so = absurd (let decided : true ≡ false = sym (ap (λ long. is_decided code long (Constant k)) of_length) ∙ clamp_of.undecided in cc)
        go Counted of_length so =
            clamps.counted_elements (value by c a base) v k (suc last) a.state is (ap (λ z. number (array_length look by (value by c a z) a.state)) (sym clamp_of.at_base) ∙ so) (omega (arith, below))
        go (Overridden handle) of_length so = clamps.overridden_elements (value by c a base) v handle k (suc last) a.state is so (omega (arith, below))

    pub bound : is_in_bounds look by number code a x ≡ true → IsBound
    bound in_bounds = go is
      where
        go : IsClamped counts code e clamp → IsBound
        go (computed base index form clamp_of) =
            let here' : Old x ≡ Some (expr.Access base index) = found ∙ ap Some form in
            let within_base = operands-within counts code code' changes planned precede arena_is types_are contents_are x (expr.Access base index) here' in
            let below = within counts code code' changes planned precede arena_is types_are contents_are x e found in
            let less : index < n = (let before : index < x = within_base.1.0 in omega (arith, before, below)) in
            let b = bound-form base (number (value by c a index)) clamp_of.at_base (sym (ap (λ v. is_there look by number code a (v >>= reach_of)) here') ∙ in_bounds) in
            record {
              m = b.0;
              last = b.1;
              operand_is = subst (λ it. OperandIs it b.0) (sym clamp_of.index) (unsigned-or (is_u32 (contents_at code index)) index b.0 (b.2, less));
              counted = b.3;
              is_least = b.4;
              old = λ v h.
                  (λ i. by.compute (option_map (shape_of look) (here' i)) (map (value by c a) (operands_found (here' i))) a.state)
                  ∙ clamps.elements (value by c a base) (value by c a index) v b.0 a.state b.2 h
                  ∙ ap (λ z. element look by (value by c a z) v a.state) (sym clamp_of.at_base);
            }
        go (constant base k form clamp_of) =
            let here' : Old x ≡ Some (expr.AccessIndex base k) = found ∙ ap Some form in
            let b = bound-form base (Some k) clamp_of.at_base (sym (ap (λ v. is_there look by number code a (v >>= reach_of)) here') ∙ in_bounds) in
            let same : k ≡ b.0 = (let e : Some k ≡ Some b.0 = b.2 in cc) in
            record {
              m = b.0;
              last = b.1;
              operand_is = subst (λ it. OperandIs it b.0) (sym clamp_of.index) same;
              counted = b.3;
              is_least = b.4;
              old = λ v h.
                  (λ i. by.compute (option_map (shape_of look) (here' i)) (map (value by c a) (operands_found (here' i))) a.state)
                  ∙ sym (constant-element base k v b.1 clamp_of (h ∙ ap Some (sym same)) b.3 (subst (λ index. index ≤ b.1) (sym same) b.4))
                  ∙ ap (λ z. element look by (value by c a z) v a.state) (sym clamp_of.at_base);
            }

    -- ---- where the group ends

    room : f x ≡ here + (last_len + converts + 1)
    room =
        let whole = new-is changes code.arena planned.all x (Clamped clamp) e at found in
        let pushed = length_push (operands r clamp front here) (minimum r clamp front here) in
        let parts = length-append (last_at clamp.length) (conversion r clamp.index) in
        omega (arith, whole, pushed, parts)

    not-new : (p : ℕ) → here ≤ p → p < f x → (y : ℕ) → Inside by n f c c' y → f y ≡ p → ⊥
    not-new p past less y so same = elim (cases_lt y x) [
      | inl before ↦
          let below = within counts code code' changes planned precede arena_is types_are contents_are x e found in
          let all = planned.all in
          let next = new-next changes y (omega (arith, before, below, all)) in
          let rises = start-rises changes (y + 1) x (omega (arith, before)) (omega (arith, below, all)) in
          omega (arith, next, rises, past, same)
      | inr behind ↦ elim (cases_lt x y) [
        | inl after ↦
            let inside = inside-less by n f c c' y so in
            let all = planned.all in
            let grows = new-grows changes x y after (omega (arith, inside, all)) in
            omega (arith, grows, less, same)
        | inr also ↦
            let equal : y ≡ x = omega (arith, behind, also) in
            let ends : f y ≡ f x = ap f equal in
            omega (arith, ends, less, same)
      ]
    ]

    module _ (bounds : IsBound) where
      abbrev m : ℕ
      m = bounds.m

      abbrev last : ℕ
      last = bounds.last

      last-short : last ≤ max_len
      last-short = go clamp.length refl bounds.counted
        where
          told : (count : ℕ) → clamp.length ≡ Fixed count → count ≤ max_len
          told count known = go is
            where
              le : nat_le count max_len ≡ true → count ≤ max_len
              le t = grind (arith, nat_tests)

              go : IsClamped counts code e clamp → count ≤ max_len
              go (computed base index form clamp_of) = le (sym (ap (λ long. is_told counts code long base) known) ∙ clamp_of.told)
              go (constant base k form clamp_of) = le (sym (ap (λ long. is_told counts code long base) known) ∙ clamp_of.told)

          go : (long : Length) → clamp.length ≡ long → count look by number code clamp.length (value by c a clamp.base) a.state ≡ Some (suc last) → last ≤ max_len
          go (Fixed count') known h =
              let same : count' ≡ suc last = (let e : Some count' ≡ Some (suc last) = sym (ap (λ long. count look by number code long (value by c a clamp.base) a.state) known) ∙ h in cc) in
              let small = told count' known in
              omega (arith, same, small)
          go (Overridden handle) known h =
              short.overridden handle last a.state (sizes clamp.base handle (length-is ∙ ap Some known)) (sym (ap (λ long. count look by number code long (value by c a clamp.base) a.state) known) ∙ h)
          go Counted known h = short.counted (value by c a clamp.base) last a.state (sym (ap (λ long. count look by number code long (value by c a clamp.base) a.state) known) ∙ h)

      -- ---- the last index

      record LimitReady (limit_at past : ℕ) (b : World Value State) : Type 0 where
        pub moved : Moved by n f c c' a b
        pub gives : (b' : World Value State) → Keeps past b b' → unsigned_number (value by c' b' limit_at) ≡ Some last

      one-is : (b : World Value State) → unsigned_number (literal_value look by (U32 1) b.state) ≡ Some 1
      one-is b = respects.unsigned_literals 1 b.state

      front-literal : (p k : ℕ) (b : World Value State) → New p ≡ Some (expr.Literal (U32 k)) → value by c' b p ≡ literal_value look by (U32 k) b.state
      front-literal p k b there = ready p (expr.Literal (U32 k)) b there refl refl

      part-at : (long : Length) → clamp.length ≡ long → (k p : ℕ) (part : Expression) → p ≡ lf + k → slice_get (front_of_length long) k ≡ Some part → New p ≡ Some part
      part-at long known k p part place there =
          front-part counts code code' changes planned precede arena_is types_are contents_are x e clamp found at is k p part place (ap (λ long. slice_get (front_of_length long) k) known ∙ there)

      last-at : (long : Length) → clamp.length ≡ long → (k p : ℕ) (part : Expression) → p ≡ here + k → slice_get (last_at long) k ≡ Some part → New p ≡ Some part
      last-at long known k p part place there =
          last-part counts code code' changes planned precede arena_is types_are contents_are x e clamp found at is k p part place (ap (λ long. slice_get (last_at long) k) known ∙ there)

      counted-at : (long : Length) → clamp.length ≡ long → count look by number code long (value by c a clamp.base) a.state ≡ Some (suc last)
      counted-at long known = sym (ap (λ long. count look by number code long (value by c a clamp.base) a.state) known) ∙ bounds.counted

      -- the difference of the length and 1, which is evaluated here
      difference-ready : (p left : ℕ) (b : World Value State) → here ≤ p → p < f x → New p ≡ Some (expr.Binary Subtract left lf) → New lf ≡ Some (expr.Literal (U32 1)) →
          number (value by c' b left) ≡ Some (suc last) → Moved by n f c c' a b → LimitReady p (p + 1) (emit by c' (p ∷ []) b)
      difference-ready p left b past less there one is_long moved =
          let v : Value = emitted_value by c' b p in
          let given : unsigned_number v ≡ Some last =
          ap unsigned_number (emitted p (expr.Binary Subtract left lf) b there ∙ (λ i. difference look by (value by c' b left) (front-literal lf 1 b one i) b.state))
          ∙ respects.lessened (value by c' b left) (literal_value look by (U32 1) b.state) last b.state is_long (one-is b)
          in
          record {
            moved = put-inserted by n f c c' moves p v a b moved (not-new p past less);
            gives = λ b' keeps.
                ap unsigned_number (stored p (expr.Binary Subtract left lf) b' there refl refl ∙ keeps.values p (omega arith) ∙ put-here p v b) ∙ given;
          }

      limit-ready : (long : Length) → clamp.length ≡ long → (b : World Value State) → Moved by n f c c' a b →
          LimitReady (limit r long lf here) (here + length (last_at long)) (emit by c' (range_with_len here (length (last_at long))) b)
      limit-ready (Fixed count') known b moved =
          let same : count' ≡ suc last = (let e : Some count' ≡ Some (suc last) = counted-at (Fixed count') known in cc) in
          let less_one : count' - 1 ≡ last = omega (arith, same) in
          record {
            moved = moved;
            gives = λ b' keeps.
                ap unsigned_number (front-literal lf (count' - 1) b' (part-at (Fixed count') known 0 lf (expr.Literal (U32 (count' - 1))) (omega arith) refl))
                ∙ respects.unsigned_literals (count' - 1) b'.state ∙ ap Some less_one;
          }
      limit-ready (Overridden handle) known b moved =
          let size : value by c' b (lf + 1) ≡ override_value look by handle b.state = ready (lf + 1) (expr.Override handle) b (part-at (Overridden handle) known 1 (lf + 1) (expr.Override handle) refl refl) refl refl in
          difference-ready here (lf + 1) b (omega arith) (let all = room in omega (arith, all))
          (last-at (Overridden handle) known 0 here (expr.Binary Subtract (lf + 1) lf) (omega arith) refl)
          (part-at (Overridden handle) known 0 lf (expr.Literal (U32 1)) (omega arith) refl)
          (ap number size ∙ (λ i. number (override_value look by handle (moved.state i))) ∙ counted-at (Overridden handle) known) moved
      limit-ready Counted known b moved =
          let base_less = base-inside counts code code' changes planned precede arena_is types_are contents_are x e clamp found at is in
          let long_two : last_len ≡ 2 = ap (λ long. length (last_at long)) known in
          let all = room in
          let there : New here ≡ Some (expr.ArrayLength (f clamp.base)) = last-at Counted known 0 here (expr.ArrayLength (f clamp.base)) (omega arith) refl in
          let v : Value = emitted_value by c' b here in
          let v_is : v ≡ array_length look by (value by c a clamp.base) a.state =
          emitted here (expr.ArrayLength (f clamp.base)) b there
          ∙ (λ i. array_length look by (value-moved by n f c c' moves clamp.base a b moved (less-inside by n f c c' clamp.base base_less) i) (moved.state i))
          in
          let moved' = put-inserted by n f c c' moves here v a b moved (not-new here (omega arith) (omega (arith, all))) in
          let twice : (here + 1) + 1 ≡ here + 2 = omega arith in
          subst (λ past. LimitReady (here + 1) past (emit by c' (here ∷ (here + 1) ∷ []) b)) twice
          (difference-ready (here + 1) here (put here v b) (omega arith) (omega (arith, all, long_two))
          (last-at Counted known 1 (here + 1) (expr.Binary Subtract here lf) refl refl)
          (part-at Counted known 0 lf (expr.Literal (U32 1)) (omega arith) refl)
          (ap number (stored here (expr.ArrayLength (f clamp.base)) (put here v b) there refl refl ∙ put-here here v b ∙ v_is) ∙ counted-at Counted known) moved')

      -- ---- the index

      record OperandReady (operand_at past : ℕ) (b b' : World Value State) : Type 0 where
        pub moved : Moved by n f c c' a b'
        pub keeps : Keeps (here + last_len) b b'
        pub gives : (w : World Value State) → Moved by n f c c' a w → Keeps past b' w → number (value by c' w operand_at) ≡ Some m

      abbrev middle : ℕ
      middle = here + last_len

      operand-ready : (index : ClampedIndex) → clamp.index ≡ index → OperandIs index m → (b : World Value State) → Moved by n f c c' a b →
          OperandReady (operand r index front middle) (middle + length (conversion r index)) b (emit by c' (range_with_len middle (length (conversion r index))) b)
      operand-ready (clamped_index.Constant k) known is_m b moved = record {
        moved = moved;
        keeps = keeps-itself middle b;
        gives = λ w moved' keeps.
            (let place : front + 0 ≡ front = omega arith in
            let there : New front ≡ Some (expr.Literal (U32 k)) =
            ap New (sym place)
            ∙ index-part counts code code' changes planned precede arena_is types_are contents_are x e clamp found at is 0 (expr.Literal (U32 k)) (ap (λ index. slice_get (front_of_index index) 0) known)
            in
            ap number (front-literal front k w there) ∙ respects.literals (U32 k) k w.state refl ∙ ap Some is_m);
      }
      operand-ready (clamped_index.Unsigned i) known is_m b moved = record {
        moved = moved;
        keeps = keeps-itself middle b;
        gives = λ w moved' keeps. ap number (value-moved by n f c c' moves i a w moved' (less-inside by n f c c' i is_m.1)) ∙ is_m.0;
      }
      operand-ready (clamped_index.Converted i) known is_m b moved =
          let one : converts ≡ 1 = ap (λ index. length (conversion r index)) known in
          let all = room in
          let there : New middle ≡ Some (expr.As (f i) Uint (Some 4)) =
          inserted-part counts code code' changes planned precede arena_is types_are contents_are x e clamp found at is last_len middle (expr.As (f i) Uint (Some 4)) refl
          (get-left (operands r clamp front here) (minimum r clamp front here ∷ []) last_len (expr.As (f i) Uint (Some 4))
          (get-right (last_at clamp.length) (conversion r clamp.index) 0 last_len (omega arith) ∙ ap (λ index. slice_get (conversion r index) 0) known))
          in
          let v : Value = emitted_value by c' b middle in
          let below : m ≤ max_len = (let short_one = last-short in let least_one = bounds.is_least in omega (arith, short_one, least_one)) in
          let given : number v ≡ Some m =
          ap number (emitted middle (expr.As (f i) Uint (Some 4)) b there ∙ (λ j. unsigned look by (value-moved by n f c c' moves i a b moved (less-inside by n f c c' i is_m.1) j) b.state))
          ∙ clamps.converted (value by c a i) m b.state is_m.0 below
          in
          record {
            moved = put-inserted by n f c c' moves middle v a b moved (not-new middle (omega arith) (omega (arith, all, one)));
            keeps = keeps-put middle middle v b (omega arith);
            gives = λ w moved' keeps. ap number (stored middle (expr.As (f i) Uint (Some 4)) w there refl refl ∙ keeps.values middle (omega arith) ∙ put-here middle v b) ∙ given;
          }

      -- ---- the whole group

      abbrev last_at_minimum : ℕ
      last_at_minimum = middle + converts

      group-list : length (inserted r (Clamped clamp) front here) ≡ last_len + (converts + 1)
      group-list =
          let pushed = length_push (operands r clamp front here) (minimum r clamp front here) in
          let parts = length-append (last_at clamp.length) (conversion r clamp.index) in
          omega (arith, pushed, parts)

      abbrev group-emitted : World Value State → World Value State
      group-emitted b = emit by c' (range_with_len here (length (inserted r (Clamped clamp) front here))) b

      -- evaluating what is inserted changes no value that there was, and gives the access its old value
      pub group-fits : (b : World Value State) → Moved by n f c c' a b → Moved by n f c c' a (group-emitted b) × (emitted_value by c' (group-emitted b) (f x) ≡ emitted_value by c a x)
      group-fits b moved = subst (λ w. Moved by n f c c' a w × (emitted_value by c' w (f x) ≡ emitted_value by c a x)) (sym whole) (moved3, access_is)
        where
          b1 : World Value State
          b1 = emit by c' (range_with_len here last_len) b

          limit_is : LimitReady (limit r clamp.length lf here) (here + last_len) b1
          limit_is = limit-ready clamp.length refl b moved

          b2 : World Value State
          b2 = emit by c' (range_with_len middle converts) b1

          operand_is : OperandReady (operand r clamp.index front middle) (middle + converts) b1 b2
          operand_is = operand-ready clamp.index refl bounds.operand_is b1 limit_is.moved

          v : Value
          v = emitted_value by c' b2 last_at_minimum

          b3 : World Value State
          b3 = put last_at_minimum v b2

          whole : group-emitted b ≡ b3
          whole =
              ap (λ k. emit by c' (range_with_len here k) b) group-list
              ∙ ap (λ xs. emit by c' xs b) (range-append here last_len (converts + 1))
              ∙ emit-append (range_with_len here last_len) (range_with_len middle (converts + 1)) b
              ∙ ap (λ xs. emit by c' xs b1) (range-append middle converts 1)
              ∙ emit-append (range_with_len middle converts) (last_at_minimum ∷ []) b1

          operands_long : length (operands r clamp front here) ≡ last_len + converts
          operands_long = length-append (last_at clamp.length) (conversion r clamp.index)

          minimum_at : here + length (operands r clamp front here) ≡ last_at_minimum
          minimum_at = let parts = operands_long in omega (arith, parts)

          there : New last_at_minimum ≡ Some (minimum r clamp front here)
          there = ap New (sym minimum_at) ∙ minimum-part counts code code' changes planned precede arena_is types_are contents_are x e clamp found at is

          number_is : number v ≡ Some m
          number_is =
              ap number (emitted last_at_minimum (minimum r clamp front here) b2 there)
              ∙ clamps.minima (value by c' b2 (operand r clamp.index front middle)) (value by c' b2 (limit r clamp.length lf here)) m last b2.state
              (operand_is.gives b2 operand_is.moved (keeps-itself (middle + converts) b2)) (limit_is.gives b2 operand_is.keeps) bounds.is_least

          moved3 : Moved by n f c c' a b3
          moved3 = put-inserted by n f c c' moves last_at_minimum v a b2 operand_is.moved (not-new last_at_minimum (omega arith) (let all = room in omega (arith, all)))

          access_at : New (f x) ≡ Some (expr.Access (f clamp.base) (here + length (operands r clamp front here)))
          access_at = clamped-found counts code code' changes planned precede arena_is types_are contents_are x e clamp found at

          base_less : clamp.base < n
          base_less = base-inside counts code code' changes planned precede arena_is types_are contents_are x e clamp found at is

          minimum_is : value by c' b3 (here + length (operands r clamp front here)) ≡ v
          minimum_is = ap (value by c' b3) minimum_at ∙ stored last_at_minimum (minimum r clamp front here) b3 there refl refl ∙ put-here last_at_minimum v b2

          access_is : emitted_value by c' b3 (f x) ≡ emitted_value by c a x
          access_is =
              emitted (f x) (expr.Access (f clamp.base) (here + length (operands r clamp front here))) b3 access_at
              ∙ (λ i. element look by (value-moved by n f c c' moves clamp.base a b3 moved3 (less-inside by n f c c' clamp.base base_less) i) (minimum_is i) (moved3.state i))
              ∙ sym (bounds.old v number_is)
