-- Each expression keeps its type where accesses are clamped, and what is inserted has a type.
use Rattle.std.proofs.Common.{◌≡◌, ◌∙◌, ◌+◌, ◌<◌, ap, arith, length, refl, subst, sym, inl, inr, ℕ, zero, suc, Bool, true, false, List, [], ◌∷◌, ◌++◌, Option, Some, None, Ok}
use Rattle.std.proofs.lemmas.Bool.Decides.{nat_tests}
use Rattle.std.proofs.lemmas.Option.{none-some}
use Rattle.std.specs.List.{slice_get}
use Rattle.std.specs.Option.{option_map}
use Rattle.std.specs.Prelude.{nat_eq, option_and_then}
use Rattle.naga_arena.specs.Arena.{value_at, values}
use Rattle.naga_arena.specs.declared.span.Span.{Span}
use Rattle.naga_kinds.specs.Scalar.{components_of}
use Rattle.naga_kinds.specs.declared.math.MathFunction.TheVariants.{Min}
use Rattle.naga_kinds.specs.declared.operator.BinaryOperator.TheVariants.{Subtract}
use Rattle.naga_kinds.specs.declared.scalar.Scalar.{Scalar}
use Rattle.naga_kinds.specs.declared.scalar.ScalarKind.{ScalarKind}
use Rattle.naga_kinds.specs.declared.scalar.ScalarKind.TheVariants as kind
use Rattle.naga_ir.specs.declared.expression.Expression.{Expression}
use Rattle.naga_ir.specs.declared.expression.Expression.TheVariants as expr
use Rattle.naga_ir.specs.declared.expression.ImageQuery as query
use Rattle.naga_ir.specs.declared.module.Function as function
use Rattle.naga_ir.specs.declared.module.Module as the_module
use Rattle.naga_ir.specs.declared.expression.ImageQuery.TheVariants.{Size}
use Rattle.naga_ir.specs.declared.types.TypeInner.{TypeInner}
use Rattle.naga_ir.specs.declared.types.TypeInner.TheVariants as inner
use Rattle.naga_compact.specs.Operands.{OperandsPrecede}
use Rattle.naga_compact.specs.Renaming.{of_expressions}
use Rattle.naga_compact.specs.derived.Renaming.{rename_expression, rename_image_query}
use Rattle.naga_typifier.specs.Context.{Context, context_in, inner_of}
use Rattle.naga_typifier.specs.Rows.{◌>>=◌, accessed, cast, copied, mapped, part_of, pointer_to}
use Rattle.naga_typifier.specs.Rules.{rule_of_query}
use Rattle.naga_typifier.specs.Table.{the, type_by, type_of}
use Rattle.naga_typifier.specs.Typing.{typing}
use Rattle.naga_typifier.specs.declared.resolution.TypeResolution.{TypeResolution}
use Rattle.naga_typifier.specs.declared.resolution.TypeResolution.TheVariants as resolution
use Rattle.naga_typifier.specs.Inner.{parts_of}
use Rattle.naga_typifier.specs.Math as math
use Rattle.naga_typing.specs.Arenas.{AreTypes}
use Rattle.naga_typing.proofs.AreTypesLemmas.{AreTypes-exist, Depends-found, Precede-of, types_of}
use Rattle.naga_typing.proofs.DependsLemmas.{type_of-moved}
use Rattle.naga_typing.proofs.TypingLemmas.{typing-all, typing-some, typing-types}
use Rattle.naga_bounds.specs.Changes.{AreChanges, is_decided, is_integer, is_told, is_u32, is_uint}
use Rattle.naga_bounds.specs.Fits.{length_found}
use Rattle.naga_bounds.specs.Modules.{typed_in}
use Rattle.naga_bounds.specs.Reach.{Typed, contents_at, expression_at, length_behind, length_of, length_reached}
use Rattle.naga_bounds.specs.Restricted.{changed, conversion, front_of, front_of_index, front_of_length, last_index, limit, literal, minimum, moving, new_of, operand, start_of}
use Rattle.naga_bounds.specs.RestrictedModules.{IsTyped, counts_in}
use Rattle.naga_bounds.specs.declared.cause.Position.TheVariants as position
use Rattle.naga_bounds.specs.declared.change.Change.{Change}
use Rattle.naga_bounds.specs.declared.change.Change.TheVariants.{Stays, Clamped}
use Rattle.naga_bounds.specs.declared.change.Clamp.{Clamp}
use Rattle.naga_bounds.specs.declared.change.ClampedIndex.{ClampedIndex}
use Rattle.naga_bounds.specs.declared.change.ClampedIndex.TheVariants.{Constant, Unsigned, Converted}
use Rattle.naga_bounds.specs.declared.length.Length.{Length}
use Rattle.naga_bounds.specs.declared.length.Length.TheVariants.{Fixed, Overridden, Counted}
use Rattle.naga_bounds.proofs.ClampOfLemmas.{IsClamped, changed-as, computed, constant, length-told}
use Rattle.naga_bounds.proofs.IsTypedLemmas.{bound-some, found-length}
use Rattle.naga_bounds.proofs.MadeLemmas.{made-is}
use Rattle.naga_bounds.proofs.MadePrecedesLemmas.{HoldsOfIndex, HoldsOfIndex-if, each-at, made-precedes, operand-before}
use Rattle.naga_bounds.proofs.NewHandlesLemmas.{front-found, front_at, group-found, made, new-found, value-there, value-within}
use Rattle.naga_bounds.proofs.RestrictedFitsLemmas.{EachIs, each-joined}
use Rattle.naga_bounds.proofs.RestrictedLemmas.{get-left, get-right, in_group}

-- ---- an access by a computed index in place of one by a constant index

module _ (ctx : Context) (code : Typed) (number : ℕ) where
  fixed-decided : {A : Type 0} (found : Option ℕ) (long : Length) → option_map Fixed found ≡ Some long → is_decided code long (position.Constant number) ≡ false → A
  fixed-decided None long is undecided = absurd (cc)
  fixed-decided (Some count) long is undecided =
      let same : Fixed count ≡ long = cc in
      absurd (let decided : true ≡ false = ap (λ l. is_decided code l (position.Constant number)) same ∙ undecided in cc)

  part-alike : (contents : TypeInner) (long : Length) → length_of contents ≡ Some long → is_decided code long (position.Constant number) ≡ false
      → part_of None contents ≡ part_of (Some number) contents
  part-alike (inner.Array base size stride) long is undecided = refl
  part-alike (inner.BindingArray base size) long is undecided = refl
  part-alike contents long is undecided = fixed-decided (parts_of contents) long is undecided

  behind-alike : (contents : TypeInner) (long : Length) → length_behind contents ≡ Some long → is_decided code long (position.Constant number) ≡ false
      → part_of None contents ≡ part_of (Some number) contents
  behind-alike (inner.Array base size stride) long is undecided = refl
  behind-alike contents long is undecided = part-alike contents long is undecided

  accessed-alike : (contents : TypeInner) (long : Length) → length_reached ctx.types contents ≡ Some long → is_decided code long (position.Constant number) ≡ false
      → accessed ctx None contents ≡ accessed ctx (Some number) contents
  accessed-alike (inner.Pointer base space) long is undecided =
      let pointed = bound-some (ctx.types base) length_behind long is in
      (λ i. (pointed.1 i >>= part_of None) >>= pointer_to space)
      ∙ ap (λ part. part >>= pointer_to space) (behind-alike pointed.0 long pointed.2 undecided)
      ∙ (λ i. (sym pointed.1 i >>= part_of (Some number)) >>= pointer_to space)
  accessed-alike (inner.ValuePointer None scalar space) long is undecided = absurd (cc)
  accessed-alike (inner.ValuePointer (Some size) scalar space) long is undecided = fixed-decided (Some (components_of size)) long is undecided
  accessed-alike contents long is undecided = part-alike contents long is undecided

-- ---- types of what is inserted

-- the contents of an integer type are those of a scalar
pub integer-scalar : (found : Option TypeInner) → is_integer found ≡ true → (scalar : Scalar) × (found ≡ Some (inner.Scalar scalar))
integer-scalar (Some (inner.Scalar scalar)) is = (scalar, refl)
integer-scalar _ is = absurd (let e : false ≡ true = is in cc)

-- the type `u32`
abbrev pub unsigned : Scalar
unsigned = record { kind = kind.Uint; width = 4 }

is-equal : (x y : ℕ) → nat_eq x y ≡ true → x ≡ y
is-equal x y is = grind (arith, nat_tests)

-- the scalar `u32`, by its kind and width
unsigned-scalar : (of : ScalarKind) (width : ℕ) → is_uint of width ≡ true → record { kind = of; width = width } ≡ unsigned
unsigned-scalar kind.Uint width is = ap (λ n. record { kind = kind.Uint; width = n }) (is-equal width 4 is)
unsigned-scalar _ width is = absurd (let e : false ≡ true = is in cc)

pub unsigned-contents : (found : Option TypeInner) → is_u32 found ≡ true → found ≡ Some (inner.Scalar unsigned)
unsigned-contents (Some (inner.Scalar scalar)) is = ap (λ s. Some (inner.Scalar s)) (unsigned-scalar scalar.kind scalar.width is)
unsigned-contents _ is = absurd (let e : false ≡ true = is in cc)

module _ (ctx : Context) (types : ℕ → Option TypeResolution) where
  -- the expression has a type
  abbrev pub HasType : Expression → Type 0
  HasType e = (ty : TypeResolution) × (type_of ctx types e ≡ Some ty)

  -- the type with this handle is `u32`
  abbrev pub IsU32 : ℕ → Type 0
  IsU32 handle = (ty : TypeResolution) × (types handle ≡ Some ty) × (inner_of ctx ty ≡ Some (inner.Scalar unsigned))

  -- the expression has the type `u32`
  abbrev pub GivesU32 : Expression → Type 0
  GivesU32 e = (ty : TypeResolution) × (type_of ctx types e ≡ Some ty) × (inner_of ctx ty ≡ Some (inner.Scalar unsigned))

  pub scalar-copied : (ty : TypeResolution) (scalar : Scalar) → inner_of ctx ty ≡ Some (inner.Scalar scalar) → (copy : TypeResolution) × (copied ty ≡ Some copy) × (inner_of ctx copy ≡ Some (inner.Scalar scalar))
  scalar-copied (resolution.Handle handle) scalar is = (resolution.Handle handle, refl, is)
  scalar-copied (resolution.Value (inner.Scalar other)) scalar is = (resolution.Value (inner.Scalar other), refl, is)
  scalar-copied (resolution.Value contents) scalar is = absurd (cc)

  -- a difference has the type of its first operand
  pub difference-typed : (left right : ℕ) → IsU32 left → GivesU32 (expr.Binary Subtract left right)
  difference-typed left right number =
      let copy = scalar-copied number.0 unsigned number.2 in
      (copy.0, ap (option_and_then copied) number.1 ∙ copy.1, copy.2)

  -- a minimum has the type of its first operand
  pub minimum-typed : (left right : ℕ) → IsU32 left → GivesU32 (expr.Math Min left (Some right) None None)
  minimum-typed left right number =
      let copy = scalar-copied number.0 unsigned number.2 in
      let ty = number.0 in
      let rule = math.rule_of Min in (
        copy.0,
        (λ i. number.1 i >>= λ of_arg. inner_of ctx of_arg >>= λ in_arg. math.applied ctx rule of_arg in_arg (the ctx types right))
            ∙ (λ i. number.2 i >>= λ in_arg. math.applied ctx rule ty in_arg (the ctx types right))
            ∙ copy.1,
        copy.2,
      )

  -- a scalar is converted to a number
  pub conversion-typed : (index : ℕ) (scalar : Scalar) → the ctx types index ≡ Some (inner.Scalar scalar)
      → type_of ctx types (expr.As index kind.Uint (Some 4)) ≡ Some (resolution.Value (inner.Scalar unsigned))
  conversion-typed index scalar is = ap (λ found. found >>= mapped (cast kind.Uint (Some 4))) is

-- ---- renamed expressions

module _ (changes : List Change) (ctx : Context) (after : ℕ → Option TypeResolution) where
  by_query : (asked : query.ImageQuery) (image : ℕ)
      → rule_of_query (rename_image_query (moving changes) asked) image ≡ rule_of_query (rename_image_query (of_expressions (new_of changes)) asked) image
  by_query (Size level) image = refl
  by_query _ image = refl

  -- the type does not depend on how ranges are renamed
  without-ranges : (e : Expression) → type_of ctx after (rename_expression (moving changes) e) ≡ type_of ctx after (rename_expression (of_expressions (new_of changes)) e)
  without-ranges (expr.ImageQuery image asked) = ap (type_by ctx after) (by_query asked (new_of changes image))
  without-ranges _ = refl

-- ---- a function in which accesses are clamped

some-of : {X : Type 0} (found : Option X) → ¬ (found ≡ None) → (x : X) × (found ≡ Some x)
some-of None some = absurd (some refl)
some-of (Some x) some = (x, refl)

module _ (whole : the_module.Module) (old : function.Function) (typed : IsTyped whole old) (changes : List Change)
    (planned : AreChanges (counts_in whole) (typed_in whole old) changes) (precede : OperandsPrecede old.expressions) where
  abbrev ctx : Context
  ctx = context_in whole old

  abbrev code : Typed
  code = typed_in whole old

  abbrev f : ℕ → ℕ
  f = new_of changes

  abbrev T : ℕ → Option TypeResolution
  T = slice_get code.known

  abbrev new : List (Expression × Span)
  new = made changes code.arena planned.all

  known-is : typing ctx [] (values old.expressions) ≡ (code.known, None)
  known-is = λ i. (code.known, typed i)

  pub old-type : (x : ℕ) (e : Expression) → expression_at code x ≡ Some e → T x ≡ type_of ctx T e
  old-type x e found =
      typing-types ctx old.expressions (Precede-of old.expressions precede) code.known known-is x ∙ ap (option_and_then (type_of ctx T)) found

  module _ (types : ℕ → Option TypeResolution) (are : AreTypes ctx (value_at new) types) where
    pub new-type : (p : ℕ) (e : Expression) → value_at new p ≡ Some e → types p ≡ type_of ctx types e
    new-type p e found = are p ∙ ap (option_and_then (type_of ctx types)) found

    -- ---- each expression keeps its type

    clamped-kept : (x : ℕ) (e : Expression) (clamp : Clamp) → expression_at code x ≡ Some e → slice_get changes x ≡ Some (Clamped clamp)
        → ((y : ℕ) → y < x → types (f y) ≡ T y) → IsClamped (counts_in whole) code e clamp → types (f x) ≡ T x
    clamped-kept x e clamp found at earlier (computed base index is clamp_of) =
        let here = found ∙ ap Some is in
        new-type (f x) (changed (moving changes) (Clamped clamp) e (front_at changes code.arena planned.all x) (start_of changes x)) (new-found changes code.arena planned.all x (Clamped clamp) e at found)
        ∙ ap (λ b. the ctx types (f b) >>= accessed ctx None) clamp_of.at_base
        ∙ ap (λ t. (t >>= inner_of ctx) >>= accessed ctx None) (earlier base (operand-before (counts_in whole) code changes planned precede x base (expr.Access base index) here (0, omega arith, refl)))
        ∙ sym (old-type x (expr.Access base index) here)
    clamped-kept x e clamp found at earlier (constant base number is clamp_of) =
        let here = found ∙ ap Some is in
        new-type (f x) (changed (moving changes) (Clamped clamp) e (front_at changes code.arena planned.all x) (start_of changes x)) (new-found changes code.arena planned.all x (Clamped clamp) e at found)
        ∙ ap (λ b. the ctx types (f b) >>= accessed ctx None) clamp_of.at_base
        ∙ ap (λ t. (t >>= inner_of ctx) >>= accessed ctx None) (earlier base (operand-before (counts_in whole) code changes planned precede x base (expr.AccessIndex base number) here (0, omega arith, refl)))
        ∙ go (contents_at code base) clamp_of.length
        ∙ sym (old-type x (expr.AccessIndex base number) here)
      where
        go : (contents : Option TypeInner) → length_found code contents ≡ Ok clamp.length → (contents >>= accessed ctx None) ≡ (contents >>= accessed ctx (Some number))
        go None long = absurd (cc)
        go (Some contents) long =
            accessed-alike ctx code number contents clamp.length (found-length (length_reached ctx.types contents) clamp.length long) clamp_of.undecided

    kept-below : (bound x : ℕ) → x < bound → x < length code.arena → types (f x) ≡ T x
    kept-below zero x less within = absurd (omega (arith, less))
    kept-below (suc bound) x less within =
        let e = (value-there code.arena x within).0 in
        let found = (value-there code.arena x within).1 in
        let earlier : (y : ℕ) → y < x → types (f y) ≡ T y = λ y before. kept-below bound y (omega (arith, less, before)) (omega (arith, within, before)) in
        elim (changed-as (counts_in whole) code changes planned x e found) [
          | inl stays ↦
              new-type (f x) (rename_expression (moving changes) e) (new-found changes code.arena planned.all x Stays e stays.0 found)
              ∙ without-ranges changes ctx types e
              ∙ type_of-moved f ctx T types e (Depends-found (λ y. types (f y) ≡ T y) code.arena precede x e found (λ y inside before. earlier y before))
              ∙ sym (old-type x e found)
          | inr clamped ↦ clamped-kept x e clamped.0 found clamped.1 earlier clamped.2
        ]

    pub kept : (x : ℕ) → x < length code.arena → types (f x) ≡ T x
    kept x within = kept-below (suc x) x (omega arith) within

    -- ---- what is inserted has a type

    pub made-u32 : (p : ℕ) (e : Expression) → value_at new p ≡ Some e → GivesU32 ctx types e → IsU32 ctx types p
    made-u32 p e found gives = (gives.0, new-type p e found ∙ gives.1, gives.2)

    pub literal-u32 : (number : ℕ) → GivesU32 ctx types (literal number)
    literal-u32 number = (resolution.Value (inner.Scalar unsigned), refl, refl)

    -- what is known of the index of a clamp
    abbrev pub IsUnsigned : ℕ → Type 0
    IsUnsigned y = (y < length code.arena) × (is_u32 (contents_at code y) ≡ true)

    abbrev pub IsInteger : ℕ → Type 0
    IsInteger y = (y < length code.arena) × (is_integer (contents_at code y) ≡ true)

    pub index-known : (x : ℕ) (e : Expression) (clamp : Clamp) → expression_at code x ≡ Some e → IsClamped (counts_in whole) code e clamp → HoldsOfIndex IsUnsigned IsInteger clamp.index
    index-known x e clamp found (computed base index is clamp_of) =
        let before = operand-before (counts_in whole) code changes planned precede x index (expr.Access base index) (found ∙ ap Some is) (1, omega arith, refl) in
        let inside = value-within code.arena x e found in
        let within : index < length code.arena = omega (arith, before, inside) in
        subst (HoldsOfIndex IsUnsigned IsInteger) (sym clamp_of.index)
        (HoldsOfIndex-if IsUnsigned IsInteger (is_u32 (contents_at code index)) index (λ is_unsigned. (within, is_unsigned)) (within, clamp_of.convertible))
    index-known x e clamp found (constant base number is clamp_of) = subst (HoldsOfIndex IsUnsigned IsInteger) (sym clamp_of.index) tt

    pub override-u32 : (handle : ℕ) → counts_in whole handle ≡ true → GivesU32 ctx types (expr.Override handle)
    override-u32 handle is =
        let ty = bound-some (ctx.overrides handle) ctx.types (inner.Scalar unsigned) (unsigned-contents (ctx.overrides handle >>= ctx.types) is) in
        (resolution.Handle ty.0, ap (option_map resolution.Handle) ty.1, ty.2)

    front-typed : (change : Change) → ((handle : ℕ) (clamp : Clamp) → change ≡ Clamped clamp → clamp.length ≡ Overridden handle → counts_in whole handle ≡ true)
        → EachIs (HasType ctx types) (front_of change)
    front-typed Stays count = tt
    front-typed (Clamped clamp) count =
        each-joined (HasType ctx types) (front_of_index clamp.index) (front_of_length clamp.length) (of_index clamp.index) (of_length clamp.length (λ handle is. count handle clamp refl is))
      where
        of_index : (index : ClampedIndex) → EachIs (HasType ctx types) (front_of_index index)
        of_index (Constant number) = ((resolution.Value (inner.Scalar unsigned), refl), tt)
        of_index (Unsigned index) = tt
        of_index (Converted index) = tt

        of_length : (long : Length) → ((handle : ℕ) → long ≡ Overridden handle → counts_in whole handle ≡ true) → EachIs (HasType ctx types) (front_of_length long)
        of_length (Fixed count) so = ((resolution.Value (inner.Scalar unsigned), refl), tt)
        of_length (Overridden handle) so =
            let number = override-u32 handle (so handle refl) in
            ((resolution.Value (inner.Scalar unsigned), refl), ((number.0, number.1), tt))
        of_length Counted so = ((resolution.Value (inner.Scalar unsigned), refl), tt)

    module _ (x : ℕ) (e : Expression) (found : expression_at code x ≡ Some e) where
      abbrev front : ℕ
      front = front_at changes code.arena planned.all x

      abbrev here : ℕ
      here = start_of changes x

      abbrev last : Length → (base : ℕ) → ClampedIndex → List Expression
      last long base index = last_index (moving changes) long base (front + length (front_of_index index)) here

      abbrev pub IsPlanned : Length → (base : ℕ) → ClampedIndex → Type 0
      IsPlanned long base index = slice_get changes x ≡ Some (Clamped (record { length = long; base = base; index = index }))

      abbrev change : Length → (base : ℕ) → ClampedIndex → Change
      change long base index = Clamped (record { length = long; base = base; index = index })

      -- an index that is converted is a scalar
      pub index-scalar : (y : ℕ) → IsInteger y → (scalar : Scalar) × (the ctx types (f y) ≡ Some (inner.Scalar scalar))
      index-scalar y known =
          let scalar = integer-scalar (contents_at code y) known.1 in
          (scalar.0, ap (λ t. t >>= inner_of ctx) (kept y known.0) ∙ scalar.1)

      pub operand-u32 : (long : Length) (base : ℕ) (index : ClampedIndex) → IsPlanned long base index → HoldsOfIndex IsUnsigned IsInteger index
          → IsU32 ctx types (operand (moving changes) index front (here + length (last long base index)))
      operand-u32 long base (Constant number) at known =
          made-u32 front (literal number) (front-found changes code.arena planned.all x (change long base (Constant number)) e at found 0 front (literal number) (omega arith) refl) (literal-u32 number)
      operand-u32 long base (Unsigned y) at known =
          let ty = bound-some (T y) (inner_of ctx) (inner.Scalar unsigned) (unsigned-contents (contents_at code y) known.1) in
          (ty.0, kept y known.0 ∙ ty.1, ty.2)
      operand-u32 long base (Converted y) at known =
          let scalar = index-scalar y known in
          let before = last long base (Converted y) in
          let made : Expression = expr.As (f y) kind.Uint (Some 4) in
          let all : List Expression = before ++ made ∷ [] in
          let clamp : Clamp = record { length = long; base = base; index = Converted y } in
          let least : List Expression = minimum (moving changes) clamp front here ∷ [] in
          let at_place : slice_get ((all ++ least) ++ changed (moving changes) (Clamped clamp) e front here ∷ []) (length before) ≡ Some made =
          get-left (all ++ least) (changed (moving changes) (Clamped clamp) e front here ∷ []) (length before) made
          (get-left all least (length before) made (get-right before (made ∷ []) 0 (length before) (omega arith))) in
          let is = group-found changes code.arena planned.all x (Clamped clamp) e at found (length before) (here + length before) made refl at_place in
          made-u32 (here + length before) made is (resolution.Value (inner.Scalar unsigned), conversion-typed ctx types (f y) scalar.0 scalar.1, refl)

      pub size-u32 : (handle base : ℕ) (index : ClampedIndex) → IsPlanned (Overridden handle) base index → counts_in whole handle ≡ true
          → IsU32 ctx types ((front + length (front_of_index index)) + 1)
      size-u32 handle base index at count =
          let first = front_of_index index in
          let place : slice_get (first ++ front_of_length (Overridden handle)) (length first + 1) ≡ Some (expr.Override handle) =
          get-right first (front_of_length (Overridden handle)) 1 (length first + 1) refl in
          let is = front-found changes code.arena planned.all x (change (Overridden handle) base index) e at found (length first + 1) ((front + length first) + 1) (expr.Override handle) (omega arith) place in
          made-u32 ((front + length first) + 1) (expr.Override handle) is (override-u32 handle count)

      pub counted-u32 : (base : ℕ) (index : ClampedIndex) → IsPlanned Counted base index → IsU32 ctx types here
      counted-u32 base index at =
          made-u32 here (expr.ArrayLength (f base)) (group-found changes code.arena planned.all x (change Counted base index) e at found 0 here (expr.ArrayLength (f base)) (omega arith) refl)
          (resolution.Value (inner.Scalar unsigned), refl, refl)

      last-typed : (long : Length) (base : ℕ) (index : ClampedIndex) → IsPlanned long base index → ((handle : ℕ) → long ≡ Overridden handle → counts_in whole handle ≡ true)
          → EachIs (HasType ctx types) (last long base index)
      last-typed (Fixed count) base index at told = tt
      last-typed (Overridden handle) base index at told =
          let start = front + length (front_of_index index) in
          let difference = difference-typed ctx types (start + 1) start (size-u32 handle base index at (told handle refl)) in
          ((difference.0, difference.1), tt)
      last-typed Counted base index at told =
          let difference = difference-typed ctx types here (front + length (front_of_index index)) (counted-u32 base index at) in
          ((resolution.Value (inner.Scalar unsigned), refl), ((difference.0, difference.1), tt))

      conversion-all : (index : ClampedIndex) → HoldsOfIndex IsUnsigned IsInteger index → EachIs (HasType ctx types) (conversion (moving changes) index)
      conversion-all (Constant number) known = tt
      conversion-all (Unsigned y) known = tt
      conversion-all (Converted y) known = let scalar = index-scalar y known in ((resolution.Value (inner.Scalar unsigned), conversion-typed ctx types (f y) scalar.0 scalar.1), tt)

      -- what is at the new handle has the type that the expression had
      changed-typed : (change : Change) → slice_get changes x ≡ Some change → HasType ctx types (changed (moving changes) change e front here)
      changed-typed change at =
          let within = value-within code.arena x e found in
          let ty = some-of (T x) (typing-some ctx old.expressions (Precede-of old.expressions precede) code.known known-is x within) in
          (ty.0, sym (new-type (f x) (changed (moving changes) change e front here) (new-found changes code.arena planned.all x change e at found)) ∙ kept x within ∙ ty.1)

      group-typed : (clamp : Clamp) → slice_get changes x ≡ Some (Clamped clamp) → IsClamped (counts_in whole) code e clamp
          → EachIs (HasType ctx types) (in_group (moving changes) (Clamped clamp) e front here)
      group-typed clamp at is =
          let before = last clamp.length clamp.base clamp.index in
          let between = conversion (moving changes) clamp.index in
          let least = minimum (moving changes) clamp front here in
          let known = index-known x e clamp found is in
          let told = length-told (counts_in whole) code e clamp is in
          let sizes : (handle : ℕ) → clamp.length ≡ Overridden handle → counts_in whole handle ≡ true =
          λ handle same. ap (λ long. is_told (counts_in whole) code long told.0) (sym same) ∙ told.1 in
          let smallest = minimum-typed ctx types (operand (moving changes) clamp.index front (here + length before)) (limit (moving changes) clamp.length (front + length (front_of_index clamp.index)) here)
          (operand-u32 clamp.length clamp.base clamp.index at known) in
          each-joined (HasType ctx types) ((before ++ between) ++ least ∷ []) (changed (moving changes) (Clamped clamp) e front here ∷ [])
          (each-joined (HasType ctx types) (before ++ between) (least ∷ [])
          (each-joined (HasType ctx types) before between (last-typed clamp.length clamp.base clamp.index at sizes) (conversion-all clamp.index known)) ((smallest.0, smallest.1), tt))
          (changed-typed (Clamped clamp) at, tt)

    place-typed : (x place : ℕ) (change : Change) (e y : Expression) → slice_get changes x ≡ Some change → expression_at code x ≡ Some e
        → slice_get (in_group (moving changes) change e (front_at changes code.arena planned.all x) (start_of changes x)) place ≡ Some y → HasType ctx types y
    place-typed x place change e y at found is =
        let front = front_at changes code.arena planned.all x in
        let here = start_of changes x in
        each-at (HasType ctx types) (in_group (moving changes) change e front here) place y
        (elim (changed-as (counts_in whole) code changes planned x e found) [
          | inl stays ↦
              let same : Stays ≡ change = (let both : Some Stays ≡ Some change = sym stays.0 ∙ at in cc) in
              subst (λ c. EachIs (HasType ctx types) (in_group (moving changes) c e front here)) same (changed-typed x e found Stays stays.0, tt)
          | inr clamped ↦
              let same : Clamped clamped.0 ≡ change = (let both : Some (Clamped clamped.0) ≡ Some change = sym clamped.1 ∙ at in cc) in
              subst (λ c. EachIs (HasType ctx types) (in_group (moving changes) c e front here)) same (group-typed x e found clamped.0 clamped.1 clamped.2)
        ]) is

    first-typed : (x place : ℕ) (change : Change) (e y : Expression) → slice_get changes x ≡ Some change → expression_at code x ≡ Some e
        → slice_get (front_of change) place ≡ Some y → HasType ctx types y
    first-typed x place change e y at found is =
        each-at (HasType ctx types) (front_of change) place y (front-typed change (λ handle clamp clamped long.
        elim (changed-as (counts_in whole) code changes planned x e found) [
          | inl stays ↦ absurd (let both : Some Stays ≡ Some (Clamped clamp) = sym stays.0 ∙ at ∙ ap Some clamped in cc)
          | inr other ↦
              let both : Some (Clamped other.0) ≡ Some (Clamped clamp) = sym other.1 ∙ at ∙ ap Some clamped in
              let same : other.0 ≡ clamp = cc in
              let told = length-told (counts_in whole) code e other.0 other.2 in
              ap (λ l. is_told (counts_in whole) code l told.0) (sym (ap (λ (c : Clamp). c.length) same ∙ long)) ∙ told.1
        ])) is

    new-typed : (p : ℕ) → p < length new → ¬ (types p ≡ None)
    new-typed p within none =
        let there = value-there new p within in
        let has : HasType ctx types there.0 = elim (made-is changes code.arena planned.all p there.0 there.1) [
          | inl first ↦ first-typed first.handle first.place first.change first.old there.0 first.at first.found first.is
          | inr stands ↦ place-typed stands.handle stands.place stands.change stands.old there.0 stands.at stands.found stands.is
        ] in
        none-some has.0 (sym none ∙ new-type p there.0 there.1 ∙ has.1)

  abbrev new-precedes : OperandsPrecede new
  new-precedes = made-precedes (counts_in whole) code changes planned precede

  -- the new arena has types, and each expression has its old one at its new handle
  pub typing-made : (found : List TypeResolution) × (typing ctx [] (values new) ≡ (found, None)) × ((x : ℕ) → x < length code.arena → slice_get found (f x) ≡ T x)
  typing-made =
      let before = Precede-of new new-precedes in
      let types = types_of ctx (value_at new) before in
      let are = AreTypes-exist ctx (value_at new) before in
      let found = typing-all ctx new before types are (new-typed types are) in
      (found.0, found.1, kept (slice_get found.0) (typing-types ctx new before found.0 found.1))
