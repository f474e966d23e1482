-- A function that passes the check of types passes it after its accesses were clamped.
use Rattle.std.proofs.Common.{◌≡◌, ◌∙◌, ◌⊎◌, ◌+◌, ◌-◌, ◌<◌, ap, arith, length, refl, subst, sym, inl, inr, ℕ, true, List, [], ◌∷◌, ◌++◌, Option, Some, None, Ok}
use Rattle.std.proofs.lemmas.List.Elements.{All-contains, All-from_recursion, All-nil}
use Rattle.std.specs.List.{Contains, slice_get}
use Rattle.std.specs.Option.{option_map}
use Rattle.std.specs.Prelude.{All, option_and_then}
use Rattle.naga_arena.specs.Arena.{value_at, values}
use Rattle.naga_arena.specs.declared.span.Span.{Span}
use Rattle.naga_kinds.specs.declared.math.MathFunction.TheVariants.{Min}
use Rattle.naga_kinds.specs.declared.operator.BinaryOperator.TheVariants.{Subtract}
use Rattle.naga_kinds.specs.declared.scalar.Scalar.{Scalar}
use Rattle.naga_kinds.specs.declared.scalar.ScalarKind.TheVariants as kinds
use Rattle.naga_kinds.specs.declared.scalar.TheConstants.Scalar.{U32}
use Rattle.naga_ir.specs.View.{tree_of}
use Rattle.naga_ir.specs.declared.expression.Expression.{Expression}
use Rattle.naga_ir.specs.declared.expression.Expression.TheVariants as expr
use Rattle.naga_ir.specs.declared.module.Function as function
use Rattle.naga_ir.specs.declared.module.FunctionResult as outcome
use Rattle.naga_ir.specs.declared.module.Module as the_module
use Rattle.naga_ir.specs.declared.types.ArraySize.{ArraySize}
use Rattle.naga_ir.specs.declared.types.ArraySize.TheVariants as size
use Rattle.naga_ir.specs.declared.types.TypeInner.{TypeInner}
use Rattle.naga_ir.specs.declared.types.TypeInner.TheVariants as inner
use Rattle.naga_valid.specs.Operands.{operands_of}
use Rattle.naga_compact.specs.Functions.{initial_values}
use Rattle.naga_compact.specs.Operands.{OperandsPrecede, used_by}
use Rattle.naga_compact.specs.Renaming.{rename_range}
use Rattle.naga_compact.specs.derived.Renaming.{rename_expression}
use Rattle.naga_meaning.specs.Functions.{HandlesAreInside}
use Rattle.naga_typifier.specs.Context.{Context, context_in, inner_at, inner_of}
use Rattle.naga_typifier.specs.Inner.{parts_of}
use Rattle.naga_typifier.specs.Rows.{◌>>=◌, copied}
use Rattle.naga_typifier.specs.Table.{the}
use Rattle.naga_typifier.specs.Typing.{typing}
use Rattle.naga_typifier.specs.declared.resolution.TypeResolution.{TypeResolution}
use Rattle.naga_typifier.specs.declared.resolution.TypeResolution.TheVariants as resolution
use Rattle.naga_typing.specs.Arenas.{AreTypes}
use Rattle.naga_typing.specs.Expressions.{ExpressionFits, of, required_by_expression}
use Rattle.naga_typing.specs.Faults.{FitsBy}
use Rattle.naga_typing.specs.Forms.{declared_form, form}
use Rattle.naga_typing.specs.Kinds.{is_dynamic_array}
use Rattle.naga_typing.specs.Requirements.{Fits, Has, Signature, is_of, passes, points_to_dynamic_array, sized_type}
use Rattle.naga_typing.specs.TypedFunctions.{signature_in}
use Rattle.naga_typing.specs.TypedModules.{FunctionIsTyped}
use Rattle.naga_typing.specs.declared.requirement.Expected.TheVariants as expected
use Rattle.naga_typing.specs.declared.requirement.Kind.TheVariants as kind
use Rattle.naga_typing.specs.declared.requirement.Requirement.{Requirement}
use Rattle.naga_typing.specs.declared.requirement.Scalars.TheVariants as scalars
use Rattle.naga_typing.specs.declared.requirement.Source.TheVariants as source
use Rattle.naga_typing.proofs.AreTypesLemmas.{Depends-found, Precede-of}
use Rattle.naga_typing.proofs.CompactedIsTypedLemmas.{All-at, All-from_positions}
use Rattle.naga_typing.proofs.FunctionIsTypedRenamedLemmas.{ExpressionFits-same, FunctionIsTyped-renamed}
use Rattle.naga_typing.proofs.TypingLemmas.{typing-types}
use Rattle.naga_bounds.specs.Changes.{AreChanges, is_told}
use Rattle.naga_bounds.specs.Fits.{length_found}
use Rattle.naga_bounds.specs.Modules.{typed_in}
use Rattle.naga_bounds.specs.Reach.{Typed, contents_at, expression_at, length_behind, length_of, length_of_size, length_reached}
use Rattle.naga_bounds.specs.Restricted.{IsClamped as IsClampedFunction, changed, conversion, front_of, front_of_index, front_of_length, inserted, last_index, limit, literal, minimum, moving, new_of, operand, operands, start_of}
use Rattle.naga_bounds.specs.RestrictedModules.{counts_in}
use Rattle.naga_bounds.specs.declared.change.Change.{Change}
use Rattle.naga_bounds.specs.declared.change.Change.TheVariants.{Stays, Clamped}
use Rattle.naga_bounds.specs.declared.change.Clamp.{Clamp}
use Rattle.naga_bounds.specs.declared.change.ClampedIndex.{ClampedIndex}
use Rattle.naga_bounds.specs.declared.change.ClampedIndex.TheVariants.{Constant, Unsigned, Converted}
use Rattle.naga_bounds.specs.declared.cause.Position.{Position}
use Rattle.naga_bounds.specs.declared.cause.Position.TheVariants as position
use Rattle.naga_bounds.specs.declared.length.Length.{Length}
use Rattle.naga_bounds.specs.declared.length.Length.TheVariants.{Fixed, Overridden, Counted}
use Rattle.naga_bounds.proofs.ClampOfLemmas.{IsClamped, IsClampOf, changed-as, computed, constant, length-told}
use Rattle.naga_bounds.proofs.IsTypedLemmas.{bound-some, found-length}
use Rattle.naga_bounds.proofs.KeepsContentsLemmas.{IsInteger, IsU32, IsUnsigned, counted-u32, difference-typed, index-known, index-scalar, kept, literal-u32, made-u32, minimum-typed, operand-u32, scalar-copied, size-u32, typing-made, unsigned}
use Rattle.naga_bounds.proofs.KeepsTypesLemmas.{context-kept}
use Rattle.naga_bounds.proofs.MadeLemmas.{made-is}
use Rattle.naga_bounds.proofs.MadePrecedesLemmas.{HoldsOfIndex, each-at, made-precedes, operand-before}
use Rattle.naga_bounds.proofs.NewHandlesLemmas.{front-found, front_at, group-found, made, value-within}
use Rattle.naga_bounds.proofs.RestrictedFitsLemmas.{EachIs, each-joined}
use Rattle.naga_bounds.proofs.RestrictedLemmas.{get-left, get-right, in_group}

-- ---- arrays in buffers

counted-size : (number : ArraySize) → ¬ (length_of_size number ≡ Some Counted)
counted-size (size.Constant number) is = absurd (cc)
counted-size (size.Pending handle) is = absurd (cc)
counted-size size.Dynamic is = absurd (cc)

counted-parts : (found : Option ℕ) → ¬ (option_map Fixed found ≡ Some Counted)
counted-parts None is = absurd (cc)
counted-parts (Some count) is = absurd (cc)

-- the length of a value is not counted
counted-value : (what : TypeInner) → ¬ (length_of what ≡ Some Counted)
counted-value (inner.Array base number stride) is = counted-size number is
counted-value (inner.BindingArray base number) is = counted-size number is
counted-value what is = counted-parts (parts_of what) is

counted-behind : (what : TypeInner) → length_behind what ≡ Some Counted → is_dynamic_array what ≡ true
counted-behind (inner.Array base (size.Constant number) stride) is = absurd (cc)
counted-behind (inner.Array base (size.Pending handle) stride) is = absurd (cc)
counted-behind (inner.Array base size.Dynamic stride) is = refl
counted-behind what is = absurd (counted-value what is)

-- ---- what is inserted has operands as it requires

module _ (ctx : Context) (types : ℕ → Option TypeResolution) (signature : Signature) where
  abbrev Fit : Option Requirement → Type 0
  Fit = Fits ctx types signature

  -- what is counted is an array of a dynamic size behind a pointer
  counted-pointer : (what : TypeInner) → length_reached ctx.types what ≡ Some Counted → points_to_dynamic_array ctx what ≡ true
  counted-pointer (inner.Pointer base space) is =
      let pointed = bound-some (ctx.types base) length_behind Counted is in
      ap (passes is_dynamic_array) pointed.1 ∙ counted-behind pointed.0 pointed.2
  counted-pointer (inner.ValuePointer None scalar space) is = absurd (cc)
  counted-pointer (inner.ValuePointer (Some count) scalar space) is = absurd (cc)
  counted-pointer what is = absurd (counted-value what is)

  -- a scalar has one form, whether it is declared or not
  scalar-form : (ty : TypeResolution) (scalar : Scalar) → inner_of ctx ty ≡ Some (inner.Scalar scalar) → form ctx.types ty ≡ form ctx.types (sized_type None scalar)
  scalar-form (resolution.Handle handle) scalar is = ap (declared_form ctx.types handle) is
  scalar-form (resolution.Value what) scalar is =
      let same : what ≡ inner.Scalar scalar = cc in
      ap (λ w. form ctx.types (resolution.Value w)) same

  u32-has : (handle : ℕ) → IsU32 ctx types handle → Has ctx types signature handle (sized_type None U32)
  u32-has handle is = ap (option_map (form ctx.types)) is.1 ∙ ap Some (scalar-form is.0 unsigned is.2)

  u32-contents : (handle : ℕ) → IsU32 ctx types handle → the ctx types handle ≡ Some (inner.Scalar unsigned)
  u32-contents handle is = ap (λ t. t >>= inner_of ctx) is.1 ∙ is.2

  u32-same : (left right : ℕ) → IsU32 ctx types left → IsU32 ctx types right → Fit (of (expected.Type (source.Same left)) right)
  u32-same left right is also =
      let copy = scalar-copied ctx types is.0 unsigned is.2 in
      (copy.0, ap (option_and_then copied) is.1 ∙ copy.1, u32-has right also ∙ ap Some (sym (scalar-form copy.0 unsigned copy.2)))

  difference-fits : (left right : ℕ) → IsU32 ctx types left → IsU32 ctx types right → ExpressionFits Fit (expr.Binary Subtract left right)
  difference-fits left right is also =
      All-from_recursion Fit (required_by_expression (expr.Binary Subtract left right))
      (ap (passes (is_of ctx kind.Summand)) (u32-contents left is), (u32-same left right is also, tt))

  minimum-fits : (left right : ℕ) → IsU32 ctx types left → IsU32 ctx types right → ExpressionFits Fit (expr.Math Min left (Some right) None None)
  minimum-fits left right is also =
      All-from_recursion Fit (required_by_expression (expr.Math Min left (Some right) None None))
      (refl, (refl, (refl, (u32-same left right is also, (tt, (tt, tt))))))

  access-fits : (base index : ℕ) → IsU32 ctx types index → ExpressionFits Fit (expr.Access base index)
  access-fits base index is =
      All-from_recursion Fit (required_by_expression (expr.Access base index))
      (ap (passes (is_of ctx (kind.Single scalars.Integers))) (u32-contents index is), tt)

  conversion-fits : (index : ℕ) (scalar : Scalar) → the ctx types index ≡ Some (inner.Scalar scalar) → ExpressionFits Fit (expr.As index kinds.Uint (Some 4))
  conversion-fits index scalar is =
      All-from_recursion Fit (required_by_expression (expr.As index kinds.Uint (Some 4)))
      (ap (passes (is_of ctx (kind.Convertible unsigned))) is, tt)

  length-fits : (base : ℕ) (what : TypeInner) → the ctx types base ≡ Some what → length_reached ctx.types what ≡ Some Counted → ExpressionFits Fit (expr.ArrayLength base)
  length-fits base what at counted =
      All-from_recursion Fit (required_by_expression (expr.ArrayLength base))
      (ap (passes (is_of ctx kind.DynamicArrayPointer)) at ∙ counted-pointer what counted, tt)

  -- what is at the front requires nothing
  front-fits : (change : Change) → EachIs (ExpressionFits Fit) (front_of change)
  front-fits Stays = tt
  front-fits (Clamped clamp) =
      each-joined (ExpressionFits Fit) (front_of_index clamp.index) (front_of_length clamp.length) (of_index clamp.index) (of_length clamp.length)
    where
      of_index : (index : ClampedIndex) → EachIs (ExpressionFits Fit) (front_of_index index)
      of_index (Constant number) = (All-nil Fit, tt)
      of_index (Unsigned index) = tt
      of_index (Converted index) = tt

      of_length : (long : Length) → EachIs (ExpressionFits Fit) (front_of_length long)
      of_length (Fixed count) = (All-nil Fit, tt)
      of_length (Overridden handle) = (All-nil Fit, (All-nil Fit, tt))
      of_length Counted = (All-nil Fit, tt)

-- ---- a function in which accesses are clamped

module _ (whole : the_module.Module) (old new : function.Function) (typed : FunctionIsTyped whole old) (changes : List Change)
    (planned : AreChanges (counts_in whole) (typed_in whole old) changes) (precede : OperandsPrecede old.expressions) (left : List TypeResolution)
    (are : AreTypes (context_in whole old) (value_at (made changes old.expressions planned.all)) (slice_get left)) where
  abbrev ctx : Context
  ctx = context_in whole old

  abbrev signature : Signature
  signature = signature_in whole old

  abbrev code : Typed
  code = typed_in whole old

  abbrev f : ℕ → ℕ
  f = new_of changes

  abbrev types : ℕ → Option TypeResolution
  types = slice_get left

  abbrev Meets : Expression → Type 0
  Meets = ExpressionFits (FitsBy ctx signature left)

  module _ (x : ℕ) (e : Expression) (found : expression_at code x ≡ Some e) where
    abbrev front : ℕ
    front = front_at changes code.arena planned.all x

    abbrev here : ℕ
    here = start_of changes x

    -- an expression that stays has its operands at their new handles
    stays-meets : Meets (rename_expression (moving changes) e)
    stays-meets =
        ExpressionFits-same whole old new f (rename_range (start_of changes)) typed left e
        (λ y inside.
        let before = operand-before (counts_in whole) code changes planned precede x y e found inside in
        let within = value-within code.arena x e found in
        kept whole old typed.typed.0 changes planned precede types are y (omega (arith, before, within)))
        (All-at (ExpressionFits (FitsBy ctx signature code.known)) (values old.expressions) x e typed.operands found)

    abbrev IsPlanned : Length → (base : ℕ) → ClampedIndex → Type 0
    IsPlanned long base index = slice_get changes x ≡ Some (Clamped (record { length = long; base = base; index = index }))

    -- where what a length has at the front begins
    abbrev start : ClampedIndex → ℕ
    start index = front + length (front_of_index index)

    at-start : (long : Length) (base : ℕ) (index : ClampedIndex) → IsPlanned long base index → (y : Expression) → slice_get (front_of_length long) 0 ≡ Some y
        → value_at (made changes code.arena planned.all) (start index) ≡ Some y
    at-start long base index at y is =
        front-found changes code.arena planned.all x (Clamped (record { length = long; base = base; index = index })) e at found (length (front_of_index index)) (start index) y refl
        (get-right (front_of_index index) (front_of_length long) 0 (length (front_of_index index)) (omega arith) ∙ is)

    -- the 1 that is subtracted
    one-u32 : (long : Length) (base : ℕ) (index : ClampedIndex) → IsPlanned long base index → slice_get (front_of_length long) 0 ≡ Some (literal 1) → IsU32 ctx types (start index)
    one-u32 long base index at is =
        made-u32 whole old typed.typed.0 changes planned precede types are (start index) (literal 1) (at-start long base index at (literal 1) is)
        (literal-u32 whole old typed.typed.0 changes planned precede types are 1)

    size-is-u32 : (handle base : ℕ) (index : ClampedIndex) → IsPlanned (Overridden handle) base index → counts_in whole handle ≡ true → IsU32 ctx types (start index + 1)
    size-is-u32 = size-u32 whole old typed.typed.0 changes planned precede types are x e found

    counted-is-u32 : (base : ℕ) (index : ClampedIndex) → IsPlanned Counted base index → IsU32 ctx types here
    counted-is-u32 = counted-u32 whole old typed.typed.0 changes planned precede types are x e found

    last-meets : (long : Length) (base : ℕ) (index : ClampedIndex) → IsPlanned long base index → ((handle : ℕ) → long ≡ Overridden handle → counts_in whole handle ≡ true)
        → (long ≡ Counted → Meets (expr.ArrayLength (f base))) → EachIs Meets (last_index (moving changes) long base (start index) here)
    last-meets (Fixed count) base index at told counted = tt
    last-meets (Overridden handle) base index at told counted =
        (difference-fits ctx types signature (start index + 1) (start index) (size-is-u32 handle base index at (told handle refl)) (one-u32 (Overridden handle) base index at refl), tt)
    last-meets Counted base index at told counted =
        (counted refl, (difference-fits ctx types signature here (start index) (counted-is-u32 base index at) (one-u32 Counted base index at refl), tt))

    limit-u32 : (long : Length) (base : ℕ) (index : ClampedIndex) → IsPlanned long base index → ((handle : ℕ) → long ≡ Overridden handle → counts_in whole handle ≡ true)
        → IsU32 ctx types (limit (moving changes) long (start index) here)
    limit-u32 (Fixed count) base index at told =
        made-u32 whole old typed.typed.0 changes planned precede types are (start index) (literal (count - 1)) (at-start (Fixed count) base index at (literal (count - 1)) refl)
        (literal-u32 whole old typed.typed.0 changes planned precede types are (count - 1))
    limit-u32 (Overridden handle) base index at told =
        let difference : Expression = expr.Binary Subtract (start index + 1) (start index) in
        made-u32 whole old typed.typed.0 changes planned precede types are here difference
        (group-found changes code.arena planned.all x (Clamped (record { length = Overridden handle; base = base; index = index })) e at found 0 here difference (omega arith) refl)
        (difference-typed ctx types (start index + 1) (start index) (size-is-u32 handle base index at (told handle refl)))
    limit-u32 Counted base index at told =
        let difference : Expression = expr.Binary Subtract here (start index) in
        made-u32 whole old typed.typed.0 changes planned precede types are (here + 1) difference
        (group-found changes code.arena planned.all x (Clamped (record { length = Counted; base = base; index = index })) e at found 1 (here + 1) difference (omega arith) refl)
        (difference-typed ctx types here (start index) (counted-is-u32 base index at))

    -- what is known of the index of a clamp
    abbrev IsIndex : ClampedIndex → Type 0
    IsIndex =
        HoldsOfIndex (IsUnsigned whole old typed.typed.0 changes planned precede types are) (IsInteger whole old typed.typed.0 changes planned precede types are)

    conversion-meets : (index : ClampedIndex) → IsIndex index → EachIs Meets (conversion (moving changes) index)
    conversion-meets (Constant number) known = tt
    conversion-meets (Unsigned y) known = tt
    conversion-meets (Converted y) known =
        let scalar = index-scalar whole old typed.typed.0 changes planned precede types are x e found y known in
        (conversion-fits ctx types signature (f y) scalar.0 scalar.1, tt)

    module _ (clamp : Clamp) (at : slice_get changes x ≡ Some (Clamped clamp)) (is : IsClamped (counts_in whole) code e clamp) where
      sizes : (handle : ℕ) → clamp.length ≡ Overridden handle → counts_in whole handle ≡ true
      sizes handle same =
          let told = length-told (counts_in whole) code e clamp is in
          ap (λ long. is_told (counts_in whole) code long told.0) (sym same) ∙ told.1

      -- the length of an array in a buffer is that of a pointer to one
      counted-at : (base : ℕ) (position : Position) → IsClampOf (counts_in whole) code clamp base position → base < x → clamp.length ≡ Counted → Meets (expr.ArrayLength (f clamp.base))
      counted-at base position clamp_of before counted =
          subst (λ b. Meets (expr.ArrayLength (f b))) (sym clamp_of.at_base) (go (contents_at code base) refl (clamp_of.length ∙ ap Ok counted))
        where
          go : (found_contents : Option TypeInner) → contents_at code base ≡ found_contents → length_found code found_contents ≡ Ok Counted → Meets (expr.ArrayLength (f base))
          go None at_contents long = absurd (cc)
          go (Some what) at_contents long =
              let within = value-within code.arena x e found in
              length-fits ctx types signature (f base) what
              (ap (λ t. t >>= inner_of ctx) (kept whole old typed.typed.0 changes planned precede types are base (omega (arith, before, within))) ∙ at_contents)
              (found-length (length_reached ctx.types what) Counted long)

      counted-meets : clamp.length ≡ Counted → Meets (expr.ArrayLength (f clamp.base))
      counted-meets counted = elim is [
        | computed base index form clamp_of ↦
            counted-at base (position.Computed index) clamp_of (operand-before (counts_in whole) code changes planned precede x base (expr.Access base index) (found ∙ ap Some form) (0, omega arith, refl)) counted
        | constant base number form clamp_of ↦
            counted-at base (position.Constant number) clamp_of (operand-before (counts_in whole) code changes planned precede x base (expr.AccessIndex base number) (found ∙ ap Some form) (0, omega arith, refl)) counted
      ]

      abbrev last : List Expression
      last = last_index (moving changes) clamp.length clamp.base (start clamp.index) here

      abbrev between : List Expression
      between = conversion (moving changes) clamp.index

      abbrev least : Expression
      least = minimum (moving changes) clamp front here

      known : IsIndex clamp.index
      known = index-known whole old typed.typed.0 changes planned precede types are x e clamp found is

      index-u32 : IsU32 ctx types (operand (moving changes) clamp.index front (here + length last))
      index-u32 = operand-u32 whole old typed.typed.0 changes planned precede types are x e found clamp.length clamp.base clamp.index at known

      minimum-u32 : IsU32 ctx types (here + length (operands (moving changes) clamp front here))
      minimum-u32 =
          let before = operands (moving changes) clamp front here in
          let place = length before in
          let there : slice_get ((before ++ least ∷ []) ++ changed (moving changes) (Clamped clamp) e front here ∷ []) place ≡ Some least =
          get-left (before ++ least ∷ []) (changed (moving changes) (Clamped clamp) e front here ∷ []) place least (get-right before (least ∷ []) 0 place (omega arith)) in
          made-u32 whole old typed.typed.0 changes planned precede types are (here + place) least
          (group-found changes code.arena planned.all x (Clamped clamp) e at found place (here + place) least refl there)
          (minimum-typed ctx types (operand (moving changes) clamp.index front (here + length last)) (limit (moving changes) clamp.length (start clamp.index) here) index-u32)

      group-meets : EachIs Meets (in_group (moving changes) (Clamped clamp) e front here)
      group-meets =
          each-joined Meets ((last ++ between) ++ least ∷ []) (changed (moving changes) (Clamped clamp) e front here ∷ [])
          (each-joined Meets (last ++ between) (least ∷ [])
          (each-joined Meets last between (last-meets clamp.length clamp.base clamp.index at sizes counted-meets) (conversion-meets clamp.index known)) (
            minimum-fits ctx types signature (operand (moving changes) clamp.index front (here + length last)) (limit (moving changes) clamp.length (start clamp.index) here)
                index-u32 (limit-u32 clamp.length clamp.base clamp.index at sizes),
            tt,
          ))
          (access-fits ctx types signature (f clamp.base) (here + length (operands (moving changes) clamp front here)) minimum-u32, tt)

  place-meets : (x place : ℕ) (change : Change) (e y : Expression) → slice_get changes x ≡ Some change → expression_at code x ≡ Some e
      → slice_get (in_group (moving changes) change e (front_at changes code.arena planned.all x) (start_of changes x)) place ≡ Some y → Meets y
  place-meets x place change e y at found is =
      let front = front_at changes code.arena planned.all x in
      let here = start_of changes x in
      each-at Meets (in_group (moving changes) change e front here) place y
      (elim (changed-as (counts_in whole) code changes planned x e found) [
        | inl stays ↦
            let same : Stays ≡ change = (let both : Some Stays ≡ Some change = sym stays.0 ∙ at in cc) in
            subst (λ c. EachIs Meets (in_group (moving changes) c e front here)) same (stays-meets x e found, tt)
        | inr clamped ↦
            let same : Clamped clamped.0 ≡ change = (let both : Some (Clamped clamped.0) ≡ Some change = sym clamped.1 ∙ at in cc) in
            subst (λ c. EachIs Meets (in_group (moving changes) c e front here)) same (group-meets x e found clamped.0 clamped.1 clamped.2)
      ]) is

  made-meets : All Meets (values (made changes code.arena planned.all))
  made-meets = All-from_positions Meets (values (made changes code.arena planned.all)) (λ p y at.
      elim (made-is changes code.arena planned.all p y at) [
        | inl first ↦ each-at Meets (front_of first.change) first.place y (front-fits ctx types signature first.change) first.is
        | inr stands ↦ place-meets stands.handle stands.place stands.change stands.old y stands.at stands.found stands.is
      ])

pub FunctionIsTyped-restricted : (whole : the_module.Module) (old new : function.Function) → HandlesAreInside old → FunctionIsTyped whole old
    → IsClampedFunction (counts_in whole) (typed_in whole old) old new → FunctionIsTyped whole new
FunctionIsTyped-restricted whole old new inside typed clamped =
    let changes = clamped.changes in
    let planned = clamped.planned in
    let before = Precede-of (made changes old.expressions planned.all) (made-precedes (counts_in whole) (typed_in whole old) changes planned inside.precede) in
    let types = typing-made whole old typed.typed.0 changes planned inside.precede in
    let ctx = context_in whole old in
    let are = typing-types ctx (made changes old.expressions planned.all) before types.0 types.1 in
    FunctionIsTyped-renamed whole old new (new_of changes) (rename_range (start_of changes)) typed types.0 whole
    (context-kept whole old new inside.precede typed.typed.0 clamped)
    (λ i. record {
      parameters = (signature_in whole old).parameters;
      result = option_map (λ (result : outcome.FunctionResult). result.ty) (clamped.changed_to.result i);
      ray_desc = whole.special_types.ray_desc;
    })
    ((λ i. typing ctx [] (values (clamped.changed_to.expressions i))) ∙ types.1)
    clamped.changed_to.body clamped.changed_to.local_variables
    (λ handle needed. types.2 handle (within handle needed))
    (subst (λ (arena : List (Expression × Span)). All (ExpressionFits (FitsBy ctx (signature_in whole old) types.0)) (values arena)) (sym clamped.changed_to.expressions)
    (made-meets whole old new typed changes planned inside.precede types.0 are))
  where
    within : (handle : ℕ) → (Contains (initial_values old.local_variables) handle ⊎ Contains (used_by (tree_of old.body)) handle) → handle < length old.expressions
    within handle (inl initial) = All-contains (λ h. h < length old.expressions) (initial_values old.local_variables) handle inside.variables initial
    within handle (inr used) = All-contains (λ h. h < length old.expressions) (used_by (tree_of old.body)) handle inside.body used
