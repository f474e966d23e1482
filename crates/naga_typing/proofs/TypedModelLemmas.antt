-- The interpretation by values with components respects types, and calls do.
use Rattle.std.proofs.Common.{◌≡◌, ◌∙◌, ap, sym, subst, refl, inl, inr, ℕ, zero, suc, ◌+◌, ◌<◌, true, false, List, [], ◌∷◌, length, map, get_or, Option, Some, None, arith}
use Rattle.std.proofs.lemmas.Bool.{cases_Bool}
use Rattle.std.proofs.lemmas.Bool.Decides.{nat_tests}
use Rattle.std.proofs.lemmas.List.Elements.{All-append, All-cons, All-from_get_or, All-head, All-map, All-nil, All-tail}
use Rattle.std.proofs.lemmas.List.FromFn.{get_or-range_with_len, length-range_with_len}
use Rattle.std.proofs.lemmas.Option.{get_or_from_slice_get, none-some, option_and_then_some, same_Some, slice_get_cases}
use Rattle.std.proofs.lemmas.Slice.Zip.{AllZip-left}
use Rattle.std.specs.List.{AllZip, range_with_len}
use Rattle.std.specs.Option.{option_map}
use Rattle.std.specs.Prelude.{All, IsSomeAnd, MatchOption, if◌then◌else◌, nat_eq, nat_lt, ◌&&◌, slice_get}
use Rattle.naga_kinds.specs.Scalar.{components_of}
use Rattle.naga_kinds.specs.Swizzle.{place_of}
use Rattle.naga_kinds.specs.declared.math.MathFunction.TheVariants as fun
use Rattle.naga_kinds.specs.declared.operator.BinaryOperator.TheVariants as op
use Rattle.naga_kinds.specs.declared.operator.SwizzleComponent.{SwizzleComponent}
use Rattle.naga_kinds.specs.declared.scalar.Scalar.{Scalar}
use Rattle.naga_kinds.specs.declared.scalar.TheConstants.Scalar.{BOOL, U32}
use Rattle.naga_kinds.specs.declared.scalar.VectorSize.{VectorSize}
use Rattle.naga_ir.specs.Types.{plain}
use Rattle.naga_ir.specs.Literal as literals
use Rattle.naga_ir.specs.declared.expression.Expression.{Expression}
use Rattle.naga_ir.specs.declared.expression.Expression.TheVariants as expression
use Rattle.naga_ir.specs.declared.literal.Literal as literal
use Rattle.naga_ir.specs.declared.literal.Literal.TheVariants as written
use Rattle.naga_ir.specs.declared.module.Function as function
use Rattle.naga_ir.specs.declared.module.Module as the_module
use Rattle.naga_ir.specs.declared.statement.Statement.{Emit, Statement, Store}
use Rattle.naga_ir.specs.declared.types.TypeInner.{TypeInner}
use Rattle.naga_ir.specs.declared.types.TypeInner.TheVariants as inner
use Rattle.naga_valid.specs.Operands.{expressions_of, operands_of}
use Rattle.naga_valid.specs.Reference.{operands}
use Rattle.naga_valid.specs.declared.reference.Reference.{Reference}
use Rattle.naga_flow.specs.Results.{used_by}
use Rattle.naga_flow.proofs.AllLemmas.{All-both}
use Rattle.naga_meaning.specs.Forms.{StatementForm, statement_form}
use Rattle.naga_meaning.specs.Functions.{action_of, shape_of}
use Rattle.naga_typifier.specs.Context.{Context, context_in, contents_of}
use Rattle.naga_typifier.specs.Rows.{◌>>=◌, accessed, copied, handle, loaded, part_of}
use Rattle.naga_typifier.specs.Math as math
use Rattle.naga_typifier.specs.Rows as rows
use Rattle.naga_typifier.specs.Table.{optional, same, the, type_of}
use Rattle.naga_typifier.specs.declared.resolution.TypeResolution.{TypeResolution}
use Rattle.naga_typifier.specs.declared.resolution.TypeResolution.TheVariants as resolution
use Rattle.naga_typing.specs.CheckedValues.{MeetsRequirements, RespectsTypesOf}
use Rattle.naga_typing.specs.Composites.{first_components, takes, vector_scalar}
use Rattle.naga_typing.specs.Expressions.{ExpressionFits, given, of, of_components, of_compose, of_parts, of_second, of_third}
use Rattle.naga_typing.specs.Forms.{Form, contents, declared_form, form}
use Rattle.naga_typing.specs.Kinds.{component}
use Rattle.naga_typing.specs.ModelValues.{Value, Variable, composite, contents_in, count_in, has_type, indeterminate, is_truth, numeric, part_at, pointing}
use Rattle.naga_typing.specs.Requirements.{Fits, IsPart, Signature, passes, sized_type}
use Rattle.naga_typing.specs.Statements.{of_type, required}
use Rattle.naga_typing.specs.TypedCalls.{AreArguments, CallsRespectTypes}
use Rattle.naga_typing.specs.TypedFunctions.{signature_in}
use Rattle.naga_typing.specs.TypedInitials.{EntersWithTypes}
use Rattle.naga_typing.specs.TypedModel.{IsStateOf, State, accessed_at, by_action, by_shape, built, calls, components, components_of_all, common, composed, confined, difference, entered_with, has_type_in, interpretation, is_same, itself, least, loaded_from, number_of, of_one, of_three, of_two, or_indeterminate, remainder, selected, splatted, stored, stored_in, swizzled}
use Rattle.naga_typing.specs.TypedModel as model
use Rattle.naga_typing.specs.TypedValues.{HasTypeOf, HaveTypesOf, IsOperator, IsReturnedAs, applied, types_in}
use Rattle.naga_typing.specs.declared.requirement.Expected.TheVariants as expected
use Rattle.naga_typing.specs.declared.requirement.Requirement.{Requirement}
use Rattle.naga_typing.specs.declared.requirement.Requirement.TheVariants as requirement
use Rattle.naga_typing.specs.declared.requirement.Source.TheVariants as source
use Rattle.naga_typing.proofs.HasTypeOfLemmas.{HasTypeOf-known}
use Rattle.naga_typing.proofs.ModelValuesLemmas.{Agrees, equal, form-of, when-form}
use Rattle.naga_typing.proofs.ByOperatorLemmas.{IsMemory, accessed-typed, accessed_at-typed, common-typed, component-typed, confined-typed, copied-same, difference-typed, least-typed, loaded-both, loaded-typed, local-typed, one-named, remainder-typed, selected-typed, stored-typed, variable-typed, vector-typed, zero-named}

-- ---- operators

module _ (ctx : Context) where
  abbrev types : ℕ → Option TypeInner
  types = ctx.types

  -- the value has the type
  abbrev Fit : Value → TypeResolution → Type 0
  Fit v ty = has_type ctx.types v (form ctx.types ty)

  module _ (known : ℕ → Option TypeResolution) (signature : Signature) where
    abbrev Met : Option Requirement → Type 0
    Met = Fits ctx known signature

    abbrev HasOf : ℕ → Value → Type 0
    HasOf = HasTypeOf (has_type ctx.types) ctx known

    -- the contents of the type of an operand
    found-of : (operand : ℕ) (ty : TypeResolution) → known operand ≡ Some ty → (what : TypeInner) → the ctx known operand ≡ Some what
        → contents_of ctx.types ty ≡ Some what
    found-of operand ty is what found = ap (λ o. o >>= contents_of ctx.types) (sym is) ∙ found

    of_one-typed : (f : Value → Value) (operand : ℕ) (ty : TypeResolution) → ((v : Value) → HasOf operand v → Fit (f v) ty) → (vs : List Value)
        → AllZip HasOf (operand ∷ []) vs → Fit (of_one f vs) ty
    of_one-typed f operand ty each [] have = tt
    of_one-typed f operand ty each (v ∷ []) have = each v have.0
    of_one-typed f operand ty each (v ∷ w ∷ rest) have = tt

    of_two-typed : (f : Value → Value → Value) (first second : ℕ) (ty : TypeResolution)
        → ((v w : Value) → HasOf first v → HasOf second w → Fit (f v w) ty) → (vs : List Value) → AllZip HasOf (first ∷ second ∷ []) vs → Fit (of_two f vs) ty
    of_two-typed f first second ty each [] have = tt
    of_two-typed f first second ty each (v ∷ []) have = tt
    of_two-typed f first second ty each (v ∷ w ∷ []) have = each v w have.0 have.1.0
    of_two-typed f first second ty each (v ∷ w ∷ x ∷ rest) have = tt

    of_three-typed : (f : Value → Value → Value → Value) (first second third : ℕ) (ty : TypeResolution)
        → ((v w x : Value) → HasOf third x → Fit (f v w x) ty) → (vs : List Value) → AllZip HasOf (first ∷ second ∷ third ∷ []) vs → Fit (of_three f vs) ty
    of_three-typed f first second third ty each [] have = tt
    of_three-typed f first second third ty each (v ∷ []) have = tt
    of_three-typed f first second third ty each (v ∷ w ∷ []) have = tt
    of_three-typed f first second third ty each (v ∷ w ∷ x ∷ []) have = each v w x have.1.1.0
    of_three-typed f first second third ty each (v ∷ w ∷ x ∷ y ∷ rest) have = tt

    -- an operand has the type that is copied
    same-typed : (operand : ℕ) (ty : TypeResolution) → same ctx known operand ≡ Some ty → (v : Value) → HasOf operand v → Fit v ty
    same-typed operand ty is v has =
        subst (Fit v) (copied-same has.0 ty (ap (λ o. o >>= copied) (sym has.1) ∙ is)) has.2

    -- an operand that must have the type that is copied from another one has it
    wanted-typed : (of operand : ℕ) (ty : TypeResolution) → same ctx known of ≡ Some ty → Met (of_type (source.Same of) operand) → (v : Value) → HasOf operand v → Fit v ty
    wanted-typed of operand ty is met v has =
        subst (Fit v) (same_Some met.0 ty (sym met.1 ∙ is)) (HasTypeOf-known (has_type ctx.types) ctx known signature operand v met.0 has met.2)

    access-typed : (base : ℕ) (index : Option ℕ) (position : ℕ) → Agrees index position → (ty : TypeResolution) → (the ctx known base >>= accessed ctx index) ≡ Some ty
        → (v : Value) → HasOf base v → Fit (accessed_at ctx position v) ty
    access-typed base index position agrees ty is v has =
        option_and_then_some (accessed ctx index) (the ctx known base) ty is
        (λ what found at. accessed_at-typed ctx v has.0 what (found-of base has.0 has.1 what found) has.2 index position agrees ty at)

    computed-typed : (base : ℕ) (ty : TypeResolution) → (the ctx known base >>= accessed ctx None) ≡ Some ty → (v index : Value) → HasOf base v
        → Fit (model.accessed ctx v index) ty
    computed-typed base ty is v index has =
        option_and_then_some (accessed ctx None) (the ctx known base) ty is
        (λ what found at. accessed-typed ctx v index has.0 what (found-of base has.0 has.1 what found) has.2 ty at)

    load-typed : (memory : Variable → Value) → IsMemory ctx memory → (pointer : ℕ) (ty : TypeResolution) → (the ctx known pointer >>= loaded ctx) ≡ Some ty
        → (v : Value) → HasOf pointer v → Fit (loaded_from memory v) ty
    load-typed memory typed pointer ty is v has =
        option_and_then_some (loaded ctx) (the ctx known pointer) ty is
        (λ what found at. loaded-typed ctx memory typed v has.0 what (found-of pointer has.0 has.1 what found) has.2 ty at)

    splat-of : (size : VectorSize) (what : TypeInner) (ty : TypeResolution) → rows.splatted size what ≡ Some ty → (v : Value) (of : TypeResolution)
        → contents_of ctx.types of ≡ Some what → Fit v of → Fit (splatted size v) ty
    splat-of size (inner.Scalar scalar) ty is v of found has =
        subst (Fit (splatted size v)) (same_Some (resolution.Value (inner.Vector size scalar)) ty is)
        (vector-typed ctx.types size scalar (λ position. v) (λ position. subst (has_type ctx.types v) (form-of ctx.types of (inner.Scalar scalar) found refl) has))
    splat-of size what ty is v of found has = absurd (none-some ty is)

    swizzle-of : (size : VectorSize) (pattern : List SwizzleComponent) (what : TypeInner) (ty : TypeResolution) → rows.swizzled size what ≡ Some ty → (v : Value) (of : TypeResolution)
        → contents_of ctx.types of ≡ Some what → Fit v of → Fit (swizzled size pattern v) ty
    swizzle-of size pattern (inner.Vector from scalar) ty is v of found has =
        subst (Fit (swizzled size pattern v)) (same_Some (resolution.Value (inner.Vector size scalar)) ty is)
        (vector-typed ctx.types size scalar (λ position. part_at v (get_or (map place_of pattern) position 0))
        (λ position.
        component-typed ctx.types from scalar v (subst (has_type ctx.types v) (form-of ctx.types of (inner.Vector from scalar) found refl) has)
        (get_or (map place_of pattern) position 0)))
    swizzle-of size pattern what ty is v of found has = absurd (none-some ty is)

    select-typed : (condition accept reject : ℕ) → Met (of_type (source.Same accept) reject) → (ty : TypeResolution) → same ctx known accept ≡ Some ty → (vs : List Value)
        → AllZip HasOf (condition ∷ accept ∷ reject ∷ []) vs → Fit (selected vs) ty
    select-typed condition accept reject met ty is [] have = absurd have
    select-typed condition accept reject met ty is (c ∷ []) have = absurd have.1
    select-typed condition accept reject met ty is (c ∷ v ∷ []) have = absurd have.1.1
    select-typed condition accept reject met ty is (c ∷ v ∷ w ∷ []) have =
        selected-typed ctx.types c v w (form ctx.types ty) (same-typed accept ty is v have.1.0) (wanted-typed accept reject ty is met w have.1.1.0)
    select-typed condition accept reject met ty is (c ∷ v ∷ w ∷ x ∷ rest) have = absurd have.1.1.1

    -- a minimum has two operands, of the type of the first
    least-of : (first : ℕ) (second third fourth : Option ℕ) → Met (given fun.Min 1 second) → Met (given fun.Min 2 third) → Met (given fun.Min 3 fourth)
        → Met (of_second fun.Min first second) → (ty : TypeResolution) → same ctx known first ≡ Some ty → (vs : List Value)
        → AllZip HasOf (operands_of (expression.Math fun.Min first second third fourth)) vs → Fit (of_two least vs) ty
    least-of first None third fourth m1 m2 m3 met ty is vs have = absurd (let e : true ≡ false = m1 in cc)
    least-of first (Some second) (Some third) fourth m1 m2 m3 met ty is vs have = absurd (let e : false ≡ true = m2 in cc)
    least-of first (Some second) None (Some fourth) m1 m2 m3 met ty is vs have = absurd (let e : false ≡ true = m3 in cc)
    least-of first (Some second) None None m1 m2 m3 met ty is vs have =
        of_two-typed least first second ty
        (λ v w has also. least-typed ctx.types v w (form ctx.types ty) (same-typed first ty is v has) (wanted-typed first second ty is met w also)) vs have

    -- a value that is clamped has two limits, of its type
    confined-of : (first : ℕ) (second third fourth : Option ℕ) → Met (given fun.Clamp 1 second) → Met (given fun.Clamp 2 third) → Met (given fun.Clamp 3 fourth)
        → Met (of_third fun.Clamp first third) → (ty : TypeResolution) → same ctx known first ≡ Some ty → (vs : List Value)
        → AllZip HasOf (operands_of (expression.Math fun.Clamp first second third fourth)) vs → Fit (of_three confined vs) ty
    confined-of first None third fourth m1 m2 m3 met ty is vs have = absurd (let e : true ≡ false = m1 in cc)
    confined-of first (Some second) None fourth m1 m2 m3 met ty is vs have = absurd (let e : true ≡ false = m2 in cc)
    confined-of first (Some second) (Some third) (Some fourth) m1 m2 m3 met ty is vs have = absurd (let e : false ≡ true = m3 in cc)
    confined-of first (Some second) (Some third) None m1 m2 m3 met ty is vs have =
        of_three-typed confined first second third ty
        (λ v w x has. confined-typed ctx.types v w x (form ctx.types ty) (wanted-typed first third ty is met x has)) vs have

    -- ---- compositions

    named : (xs : List ℕ) → expressions_of (operands xs) ≡ xs
    named [] = refl
    named (x ∷ xs) = ap (λ ys. x ∷ ys) (named xs)

    -- a component of a value that is no vector has the type of the part at its position
    part-of : (what : TypeInner) → vector_scalar what ≡ None → (t position operand : ℕ) → ctx.types t ≡ Some what → Met (of (expected.Component t position) operand)
        → (v : Value) → HasOf operand v → (p : TypeResolution) × (part_of (Some position) what ≡ Some p) × Fit v p
    part-of what none t position operand is met v has =
        let same : met.0 ≡ what = same_Some met.0 what (sym met.1 ∙ is) in
        let part : IsPart ctx known signature (vector_scalar what) what position operand =
        subst (λ w. IsPart ctx known signature (vector_scalar w) w position operand) same met.2 in
        let found : IsPart ctx known signature None what position operand = subst (λ s. IsPart ctx known signature s what position operand) none part in
        (found.0, found.1, HasTypeOf-known (has_type ctx.types) ctx known signature operand v found.0 has found.2)

    parts-of : (what : TypeInner) → vector_scalar what ≡ None → (t position : ℕ) → ctx.types t ≡ Some what → (xs : List ℕ) → All Met (of_components t position xs)
        → (vs : List Value) → AllZip HasOf xs vs → (k : ℕ) → k < length vs
        → (p : TypeResolution) × (part_of (Some (position + k)) what ≡ Some p) × Fit (get_or vs k indeterminate) p
    parts-of what none t position is [] met [] have k less = absurd (omega (arith, less))
    parts-of what none t position is [] met (v ∷ vs) have k less = absurd have
    parts-of what none t position is (x ∷ xs) met [] have k less = absurd have
    parts-of what none t position is (x ∷ xs) met (v ∷ vs) have zero less =
        let part = part-of what none t position x is
        (All-head Met (of (expected.Component t position) x) (of_components t (position + 1) xs) met) v have.0 in
        let at : position ≡ position + 0 = omega arith in
        (part.0, subst (λ n. part_of (Some n) what ≡ Some part.0) at part.1, part.2)
    parts-of what none t position is (x ∷ xs) met (v ∷ vs) have (suc k) less =
        let part = parts-of what none t (position + 1) is xs
        (All-tail Met (of (expected.Component t position) x) (of_components t (position + 1) xs) met) vs have.1 k (omega (arith, less)) in
        let at : (position + 1) + k ≡ position + suc k = omega arith in
        (part.0, subst (λ n. part_of (Some n) what ≡ Some part.0) at part.1, part.2)

    built-typed : (ty : Form) (what : TypeInner) → contents_in ctx.types ty ≡ Some what → (vs : List Value)
        → ((k : ℕ) → k < length vs → (p : TypeResolution) × (part_of (Some k) what ≡ Some p) × Fit (get_or vs k indeterminate) p)
        → (count : Option ℕ) → count_in what ≡ count → has_type ctx.types (built count vs) ty
    built-typed ty what is vs each None counted = tt
    built-typed ty what is vs each (Some count) counted = elim (cases_Bool (nat_eq (length vs) count)) [
      | inl same ↦
          subst (λ v. has_type ctx.types v ty) (λ i. if sym same i then composite count (λ k. get_or vs k indeterminate) else indeterminate) (
            ap (λ o. o >>= count_in) is ∙ counted,
            λ position less.
                let found = each position (let long : length vs ≡ count = equal (length vs) count same in omega (arith, long, less)) in (
                  form ctx.types found.0,
                  ap (λ o. option_map (form ctx.types) (o >>= part_of (Some position))) is ∙ ap (option_map (form ctx.types)) found.1,
                  found.2,
                ),
          )
      | inr unequal ↦
          subst (λ v. has_type ctx.types v ty) (λ i. if sym unequal i then composite count (λ k. get_or vs k indeterminate) else indeterminate) tt
    ]

    -- the value is one of this scalar
    abbrev Is : Scalar → Value → Type 0
    Is scalar v = has_type ctx.types v (contents (plain (inner.Scalar scalar)))

    one : (scalar : Scalar) (v : Value) → Is scalar v → All (Is scalar) (v ∷ [])
    one scalar v is = All-cons (Is scalar) v [] is (All-nil (Is scalar))

    scalar-components : (scalar : Scalar) (v : Value) → Is scalar v → All (Is scalar) (components v)
    scalar-components scalar indeterminate is = one scalar indeterminate tt
    scalar-components scalar (numeric of number) is = one scalar (numeric of number) is
    scalar-components scalar (composite count parts) is = absurd (none-some count is.0)
    scalar-components scalar (pointing to path) is = absurd (none-some is.0 is.2)

    vector-components : (size : VectorSize) (scalar : Scalar) (v : Value) → has_type ctx.types v (contents (plain (inner.Vector size scalar)))
        → All (Is scalar) (components v)
    vector-components size scalar indeterminate has = one scalar indeterminate tt
    vector-components size scalar (numeric of number) has = absurd (none-some of has.0)
    vector-components size scalar (pointing to path) has = absurd (none-some has.0 has.2)
    vector-components size scalar (composite count parts) has =
        All-map (Is scalar) parts (range_with_len 0 count)
        (All-from_get_or (λ k. Is scalar (parts k)) (range_with_len 0 count) 0
        (λ i less.
        let below_count : i < count = subst (λ n. i < n) (length-range_with_len 0 count) less in
        let at : i ≡ get_or (range_with_len 0 count) i 0 = (let e : i ≡ 0 + i = omega arith in e ∙ sym (get_or-range_with_len 0 count i 0 below_count)) in
        let found = has.1 i below_count in
        subst (λ k. Is scalar (parts k)) at
        (subst (has_type ctx.types (parts i)) (sym (when-form ctx.types (nat_lt i (components_of size)) (inner.Scalar scalar) found.0 found.1)) found.2)))

    components-typed : (scalar : Scalar) (what : TypeInner) → component what ≡ Some scalar → (of : TypeResolution) → contents_of ctx.types of ≡ Some what → (v : Value)
        → Fit v of → All (Is scalar) (components v)
    components-typed scalar (inner.Scalar s) is of found v has =
        scalar-components scalar v
        (subst (has_type ctx.types v) (form-of ctx.types of (inner.Scalar s) found refl ∙ ap (λ x. contents (plain (inner.Scalar x))) (same_Some s scalar is)) has)
    components-typed scalar (inner.Vector size s) is of found v has =
        vector-components size scalar v
        (subst (has_type ctx.types v) (form-of ctx.types of (inner.Vector size s) found refl ∙ ap (λ x. contents (plain (inner.Vector size x))) (same_Some s scalar is)) has)
    components-typed scalar what is of found v has = absurd (none-some scalar is)

    entry-of : (size : VectorSize) (scalar : Scalar) (t position operand : ℕ) → ctx.types t ≡ Some (inner.Vector size scalar)
        → Met (of (expected.Component t position) operand) → (v : Value) → HasOf operand v → All (Is scalar) (components v)
    entry-of size scalar t position operand is met v has =
        let same : met.0 ≡ inner.Vector size scalar = same_Some met.0 (inner.Vector size scalar) (sym met.1 ∙ is) in
        let part : IsPart ctx known signature (Some scalar) (inner.Vector size scalar) position operand =
        subst (λ w. IsPart ctx known signature (vector_scalar w) w position operand) same met.2 in
        option_and_then_some component (the ctx known operand) scalar part
        (λ what found at. components-typed scalar what at has.0 (found-of operand has.0 has.1 what found) v has.2)

    entries-of : (size : VectorSize) (scalar : Scalar) (t position : ℕ) → ctx.types t ≡ Some (inner.Vector size scalar) → (xs : List ℕ)
        → All Met (of_components t position xs) → (vs : List Value) → AllZip HasOf xs vs → All (Is scalar) (components_of_all vs)
    entries-of size scalar t position is [] met [] have = All-nil (Is scalar)
    entries-of size scalar t position is [] met (v ∷ vs) have = absurd have
    entries-of size scalar t position is (x ∷ xs) met [] have = absurd have
    entries-of size scalar t position is (x ∷ xs) met (v ∷ vs) have =
        All-append (Is scalar) (components v) (components_of_all vs)
        (entry-of size scalar t position x is (All-head Met (of (expected.Component t position) x) (of_components t (position + 1) xs) met) v have.0)
        (entries-of size scalar t (position + 1) is xs (All-tail Met (of (expected.Component t position) x) (of_components t (position + 1) xs) met) vs have.1)

    each-of : (scalar : Scalar) (vs : List Value) → All (Is scalar) vs → (k : ℕ) → Is scalar (get_or vs k indeterminate)
    each-of scalar [] all k = tt
    each-of scalar (v ∷ vs) all zero = All-head (Is scalar) v vs all
    each-of scalar (v ∷ vs) all (suc k) = each-of scalar vs (All-tail (Is scalar) v vs all) k

    vector-built : (size : VectorSize) (scalar : Scalar) (vs : List Value) → All (Is scalar) vs
        → has_type ctx.types (built (Some (components_of size)) vs) (contents (plain (inner.Vector size scalar)))
    vector-built size scalar vs all = elim (cases_Bool (nat_eq (length vs) (components_of size))) [
      | inl same ↦
          subst (λ v. has_type ctx.types v (contents (plain (inner.Vector size scalar))))
          (λ i. if sym same i then composite (components_of size) (λ k. get_or vs k indeterminate) else indeterminate)
          (vector-typed ctx.types size scalar (λ k. get_or vs k indeterminate) (each-of scalar vs all))
      | inr unequal ↦
          subst (λ v. has_type ctx.types v (contents (plain (inner.Vector size scalar))))
          (λ i. if sym unequal i then composite (components_of size) (λ k. get_or vs k indeterminate) else indeterminate) tt
    ]

    -- a value of a type that is no vector
    whole-composed : (t : ℕ) (what : TypeInner) → ctx.types t ≡ Some what → contents_in ctx.types (form ctx.types (handle t)) ≡ Some what → vector_scalar what ≡ None
        → (xs : List ℕ) → All Met (of_components t 0 xs) → (vs : List Value) → AllZip HasOf xs vs → Fit (built (count_in what) vs) (handle t)
    whole-composed t what is found none xs met vs have =
        built-typed (form ctx.types (handle t)) what found vs
        (λ k less.
        let part = parts-of what none t 0 is xs met vs have k less in
        let at : 0 + k ≡ k = omega arith in
        (part.0, subst (λ n. part_of (Some n) what ≡ Some part.0) at part.1, part.2)) (count_in what) refl

    composed-with : (t : ℕ) (found : Option TypeInner) → ctx.types t ≡ found → (count : ℕ) → passes (takes count) found ≡ true → (xs : List ℕ)
        → All Met (of_components t 0 xs) → (vs : List Value) → AllZip HasOf xs vs → Fit (composed (contents_in ctx.types (form ctx.types (handle t))) vs) (handle t)
    composed-with t None is count counts xs met vs have = absurd (let e : false ≡ true = counts in cc)
    composed-with t (Some (inner.Vector size scalar)) is count counts xs met vs have =
        subst (λ f. has_type ctx.types (composed (contents_in ctx.types f) vs) f) (sym (form-of ctx.types (handle t) (inner.Vector size scalar) is refl))
        (vector-built size scalar (components_of_all vs) (entries-of size scalar t 0 is xs met vs have))
    composed-with t (Some (inner.Matrix columns rows scalar)) is count counts xs met vs have =
        let found = ap (contents_in ctx.types) (form-of ctx.types (handle t) (inner.Matrix columns rows scalar) is refl) in
        subst (λ o. Fit (composed o vs) (handle t)) (sym found) (whole-composed t (inner.Matrix columns rows scalar) is found refl xs met vs have)
    composed-with t (Some (inner.Array base size stride)) is count counts xs met vs have =
        let found = ap (contents_in ctx.types) (form-of ctx.types (handle t) (inner.Array base size stride) is refl) in
        subst (λ o. Fit (composed o vs) (handle t)) (sym found) (whole-composed t (inner.Array base size stride) is found refl xs met vs have)
    composed-with t (Some (inner.Struct members span)) is count counts xs met vs have =
        let found = ap (λ o. contents_in ctx.types (declared_form ctx.types t o)) is ∙ is in
        subst (λ o. Fit (composed o vs) (handle t)) (sym found) (whole-composed t (inner.Struct members span) is found refl xs met vs have)
    composed-with t (Some what) is count counts xs met vs have = absurd (let e : false ≡ true = counts in cc)

    composed-typed : (t : ℕ) (xs : List ℕ) → All Met (of_compose t xs) → (vs : List Value) → AllZip HasOf xs vs
        → Fit (composed (contents_in ctx.types (form ctx.types (handle t))) vs) (handle t)
    composed-typed t xs met vs have =
        composed-with t (ctx.types t) refl (length xs)
        (All-head Met (Some (requirement.ComponentCount t (length xs))) (of_parts t xs) met) xs
        (All-both Met (of_components t 0 xs) (Some (requirement.VectorEntries t (first_components xs)) ∷ [])
        (All-tail Met (Some (requirement.ComponentCount t (length xs))) (of_parts t xs) met)).0 vs have

    -- ---- the table

    number-below : (number : literal.Literal) → is_truth (literals.scalar_of number).kind ≡ true → number_of number < 2
    number-below (written.Bool true) so = omega arith
    number-below (written.Bool false) so = omega arith
    number-below _ so = absurd (let e : false ≡ true = so in cc)

    -- a minimum has the type of its first operand
    min-type : (first : ℕ) (second : Option TypeInner) (ty : TypeResolution)
        → (known first >>= λ of_first. contents_of ctx.types of_first >>= λ what. math.applied ctx (math.rule_of fun.Min) of_first what second) ≡ Some ty
        → same ctx known first ≡ Some ty
    min-type first second ty is =
        option_and_then_some (λ of_first. contents_of ctx.types of_first >>= λ what. math.applied ctx (math.rule_of fun.Min) of_first what second) (known first) ty is
        (λ of_first found at. option_and_then_some (λ what. math.applied ctx (math.rule_of fun.Min) of_first what second) (contents_of ctx.types of_first) ty at
        (λ what there gives. option_and_then_some (λ scalar. copied of_first) (math.accepted (math.rule_of fun.Min) what) ty gives
        (λ scalar takes_it copies. ap (λ o. o >>= copied) found ∙ copies)))

    module _ (bound : ℕ) (state : State) (memory : IsMemory ctx state.memory)
        (arguments : (index : ℕ) (ty : TypeResolution) → option_map handle (ctx.arguments index) ≡ Some ty → Fit (get_or state.arguments index indeterminate) ty) where
      operator-fits : (e : Expression) → IsOperator e → ExpressionFits Met e → (ty : TypeResolution) → type_of ctx known e ≡ Some ty → (vs : List Value)
          → AllZip HasOf (operands_of e) vs → Fit (by_shape ctx bound (Some (shape_of itself e)) vs state) ty
      operator-fits (expression.Literal number) is fits ty typed vs have =
          subst (Fit (numeric (literals.scalar_of number) (number_of number))) (same_Some (resolution.Value (inner.Scalar (literals.scalar_of number))) ty typed)
          (refl, number-below number)
      operator-fits (expression.Constant constant) is fits ty typed vs have = zero-named ctx bound (ctx.constants constant) ty typed
      operator-fits (expression.Override override) is fits ty typed vs have = one-named ctx (ctx.overrides override) ty typed
      operator-fits (expression.ZeroValue t) is fits ty typed vs have = zero-named ctx bound (Some t) ty typed
      operator-fits (expression.Compose t parts) is fits ty typed vs have =
          subst (Fit (composed (contents_in ctx.types (form ctx.types (handle t))) vs)) (same_Some (handle t) ty typed)
          (composed-typed t parts.items fits vs (subst (λ xs. AllZip HasOf xs vs) (named parts.items) have))
      operator-fits (expression.Access base index) is fits ty typed vs have =
          of_two-typed (model.accessed ctx) base index ty (λ v w has also. computed-typed base ty typed v w has) vs have
      operator-fits (expression.AccessIndex base index) is fits ty typed vs have =
          of_one-typed (accessed_at ctx index) base ty (λ v has. access-typed base (Some index) index refl ty typed v has) vs have
      operator-fits (expression.Splat size operand) is fits ty typed vs have =
          of_one-typed (splatted size) operand ty
          (λ v has. option_and_then_some (rows.splatted size) (the ctx known operand) ty typed
          (λ what found at. splat-of size what ty at v has.0 (found-of operand has.0 has.1 what found) has.2)) vs have
      operator-fits (expression.Swizzle size vector pattern) is fits ty typed vs have =
          of_one-typed (swizzled size pattern) vector ty
          (λ v has. option_and_then_some (rows.swizzled size) (the ctx known vector) ty typed
          (λ what found at. swizzle-of size pattern what ty at v has.0 (found-of vector has.0 has.1 what found) has.2)) vs have
      operator-fits (expression.FunctionArgument index) is fits ty typed vs have = arguments index ty typed
      operator-fits (expression.GlobalVariable global) is fits ty typed vs have = variable-typed ctx 0 global (ctx.globals global) ty typed
      operator-fits (expression.LocalVariable local) is fits ty typed vs have = local-typed ctx state.depth local (ctx.locals local) ty typed
      operator-fits (expression.Load pointer) is fits ty typed vs have = absurd is
      operator-fits (expression.Binary op.Subtract left right) is fits ty typed vs have =
          of_two-typed difference left right ty
          (λ v w has also. difference-typed ctx.types v w (form ctx.types ty) (same-typed left ty typed v has)
          (wanted-typed left right ty typed (fits 1 None (omega arith)) w also)) vs have
      operator-fits (expression.Binary op.And left right) is fits ty typed vs have =
          of_two-typed common left right ty
          (λ v w has also. common-typed ctx.types v w (form ctx.types ty) (same-typed left ty typed v has)
          (wanted-typed left right ty typed (fits 1 None (omega arith)) w also)) vs have
      operator-fits (expression.Binary op.Modulo left right) is fits ty typed vs have =
          of_two-typed remainder left right ty
          (λ v w has also. remainder-typed ctx.types v w (form ctx.types ty) (same-typed left ty typed v has)
          (wanted-typed left right ty typed (fits 1 None (omega arith)) w also)) vs have
      operator-fits (expression.Select condition accept reject) is fits ty typed vs have =
          select-typed condition accept reject (fits 2 None (omega arith)) ty typed vs have
      operator-fits (expression.Math fun.Min first second third fourth) is fits ty typed vs have =
          least-of first second third fourth (fits 0 None (omega arith)) (fits 1 None (omega arith)) (fits 2 None (omega arith)) (fits 3 None (omega arith)) ty
          (min-type first (optional ctx known second) ty typed) vs have
      operator-fits (expression.Math fun.Clamp first second third fourth) is fits ty typed vs have =
          confined-of first second third fourth (fits 0 None (omega arith)) (fits 1 None (omega arith)) (fits 2 None (omega arith)) (fits 4 None (omega arith)) ty
          (min-type first (optional ctx known second) ty typed) vs have
      operator-fits (expression.ArrayLength array) is fits ty typed vs have =
          subst (Fit (numeric U32 2)) (same_Some (resolution.Value (inner.Scalar U32)) ty typed) (refl, λ so. absurd (let e : false ≡ true = so in cc))
      operator-fits _ is fits ty typed vs have = tt

    -- ---- stores

    stored-memory : (pointer value : ℕ) → Met (of_type (source.Loaded pointer) value) → (to : Variable) (path : List ℕ) (w : Value) → HasOf pointer (pointing to path)
        → HasOf value w → (memory : Variable → Value) → IsMemory ctx memory → IsMemory ctx (stored_in to path w memory)
    stored-memory pointer value met to path w (at, is, (behind, there, points)) has memory typed =
        option_and_then_some (loaded ctx) (the ctx known pointer) met.0 met.1
        (λ what found loads.
        stored-typed ctx to path w behind there
        ((loaded-both ctx at what (found-of pointer at is what found) behind points met.0 loads w).1
        (HasTypeOf-known (has_type ctx.types) ctx known signature value w met.0 has met.2)) memory typed)

-- ---- functions

module _ (whole : the_module.Module) (inside : function.Function) where
  abbrev ctx : Context
  ctx = context_in whole inside

  -- the value has the type in the module
  abbrev HasIn : Value → TypeResolution → Type 0
  HasIn v ty = has_type_in whole v (form ctx.types ty)

  argument-found : (ty : ℕ) (v : Value) (vs : List Value) (index : ℕ) (found : Option Value) → slice_get vs index ≡ found → IsSomeAnd found (λ v. HasIn v (handle ty))
      → HasIn (get_or vs index indeterminate) (handle ty)
  argument-found ty v vs index None is has = absurd has
  argument-found ty v vs index (Some w) is has = subst (λ v. HasIn v (handle ty)) (sym (get_or_from_slice_get vs index w indeterminate is)) has

  argument-typed : (vs : List Value) → AreArguments (has_type_in whole) whole inside vs → (index : ℕ) (ty : TypeResolution) → option_map handle (ctx.arguments index) ≡ Some ty
      → HasIn (get_or vs index indeterminate) ty
  argument-typed vs have index ty is = elim (slice_get_cases inside.arguments.items index).1 [
    | inl found ↦
        let same : handle found.0.ty ≡ ty =
        same_Some (handle found.0.ty) ty (sym (ap (λ o. option_map handle (option_map (λ argument. argument.ty) o)) found.2) ∙ is) in
        let there : IsSomeAnd (slice_get vs index) (λ v. HasIn v (handle found.0.ty)) =
        subst (λ o. MatchOption o (Unit {0}) (λ parameter. IsSomeAnd (slice_get vs index) (λ v. HasIn v (handle parameter.ty)))) found.2
        (AllZip-left (λ parameter v. HasIn v (handle parameter.ty)) inside.arguments.items vs have index) in
        subst (HasIn (get_or vs index indeterminate)) same (argument-found found.0.ty indeterminate vs index (slice_get vs index) refl there)
    | inr past ↦ absurd (none-some ty (sym (ap (λ o. option_map handle (option_map (λ argument. argument.ty) o)) past.1) ∙ is))
  ]

  operator-typed : (e : Expression) → IsOperator e → MeetsRequirements whole inside e → (ty : TypeResolution) → type_of ctx (types_in whole inside) e ≡ Some ty
      → (vs : List Value) → HaveTypesOf (has_type_in whole) ctx (types_in whole inside) (operands_of e) vs → (state : State) → IsStateOf whole inside state
      → HasIn (applied itself (interpretation whole) e vs state) ty
  operator-typed e operator meets ty typed vs have state holds =
      subst (λ f. HasIn (by_shape (context_in whole f) (length whole.types + 3) (Some (shape_of itself e)) vs state) ty) (sym holds.runs)
      (operator-fits ctx (types_in whole inside) (signature_in whole inside) (length whole.types + 3) state holds.memory
      (λ index ty is. argument-typed state.arguments holds.arguments index ty is) e operator meets ty typed vs have)

  store-keeps : (pointer value : ℕ) → Fits ctx (types_in whole inside) (signature_in whole inside) (of_type (source.Loaded pointer) value) → (vs : List Value)
      → HaveTypesOf (has_type_in whole) ctx (types_in whole inside) (pointer ∷ value ∷ []) vs → (state : State) → IsStateOf whole inside state
      → IsStateOf whole inside (stored vs state)
  store-keeps pointer value met (pointing to path ∷ w ∷ []) have state holds = record {
    runs = holds.runs;
    arguments = holds.arguments;
    memory =
        stored-memory ctx (types_in whole inside) (signature_in whole inside) pointer value met to path w have.0 have.1.0 state.memory holds.memory;
  }
  store-keeps pointer value met _ have state holds = holds

  statement-keeps : (what : Statement) (vs : List Value) → All (Fits ctx (types_in whole inside) (signature_in whole inside)) (required what)
      → HaveTypesOf (has_type_in whole) ctx (types_in whole inside) (used_by what) vs → (state : State) → IsStateOf whole inside state
      → IsStateOf whole inside (by_action (statement_form what) vs state)
  statement-keeps (Store pointer value) vs met have state holds = store-keeps pointer value (met 1 None (omega arith)) vs have state holds
  statement-keeps _ vs met have state holds = holds

-- the form of an action is that of its statement
action-form : (what : Statement) (action : StatementForm × List (Option Reference)) → action_of itself what ≡ Some action → statement_form what ≡ action.0
action-form (Emit range) action is = absurd (none-some action is)
action-form _ action is = ap (λ a. a.0) (same_Some _ action is)

pub operators-respect : (whole : the_module.Module) → RespectsTypesOf itself (interpretation whole) (has_type_in whole) whole (IsStateOf whole)
operators-respect whole inside is = record {
  operators = operator-typed whole inside;
  loads = λ pointer meets ty typed v has state holds.
      load-typed (context_in whole inside) (types_in whole inside) (signature_in whole inside) state.memory holds.memory pointer ty typed v has;
  states = λ what action vs performed state holds.
      subst (λ shape. IsStateOf whole inside (by_action shape vs state)) (action-form what action performed.acts)
      (statement-keeps whole inside what vs performed.fits performed.typed state holds);
  results = λ what action vs performed state holds result named given way ty known typed. tt;
}

pub entering-respects : (whole : the_module.Module) (inside : function.Function)
    → EntersWithTypes itself (interpretation whole) (has_type_in whole) whole inside (MeetsRequirements whole inside) (IsStateOf whole inside) (IsStateOf whole inside)
entering-respects whole inside = record {
  operators = operator-typed whole inside;
  enters = λ vs initial state holds. holds;
}

returned-typed : (whole : the_module.Module) (inside : function.Function) (result : Option ℕ) (ty : ℕ) → result ≡ Some ty → (found : Option Value)
    → IsReturnedAs (has_type_in whole) (context_in whole inside) result found → HasIn whole inside (or_indeterminate found) (handle ty)
returned-typed whole inside result ty is None has = tt
returned-typed whole inside result ty is (Some v) has = subst (λ t. HasIn whole inside v (handle t)) (same_Some has.0 ty (sym has.1 ∙ is)) has.2

pub calls-respect : (whole : the_module.Module) → CallsRespectTypes itself (calls whole) (interpretation whole) (has_type_in whole) whole (IsStateOf whole)
calls-respect whole = record {
  begins = λ caller is state holds called callee declared vs fit at_use.
      subst (λ o. IsStateOf whole callee (entered_with o vs state)) (sym declared)
      (record { runs = refl; arguments = fit; memory = holds.memory });
  finishes = λ caller is state holds called callee declared left fits.
      record { runs = holds.runs; arguments = holds.arguments; memory = fits.state.memory };
  results = λ caller is state holds called callee declared left fits ty result.
      returned-typed whole callee (signature_in whole callee).result ty result left.returned fits.returned;
}

-- a boolean is below 2
pub two-no-truth : (types : ℕ → Option TypeInner) → ¬ has_type types (numeric BOOL 2) (form types (sized_type None BOOL))
two-no-truth types has = let less : 2 < 2 = has.1 refl in omega (arith, less)

-- a vector has as many parts as its size says
pub vector-parts : (types : ℕ → Option TypeInner) (scalar : Scalar) (size : VectorSize) (count : ℕ) (parts : ℕ → Value)
    → has_type types (composite count parts) (form types (sized_type (Some size) scalar)) → count ≡ components_of size
vector-parts types scalar size count parts has = sym (same_Some (components_of size) count has.0)

-- a number is no vector
pub number-no-vector : (types : ℕ → Option TypeInner) (scalar : Scalar) (number : ℕ) (size : VectorSize) → ¬ has_type types (numeric scalar number) (form types (sized_type (Some size) scalar))
number-no-vector types scalar number size has = none-some scalar has.0

eq-itself : (n : ℕ) → nat_eq n n ≡ true
eq-itself n = grind (arith, nat_tests)

-- what is stored in a variable is in it
pub stored-found : (to : Variable) (v : Value) (state : State) → (stored (pointing to [] ∷ v ∷ []) state).memory to ≡ v
stored-found to v state =
    let same : is_same to to ≡ true =
    (λ i. eq-itself to.ty i && (nat_eq to.depth to.depth && nat_eq to.number to.number))
    ∙ (λ i. eq-itself to.depth i && nat_eq to.number to.number) ∙ eq-itself to.number in
    λ i. if same i then v else state.memory to
