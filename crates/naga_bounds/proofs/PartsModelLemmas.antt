-- The interpretation by values with components respects indices, and its values have the parts that their types say.
use Rattle.std.proofs.Common.{◌≡◌, ◌∙◌, ap, sym, subst, refl, inl, inr, ◌⊎◌, ℕ, suc, ◌-◌, ◌%◌, ◌<◌, ◌≤◌, max, min, true, false, List, [], ◌∷◌, Option, Some, None, arith}
use Rattle.std.proofs.lemmas.Bool.{cases_Bool}
use Rattle.std.proofs.lemmas.Nat.{and_le_l, and_le_r}
use Rattle.std.proofs.lemmas.Option.{none-some, option_and_then_some, same_Some}
use Rattle.std.specs.Option.{option_map}
use Rattle.std.specs.Prelude.{Ok, bit_and, ◌&&◌, if◌then◌else◌, nat_eq}
use Rattle.naga_kinds.specs.declared.scalar.Scalar.{Scalar}
use Rattle.naga_ir.specs.Literal.{u32_of}
use Rattle.naga_ir.specs.Types.{plain}
use Rattle.naga_ir.specs.declared.expression.Expression.{Expression}
use Rattle.naga_ir.specs.declared.expression.Expression.TheVariants as expr
use Rattle.naga_ir.specs.declared.literal.Literal as literal
use Rattle.naga_ir.specs.declared.literal.Literal.TheVariants as written
use Rattle.naga_ir.specs.declared.module.Function as function
use Rattle.naga_ir.specs.declared.module.Module as the_module
use Rattle.naga_ir.specs.declared.statement.Statement.{Store}
use Rattle.naga_ir.specs.declared.types.ArraySize.TheVariants as size
use Rattle.naga_ir.specs.declared.types.TypeInner.{TypeInner}
use Rattle.naga_ir.specs.declared.types.TypeInner.TheVariants as inner
use Rattle.naga_meaning.specs.Forms.{StatementForm, of_statement}
use Rattle.naga_typifier.specs.Context.{contents_of, inner_at}
use Rattle.naga_typifier.specs.Math.{is_uint}
use Rattle.naga_typifier.specs.Rows.{◌>>=◌, handle}
use Rattle.naga_typifier.specs.declared.resolution.TypeResolution.{TypeResolution}
use Rattle.naga_typifier.specs.declared.resolution.TypeResolution.TheVariants as resolution
use Rattle.naga_typing.specs.Forms.{Form, contents, declared_form, form}
use Rattle.naga_typing.specs.ModelValues.{Value, Variable, composite, contents_in, count_in, has_type, indeterminate, number_type, numeric, part_behind, pointed_type, pointing, variable_type}
use Rattle.naga_typing.specs.TypedModel.{IsStateOf, State, by_action, common, confined, difference, interpretation, itself, least, number_of, number_or_zero, one_of, remainder, stored_in}
use Rattle.naga_typing.proofs.ModelValuesLemmas.{behind-typed, form-of, is_pointer, not-pointed, pointed-of}
use Rattle.naga_bounds.specs.Modules.{typed_in}
use Rattle.naga_bounds.specs.PartsModel.{HasItself, HasPart, index_of, unsigned_index_of}
use Rattle.naga_bounds.specs.Reach.{length_behind, length_of, length_reached}
use Rattle.naga_bounds.specs.Respects.{HasElements, IsAtMost, IsSteady, LengthsStay, RespectsIndices, applied, override_value}
use Rattle.naga_bounds.specs.TypedAccesses.{TypesHaveParts}
use Rattle.naga_bounds.specs.Watched.{count}
use Rattle.naga_bounds.specs.declared.length.Length.{Length}
use Rattle.naga_bounds.specs.declared.length.Length.TheVariants.{Counted, Fixed, Overridden}

-- ---- indices

-- the value of an override is 1
one-index : (scalar : Option Scalar) → index_of (one_of scalar) ≡ Some 1
one-index None = refl
one-index (Some scalar) = refl

literal-index : (number : literal.Literal) (n : ℕ) → u32_of number ≡ Ok n → number_of number ≡ n
literal-index (written.Bool truth) n is = absurd (cc)
literal-index _ n is = ap number_or_zero is

-- an unsigned index is that of a number
module _ (P : Value → ℕ → Type 0) (each : (scalar : Scalar) (n : ℕ) → unsigned_index_of (numeric scalar n) ≡ Some n → P (numeric scalar n) n) where
  unsigned-number : (v : Value) (n : ℕ) → unsigned_index_of v ≡ Some n → P v n
  unsigned-number (numeric scalar number) n is = elim (cases_Bool (is_uint scalar.kind && nat_eq scalar.width 4)) [
    | inl fits ↦
        let so : Some number ≡ Some n = (λ i. if sym fits i then Some number else None) ∙ is in
        subst (λ m. P (numeric scalar number) m) (same_Some number n so) (each scalar number (λ i. if fits i then Some number else None))
    | inr other ↦ absurd (none-some n ((λ i. if sym other i then Some number else None) ∙ is))
  ]
  unsigned-number indeterminate n is = absurd (none-some n is)
  unsigned-number (composite size parts) n is = absurd (none-some n is)
  unsigned-number (pointing variable path) n is = absurd (none-some n is)

-- a minimum is at most its limit
bounded-by : (value : Value) (scalar : Scalar) (n : ℕ) → (m : ℕ) × (m ≤ n) × (index_of (least value (numeric scalar n)) ≡ Some m)
bounded-by (numeric of number) scalar n = (min number n, omega arith, refl)
bounded-by indeterminate scalar n = (n, omega arith, refl)
bounded-by (composite size parts) scalar n = (n, omega arith, refl)
bounded-by (pointing variable path) scalar n = (n, omega arith, refl)

bounded-first : (scalar : Scalar) (n : ℕ) (value : Value) → (m : ℕ) × (m ≤ n) × (index_of (least (numeric scalar n) value) ≡ Some m)
bounded-first scalar n (numeric of number) = (min n number, omega arith, refl)
bounded-first scalar n indeterminate = (n, omega arith, refl)
bounded-first scalar n (composite size parts) = (n, omega arith, refl)
bounded-first scalar n (pointing variable path) = (n, omega arith, refl)

-- what is clamped is at most the upper limit
clamped-by : (value low : Value) (scalar : Scalar) (n : ℕ) → (m : ℕ) × (m ≤ n) × (index_of (confined value low (numeric scalar n)) ≡ Some m)
clamped-by (numeric of number) (numeric from lower) scalar n = (min (max number lower) n, omega arith, refl)
clamped-by (numeric of number) indeterminate scalar n = (n, omega arith, refl)
clamped-by (numeric of number) (composite size parts) scalar n = (n, omega arith, refl)
clamped-by (numeric of number) (pointing variable path) scalar n = (n, omega arith, refl)
clamped-by indeterminate low scalar n = (n, omega arith, refl)
clamped-by (composite size parts) low scalar n = (n, omega arith, refl)
clamped-by (pointing variable path) low scalar n = (n, omega arith, refl)

-- a conjunction of bits is at most each operand
masked-by : (value : Value) (scalar : Scalar) (n : ℕ) → (m : ℕ) × (m ≤ n) × (index_of (common value (numeric scalar n)) ≡ Some m)
masked-by (numeric of number) scalar n = (bit_and number n, and_le_r number n, refl)
masked-by indeterminate scalar n = (n, omega arith, refl)
masked-by (composite size parts) scalar n = (n, omega arith, refl)
masked-by (pointing variable path) scalar n = (n, omega arith, refl)

masked-first : (scalar : Scalar) (n : ℕ) (value : Value) → (m : ℕ) × (m ≤ n) × (index_of (common (numeric scalar n) value) ≡ Some m)
masked-first scalar n (numeric of number) = (bit_and n number, and_le_l n number, refl)
masked-first scalar n indeterminate = (n, omega arith, refl)
masked-first scalar n (composite size parts) = (n, omega arith, refl)
masked-first scalar n (pointing variable path) = (n, omega arith, refl)

-- a remainder is below the divisor
remains-below : (m n : ℕ) → m % suc n ≤ n
remains-below m n = grind arith

remains : (left : Value) (scalar : Scalar) (k n : ℕ) → k ≡ suc n → (m : ℕ) × (m ≤ n) × (index_of (remainder left (numeric scalar k)) ≡ Some m)
remains (numeric of number) scalar k n same = (number % k, subst (λ k. number % k ≤ n) (sym same) (remains-below number n), refl)
remains indeterminate scalar k n same = (k - 1, omega (arith, same), refl)
remains (composite size parts) scalar k n same = (k - 1, omega (arith, same), refl)
remains (pointing variable path) scalar k n same = (k - 1, omega (arith, same), refl)

-- a number of type `u32` stays one
unsigned-again : (scalar : Scalar) (n m : ℕ) → unsigned_index_of (numeric scalar n) ≡ Some n → unsigned_index_of (numeric scalar m) ≡ Some m
unsigned-again scalar n m is = elim (cases_Bool (is_uint scalar.kind && nat_eq scalar.width 4)) [
  | inl fits ↦ λ i. if fits i then Some m else None
  | inr other ↦ absurd (none-some n ((λ i. if sym other i then Some n else None) ∙ is))
]

lessened-by : (left : Value) (n : ℕ) → index_of left ≡ Some (suc n) → (scalar : Scalar) (one : ℕ) → unsigned_index_of (numeric scalar one) ≡ Some one → one ≡ 1
    → unsigned_index_of (difference left (numeric scalar one)) ≡ Some n
lessened-by (numeric of number) n is scalar one fits same =
    let less : number - one ≡ n = (let e : number ≡ suc n = same_Some number (suc n) is in omega (arith, e, same)) in
    unsigned-again scalar one (number - one) fits ∙ ap (λ m. Some m) less
lessened-by indeterminate n is scalar one fits same =
    let less : 1 - one ≡ n = (let e : 1 ≡ suc n = same_Some 1 (suc n) is in omega (arith, e, same)) in
    unsigned-again scalar one (1 - one) fits ∙ ap (λ m. Some m) less
lessened-by (composite size parts) n is scalar one fits same = absurd (none-some (suc n) is)
lessened-by (pointing variable path) n is scalar one fits same = absurd (none-some (suc n) is)

-- ---- what statements leave

-- a statement changes what is in variables alone
keeps : (action : StatementForm) (values : List Value) (state : State) → (memory : Variable → Value) × (by_action action values state ≡ record state { memory = memory })
keeps (of_statement (Store pointer value)) (pointing to path ∷ v ∷ []) state = (stored_in to path v state.memory, refl)
keeps _ values state = (state.memory, refl)

module _ (whole : the_module.Module) where
  pub indices-respected : RespectsIndices itself (interpretation whole) index_of unsigned_index_of
  indices-respected = record {
    literals = λ number n state is. ap (λ m. Some m) (literal-index number n is);
    unsigned_literals = λ n state. refl;
    bounded = λ value limit n state is. (
      unsigned-number (λ limit n. IsAtMost index_of n (least value limit)) (λ scalar n fits. bounded-by value scalar n) limit n is,
      unsigned-number (λ limit n. IsAtMost index_of n (least limit value)) (λ scalar n fits. bounded-first scalar n value) limit n is,
    );
    masked = λ value mask n state is. (
      unsigned-number (λ mask n. IsAtMost index_of n (common value mask)) (λ scalar n fits. masked-by value scalar n) mask n is,
      unsigned-number (λ mask n. IsAtMost index_of n (common mask value)) (λ scalar n fits. masked-first scalar n value) mask n is,
    );
    clamped = λ value low high m n state at_least at_most ordered.
        unsigned-number (λ high n. IsAtMost index_of n (confined value low high)) (λ scalar n fits. clamped-by value low scalar n) high n at_most;
    remainders = λ left right n state is.
        unsigned-number (λ right k. k ≡ suc n → IsAtMost index_of n (remainder left right)) (λ scalar k fits same. remains left scalar k n same) right (suc n) is refl;
    unsigned_lengths = λ array state. refl;
    lessened = λ left right n state is one.
        unsigned-number (λ right one. one ≡ 1 → unsigned_index_of (difference left right) ≡ Some n)
        (λ scalar one fits. lessened-by left n is scalar one fits) right 1 one refl;
  }

  overridden : (handle : ℕ) (state : State) → index_of (override_value itself (interpretation whole) handle state) ≡ Some 1
  overridden handle state = one-index _

  pub elements-there : (IsSize : ℕ → Type 0) → HasElements itself (interpretation whole) index_of IsSize
  elements-there IsSize = record {
    counted = λ array state. (1, refl);
    overridden = λ handle state is. (0, overridden handle state);
  }

  steady : (operator : Expression) (operands : List Value) (state : State) (memory : Variable → Value) → IsSteady operator
      → applied itself (interpretation whole) operator operands (record state { memory = memory }) ≡ applied itself (interpretation whole) operator operands state
  steady (expr.Literal number) operands state memory is = refl
  steady (expr.Constant constant) operands state memory is = refl
  steady (expr.Override override) operands state memory is = refl
  steady (expr.ZeroValue ty) operands state memory is = refl
  steady (expr.FunctionArgument index) operands state memory is = refl
  steady (expr.GlobalVariable variable) operands state memory is = refl
  steady (expr.LocalVariable variable) operands state memory is = refl
  steady (expr.AccessIndex base index) operands state memory is = refl
  steady _ operands state memory is = absurd (let e : false ≡ true = is in cc)

  pub lengths-stay : LengthsStay itself (interpretation whole) index_of
  lengths-stay = record {
    array_lengths = λ action values array state. refl;
    ready = λ action values operator operands state is.
        let kept = keeps action.0 values state in
        ap (applied itself (interpretation whole) operator operands) kept.1 ∙ steady operator operands state kept.0 is;
  }

  -- ---- parts

  -- how many parts a value has whose type has this length
  abbrev counted : Length → ℕ
  counted (Fixed n) = n
  counted (Overridden handle) = 1
  counted Counted = 2

  count-is : (inside : function.Function) (base : Value) (state : State) (long : Length)
      → count itself (interpretation whole) index_of (typed_in whole inside) long base state ≡ Some (counted long)
  count-is inside base state (Fixed n) = refl
  count-is inside base state (Overridden handle) = overridden handle state
  count-is inside base state Counted = refl

  -- the number of parts of a type by its length
  counts-same : (what : TypeInner) (long : Length) → length_behind what ≡ Some long → count_in what ≡ Some (counted long)
  counts-same (inner.Vector size scalar) long is = ap (option_map counted) is
  counts-same (inner.Matrix columns rows scalar) long is = ap (option_map counted) is
  counts-same (inner.Array base (size.Constant number) stride) long is = ap (option_map counted) is
  counts-same (inner.Array base (size.Pending override) stride) long is = ap (option_map counted) is
  counts-same (inner.Array base size.Dynamic stride) long is = ap (option_map counted) is
  counts-same (inner.BindingArray base (size.Constant number)) long is = ap (option_map counted) is
  counts-same (inner.BindingArray base (size.Pending override)) long is = ap (option_map counted) is
  counts-same (inner.BindingArray base size.Dynamic) long is = absurd (none-some long is)
  counts-same (inner.Struct members span) long is = ap (option_map counted) is
  counts-same what long is = absurd (none-some long is)

  abbrev types : ℕ → Option TypeInner
  types = inner_at whole.types

  -- the contents of a type with a length can be read from its form, or nothing can
  contents-with : (ty : TypeResolution) (what : TypeInner) → contents_of types ty ≡ Some what → (long : Length) → length_behind what ≡ Some long
      → (contents_in types (form types ty) ≡ Some what) ⊎ (contents_in types (form types ty) ≡ None)
  contents-with (resolution.Handle h) (inner.Struct members span) is long has = inl (ap (λ o. contents_in types (declared_form types h o)) is ∙ is)
  contents-with (resolution.Value w) (inner.Struct members span) is long has =
      inr (ap (λ x. contents_in types (form types (resolution.Value x))) (same_Some w (inner.Struct members span) is))
  contents-with ty (inner.Pointer base space) is long has = absurd (none-some long has)
  contents-with ty what is long has = inl (ap (contents_in types) (form-of types ty what is refl))

  count-of : (ty : TypeResolution) (what : TypeInner) → contents_of types ty ≡ Some what → (long : Length) → length_behind what ≡ Some long → (c : ℕ)
      → (contents_in types (form types ty) >>= count_in) ≡ Some c → c ≡ counted long
  count-of ty what is long has c counts = elim (contents-with ty what is long has) [
    | inl found ↦ same_Some c (counted long) (sym counts ∙ ap (λ o. o >>= count_in) found ∙ counts-same what long has)
    | inr none ↦ absurd (none-some c (sym (ap (λ o. o >>= count_in) none) ∙ counts))
  ]

  -- a type with a length is that of no numbers, and not that of pointers
  no-number : (ty : TypeResolution) (what : TypeInner) → contents_of types ty ≡ Some what → (long : Length) → length_behind what ≡ Some long
      → number_type (form types ty) ≡ None
  no-number (resolution.Handle h) (inner.Struct members span) is long has = ap (λ o. number_type (declared_form types h o)) is
  no-number (resolution.Value w) (inner.Struct members span) is long has =
      ap (λ x. number_type (form types (resolution.Value x))) (same_Some w (inner.Struct members span) is)
  no-number ty (inner.Scalar scalar) is long has = absurd (none-some long has)
  no-number ty (inner.Atomic scalar) is long has = absurd (none-some long has)
  no-number ty (inner.Pointer base space) is long has = absurd (none-some long has)
  no-number ty what is long has = ap number_type (form-of types ty what is refl)

  no-pointer : (what : TypeInner) (long : Length) → length_behind what ≡ Some long → is_pointer what ≡ false
  no-pointer (inner.Pointer base space) long has = absurd (none-some long has)
  no-pointer (inner.ValuePointer size scalar space) long has = absurd (none-some long has)
  no-pointer what long has = refl

  has-itself : (v : Value) (ty : TypeResolution) (what : TypeInner) → contents_of types ty ≡ Some what → has_type types v (form types ty) → (long : Length)
      → length_behind what ≡ Some long → (part : ℕ) → part < counted long → HasItself v part
  has-itself indeterminate ty what is has long is_long part less = tt
  has-itself (numeric scalar number) ty what is has long is_long part less = absurd (none-some scalar (sym (no-number ty what is long is_long) ∙ has.0))
  has-itself (composite c parts) ty what is has long is_long part less =
      let same : c ≡ counted long = count-of ty what is long is_long c has.0 in omega (arith, same, less)
  has-itself (pointing to path) ty what is has long is_long part less =
      absurd (none-some has.0 (sym (not-pointed types ty what is (no-pointer what long is_long)) ∙ has.2))

  -- a type of pointers is that of no numbers, and its values have no parts
  alone-number : (ty behind : Form) → pointed_type types ty ≡ Some behind → (scalar : Scalar) → number_type ty ≡ Some scalar → ⊥
  alone-number (contents (plain (inner.Scalar scalar))) behind points s is = none-some behind points
  alone-number (contents (plain (inner.Atomic scalar))) behind points s is = none-some behind points
  alone-number ty behind points s is = none-some s is

  alone-count : (ty behind : Form) → pointed_type types ty ≡ Some behind → (c : ℕ) → (contents_in types ty >>= count_in) ≡ Some c → ⊥
  alone-count (contents (plain (inner.Pointer base space))) behind points c is = none-some c is
  alone-count (contents (plain (inner.ValuePointer size scalar space))) behind points c is = none-some c is
  alone-count ty behind points c is = none-some behind points

  module _ (state : State) (memory : (to : Variable) → has_type types (state.memory to) (variable_type types to)) where
    -- what a pointer points to has the parts of its type
    has-behind : (base : Value) (ty : TypeResolution) → has_type types base (form types ty) → (to : TypeResolution) (what : TypeInner) → contents_of types to ≡ Some what
        → pointed_type types (form types ty) ≡ Some (form types to) → (long : Length) → length_behind what ≡ Some long → (part : ℕ) → part < counted long
        → HasPart base part state
    has-behind indeterminate ty has to what is points long is_long part less = tt
    has-behind (numeric scalar number) ty has to what is points long is_long part less = absurd (alone-number (form types ty) (form types to) points scalar has.0)
    has-behind (composite c parts) ty has to what is points long is_long part less = absurd (alone-count (form types ty) (form types to) points c has.0)
    has-behind (pointing variable path) ty has to what is points long is_long part less =
        has-itself (part_behind (state.memory variable) path) to what is
        (subst (has_type types (part_behind (state.memory variable) path)) (same_Some has.0 (form types to) (sym has.2 ∙ points))
        (behind-typed types path (state.memory variable) (variable_type types variable) (memory variable) has.0 has.1)) long is_long part less

    -- and so has a value
    has-directly : (base : Value) (ty : TypeResolution) (what : TypeInner) → contents_of types ty ≡ Some what → has_type types base (form types ty) → (long : Length)
        → length_behind what ≡ Some long → (part : ℕ) → part < counted long → HasPart base part state
    has-directly indeterminate ty what is has long is_long part less = tt
    has-directly (numeric scalar number) ty what is has long is_long part less = has-itself (numeric scalar number) ty what is has long is_long part less
    has-directly (composite c parts) ty what is has long is_long part less = has-itself (composite c parts) ty what is has long is_long part less
    has-directly (pointing to path) ty what is has long is_long part less =
        absurd (none-some has.0 (sym (not-pointed types ty what is (no-pointer what long is_long)) ∙ has.2))

    behind-too : (what : TypeInner) (long : Length) → length_of what ≡ Some long → length_behind what ≡ Some long
    behind-too (inner.Array base size.Dynamic stride) long is = absurd (none-some long is)
    behind-too (inner.Array base (size.Constant number) stride) long is = is
    behind-too (inner.Array base (size.Pending override) stride) long is = is
    behind-too what long is = is

    has-parts : (base : Value) (ty : TypeResolution) → has_type types base (form types ty) → (what : TypeInner) → contents_of types ty ≡ Some what → (long : Length)
        → length_reached types what ≡ Some long → (part : ℕ) → part < counted long → HasPart base part state
    has-parts base ty has (inner.Pointer to space) is long reaches part less =
        option_and_then_some length_behind (types to) long reaches
        (λ w there is_long. has-behind base ty has (handle to) w there (pointed-of types ty to space is) long is_long part less)
    has-parts base ty has (inner.ValuePointer None scalar space) is long reaches part less = absurd (none-some long reaches)
    has-parts base ty has (inner.ValuePointer (Some size) scalar space) is long reaches part less =
        has-behind base ty has (resolution.Value (inner.Vector size scalar)) (inner.Vector size scalar) refl
        (ap (pointed_type types) (form-of types ty (inner.ValuePointer (Some size) scalar space) is refl)) long reaches part less
    has-parts base ty has what is long reaches part less = has-directly base ty what is has long (behind-too what long reaches) part less

  pub parts-there : (inside : function.Function) → TypesHaveParts itself (interpretation whole) index_of (has_type types) HasPart whole inside (IsStateOf whole inside)
  parts-there inside base ty has long reaches state holds n counts part less =
      option_and_then_some (length_reached types) (contents_of types ty) long reaches
      (λ what is reach.
      has-parts state holds.memory base ty has what is long reach part
      (subst (λ m. part < m) (same_Some n (counted long) (sym counts ∙ count-is inside base state long)) less))
