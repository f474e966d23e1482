-- In a module with valid handles, what a handle represents is finite.
use Rattle.std.proofs.Common.{◌≡◌, ◌∙◌, ap, refl, ℕ, zero, suc, ◌+◌, ◌<◌, ◌≤◌, List, [], ◌∷◌, map, Option, Some, None, arith}
use Rattle.std.proofs.lemmas.List.Elements.{All-cons, All-head, All-map, All-nil, All-tail, All-weaker}
use Rattle.std.specs.Option.{ForSome}
use Rattle.std.specs.Prelude.{All, option_and_then, option_map, option_to_list}
use Rattle.naga_arena.specs.Arena.{value_at}
use Rattle.naga_ir.specs.declared.module.Constant.{Constant}
use Rattle.naga_ir.specs.declared.module.GlobalVariable.{GlobalVariable}
use Rattle.naga_ir.specs.declared.module.Module.{Module}
use Rattle.naga_ir.specs.declared.module.Override.{Override}
use Rattle.naga_ir.specs.declared.types.StructMember.{StructMember}
use Rattle.naga_ir.specs.declared.types.«Type».{«Type» as NamedType}
use Rattle.naga_ir.specs.declared.types.TypeInner.{TypeInner}
use Rattle.naga_ir.specs.declared.types.TypeInner.TheVariants as inner
use Rattle.naga_valid.specs.Declarations.{pending_of, references_of_constant, references_of_global_variable, references_of_inner, references_of_override, references_of_type}
use Rattle.naga_valid.specs.Limits.{AreWithin, IsWithin}
use Rattle.naga_valid.specs.Places.{lengths, references_found, references_in}
use Rattle.naga_valid.specs.Valid.{HandlesAreValid, IsAfterInit, IsBeforeType, IsConstant, init_of_reference, override_of_size, type_of_reference}
use Rattle.naga_valid.specs.declared.place.Place.TheVariants as place_in
use Rattle.naga_valid.specs.declared.reference.Reference.{Reference}
use Rattle.naga_valid.specs.declared.reference.Reference.TheVariants as reference
use Rattle.naga_valid.proofs.SizePrecedesLemmas.{init_of_size-is, type_of_size-is}
use Rattle.naga_compact.specs.Module.References.{as_global}
use Rattle.naga_compact.proofs.IsWithinRenamedLemmas.{Limits}
use Rattle.naga_meaning.specs.Things.{AreWhole, IsWhole, IsWholeFrom, Unfolded, all_unfolded, and_then, declared_at, element, handles_in, placed, thing_of, unfolded}

module _ {Place : Type 0} (whole : Module) (place : Reference → Place) where
  -- ---- depths

  all-further : (look look' : Reference → Unfolded Place) → ((name : Reference) → IsWhole (look name) → IsWhole (look' name)) → (names : List Reference) → AreWhole (all_unfolded look names) → AreWhole (all_unfolded look' names)
  all-further look look' more [] so = tt
  all-further look look' more (name ∷ names) so = (more name so.0, all-further look look' more names so.1)

  IsWhole-further : (depth further : ℕ) → depth ≤ further → (name : Reference) → IsWhole (unfolded whole place depth name) → IsWhole (unfolded whole place further name)
  IsWhole-further zero further behind name so = absurd so
  IsWhole-further (suc depth) zero behind name so = absurd (omega (arith, behind))
  IsWhole-further (suc depth) (suc further) behind name so =
      all-further (unfolded whole place depth) (unfolded whole place further) (IsWhole-further depth further (omega (arith, behind))) (handles_in whole name) so

  all-unchanged : (look look' : Reference → Unfolded Place) → ((name : Reference) → IsWhole (look name) → look' name ≡ look name) → (names : List Reference) → AreWhole (all_unfolded look names) → all_unfolded look' names ≡ all_unfolded look names
  all-unchanged look look' same [] so = refl
  all-unchanged look look' same (name ∷ names) so = λ i. and_then (same name so.0 i) (all-unchanged look look' same names so.1 i)

  IsWhole-unchanged : (depth further : ℕ) → depth ≤ further → (name : Reference) → IsWhole (unfolded whole place depth name) → unfolded whole place further name ≡ unfolded whole place depth name
  IsWhole-unchanged zero further behind name so = absurd so
  IsWhole-unchanged (suc depth) zero behind name so = absurd (omega (arith, behind))
  IsWhole-unchanged (suc depth) (suc further) behind name so =
      ap (element (declared_at whole name) (placed place name))
      (all-unchanged (unfolded whole place depth) (unfolded whole place further) (IsWhole-unchanged depth further (omega (arith, behind))) (handles_in whole name) so)

  -- the handle is unfolded as a whole at some depth
  abbrev Ends : Reference → Type 0
  Ends name = (depth : ℕ) × IsWhole (unfolded whole place depth name)

  -- the handles of the list are, at one depth
  all-end : (names : List Reference) → All Ends names → (depth : ℕ) × AreWhole (all_unfolded (unfolded whole place depth) names)
  all-end [] all = (0, tt)
  all-end (name ∷ names) all =
      let first = All-head Ends name names all in
      let later = all-end names (All-tail Ends name names all) in
      let depth : ℕ = first.0 + later.0 in (
        depth,
        (
          IsWhole-further first.0 depth (omega arith) name first.1,
          all-further (unfolded whole place later.0) (unfolded whole place depth) (IsWhole-further later.0 depth (omega arith)) names later.1,
        ),
      )

  -- an element is, if all to which it refers are
  Ends-of : (name : Reference) → All Ends (handles_in whole name) → Ends name
  Ends-of name all =
      let contents = all-end (handles_in whole name) all in
      (suc contents.0, contents.1)

  IsWholeFrom-of : (name : Reference) → Ends name → (depth : ℕ) × IsWholeFrom (thing_of whole place name) depth
  IsWholeFrom-of name ends = (
    ends.0,
    record {
      whole = ends.1;
      unchanged = λ further behind. IsWhole-unchanged ends.0 further behind name ends.1;
    },
  )

  -- ---- declarations

  -- the type to which the reference leads, if it leads to one
  abbrev TypeEnds : Reference → Type 0
  TypeEnds to = ForSome (type_of_reference whole to) (λ ty. Ends (reference.«Type» ty))

  -- the init to which it leads, if it leads to one
  abbrev InitEnds : Reference → Type 0
  InitEnds to = ForSome (init_of_reference whole to) (λ init. Ends (reference.GlobalExpression init))

  optional-ends : (kind : ℕ → Reference) (handle : Option ℕ) → ForSome handle (λ found. Ends (kind found)) → All Ends (option_to_list (option_map kind handle))
  optional-ends kind None so = All-nil Ends
  optional-ends kind (Some handle) so = All-cons Ends (kind handle) [] (so handle refl) (All-nil Ends)

  constant-ends : (handle : ℕ) → TypeEnds (reference.Constant handle) → InitEnds (reference.Constant handle) → Ends (reference.Constant handle)
  constant-ends handle type init = Ends-of (reference.Constant handle) (by_value (value_at whole.constants handle) type init)
    where
      by_value : (found : Option Constant) → ForSome (option_map (λ (declared : Constant). declared.ty) found) (λ ty. Ends (reference.«Type» ty)) →
          ForSome (option_map (λ (declared : Constant). declared.init) found) (λ init. Ends (reference.GlobalExpression init)) → All Ends (references_found references_of_constant found)
      by_value None type init = All-nil Ends
      by_value (Some declared) type init =
          All-cons Ends (reference.«Type» declared.ty) (reference.GlobalExpression declared.init ∷ []) (type declared.ty refl)
          (All-cons Ends (reference.GlobalExpression declared.init) [] (init declared.init refl) (All-nil Ends))

  override-ends : (handle : ℕ) → TypeEnds (reference.Override handle) → InitEnds (reference.Override handle) → Ends (reference.Override handle)
  override-ends handle type init = Ends-of (reference.Override handle) (by_value (value_at whole.overrides handle) type init)
    where
      by_value : (found : Option Override) → ForSome (option_map (λ (declared : Override). declared.ty) found) (λ ty. Ends (reference.«Type» ty)) →
          ForSome (option_and_then (λ (declared : Override). declared.init) found) (λ init. Ends (reference.GlobalExpression init)) → All Ends (references_found references_of_override found)
      by_value None type init = All-nil Ends
      by_value (Some declared) type init =
          All-cons Ends (reference.«Type» declared.ty) (option_to_list (option_map reference.GlobalExpression declared.init)) (type declared.ty refl)
          (optional-ends reference.GlobalExpression declared.init init)

  module _ (valid : HandlesAreValid whole) where
    -- ---- global expressions

    operand-ends : (at : ℕ) → ((earlier : ℕ) → earlier < at → Ends (reference.GlobalExpression earlier)) →
        (to : Reference) → IsConstant to → IsAfterInit whole at to → IsWithin (record (lengths whole) { expressions = at }) to → TypeEnds to → Ends (as_global to)
    operand-ends at before (reference.«Type» handle) constant after within type = type handle refl
    operand-ends at before (reference.Constant handle) constant after within type = constant-ends handle type (λ init is. before init (after init is))
    operand-ends at before (reference.Override handle) constant after within type = override-ends handle type (λ init is. before init (after init is))
    operand-ends at before (reference.Expression handle) constant after within type = before handle within
    operand-ends at before _ constant after within type = absurd constant

    -- the types to which the global expressions up to this one refer are unfolded as a whole
    abbrev TypesEnd : ℕ → Type 0
    TypesEnd last = (at : ℕ) → at ≤ last → All TypeEnds (references_in whole (place_in.GlobalExpression at))

    expression-ends-below : (count at : ℕ) → at < count → TypesEnd at → Ends (reference.GlobalExpression at)
    expression-ends-below zero at below types = absurd (omega (arith, below))
    expression-ends-below (suc count) at below types =
        Ends-of (reference.GlobalExpression at)
        (All-map Ends as_global (references_in whole (place_in.GlobalExpression at))
        (λ k d inside.
        operand-ends at
        (λ earlier before. expression-ends-below count earlier (omega (arith, before, below)) (λ e up_to. types e (omega (arith, up_to, before))))
        _ (valid.expressions at k d inside).0 (valid.expressions at k d inside).1 (valid.references (place_in.GlobalExpression at) k d inside) (types at (omega arith) k d inside)))

    expression-ends : (at : ℕ) → TypesEnd at → Ends (reference.GlobalExpression at)
    expression-ends at types = expression-ends-below (suc at) at (omega arith) types

    -- ---- types

    module _ (ty : ℕ) (before : (earlier : ℕ) → earlier < ty → Ends (reference.«Type» earlier)) where
      abbrev limits : Limits
      limits = record (lengths whole) { types = ty }

      size-ends : (size : Option ℕ) → ForSome size (λ handle. Ends (reference.Override handle)) → All Ends (option_to_list (option_map reference.Override size))
      size-ends = optional-ends reference.Override

      members-end : (members : List StructMember) → AreWithin limits (map (λ (member : StructMember). reference.«Type» member.ty) members) → All Ends (map (λ (member : StructMember). reference.«Type» member.ty) members)
      members-end [] within = All-nil Ends
      members-end (member ∷ members) within =
          let rest : List Reference = map (λ (m : StructMember). reference.«Type» m.ty) members in
          All-cons Ends (reference.«Type» member.ty) rest (before member.ty (All-head (IsWithin limits) (reference.«Type» member.ty) rest within))
          (members-end members (All-tail (IsWithin limits) (reference.«Type» member.ty) rest within))

      contents-end : (contents : TypeInner) → AreWithin limits (references_of_inner contents) → ForSome (override_of_size contents) (λ handle. Ends (reference.Override handle)) → All Ends (references_of_inner contents)
      contents-end (inner.Pointer base space) within size =
          All-cons Ends (reference.«Type» base) [] (before base (All-head (IsWithin limits) (reference.«Type» base) [] within)) (All-nil Ends)
      contents-end (inner.Array base length stride) within size =
          let rest : List Reference = option_to_list (option_map reference.Override (pending_of length)) in
          All-cons Ends (reference.«Type» base) rest (before base (All-head (IsWithin limits) (reference.«Type» base) rest within)) (size-ends (pending_of length) size)
      contents-end (inner.BindingArray base length) within size =
          let rest : List Reference = option_to_list (option_map reference.Override (pending_of length)) in
          All-cons Ends (reference.«Type» base) rest (before base (All-head (IsWithin limits) (reference.«Type» base) rest within)) (size-ends (pending_of length) size)
      contents-end (inner.Struct members span) within size = members-end members.items within
      contents-end _ within size = All-nil Ends

      -- the override of the size
      override-of-size-ends : (handle : ℕ) → option_and_then (λ (type : NamedType). override_of_size type.inner) (value_at whole.types ty) ≡ Some handle → Ends (reference.Override handle)
      override-of-size-ends handle has =
          override-ends handle
          (λ other is. before other ((valid.sizes ty).type other (type_of_size-is whole ty (Some handle) has ∙ is)))
          (λ init is.
          expression-ends init (λ at up_to.
          All-weaker (IsBeforeType whole ty) TypeEnds (λ to refers other leads. before other (refers other leads)) (references_in whole (place_in.GlobalExpression at))
          ((valid.sizes ty).init init at (init_of_size-is whole ty (Some handle) has ∙ is) up_to)))

      type-ends : Ends (reference.«Type» ty)
      type-ends = Ends-of (reference.«Type» ty) (by_value (value_at whole.types ty) override-of-size-ends (valid.references (place_in.«Type» ty)))
        where
          by_value : (found : Option NamedType) → ((handle : ℕ) → option_and_then (λ (type : NamedType). override_of_size type.inner) found ≡ Some handle → Ends (reference.Override handle)) →
              AreWithin limits (references_found references_of_type found) → All Ends (references_found references_of_type found)
          by_value None size within = All-nil Ends
          by_value (Some type) size within = contents-end type.inner within size

    type-ends-below : (count ty : ℕ) → ty < count → Ends (reference.«Type» ty)
    type-ends-below zero ty below = absurd (omega (arith, below))
    type-ends-below (suc count) ty below = type-ends ty (λ earlier before. type-ends-below count earlier (omega (arith, before, below)))

    every-type-ends : (ty : ℕ) → Ends (reference.«Type» ty)
    every-type-ends ty = type-ends-below (suc ty) ty (omega arith)

    -- ---- all elements

    every-expression-ends : (at : ℕ) → Ends (reference.GlobalExpression at)
    every-expression-ends at =
        expression-ends at (λ earlier up_to k d inside other is. every-type-ends other)

    variable-ends : (handle : ℕ) → Ends (reference.GlobalVariable handle)
    variable-ends handle = Ends-of (reference.GlobalVariable handle) (by_value (value_at whole.global_variables handle))
      where
        by_value : (found : Option GlobalVariable) → All Ends (references_found references_of_global_variable found)
        by_value None = All-nil Ends
        by_value (Some declared) =
            All-cons Ends (reference.«Type» declared.ty) (option_to_list (option_map reference.GlobalExpression declared.init)) (every-type-ends declared.ty)
            (optional-ends reference.GlobalExpression declared.init (λ init is. every-expression-ends init))

    every-end : (name : Reference) → Ends name
    every-end (reference.«Type» handle) = every-type-ends handle
    every-end (reference.Constant handle) = constant-ends handle (λ ty is. every-type-ends ty) (λ init is. every-expression-ends init)
    every-end (reference.Override handle) = override-ends handle (λ ty is. every-type-ends ty) (λ init is. every-expression-ends init)
    every-end (reference.GlobalVariable handle) = variable-ends handle
    every-end (reference.GlobalExpression handle) = every-expression-ends handle
    every-end _ = (1, tt)

    pub IsWholeFrom-some : (name : Reference) → (depth : ℕ) × IsWholeFrom (thing_of whole place name) depth
    IsWholeFrom-some name = IsWholeFrom-of name (every-end name)
