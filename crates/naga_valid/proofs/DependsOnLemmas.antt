-- In a valid module, nothing depends on itself: each place has a rank, which comes after the ranks of the places that
-- it refers to.
use Rattle.std.proofs.Common.{◌≡◌, ◌∙◌, refl, sym, subst, arith, ℕ, ◌+◌, ◌*◌, ◌<◌, ◌≤◌, [], ◌∷◌, Option, Some, None}
use Rattle.std.specs.Prelude.{All, ⊤, max, option_and_then, option_to_list, slice_get}
use Rattle.std.specs.List.{Contains}
use Rattle.std.specs.Option.{ForSome, option_map}
use Rattle.std.proofs.Math.Decide.{dec_le}
use Rattle.std.proofs.lemmas.List.Elements.{All-cons, All-contains, All-map, All-nil}
use Rattle.std.proofs.lemmas.Option.{none-some, same_Some}
use Rattle.naga_arena.specs.Arena.{value_at}
use Rattle.naga_kinds.specs.declared.diagnostic_filter.DiagnosticFilterNode.{DiagnosticFilterNode}
use Rattle.naga_ir.specs.declared.module.Constant as constant
use Rattle.naga_ir.specs.declared.module.Function as function
use Rattle.naga_ir.specs.declared.module.GlobalVariable as global
use Rattle.naga_ir.specs.declared.module.Module as the_module
use Rattle.naga_ir.specs.declared.module.Override as override
use Rattle.naga_ir.specs.declared.types.«Type».{«Type» as NamedType}
use Rattle.naga_ir.specs.declared.types.TypeInner.{TypeInner}
use Rattle.naga_ir.specs.declared.types.TypeInner.TheVariants.{Array, BindingArray, Pointer, Struct}
use Rattle.naga_valid.specs.Declarations.{pending_of, references_of_constant, references_of_filter, references_of_global_variable, references_of_inner, references_of_override, references_of_type}
use Rattle.naga_valid.specs.Dependencies.{DependsOn, LeadsTo, RefersTo, directly, expression_for, through}
use Rattle.naga_valid.specs.Limits.{IsWithin}
use Rattle.naga_valid.specs.Places.{lengths, limits_at, limits_found, references_found, references_in}
use Rattle.naga_valid.specs.Valid.{HandlesAreValid, IsAfterInit, IsBeforeType, IsConstant, init_of_reference, init_of_size, override_of_size, size_of_type, type_of_reference}
use Rattle.naga_valid.specs.declared.limits.Limits.{Limits}
use Rattle.naga_valid.specs.declared.place.Part.{Part}
use Rattle.naga_valid.specs.declared.place.Part.TheVariants as part
use Rattle.naga_valid.specs.declared.place.Place.{Place}
use Rattle.naga_valid.specs.declared.place.Place.TheVariants as place
use Rattle.naga_valid.specs.declared.reference.Reference.{Reference}
use Rattle.naga_valid.specs.declared.reference.Reference.TheVariants as reference
use Rattle.naga_valid.proofs.FirstAfterLemmas.{after, after-least, first_after, first_after-later, first_after-least, first_after-own}
use Rattle.naga_valid.proofs.PrecedesLemmas.{Precedes, Precedes-by_first, Precedes-by_second, Precedes-by_third, Precedes-irreflexive, Precedes-transitive}

-- ---- what the declarations of a module refer to

-- the base of a type, or the override of its size
abbrev IsPartOfType : (size : Option ℕ) → Reference → Type 0
IsPartOfType size (reference.«Type» handle) = ⊤
IsPartOfType size (reference.Override handle) = size ≡ Some handle
IsPartOfType size _ = ⊥

-- the type or the init of a declaration
abbrev IsPartOfDeclared : (ty init : Option ℕ) → Reference → Type 0
IsPartOfDeclared ty init (reference.«Type» handle) = ty ≡ Some handle
IsPartOfDeclared ty init (reference.GlobalExpression handle) = init ≡ Some handle
IsPartOfDeclared ty init _ = ⊥

abbrev IsFilter : Reference → Type 0
IsFilter (reference.DiagnosticFilter handle) = ⊤
IsFilter _ = ⊥

All-optional : (P : Reference → Type 0) (kind : ℕ → Reference) (found : Option ℕ) → ForSome found (λ handle. P (kind handle)) → All P (option_to_list (option_map kind found))
All-optional P kind None holds = All-nil P
All-optional P kind (Some handle) holds = All-cons P (kind handle) [] (holds handle refl) (All-nil P)

references_of_size-parts : (base : ℕ) (size : Option ℕ) → All (IsPartOfType size) (reference.«Type» base ∷ option_to_list (option_map reference.Override size))
references_of_size-parts base size = All-cons (IsPartOfType size) (reference.«Type» base) (option_to_list (option_map reference.Override size)) tt (All-optional (IsPartOfType size) reference.Override size (λ handle is. is))

references_of_inner-parts : (inner : TypeInner) → All (IsPartOfType (override_of_size inner)) (references_of_inner inner)
references_of_inner-parts (Pointer base space) = references_of_size-parts base None
references_of_inner-parts (Array base size stride) = references_of_size-parts base (pending_of size)
references_of_inner-parts (BindingArray base size) = references_of_size-parts base (pending_of size)
references_of_inner-parts (Struct members span) = All-map (IsPartOfType None) (λ member. reference.«Type» member.ty) members.items (λ _ _ _. tt)
references_of_inner-parts _ = All-nil (IsPartOfType None)

references_of_type-parts : (found : Option NamedType) → All (IsPartOfType (option_and_then (λ type. override_of_size type.inner) found)) (references_found references_of_type found)
references_of_type-parts None = All-nil (IsPartOfType None)
references_of_type-parts (Some type) = references_of_inner-parts type.inner

references_of_declared-parts : (ty : ℕ) (init : Option ℕ) → All (IsPartOfDeclared (Some ty) init) (reference.«Type» ty ∷ option_to_list (option_map reference.GlobalExpression init))
references_of_declared-parts ty init = All-cons (IsPartOfDeclared (Some ty) init) (reference.«Type» ty) (option_to_list (option_map reference.GlobalExpression init)) refl (All-optional (IsPartOfDeclared (Some ty) init) reference.GlobalExpression init (λ handle is. is))

references_of_constant-parts : (found : Option constant.Constant) → All (IsPartOfDeclared (option_map (λ declared. declared.ty) found) (option_map (λ declared. declared.init) found)) (references_found references_of_constant found)
references_of_constant-parts None = All-nil (IsPartOfDeclared None None)
references_of_constant-parts (Some declared) = references_of_declared-parts declared.ty (Some declared.init)

references_of_override-parts : (found : Option override.Override) → All (IsPartOfDeclared (option_map (λ declared. declared.ty) found) (option_and_then (λ declared. declared.init) found)) (references_found references_of_override found)
references_of_override-parts None = All-nil (IsPartOfDeclared None None)
references_of_override-parts (Some declared) = references_of_declared-parts declared.ty declared.init

references_of_global_variable-parts : (found : Option global.GlobalVariable) → All (IsPartOfDeclared (option_map (λ declared. declared.ty) found) (option_and_then (λ declared. declared.init) found)) (references_found references_of_global_variable found)
references_of_global_variable-parts None = All-nil (IsPartOfDeclared None None)
references_of_global_variable-parts (Some declared) = references_of_declared-parts declared.ty declared.init

references_of_filter-parts : (found : Option DiagnosticFilterNode) → All IsFilter (references_found references_of_filter found)
references_of_filter-parts None = All-nil IsFilter
references_of_filter-parts (Some node) = All-optional IsFilter reference.DiagnosticFilter node.parent (λ _ _. tt)

-- ---- limits in functions

-- an expression is before the part if this is an expression, too
abbrev IsEarlier : Part → ℕ → Type 0
IsEarlier (part.Expression index) handle = handle < index
IsEarlier _ handle = ⊤

limits_found-expressions : (limits : Limits) (inner : Part) (found : Option function.Function) (handle : ℕ) → limits.expressions ≡ 0 → handle < (limits_found limits inner found).expressions → IsEarlier inner handle
limits_found-expressions limits (part.Expression index) (Some declared) handle none within = within
limits_found-expressions limits (part.Expression index) None handle none within = absurd (omega (arith, none, within))
limits_found-expressions limits _ found handle none within = tt

limits_found-functions : (limits : Limits) (inner : Part) (found : Option function.Function) → (limits_found limits inner found).functions ≡ limits.functions
limits_found-functions limits inner None = refl
limits_found-functions limits part.Arguments (Some declared) = refl
limits_found-functions limits part.Result (Some declared) = refl
limits_found-functions limits (part.LocalVariable handle) (Some declared) = refl
limits_found-functions limits (part.Expression handle) (Some declared) = refl
limits_found-functions limits part.NamedExpressions (Some declared) = refl
limits_found-functions limits part.Body (Some declared) = refl
limits_found-functions limits part.DiagnosticFilterLeaf (Some declared) = refl

-- ---- ranks

-- the expressions of a function come before its other parts
abbrev kind_of_part : Part → ℕ
kind_of_part (part.Expression handle) = 0
kind_of_part _ = 1

abbrev index_of_part : Part → ℕ
index_of_part (part.Expression handle) = handle
index_of_part _ = 0

abbrev rank_of_part : (class index : ℕ) → Part → ℕ × ℕ × ℕ
rank_of_part class index inner = (class, 2 * index + kind_of_part inner, index_of_part inner)

kind_of_part-most : (inner : Part) → kind_of_part inner ≤ 1
kind_of_part-most (part.Expression handle) = omega arith
kind_of_part-most _ = omega arith

rank_of_part-expression : (class index : ℕ) (inner : Part) (handle : ℕ) → IsEarlier inner handle → Precedes (rank_of_part class index (part.Expression handle)) (rank_of_part class index inner)
rank_of_part-expression class index (part.Expression other) handle earlier = Precedes-by_third (rank_of_part class index (part.Expression handle)) (rank_of_part class index (part.Expression other)) refl (omega arith) earlier
rank_of_part-expression class index _ handle earlier = (omega arith, λ _. (omega arith, λ same. absurd (omega (arith, same))))

module _ (whole : the_module.Module) where
  -- the global expressions that the sizes of the types up to this one need are those before this index
  abbrev needed : ℕ → ℕ
  needed = first_after (init_of_size whole)

  -- a type comes after the global expressions that it needs, and before the others
  abbrev rank_of_type : ℕ → ℕ × ℕ × ℕ
  rank_of_type ty = (0, 2 * needed ty + 1, 2 * ty + 2)

  abbrev rank_of_global : ℕ → ℕ × ℕ × ℕ
  rank_of_global index = (0, 2 * (index + 1), 0)

  -- a declaration comes right after its type and its init
  abbrev major_of_declared : (ty init : Option ℕ) → ℕ
  major_of_declared (Some ty) init = max (2 * needed ty + 1) (2 * after init)
  major_of_declared None init = 2 * after init

  abbrev minor_of_declared : (ty : Option ℕ) → ℕ
  minor_of_declared (Some ty) = 2 * ty + 3
  minor_of_declared None = 1

  abbrev rank_of_declared : (ty init : Option ℕ) → ℕ × ℕ × ℕ
  rank_of_declared ty init = (0, major_of_declared ty init, minor_of_declared ty)

  abbrev rank : Place → ℕ × ℕ × ℕ
  rank (place.«Type» handle) = rank_of_type handle
  rank (place.Constant handle) = rank_of_declared (type_of_reference whole (reference.Constant handle)) (init_of_reference whole (reference.Constant handle))
  rank (place.Override handle) = rank_of_declared (type_of_reference whole (reference.Override handle)) (init_of_reference whole (reference.Override handle))
  rank (place.GlobalExpression handle) = rank_of_global handle
  rank (place.DiagnosticFilter handle) = (0, handle, 0)
  rank (place.GlobalVariable handle) = (1, 0, 0)
  rank (place.Function handle inner) = rank_of_part 2 handle inner
  rank (place.EntryPointFunction position inner) = rank_of_part 3 position inner
  rank _ = (4, 0, 0)

  rank-by_class : (from target other : Place) → other ≡ target → (rank target).0 < (rank from).0 → Precedes (rank other) (rank from)
  rank-by_class from target other is less =
      subst (λ x. Precedes (rank x) (rank from)) (sym is) (Precedes-by_first (rank target) (rank from) less)

  -- ---- declarations

  rank_of_declared-type : (ty : ℕ) (init : Option ℕ) → Precedes (rank_of_type ty) (rank_of_declared (Some ty) init)
  rank_of_declared-type ty init = Precedes-by_third (rank_of_type ty) (rank_of_declared (Some ty) init) refl (omega arith) (omega arith)

  rank_of_declared-init : (ty : Option ℕ) (init : ℕ) → Precedes (rank_of_global init) (rank_of_declared ty (Some init))
  rank_of_declared-init None init = Precedes-by_third (rank_of_global init) (rank_of_declared None (Some init)) refl (omega arith) (omega arith)
  rank_of_declared-init (Some ty) init = Precedes-by_third (rank_of_global init) (rank_of_declared (Some ty) (Some init)) refl (omega arith) (omega arith)

  rank_of_type-declared : (found init : Option ℕ) (ty : ℕ) → ForSome found (λ other. other < ty) → after init ≤ needed ty → Precedes (rank_of_declared found init) (rank_of_type ty)
  rank_of_type-declared None init ty before within = Precedes-by_third (rank_of_declared None init) (rank_of_type ty) refl (omega (arith, within)) (omega arith)
  rank_of_type-declared (Some other) init ty before within =
      let less : other < ty = before other refl in
      let later : needed other ≤ needed ty = first_after-later (init_of_size whole) other ty (omega (arith, less)) in
      Precedes-by_third (rank_of_declared (Some other) init) (rank_of_type ty) refl (omega (arith, within, later)) (omega (arith, less))

  rank_of_global-declared : (found init : Option ℕ) (index : ℕ) → ForSome found (λ ty. needed ty ≤ index) → after init ≤ index → Precedes (rank_of_declared found init) (rank_of_global index)
  rank_of_global-declared None init index before within = Precedes-by_second (rank_of_declared None init) (rank_of_global index) refl (omega (arith, within))
  rank_of_global-declared (Some ty) init index before within =
      let least : needed ty ≤ index = before ty refl in
      Precedes-by_second (rank_of_declared (Some ty) init) (rank_of_global index) refl (omega (arith, within, least))

  RefersTo-declared : (from : Place) (ty init : Option ℕ) (to : Reference) (other : Place) → IsPartOfDeclared ty init to → LeadsTo from to other → Precedes (rank other) (rank_of_declared ty init)
  RefersTo-declared from ty init (reference.«Type» handle) other is leads =
      subst (λ x. Precedes (rank x) (rank_of_declared ty init)) (sym leads)
      (subst (λ found. Precedes (rank_of_type handle) (rank_of_declared found init)) (sym is) (rank_of_declared-type handle init))
  RefersTo-declared from ty init (reference.GlobalExpression handle) other is leads =
      subst (λ x. Precedes (rank x) (rank_of_declared ty init)) (sym leads)
      (subst (λ found. Precedes (rank_of_global handle) (rank_of_declared ty found)) (sym is) (rank_of_declared-init ty handle))
  RefersTo-declared from ty init _ other is leads = absurd is

  RefersTo-variable : (from : Place) (ty init : Option ℕ) (to : Reference) (other : Place) → IsPartOfDeclared ty init to → LeadsTo from to other → Precedes (rank other) (1, 0, 0)
  RefersTo-variable from ty init (reference.«Type» handle) other is leads = rank-by_class (place.GlobalVariable 0) (place.«Type» handle) other leads (omega arith)
  RefersTo-variable from ty init (reference.GlobalExpression handle) other is leads = rank-by_class (place.GlobalVariable 0) (place.GlobalExpression handle) other leads (omega arith)
  RefersTo-variable from ty init _ other is leads = absurd is

  -- ---- functions

  module _ (index : ℕ) (inner : Part) where
    abbrev limits_in_function : Limits
    limits_in_function = limits_at whole (place.Function index inner)

    RefersTo-own : (handle : ℕ) → handle < limits_in_function.expressions → Precedes (rank (place.Function index (part.Expression handle))) (rank (place.Function index inner))
    RefersTo-own handle within =
        rank_of_part-expression 2 index inner handle (limits_found-expressions (record (lengths whole) { functions = index }) inner (value_at whole.functions index) handle refl within)

    RefersTo-earlier : (target : ℕ) (inside : Part) → target < limits_in_function.functions → Precedes (rank (place.Function target inside)) (rank (place.Function index inner))
    RefersTo-earlier target inside within =
        let same = limits_found-functions (record (lengths whole) { functions = index }) inner (value_at whole.functions index) in
        let most = kind_of_part-most inside in
        Precedes-by_second (rank (place.Function target inside)) (rank (place.Function index inner)) refl (omega (arith, same, within, most))

    RefersTo-function : (to : Reference) (other : Place) → IsWithin limits_in_function to → LeadsTo (place.Function index inner) to other → Precedes (rank other) (rank (place.Function index inner))
    RefersTo-function (reference.«Type» handle) other within leads = rank-by_class (place.Function index inner) (place.«Type» handle) other leads (omega arith)
    RefersTo-function (reference.Constant handle) other within leads = rank-by_class (place.Function index inner) (place.Constant handle) other leads (omega arith)
    RefersTo-function (reference.Override handle) other within leads = rank-by_class (place.Function index inner) (place.Override handle) other leads (omega arith)
    RefersTo-function (reference.GlobalVariable handle) other within leads = rank-by_class (place.Function index inner) (place.GlobalVariable handle) other leads (omega arith)
    RefersTo-function (reference.GlobalExpression handle) other within leads = rank-by_class (place.Function index inner) (place.GlobalExpression handle) other leads (omega arith)
    RefersTo-function (reference.Expression handle) other within leads =
        subst (λ x. Precedes (rank x) (rank (place.Function index inner))) (same_Some (place.Function index (part.Expression handle)) other leads) (RefersTo-own handle within)
    RefersTo-function (reference.Expressions first past) other within leads =
        subst (λ x. Precedes (rank x) (rank (place.Function index inner))) (same_Some (place.Function index (part.Expression leads.0)) other leads.3) (RefersTo-own leads.0 (omega (arith, leads.2, within.1)))
    RefersTo-function (reference.LocalVariable handle) other within leads = absurd leads
    RefersTo-function (reference.Function handle) other within leads =
        subst (λ x. Precedes (rank x) (rank (place.Function index inner))) (sym leads.1) (RefersTo-earlier handle leads.0 within)
    RefersTo-function (reference.DiagnosticFilter handle) other within leads = rank-by_class (place.Function index inner) (place.DiagnosticFilter handle) other leads (omega arith)

  module _ (position : ℕ) (inner : Part) where
    abbrev limits_in_entry : Limits
    limits_in_entry = limits_at whole (place.EntryPointFunction position inner)

    RefersTo-own_entry : (handle : ℕ) → handle < limits_in_entry.expressions → Precedes (rank (place.EntryPointFunction position (part.Expression handle))) (rank (place.EntryPointFunction position inner))
    RefersTo-own_entry handle within =
        rank_of_part-expression 3 position inner handle (limits_found-expressions (lengths whole) inner (option_map (λ entry. entry.function) (slice_get whole.entry_points.items position)) handle refl within)

    RefersTo-entry : (to : Reference) (other : Place) → IsWithin limits_in_entry to → LeadsTo (place.EntryPointFunction position inner) to other → Precedes (rank other) (rank (place.EntryPointFunction position inner))
    RefersTo-entry (reference.«Type» handle) other within leads = rank-by_class (place.EntryPointFunction position inner) (place.«Type» handle) other leads (omega arith)
    RefersTo-entry (reference.Constant handle) other within leads = rank-by_class (place.EntryPointFunction position inner) (place.Constant handle) other leads (omega arith)
    RefersTo-entry (reference.Override handle) other within leads = rank-by_class (place.EntryPointFunction position inner) (place.Override handle) other leads (omega arith)
    RefersTo-entry (reference.GlobalVariable handle) other within leads = rank-by_class (place.EntryPointFunction position inner) (place.GlobalVariable handle) other leads (omega arith)
    RefersTo-entry (reference.GlobalExpression handle) other within leads = rank-by_class (place.EntryPointFunction position inner) (place.GlobalExpression handle) other leads (omega arith)
    RefersTo-entry (reference.Expression handle) other within leads =
        subst (λ x. Precedes (rank x) (rank (place.EntryPointFunction position inner))) (same_Some (place.EntryPointFunction position (part.Expression handle)) other leads) (RefersTo-own_entry handle within)
    RefersTo-entry (reference.Expressions first past) other within leads =
        subst (λ x. Precedes (rank x) (rank (place.EntryPointFunction position inner))) (same_Some (place.EntryPointFunction position (part.Expression leads.0)) other leads.3) (RefersTo-own_entry leads.0 (omega (arith, leads.2, within.1)))
    RefersTo-entry (reference.LocalVariable handle) other within leads = absurd leads
    RefersTo-entry (reference.Function handle) other within leads = rank-by_class (place.EntryPointFunction position inner) (place.Function handle leads.0) other leads.1 (omega arith)
    RefersTo-entry (reference.DiagnosticFilter handle) other within leads = rank-by_class (place.EntryPointFunction position inner) (place.DiagnosticFilter handle) other leads (omega arith)

  -- ---- what nothing refers to

  rank-class : (from : Place) (to : Reference) (other : Place) → ((handle : ℕ) → expression_for from handle ≡ None) → LeadsTo from to other → (rank other).0 ≤ 2
  rank-class from (reference.«Type» handle) other none leads = subst (λ x. (rank x).0 ≤ 2) (sym leads) (omega arith)
  rank-class from (reference.Constant handle) other none leads = subst (λ x. (rank x).0 ≤ 2) (sym leads) (omega arith)
  rank-class from (reference.Override handle) other none leads = subst (λ x. (rank x).0 ≤ 2) (sym leads) (omega arith)
  rank-class from (reference.GlobalVariable handle) other none leads = subst (λ x. (rank x).0 ≤ 2) (sym leads) (omega arith)
  rank-class from (reference.GlobalExpression handle) other none leads = subst (λ x. (rank x).0 ≤ 2) (sym leads) (omega arith)
  rank-class from (reference.Expression handle) other none leads = absurd (none-some other (sym (none handle) ∙ leads))
  rank-class from (reference.Expressions first past) other none leads = absurd (none-some other (sym (none leads.0) ∙ leads.3))
  rank-class from (reference.LocalVariable handle) other none leads = absurd leads
  rank-class from (reference.Function handle) other none leads = subst (λ x. (rank x).0 ≤ 2) (sym leads.1) (omega arith)
  rank-class from (reference.DiagnosticFilter handle) other none leads = subst (λ x. (rank x).0 ≤ 2) (sym leads) (omega arith)

  RefersTo-last : (from : Place) (to : Reference) (other : Place) → ((handle : ℕ) → expression_for from handle ≡ None) → LeadsTo from to other → Precedes (rank other) (4, 0, 0)
  RefersTo-last from to other none leads =
      let most = rank-class from to other none leads in
      Precedes-by_first (rank other) (4, 0, 0) (omega (arith, most))

  -- ---- valid modules

  module _ (valid : HandlesAreValid whole) where
    IsWithin-contained : (from : Place) (to : Reference) → Contains (references_in whole from) to → IsWithin (limits_at whole from) to
    IsWithin-contained from to inside = All-contains (IsWithin (limits_at whole from)) (references_in whole from) to (valid.references from) inside

    RefersTo-type : (ty : ℕ) (to : Reference) (other : Place) → IsPartOfType (size_of_type whole ty) to → IsWithin (limits_at whole (place.«Type» ty)) to → LeadsTo (place.«Type» ty) to other → Precedes (rank other) (rank_of_type ty)
    RefersTo-type ty (reference.«Type» handle) other is within leads =
        let later = first_after-later (init_of_size whole) handle ty (omega (arith, within)) in
        subst (λ x. Precedes (rank x) (rank_of_type ty)) (sym leads)
        (Precedes-by_third (rank_of_type handle) (rank_of_type ty) refl (omega (arith, later)) (omega (arith, within)))
    RefersTo-type ty (reference.Override handle) other is within leads =
        let before = subst (λ size. ForSome (option_and_then (λ o. type_of_reference whole (reference.Override o)) size) (λ first. first < ty)) is (valid.sizes ty).type in
        let own = subst (λ size. after (option_and_then (λ o. init_of_reference whole (reference.Override o)) size) ≤ needed ty) is (first_after-own (init_of_size whole) ty) in
        subst (λ x. Precedes (rank x) (rank_of_type ty)) (sym leads)
        (rank_of_type-declared (type_of_reference whole (reference.Override handle)) (init_of_reference whole (reference.Override handle)) ty before own)
    RefersTo-type ty _ other is within leads = absurd is

    -- the sizes of the types up to one that a global expression refers to do not need the global expression
    needed-least : (index : ℕ) (to : Reference) (ty : ℕ) → Contains (references_in whole (place.GlobalExpression index)) to → type_of_reference whole to ≡ Some ty → needed ty ≤ index
    needed-least index to ty inside is = first_after-least (init_of_size whole) ty index (λ sized init within found. elim (dec_le index init) [ yes late ↦ absurd (refuted sized init within found late) | no early ↦ omega (arith, early) ])
      where
        refuted : (sized init : ℕ) → sized ≤ ty → init_of_size whole sized ≡ Some init → index ≤ init → ⊥
        refuted sized init within found late =
            let before : ty < sized = All-contains (IsBeforeType whole sized) (references_in whole (place.GlobalExpression index)) to ((valid.sizes sized).init init index found late) inside ty is in
            omega (arith, before, within)

    RefersTo-global : (index : ℕ) (to : Reference) (other : Place) → Contains (references_in whole (place.GlobalExpression index)) to → IsConstant to → IsAfterInit whole index to → IsWithin (limits_at whole (place.GlobalExpression index)) to → LeadsTo (place.GlobalExpression index) to other → Precedes (rank other) (rank_of_global index)
    RefersTo-global index (reference.«Type» handle) other inside constant later within leads =
        let least = needed-least index (reference.«Type» handle) handle inside refl in
        subst (λ x. Precedes (rank x) (rank_of_global index)) (sym leads) (Precedes-by_second (rank_of_type handle) (rank_of_global index) refl (omega (arith, least)))
    RefersTo-global index (reference.Constant handle) other inside constant later within leads =
        subst (λ x. Precedes (rank x) (rank_of_global index)) (sym leads)
        (rank_of_global-declared (type_of_reference whole (reference.Constant handle)) (init_of_reference whole (reference.Constant handle)) index
        (λ ty. needed-least index (reference.Constant handle) ty inside) (after-least (init_of_reference whole (reference.Constant handle)) index later))
    RefersTo-global index (reference.Override handle) other inside constant later within leads =
        subst (λ x. Precedes (rank x) (rank_of_global index)) (sym leads)
        (rank_of_global-declared (type_of_reference whole (reference.Override handle)) (init_of_reference whole (reference.Override handle)) index
        (λ ty. needed-least index (reference.Override handle) ty inside) (after-least (init_of_reference whole (reference.Override handle)) index later))
    RefersTo-global index (reference.Expression handle) other inside constant later within leads =
        subst (λ x. Precedes (rank x) (rank_of_global index)) (same_Some (place.GlobalExpression handle) other leads)
        (Precedes-by_second (rank_of_global handle) (rank_of_global index) refl (omega (arith, within)))
    RefersTo-global index _ other inside constant later within leads = absurd constant

    RefersTo-filter : (index : ℕ) (to : Reference) (other : Place) → IsFilter to → IsWithin (limits_at whole (place.DiagnosticFilter index)) to → LeadsTo (place.DiagnosticFilter index) to other → Precedes (rank other) (0, index, 0)
    RefersTo-filter index (reference.DiagnosticFilter handle) other is within leads =
        subst (λ x. Precedes (rank x) (0, index, 0)) (sym leads) (Precedes-by_second (0, handle, 0) (0, index, 0) refl (omega (arith, within)))
    RefersTo-filter index _ other is within leads = absurd is

    RefersTo-rank : (from other : Place) → RefersTo whole from other → Precedes (rank other) (rank from)
    RefersTo-rank (place.«Type» handle) other refers =
        let is = All-contains (IsPartOfType (size_of_type whole handle)) (references_in whole (place.«Type» handle)) refers.0 (references_of_type-parts (value_at whole.types handle)) refers.1 in
        RefersTo-type handle refers.0 other is (IsWithin-contained (place.«Type» handle) refers.0 refers.1) refers.2
    RefersTo-rank (place.Constant handle) other refers =
        let ty = type_of_reference whole (reference.Constant handle) in
        let init = init_of_reference whole (reference.Constant handle) in
        let is = All-contains (IsPartOfDeclared ty init) (references_in whole (place.Constant handle)) refers.0 (references_of_constant-parts (value_at whole.constants handle)) refers.1 in
        RefersTo-declared (place.Constant handle) ty init refers.0 other is refers.2
    RefersTo-rank (place.Override handle) other refers =
        let ty = type_of_reference whole (reference.Override handle) in
        let init = init_of_reference whole (reference.Override handle) in
        let is = All-contains (IsPartOfDeclared ty init) (references_in whole (place.Override handle)) refers.0 (references_of_override-parts (value_at whole.overrides handle)) refers.1 in
        RefersTo-declared (place.Override handle) ty init refers.0 other is refers.2
    RefersTo-rank (place.GlobalVariable handle) other refers =
        let ty : Option ℕ = option_map (λ declared. declared.ty) (value_at whole.global_variables handle) in
        let init : Option ℕ = option_and_then (λ declared. declared.init) (value_at whole.global_variables handle) in
        let is = All-contains (IsPartOfDeclared ty init) (references_in whole (place.GlobalVariable handle)) refers.0 (references_of_global_variable-parts (value_at whole.global_variables handle)) refers.1 in
        RefersTo-variable (place.GlobalVariable handle) ty init refers.0 other is refers.2
    RefersTo-rank (place.GlobalExpression index) other refers =
        let facts = All-contains (λ to. IsConstant to × IsAfterInit whole index to) (references_in whole (place.GlobalExpression index)) refers.0 (valid.expressions index) refers.1 in
        RefersTo-global index refers.0 other refers.1 facts.0 facts.1 (IsWithin-contained (place.GlobalExpression index) refers.0 refers.1) refers.2
    RefersTo-rank (place.Function handle inner) other refers = RefersTo-function handle inner refers.0 other (IsWithin-contained (place.Function handle inner) refers.0 refers.1) refers.2
    RefersTo-rank (place.EntryPointFunction position inner) other refers = RefersTo-entry position inner refers.0 other (IsWithin-contained (place.EntryPointFunction position inner) refers.0 refers.1) refers.2
    RefersTo-rank (place.DiagnosticFilter handle) other refers =
        let is = All-contains IsFilter (references_in whole (place.DiagnosticFilter handle)) refers.0 (references_of_filter-parts (value_at whole.diagnostic_filters handle)) refers.1 in
        RefersTo-filter handle refers.0 other is (IsWithin-contained (place.DiagnosticFilter handle) refers.0 refers.1) refers.2
    RefersTo-rank place.SpecialTypes other refers = RefersTo-last place.SpecialTypes refers.0 other (λ _. refl) refers.2
    RefersTo-rank (place.EntryPoint position) other refers = RefersTo-last (place.EntryPoint position) refers.0 other (λ _. refl) refers.2
    RefersTo-rank place.DiagnosticFilterLeaf other refers = RefersTo-last place.DiagnosticFilterLeaf refers.0 other (λ _. refl) refers.2
    RefersTo-rank place.TypeComments other refers = RefersTo-last place.TypeComments refers.0 other (λ _. refl) refers.2
    RefersTo-rank place.MemberComments other refers = RefersTo-last place.MemberComments refers.0 other (λ _. refl) refers.2
    RefersTo-rank place.FunctionComments other refers = RefersTo-last place.FunctionComments refers.0 other (λ _. refl) refers.2
    RefersTo-rank place.ConstantComments other refers = RefersTo-last place.ConstantComments refers.0 other (λ _. refl) refers.2
    RefersTo-rank place.GlobalVariableComments other refers = RefersTo-last place.GlobalVariableComments refers.0 other (λ _. refl) refers.2

    DependsOn-rank : {from other : Place} → DependsOn whole from other → Precedes (rank other) (rank from)
    DependsOn-rank (directly {from = from} {other = other} refers) = RefersTo-rank from other refers
    DependsOn-rank (through {from = from} {next = next} {other = other} refers depends) =
        Precedes-transitive (rank other) (rank next) (rank from) (DependsOn-rank depends) (RefersTo-rank from next refers)

    pub DependsOn-irreflexive : (from : Place) → DependsOn whole from from → ⊥
    DependsOn-irreflexive from depends = Precedes-irreflexive (rank from) (DependsOn-rank depends)

    -- a function depends on no later one
    pub DependsOn-functions : (handle : ℕ) (inner : Part) (other : ℕ) (part : Part) → DependsOn whole (place.Function handle inner) (place.Function other part) → other ≤ handle
    DependsOn-functions handle inner other part depends =
        let before = ((DependsOn-rank depends).1 refl).0 in
        let most = kind_of_part-most inner in
        omega (arith, before, most)
