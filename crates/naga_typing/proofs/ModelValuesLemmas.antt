-- Parts of values with components have the types of these parts.
use Rattle.std.proofs.Common.{◌≡◌, ◌∙◌, ap, sym, subst, refl, inl, inr, ◌⊎◌, ℕ, ◌<◌, Bool, true, false, List, [], ◌∷◌, Option, Some, None, arith}
use Rattle.std.proofs.lemmas.Bool.{cases_Bool}
use Rattle.std.proofs.lemmas.Bool.Decides.{nat_tests}
use Rattle.std.proofs.lemmas.Option.{none-some, option_and_then_some, same_Some}
use Rattle.std.specs.Option.{option_map}
use Rattle.std.specs.Prelude.{⊤, if◌then◌else◌, nat_eq, nat_lt, option_and_then, unwrap_or}
use Rattle.naga_kinds.specs.Scalar.{components_of}
use Rattle.naga_kinds.specs.declared.address_space.AddressSpace.{AddressSpace}
use Rattle.naga_ir.specs.Types.{inner_of}
use Rattle.naga_ir.specs.declared.types.TypeInner.{TypeInner}
use Rattle.naga_ir.specs.declared.types.TypeInner.TheVariants as inner
use Rattle.naga_typifier.specs.Context.{contents_of}
use Rattle.naga_typifier.specs.Rows.{◌>>=◌, handle, part_of, pointer_to, when}
use Rattle.naga_typifier.specs.declared.resolution.TypeResolution.{TypeResolution}
use Rattle.naga_typifier.specs.declared.resolution.TypeResolution.TheVariants as resolution
use Rattle.naga_typing.specs.Forms.{Form, contents, contents_form, declared, declared_form, form, is_structure, value_pointer}
use Rattle.naga_typing.specs.ModelValues.{Value, composite, contents_in, has_type, indeterminate, numeric, part_at, part_behind, part_type, pointed_type, pointing, type_behind, with_part, with_part_behind}

pub below : (a b : ℕ) → nat_lt a b ≡ true → a < b
below a b is = grind (arith, nat_tests)

pub equal : (a b : ℕ) → nat_eq a b ≡ true → a ≡ b
equal a b is = grind (arith, nat_tests)

-- the position is that of the index, if it is known
abbrev pub Agrees : Option ℕ → ℕ → Type 0
Agrees None position = ⊤
Agrees (Some index) position = index ≡ position

-- this is a pointer
abbrev pub is_pointer : TypeInner → Bool
is_pointer (inner.Pointer base space) = true
is_pointer (inner.ValuePointer size scalar space) = true
is_pointer _ = false

module _ (types : ℕ → Option TypeInner) where
  -- ---- parts

  pub part-typed : (value : Value) (ty : Form) → has_type types value ty → (position : ℕ) (part : Form) → part_type types position ty ≡ Some part
      → has_type types (part_at value position) part
  part-typed indeterminate ty has position part is = tt
  part-typed (numeric scalar number) ty has position part is = tt
  part-typed (pointing variable path) ty has position part is = tt
  part-typed (composite count parts) ty has position part is = elim (cases_Bool (nat_lt position count)) [
    | inl less ↦
        let found = has.1 position (below position count less) in
        subst (λ v. has_type types v part) (λ i. if sym less i then parts position else indeterminate)
        (subst (has_type types (parts position)) (same_Some found.0 part (sym found.1 ∙ is)) found.2)
    | inr past ↦ subst (λ v. has_type types v part) (λ i. if sym past i then parts position else indeterminate) tt
  ]

  pub behind-typed : (path : List ℕ) (value : Value) (ty : Form) → has_type types value ty → (behind : Form) → type_behind types ty path ≡ Some behind
      → has_type types (part_behind value path) behind
  behind-typed [] value ty has behind is = subst (has_type types value) (same_Some ty behind is) has
  behind-typed (position ∷ before) value ty has behind is =
      option_and_then_some (part_type types position) (type_behind types ty before) behind is
      (λ mid found at. part-typed (part_behind value before) mid (behind-typed before value ty has mid found) position behind at)

  with_part-typed : (value : Value) (ty : Form) → has_type types value ty → (position : ℕ) (part : Form) → part_type types position ty ≡ Some part
      → (new : Value) → has_type types new part → has_type types (with_part position new value) ty
  with_part-typed indeterminate ty has position part is new fits = tt
  with_part-typed (numeric scalar number) ty has position part is new fits = has
  with_part-typed (pointing variable path) ty has position part is new fits = has
  with_part-typed (composite count parts) ty has position part is new fits = (
    has.0,
    λ other less. elim (cases_Bool (nat_eq other position)) [
      | inl same ↦ (
        part,
        subst (λ k. part_type types k ty ≡ Some part) (sym (equal other position same)) is,
        subst (λ v. has_type types v part) (λ i. if sym same i then new else parts other) fits,
      )
      | inr unequal ↦
          let found = has.1 other less in
          (found.0, found.1, subst (λ v. has_type types v found.0) (λ i. if sym unequal i then new else parts other) found.2)
    ],
  )

  pub with_part_behind-typed : (path : List ℕ) (new value : Value) (ty : Form) → has_type types value ty → (behind : Form)
      → type_behind types ty path ≡ Some behind → has_type types new behind → has_type types (with_part_behind path new value) ty
  with_part_behind-typed [] new value ty has behind is fits = subst (has_type types new) (sym (same_Some ty behind is)) fits
  with_part_behind-typed (position ∷ before) new value ty has behind is fits =
      option_and_then_some (part_type types position) (type_behind types ty before) behind is
      (λ mid found at.
      with_part_behind-typed before (with_part position new (part_behind value before)) value ty has mid found
      (with_part-typed (part_behind value before) mid (behind-typed before value ty has mid found) position behind at new fits))

  -- ---- forms

  pub form-of : (ty : TypeResolution) (what : TypeInner) → contents_of types ty ≡ Some what → is_structure what ≡ false
      → form types ty ≡ contents (inner_of (contents_form types what))
  form-of (resolution.Handle h) what is free =
      ap (declared_form types h) is ∙ (λ i. if free i then declared h else contents (inner_of (contents_form types what)))
  form-of (resolution.Value w) what is free = ap (λ x. contents (inner_of (contents_form types x))) (same_Some w what is)

  -- the contents of a type that has parts can be read from its form, or nothing can
  contents-found : (ty : TypeResolution) (what : TypeInner) → contents_of types ty ≡ Some what → (index : Option ℕ) (p : TypeResolution)
      → part_of index what ≡ Some p → (contents_in types (form types ty) ≡ Some what) ⊎ (contents_in types (form types ty) ≡ None)
  contents-found (resolution.Handle h) (inner.Struct members span) is index p at =
      inl (ap (λ o. contents_in types (declared_form types h o)) is ∙ is)
  contents-found (resolution.Value w) (inner.Struct members span) is index p at =
      inr (ap (λ x. contents_in types (contents (inner_of (contents_form types x)))) (same_Some w (inner.Struct members span) is))
  contents-found ty (inner.Pointer base space) is index p at = absurd (none-some p at)
  contents-found ty what is index p at = inl (ap (contents_in types) (form-of ty what is refl))

  when-is : (holds : Bool) (what : TypeInner) (p : TypeResolution) → when holds what ≡ Some p → resolution.Value what ≡ p
  when-is true what p is = same_Some (resolution.Value what) p is
  when-is false what p is = absurd (none-some p is)

  pub when-form : (holds : Bool) (what : TypeInner) (q : Form) → option_map (form types) (when holds what) ≡ Some q → form types (resolution.Value what) ≡ q
  when-form true what q is = same_Some (form types (resolution.Value what)) q is
  when-form false what q is = absurd (none-some q is)

  -- the part of a type at a position that an index can be, in one form
  plain-parts : (index : Option ℕ) (what : TypeInner) (position : ℕ) (p : TypeResolution) (q : Form) → part_of index what ≡ Some p → Agrees index position
      → option_map (form types) (part_of (Some position) what) ≡ Some q → q ≡ form types p
  plain-parts (Some index) what position p q at agrees given =
      same_Some q (form types p)
      (sym given ∙ ap (λ k. option_map (form types) (part_of (Some k) what)) (sym agrees) ∙ ap (option_map (form types)) at)
  plain-parts None (inner.Vector size scalar) position p q at agrees given =
      sym (when-form (nat_lt position (components_of size)) (inner.Scalar scalar) q given) ∙ ap (form types) (when-is true (inner.Scalar scalar) p at)
  plain-parts None (inner.Matrix columns rows scalar) position p q at agrees given =
      sym (when-form (nat_lt position (components_of columns)) (inner.Vector rows scalar) q given)
      ∙ ap (form types) (when-is true (inner.Vector rows scalar) p at)
  plain-parts None (inner.Array base size stride) position p q at agrees given =
      sym (same_Some (form types (handle base)) q given) ∙ ap (form types) (same_Some (handle base) p at)
  plain-parts None (inner.BindingArray base size) position p q at agrees given =
      sym (same_Some (form types (handle base)) q given) ∙ ap (form types) (same_Some (handle base) p at)
  plain-parts None what position p q at agrees given = absurd (none-some p at)

  pub parts-same : (ty : TypeResolution) (what : TypeInner) → contents_of types ty ≡ Some what → (index : Option ℕ) (position : ℕ) → Agrees index position
      → (p : TypeResolution) → part_of index what ≡ Some p → (q : Form) → part_type types position (form types ty) ≡ Some q → q ≡ form types p
  parts-same ty what is index position agrees p at q given = elim (contents-found ty what is index p at) [
    | inl found ↦
        plain-parts index what position p q at agrees
        (ap (λ o. option_map (form types) (o >>= part_of (Some position))) (sym found) ∙ given)
    | inr none ↦ absurd (none-some q (ap (λ o. option_map (form types) (o >>= part_of (Some position))) (sym none) ∙ given))
  ]

  -- ---- pointers

  -- the form of a pointer to a declared type whose contents are these
  abbrev pointer_form : (base : ℕ) (space : AddressSpace) → Option TypeInner → Form
  pointer_form base space found = contents (inner_of (unwrap_or (option_and_then (value_pointer space) found) (inner.Pointer base space)))

  pub pointed-declared : (base : ℕ) (space : AddressSpace) (found : Option TypeInner) → types base ≡ found
      → pointed_type types (pointer_form base space found) ≡ Some (form types (handle base))
  pointed-declared base space None is = refl
  pointed-declared base space (Some (inner.Scalar scalar)) is = ap (λ o. Some (declared_form types base o)) (sym is)
  pointed-declared base space (Some (inner.Vector size scalar)) is = ap (λ o. Some (declared_form types base o)) (sym is)
  pointed-declared base space (Some what) is = refl

  no-parts : (base : ℕ) (space : AddressSpace) (found : Option TypeInner) (position : ℕ) → part_type types position (pointer_form base space found) ≡ None
  no-parts base space None position = refl
  no-parts base space (Some (inner.Scalar scalar)) position = refl
  no-parts base space (Some (inner.Vector size scalar)) position = refl
  no-parts base space (Some what) position = refl

  pub pointed-of : (ty : TypeResolution) (base : ℕ) (space : AddressSpace) → contents_of types ty ≡ Some (inner.Pointer base space)
      → pointed_type types (form types ty) ≡ Some (form types (handle base))
  pointed-of ty base space is = ap (pointed_type types) (form-of ty (inner.Pointer base space) is refl) ∙ pointed-declared base space (types base) refl

  pub pointer-to : (space : AddressSpace) (p ty : TypeResolution) → pointer_to space p ≡ Some ty → pointed_type types (form types ty) ≡ Some (form types p)
  pointer-to space (resolution.Handle base) ty is =
      subst (λ t. pointed_type types (form types t) ≡ Some (form types (handle base)))
      (same_Some (resolution.Value (inner.Pointer base space)) ty is) (pointed-declared base space (types base) refl)
  pointer-to space (resolution.Value (inner.Scalar scalar)) ty is =
      ap (λ t. pointed_type types (form types t)) (sym (same_Some (resolution.Value (inner.ValuePointer None scalar space)) ty is))
  pointer-to space (resolution.Value (inner.Vector size scalar)) ty is =
      ap (λ t. pointed_type types (form types t)) (sym (same_Some (resolution.Value (inner.ValuePointer (Some size) scalar space)) ty is))
  pointer-to space (resolution.Value what) ty is = absurd (none-some ty is)

  structure-not-pointed : (ty : TypeResolution) (what : TypeInner) → contents_of types ty ≡ Some what → is_structure what ≡ true
      → pointed_type types (form types ty) ≡ None
  structure-not-pointed (resolution.Handle h) what is so =
      ap (λ o. pointed_type types (declared_form types h o)) is
      ∙ (λ i. pointed_type types (if so i then declared h else contents (inner_of (contents_form types what))))
  structure-not-pointed (resolution.Value w) (inner.Struct members span) is so =
      ap (λ x. pointed_type types (contents (inner_of (contents_form types x)))) (same_Some w (inner.Struct members span) is)
  structure-not-pointed (resolution.Value w) what is so = absurd (let e : false ≡ true = so in cc)

  pub not-pointed : (ty : TypeResolution) (what : TypeInner) → contents_of types ty ≡ Some what → is_pointer what ≡ false
      → pointed_type types (form types ty) ≡ None
  not-pointed ty (inner.Struct members span) is so = structure-not-pointed ty (inner.Struct members span) is refl
  not-pointed ty (inner.Pointer base space) is so = absurd (let e : true ≡ false = so in cc)
  not-pointed ty (inner.ValuePointer size scalar space) is so = absurd (let e : true ≡ false = so in cc)
  not-pointed ty what is so = ap (pointed_type types) (form-of ty what is refl)

  pub pointer-has-no-parts : (ty : TypeResolution) (what : TypeInner) → contents_of types ty ≡ Some what → is_pointer what ≡ true
      → (position : ℕ) → part_type types position (form types ty) ≡ None
  pointer-has-no-parts ty (inner.Pointer base space) is so position =
      ap (part_type types position) (form-of ty (inner.Pointer base space) is refl) ∙ no-parts base space (types base) position
  pointer-has-no-parts ty (inner.ValuePointer size scalar space) is so position =
      ap (part_type types position) (form-of ty (inner.ValuePointer size scalar space) is refl)
  pointer-has-no-parts ty what is so position = absurd (let e : false ≡ true = so in cc)
