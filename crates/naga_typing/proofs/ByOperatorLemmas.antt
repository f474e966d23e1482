-- What operators give for values of the right types has the right type: parts of values, selections, and what is named.
use Rattle.std.proofs.Common.{◌≡◌, ◌∙◌, ap, sym, subst, refl, inl, inr, ℕ, zero, suc, ◌<◌, true, false, List, [], ◌∷◌, length, Option, Some, None, arith}
use Rattle.std.proofs.Math.Nat.{mod-le}
use Rattle.std.proofs.lemmas.Bool.{cases_Bool}
use Rattle.std.proofs.lemmas.Bool.Decides.{nat_tests}
use Rattle.std.proofs.lemmas.Nat.{and_le_r}
use Rattle.std.proofs.lemmas.Option.{none-some, option_and_then_some, same_Some, slice_get_cases}
use Rattle.std.specs.Option.{option_map}
use Rattle.std.specs.Prelude.{if◌then◌else◌, is_some, nat_eq, nat_lt, ◌&&◌}
use Rattle.naga_kinds.specs.Scalar.{components_of}
use Rattle.naga_kinds.specs.declared.address_space.AddressSpace.{AddressSpace}
use Rattle.naga_kinds.specs.declared.address_space.AddressSpace.TheVariants as space
use Rattle.naga_kinds.specs.declared.scalar.Scalar.{Scalar}
use Rattle.naga_kinds.specs.declared.scalar.VectorSize.{VectorSize}
use Rattle.naga_ir.specs.Types.{plain}
use Rattle.naga_ir.specs.declared.types.TypeInner.{TypeInner}
use Rattle.naga_ir.specs.declared.types.TypeInner.TheVariants as inner
use Rattle.naga_typifier.specs.Context.{Context, contents_of}
use Rattle.naga_typifier.specs.Rows.{◌>>=◌, accessed, copied, handle, loaded, part_of, pointee, pointer_to, sized, when}
use Rattle.naga_typifier.specs.Table.{pointed, same, variable}
use Rattle.naga_typifier.specs.declared.resolution.TypeResolution.{TypeResolution}
use Rattle.naga_typifier.specs.declared.resolution.TypeResolution.TheVariants as resolution
use Rattle.naga_typing.specs.Expressions.{of}
use Rattle.naga_typing.specs.Forms.{Form, contents, declared_form, form}
use Rattle.naga_typing.specs.ModelValues.{Value, Variable, composite, contents_in, count_in, has_type, indeterminate, is_truth, number_type, numeric, part_at, part_behind, part_type, pointed_type, pointing, type_behind, variable_type, with_part_behind, zero_with, zero_within}
use Rattle.naga_typing.specs.TypedModel.{accessed_at, chosen, chosen_each, common, confined, difference, in_space, is_same, itself, least, loaded_from, one_of, remainder, selected, stored_in, variable_in}
use Rattle.naga_typing.specs.TypedModel as model
use Rattle.naga_typing.proofs.ModelValuesLemmas.{Agrees, behind-typed, below, equal, form-of, is_pointer, not-pointed, parts-same, pointed-declared, pointed-of, pointer-has-no-parts, pointer-to, when-form, with_part_behind-typed}

-- a type is the copy of itself
pub copied-same : (ty copy : TypeResolution) → copied ty ≡ Some copy → ty ≡ copy
copied-same (resolution.Handle h) copy is = let same : resolution.Handle h ≡ copy = cc in same
copied-same (resolution.Value (inner.Struct members span)) copy is = absurd (cc)
copied-same (resolution.Value what) copy is = let same : resolution.Value what ≡ copy = cc in same

above : (a b : ℕ) → a < b → nat_lt a b ≡ true
above a b less = grind (arith, nat_tests)

-- ---- selections

module _ (types : ℕ → Option TypeInner) where
  abbrev Has : Value → Form → Type 0
  Has = has_type types

  chosen-typed : (condition accept reject : Value) (ty : Form) → Has accept ty → Has reject ty → Has (chosen condition accept reject) ty
  chosen-typed (numeric scalar number) accept reject ty fits other = elim (cases_Bool (nat_eq number 0)) [
    | inl none ↦ subst (λ v. Has v ty) (λ i. if sym none i then reject else accept) other
    | inr some ↦ subst (λ v. Has v ty) (λ i. if sym some i then reject else accept) fits
  ]
  chosen-typed _ accept reject ty fits other = tt

  chosen_each-typed : (conditions : ℕ → Value) (accept reject : Value) (ty : Form) → Has accept ty → Has reject ty
      → Has (chosen_each conditions accept reject) ty
  chosen_each-typed conditions (composite count accepted) (composite others rejected) ty fits other = (
    fits.0,
    λ position less.
        let x = fits.1 position less in
        let y = other.1 position (subst (λ n. position < n) (same_Some count others (sym fits.0 ∙ other.0)) less) in (
          x.0,
          x.1,
          chosen-typed (conditions position) (accepted position) (rejected position) x.0 x.2
              (subst (Has (rejected position)) (same_Some y.0 x.0 (sym y.1 ∙ x.1)) y.2),
        ),
  )
  chosen_each-typed conditions accept reject ty fits other = tt

  pub selected-typed : (condition accept reject : Value) (ty : Form) → Has accept ty → Has reject ty → Has (selected (condition ∷ accept ∷ reject ∷ [])) ty
  selected-typed (composite count conditions) accept reject ty fits other = chosen_each-typed conditions accept reject ty fits other
  selected-typed indeterminate accept reject ty fits other = tt
  selected-typed (numeric scalar number) accept reject ty fits other = chosen-typed (numeric scalar number) accept reject ty fits other
  selected-typed (pointing variable path) accept reject ty fits other = tt

  -- ---- numbers

  pub difference-typed : (left right : Value) (ty : Form) → Has left ty → Has right ty → Has (difference left right) ty
  difference-typed (numeric scalar number) (numeric of other) ty fits also = (
    also.0,
    λ so.
        let less : number < 2 = fits.1 (subst (λ s. is_truth s.kind ≡ true) (same_Some of scalar (sym also.0 ∙ fits.0)) so) in
        omega (arith, less),
  )
  difference-typed indeterminate (numeric of other) ty fits also = (also.0, λ so. omega arith)
  difference-typed left right ty fits also = tt

  pub least-typed : (left right : Value) (ty : Form) → Has left ty → Has right ty → Has (least left right) ty
  least-typed (numeric scalar number) (numeric of other) ty fits also = (
    also.0,
    λ so. let less : other < 2 = also.1 so in omega (arith, less),
  )
  least-typed indeterminate (numeric of other) ty fits also = also
  least-typed (composite count parts) (numeric of other) ty fits also = also
  least-typed (pointing variable path) (numeric of other) ty fits also = also
  least-typed (numeric scalar number) indeterminate ty fits also = fits
  least-typed (numeric scalar number) (composite count parts) ty fits also = fits
  least-typed (numeric scalar number) (pointing variable path) ty fits also = fits
  least-typed left right ty fits also = tt

  pub confined-typed : (value low high : Value) (ty : Form) → Has high ty → Has (confined value low high) ty
  confined-typed (numeric scalar number) (numeric from lower) (numeric of upper) ty fits = (
    fits.0,
    λ so. let less : upper < 2 = fits.1 so in omega (arith, less),
  )
  confined-typed (numeric scalar number) indeterminate (numeric of upper) ty fits = fits
  confined-typed (numeric scalar number) (composite count parts) (numeric of upper) ty fits = fits
  confined-typed (numeric scalar number) (pointing variable path) (numeric of upper) ty fits = fits
  confined-typed indeterminate low (numeric of upper) ty fits = fits
  confined-typed (composite count parts) low (numeric of upper) ty fits = fits
  confined-typed (pointing variable path) low (numeric of upper) ty fits = fits
  confined-typed value low high ty fits = tt

  pub common-typed : (left right : Value) (ty : Form) → Has left ty → Has right ty → Has (common left right) ty
  common-typed (numeric scalar number) (numeric of other) ty fits also = (
    also.0,
    λ so. let less : other < 2 = also.1 so in let most = and_le_r number other in omega (arith, less, most),
  )
  common-typed indeterminate (numeric of other) ty fits also = also
  common-typed (composite count parts) (numeric of other) ty fits also = also
  common-typed (pointing variable path) (numeric of other) ty fits also = also
  common-typed (numeric scalar number) indeterminate ty fits also = fits
  common-typed (numeric scalar number) (composite count parts) ty fits also = fits
  common-typed (numeric scalar number) (pointing variable path) ty fits also = fits
  common-typed left right ty fits also = tt

  pub remainder-typed : (left right : Value) (ty : Form) → Has left ty → Has right ty → Has (remainder left right) ty
  remainder-typed (numeric scalar number) (numeric of other) ty fits also = (
    also.0,
    λ so.
        let less : number < 2 = fits.1 (subst (λ s. is_truth s.kind ≡ true) (same_Some of scalar (sym also.0 ∙ fits.0)) so) in
        let most = mod-le number other in
        omega (arith, less, most),
  )
  remainder-typed indeterminate (numeric of other) ty fits also = (also.0, λ so. let less : other < 2 = also.1 so in omega (arith, less))
  remainder-typed (composite count parts) (numeric of other) ty fits also = (also.0, λ so. let less : other < 2 = also.1 so in omega (arith, less))
  remainder-typed (pointing variable path) (numeric of other) ty fits also = (also.0, λ so. let less : other < 2 = also.1 so in omega (arith, less))
  remainder-typed left right ty fits also = tt

  -- an atomic has the values of its scalar
  atomic-both : (scalar : Scalar) (v : Value)
      → (Has v (contents (plain (inner.Atomic scalar))) → Has v (contents (plain (inner.Scalar scalar))))
      × (Has v (contents (plain (inner.Scalar scalar))) → Has v (contents (plain (inner.Atomic scalar))))
  atomic-both scalar indeterminate = (λ h. h, λ h. h)
  atomic-both scalar (numeric of number) = (λ h. h, λ h. h)
  atomic-both scalar (composite count parts) = (λ h. absurd (none-some count h.0), λ h. absurd (none-some count h.0))
  atomic-both scalar (pointing variable path) = (λ h. h, λ h. h)

  one-typed : (ty : Form) (number : Option Scalar) → number_type ty ≡ number → Has (one_of number) ty
  one-typed ty None is = tt
  one-typed ty (Some scalar) is = (is, λ so. omega arith)

  -- ---- vectors

  pub vector-typed : (size : VectorSize) (scalar : Scalar) (parts : ℕ → Value) → ((position : ℕ) → Has (parts position) (contents (plain (inner.Scalar scalar))))
      → Has (composite (components_of size) parts) (contents (plain (inner.Vector size scalar)))
  vector-typed size scalar parts each = (
    refl,
    λ position less. (
      contents (plain (inner.Scalar scalar)),
      (λ i. option_map (form types) (when (above position (components_of size) less i) (inner.Scalar scalar))),
      each position,
    ),
  )

  pub component-typed : (size : VectorSize) (scalar : Scalar) (v : Value) → Has v (contents (plain (inner.Vector size scalar))) → (position : ℕ)
      → Has (part_at v position) (contents (plain (inner.Scalar scalar)))
  component-typed size scalar indeterminate has position = tt
  component-typed size scalar (numeric of number) has position = tt
  component-typed size scalar (pointing variable path) has position = tt
  component-typed size scalar (composite count parts) has position = elim (cases_Bool (nat_lt position count)) [
    | inl less ↦
        let found = has.1 position (below position count less) in
        subst (λ v. Has v (contents (plain (inner.Scalar scalar)))) (λ i. if sym less i then parts position else indeterminate)
        (subst (Has (parts position)) (sym (when-form types (nat_lt position (components_of size)) (inner.Scalar scalar) found.0 found.1)) found.2)
    | inr past ↦
        subst (λ v. Has v (contents (plain (inner.Scalar scalar)))) (λ i. if sym past i then parts position else indeterminate) tt
  ]

  -- ---- zero values

  part_of-found : (what : TypeInner) (count : ℕ) → count_in what ≡ Some count → (position : ℕ) → position < count
      → (p : TypeResolution) × (part_of (Some position) what ≡ Some p)
  part_of-found (inner.Vector size scalar) count is position less = (
    resolution.Value (inner.Scalar scalar),
    (λ i. when (above position (components_of size) (subst (λ n. position < n) (sym (same_Some (components_of size) count is)) less) i) (inner.Scalar scalar)),
  )
  part_of-found (inner.Matrix columns rows scalar) count is position less = (
    resolution.Value (inner.Vector rows scalar),
    (λ i. when (above position (components_of columns) (subst (λ n. position < n) (sym (same_Some (components_of columns) count is)) less) i) (inner.Vector rows scalar)),
  )
  part_of-found (inner.Array base size stride) count is position less = (handle base, refl)
  part_of-found (inner.BindingArray base size) count is position less = (handle base, refl)
  part_of-found (inner.Struct members span) count is position less = elim (slice_get_cases members.items position).1 [
    | inl found ↦ (handle found.0.ty, ap (option_map (λ member. handle member.ty)) found.2)
    | inr past ↦ absurd (let same : length members.items ≡ count = same_Some (length members.items) count is in omega (arith, same, past.0, less))
  ]
  part_of-found what count is position less = absurd (none-some count is)

  part-found : (ty : Form) (count : ℕ) → (contents_in types ty >>= count_in) ≡ Some count → (position : ℕ) → position < count
      → (part : Form) × (part_type types position ty ≡ Some part)
  part-found ty count is position less =
      option_and_then_some count_in (contents_in types ty) count is
      (λ what found counted.
      let p = part_of-found what count counted position less in
      (form types p.0, ap (λ o. option_map (form types) (o >>= part_of (Some position))) found ∙ ap (option_map (form types)) p.1))

  zero_with-typed : (ty : Form) (parts : ℕ → Value) (count : Option ℕ) (number : Option Scalar) → (contents_in types ty >>= count_in) ≡ count → number_type ty ≡ number
      → ((position : ℕ) (part : Form) → part_type types position ty ≡ Some part → Has (parts position) part) → Has (zero_with types parts count number) ty
  zero_with-typed ty parts count (Some scalar) counted is each = (is, λ so. omega arith)
  zero_with-typed ty parts None None counted is each = tt
  zero_with-typed ty parts (Some count) None counted is each = (
    counted,
    λ position less. let found = part-found ty count counted position less in (found.0, found.1, each position found.0 found.1),
  )

  zero-typed : (depth : ℕ) (ty : Form) → Has (zero_within types depth (Some ty)) ty
  zero-typed zero ty = tt
  zero-typed (suc depth) ty =
      zero_with-typed ty (λ position. zero_within types depth (part_type types position ty)) (contents_in types ty >>= count_in) (number_type ty) refl refl
      (λ position part is. subst (λ o. Has (zero_within types depth o) part) (sym is) (zero-typed depth part))

-- ---- accesses

module _ (ctx : Context) where
  abbrev types : ℕ → Option TypeInner
  types = ctx.types

  -- the value has the type
  abbrev Fit : Value → TypeResolution → Type 0
  Fit v ty = has_type ctx.types v (form ctx.types ty)

  accessed-part : (index : Option ℕ) (what : TypeInner) (ty : TypeResolution) → accessed ctx index what ≡ Some ty → is_pointer what ≡ false
      → part_of index what ≡ Some ty
  accessed-part index (inner.Pointer base space) ty is so = absurd (let e : true ≡ false = so in cc)
  accessed-part index (inner.ValuePointer size scalar space) ty is so = absurd (let e : true ≡ false = so in cc)
  accessed-part index what ty is so = is

  -- the type of a part of a value
  in-value : (base : TypeResolution) (what : TypeInner) → contents_of ctx.types base ≡ Some what → (index : Option ℕ) (position : ℕ) → Agrees index position
      → (ty : TypeResolution) → accessed ctx index what ≡ Some ty → (q : Form) → part_type ctx.types position (form ctx.types base) ≡ Some q → q ≡ form ctx.types ty
  in-value base what is index position agrees ty at q inside = elim (cases_Bool (is_pointer what)) [
    | inl there ↦ absurd (none-some q (sym (pointer-has-no-parts ctx.types base what is there position) ∙ inside))
    | inr none ↦ parts-same ctx.types base what is index position agrees ty (accessed-part index what ty at none) q inside
  ]

  -- the type of a pointer to a part of what a pointer points to
  through-pointer : (base : TypeResolution) (what : TypeInner) → contents_of ctx.types base ≡ Some what → (behind : Form)
      → pointed_type ctx.types (form ctx.types base) ≡ Some behind → (index : Option ℕ) (position : ℕ) → Agrees index position → (ty : TypeResolution)
      → accessed ctx index what ≡ Some ty → (q : Form) → part_type ctx.types position behind ≡ Some q → pointed_type ctx.types (form ctx.types ty) ≡ Some q
  through-pointer base (inner.Pointer to space) is behind points index position agrees ty at q inside =
      option_and_then_some (pointer_to space) (ctx.types to >>= part_of index) ty at
      (λ p found pointing_there. option_and_then_some (part_of index) (ctx.types to) p found
      (λ w there part.
      pointer-to ctx.types space p ty pointing_there
      ∙ ap (λ f. Some f) (sym (parts-same ctx.types (handle to) w there index position agrees p part q
      (subst (λ f. part_type ctx.types position f ≡ Some q) (sym (same_Some (form ctx.types (handle to)) behind (sym (pointed-of ctx.types base to space is) ∙ points))) inside)))))
  through-pointer base (inner.ValuePointer (Some size) scalar space) is behind points index position agrees ty at q inside =
      option_and_then_some (pointer_to space) (part_of index (inner.Vector size scalar)) ty at
      (λ p part pointing_there.
      pointer-to ctx.types space p ty pointing_there
      ∙ ap (λ f. Some f) (sym (parts-same ctx.types (resolution.Value (inner.Vector size scalar)) (inner.Vector size scalar) refl index position agrees p part q
      (subst (λ f. part_type ctx.types position f ≡ Some q)
      (sym (same_Some (contents (plain (inner.Vector size scalar))) behind
      (sym (ap (pointed_type ctx.types) (form-of ctx.types base (inner.ValuePointer (Some size) scalar space) is refl)) ∙ points))) inside))))
  through-pointer base (inner.ValuePointer None scalar space) is behind points index position agrees ty at q inside = absurd (none-some ty at)
  through-pointer base what is behind points index position agrees ty at q inside = absurd (none-some behind (sym (not-pointed ctx.types base what is refl) ∙ points))

  reached-typed : (to : Variable) (path : List ℕ) (ty : Form) (found : Option Form) → type_behind ctx.types (variable_type ctx.types to) path ≡ found
      → ((q : Form) → found ≡ Some q → has_type ctx.types (pointing to path) ty)
      → has_type ctx.types (if is_some (type_behind ctx.types (variable_type ctx.types to) path) then pointing to path else indeterminate) ty
  reached-typed to path ty None is each = subst (λ o. has_type ctx.types (if is_some o then pointing to path else indeterminate) ty) (sym is) tt
  reached-typed to path ty (Some q) is each = subst (λ o. has_type ctx.types (if is_some o then pointing to path else indeterminate) ty) (sym is) (each q refl)

  pub accessed_at-typed : (v : Value) (base : TypeResolution) (what : TypeInner) → contents_of ctx.types base ≡ Some what → Fit v base → (index : Option ℕ) (position : ℕ)
      → Agrees index position → (ty : TypeResolution) → accessed ctx index what ≡ Some ty → Fit (accessed_at ctx position v) ty
  accessed_at-typed indeterminate base what is has index position agrees ty at = tt
  accessed_at-typed (numeric scalar number) base what is has index position agrees ty at = tt
  accessed_at-typed (composite count parts) base what is has index position agrees ty at = elim (cases_Bool (nat_lt position count)) [
    | inl less ↦
        let found = has.1 position (below position count less) in
        subst (λ v. Fit v ty) (λ i. if sym less i then parts position else indeterminate)
        (subst (has_type ctx.types (parts position)) (in-value base what is index position agrees ty at found.0 found.1) found.2)
    | inr past ↦ subst (λ v. Fit v ty) (λ i. if sym past i then parts position else indeterminate) tt
  ]
  accessed_at-typed (pointing to path) base what is has index position agrees ty at =
      reached-typed to (position ∷ path) (form ctx.types ty) (type_behind ctx.types (variable_type ctx.types to) (position ∷ path)) refl
      (λ q there. (
        q,
        there,
        through-pointer base what is has.0 has.2 index position agrees ty at q (ap (λ o. o >>= part_type ctx.types position) (sym has.1) ∙ there),
      ))

  pub accessed-typed : (v index : Value) (base : TypeResolution) (what : TypeInner) → contents_of ctx.types base ≡ Some what → Fit v base
      → (ty : TypeResolution) → accessed ctx None what ≡ Some ty → Fit (model.accessed ctx v index) ty
  accessed-typed v (numeric scalar position) base what is has ty at = accessed_at-typed v base what is has None position tt ty at
  accessed-typed v indeterminate base what is has ty at = tt
  accessed-typed v (composite count parts) base what is has ty at = tt
  accessed-typed v (pointing to path) base what is has ty at = tt

  -- ---- variables

  pointee-both : (base : ℕ) (found : Option TypeInner) → ctx.types base ≡ found → (ty : TypeResolution) → option_map (pointee base) found ≡ Some ty → (v : Value)
      → (Fit v (handle base) → Fit v ty) × (Fit v ty → Fit v (handle base))
  pointee-both base None is ty at v = absurd (none-some ty at)
  pointee-both base (Some (inner.Atomic scalar)) is ty at v =
      let same : resolution.Value (inner.Scalar scalar) ≡ ty = same_Some (resolution.Value (inner.Scalar scalar)) ty at in
      let atomic : form ctx.types (handle base) ≡ contents (plain (inner.Atomic scalar)) = ap (declared_form ctx.types base) is in (
        λ h. subst (Fit v) same ((atomic-both ctx.types scalar v).0 (subst (has_type ctx.types v) atomic h)),
        λ h. subst (has_type ctx.types v) (sym atomic) ((atomic-both ctx.types scalar v).1 (subst (Fit v) (sym same) h)),
      )
  pointee-both base (Some what) is ty at v =
      let same : handle base ≡ ty = same_Some (handle base) ty at in (λ h. subst (Fit v) same h, λ h. subst (Fit v) (sym same) h)

  sized-both : (size : Option VectorSize) (scalar : Scalar) (v : Value)
      → (has_type ctx.types v (contents (plain (sized size scalar))) → Fit v (resolution.Value (sized size scalar)))
      × (Fit v (resolution.Value (sized size scalar)) → has_type ctx.types v (contents (plain (sized size scalar))))
  sized-both None scalar v = (λ h. h, λ h. h)
  sized-both (Some size) scalar v = (λ h. h, λ h. h)

  -- the values of the type that is loaded through a pointer are those of the type to which it points
  pub loaded-both : (at : TypeResolution) (what : TypeInner) → contents_of ctx.types at ≡ Some what → (behind : Form)
      → pointed_type ctx.types (form ctx.types at) ≡ Some behind → (ty : TypeResolution) → loaded ctx what ≡ Some ty → (v : Value)
      → (has_type ctx.types v behind → Fit v ty) × (Fit v ty → has_type ctx.types v behind)
  loaded-both at (inner.Pointer base space) is behind points ty loads v =
      let same : form ctx.types (handle base) ≡ behind = same_Some (form ctx.types (handle base)) behind (sym (pointed-of ctx.types at base space is) ∙ points) in
      let both = pointee-both base (ctx.types base) refl ty loads v in
      (λ h. both.0 (subst (has_type ctx.types v) (sym same) h), λ h. subst (has_type ctx.types v) same (both.1 h))
  loaded-both at (inner.ValuePointer size scalar space) is behind points ty loads v =
      let same : contents (plain (sized size scalar)) ≡ behind = same_Some (contents (plain (sized size scalar))) behind
      (sym (ap (pointed_type ctx.types) (form-of ctx.types at (inner.ValuePointer size scalar space) is refl)) ∙ points) in
      let one : resolution.Value (sized size scalar) ≡ ty = same_Some (resolution.Value (sized size scalar)) ty loads in
      let both = sized-both size scalar v in (
        λ h. subst (Fit v) one (both.0 (subst (has_type ctx.types v) (sym same) h)),
        λ h. subst (has_type ctx.types v) same (both.1 (subst (Fit v) (sym one) h)),
      )
  loaded-both at what is behind points ty loads v = absurd (none-some ty loads)

  -- each variable has a value of its type
  abbrev pub IsMemory : (Variable → Value) → Type 0
  IsMemory memory = (to : Variable) → has_type ctx.types (memory to) (variable_type ctx.types to)

  pub loaded-typed : (memory : Variable → Value) → IsMemory memory → (v : Value) (at : TypeResolution) (what : TypeInner) → contents_of ctx.types at ≡ Some what → Fit v at
      → (ty : TypeResolution) → loaded ctx what ≡ Some ty → Fit (loaded_from memory v) ty
  loaded-typed memory typed indeterminate at what is has ty loads = tt
  loaded-typed memory typed (numeric scalar number) at what is has ty loads = tt
  loaded-typed memory typed (composite count parts) at what is has ty loads = tt
  loaded-typed memory typed (pointing to path) at what is has ty loads =
      (loaded-both at what is has.0 has.2 ty loads (part_behind (memory to) path)).0
      (behind-typed ctx.types path (memory to) (variable_type ctx.types to) (typed to) has.0 has.1)

  same-type : (one other : Variable) → is_same one other ≡ true → one.ty ≡ other.ty
  same-type one other is = elim (cases_Bool (nat_eq one.ty other.ty)) [
    | inl same ↦ equal one.ty other.ty same
    | inr unequal ↦ absurd (let e : false ≡ true = sym (λ i. unequal i && (nat_eq one.depth other.depth && nat_eq one.number other.number)) ∙ is in cc)
  ]

  pub stored-typed : (to : Variable) (path : List ℕ) (v : Value) (behind : Form) → type_behind ctx.types (variable_type ctx.types to) path ≡ Some behind
      → has_type ctx.types v behind → (memory : Variable → Value) → IsMemory memory → IsMemory (stored_in to path v memory)
  stored-typed to path v behind there fits memory typed other = elim (cases_Bool (is_same other to)) [
    | inl same ↦
        subst (λ w. has_type ctx.types w (variable_type ctx.types other)) (λ i. if sym same i then with_part_behind path v (memory other) else memory other)
        (with_part_behind-typed ctx.types path v (memory other) (variable_type ctx.types other) (typed other) behind
        (subst (λ n. type_behind ctx.types (form ctx.types (handle n)) path ≡ Some behind) (sym (same-type other to same)) there) fits)
    | inr unequal ↦
        subst (λ w. has_type ctx.types w (variable_type ctx.types other)) (λ i. if sym unequal i then with_part_behind path v (memory other) else memory other) (typed other)
  ]

  -- ---- what is named

  in_space-typed : (of : AddressSpace) (depth number base : ℕ) → Fit (in_space of (pointing (record { ty = base; depth = depth; number = number }) [])) (pointed of base)
  in_space-typed space.Handle depth number base = tt
  in_space-typed of depth number base = (form ctx.types (handle base), refl, pointed-declared ctx.types base of (ctx.types base) refl)

  pub variable-typed : (depth number : ℕ) (found : Option (AddressSpace × ℕ)) (ty : TypeResolution) → option_map variable found ≡ Some ty
      → Fit (variable_in ctx depth number found) ty
  variable-typed depth number None ty is = absurd (none-some ty is)
  variable-typed depth number (Some found) ty is =
      subst (Fit (in_space found.0 (pointing (record { ty = found.1; depth = depth; number = number }) []))) (same_Some (variable found) ty is)
      (in_space-typed found.0 depth number found.1)

  pub local-typed : (depth number : ℕ) (found : Option ℕ) (ty : TypeResolution) → option_map (pointed space.Function) found ≡ Some ty
      → Fit (variable_in ctx depth number (option_map (λ t. (space.Function, t)) found)) ty
  local-typed depth number None ty is = absurd (none-some ty is)
  local-typed depth number (Some found) ty is =
      subst (Fit (pointing (record { ty = found; depth = depth; number = number }) [])) (same_Some (pointed space.Function found) ty is)
      (in_space-typed space.Function depth number found)

  pub zero-named : (bound : ℕ) (found : Option ℕ) (ty : TypeResolution) → option_map handle found ≡ Some ty
      → Fit (zero_within ctx.types bound (option_map (λ t. form ctx.types (handle t)) found)) ty
  zero-named bound None ty is = absurd (none-some ty is)
  zero-named bound (Some found) ty is =
      subst (Fit (zero_within ctx.types bound (Some (form ctx.types (handle found))))) (same_Some (handle found) ty is)
      (zero-typed ctx.types bound (form ctx.types (handle found)))

  pub one-named : (found : Option ℕ) (ty : TypeResolution) → option_map handle found ≡ Some ty
      → Fit (one_of (option_map (λ t. form ctx.types (handle t)) found >>= number_type)) ty
  one-named None ty is = absurd (none-some ty is)
  one-named (Some found) ty is =
      subst (Fit (one_of (number_type (form ctx.types (handle found))))) (same_Some (handle found) ty is)
      (one-typed ctx.types (form ctx.types (handle found)) (number_type (form ctx.types (handle found))) refl)
