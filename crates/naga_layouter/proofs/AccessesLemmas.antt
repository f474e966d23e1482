-- Accesses by indices below lengths lead to parts.
use Rattle.std.proofs.Common.{◌≡◌, ℕ, zero, suc, ◌+◌, ◌*◌, ◌^◌, ◌<◌, ◌⊎◌, inl, inr, nat_lt, List, [], ◌∷◌, ◌++◌, Option, Some, None, Bool, true, false, length, length-append, refl, ap, sym, subst, ◌∙◌, arith}
use Rattle.std.specs.Bool.{⊤}
use Rattle.std.specs.Int.NonZero.{non_zero_u32_get}
use Rattle.std.specs.List.{slice_get}
use Rattle.std.specs.Option.{option_map}
use Rattle.std.proofs.lemmas.Bool.{lt-ltb}
use Rattle.std.proofs.lemmas.Option.{slice_get_within}
use Rattle.naga_arena.specs.Arena.{values}
use Rattle.naga_arena.specs.declared.span.Span.{Span}
use Rattle.naga_kinds.specs.Scalar.{components_of}
use Rattle.naga_kinds.specs.declared.address_space.AddressSpace.{AddressSpace}
use Rattle.naga_ir.specs.declared.expression.Expression.{Expression}
use Rattle.naga_ir.specs.declared.expression.Expression.TheVariants.{Access, AccessIndex}
use Rattle.naga_ir.specs.declared.module.Function as function
use Rattle.naga_ir.specs.declared.module.Module as the_module
use Rattle.naga_ir.specs.declared.types.ArraySize.{ArraySize}
use Rattle.naga_ir.specs.declared.types.ArraySize.TheVariants as array_size
use Rattle.naga_ir.specs.declared.types.StructMember.{StructMember}
use Rattle.naga_ir.specs.declared.types.«Type».{«Type» as NamedType}
use Rattle.naga_ir.specs.declared.types.TypeInner.{TypeInner}
use Rattle.naga_ir.specs.declared.types.TypeInner.TheVariants.{Scalar, Vector, Matrix, Pointer, ValuePointer, Array, Struct, BindingArray}
use Rattle.naga_typifier.specs.Context.{Context, context_in, contents_of, inner_at, inner_of}
use Rattle.naga_typifier.specs.Faults.{fault_of}
use Rattle.naga_typifier.specs.Rows.{◌>>=◌, accessed, handle, part_of, pointer_to, when as when_typed}
use Rattle.naga_typifier.specs.Table.{type_of}
use Rattle.naga_typifier.specs.Typing.{typing}
use Rattle.naga_typifier.specs.declared.resolution.TypeResolution.{TypeResolution}
use Rattle.naga_typifier.specs.declared.resolution.TypeResolution.TheVariants as resolution
use Rattle.naga_typifier.specs.declared.resolve_error.ResolveError.{ResolveError}
use Rattle.naga_bounds.specs.Modules.{typed_in}
use Rattle.naga_bounds.specs.Reach.{Typed, contents_at, is_below_fixed, length_behind, length_reached}
use Rattle.naga_layouter.specs.Accesses.{AccessesStayInside, GoesTo, IsAccess, IsIndexed, PointsTo, target_of, with_bytes}
use Rattle.naga_layouter.specs.Alignment.{alignment_of_size}
use Rattle.naga_layouter.specs.Leaves.{bytes_with, count_with, member_placed, part_with, placed, when}
use Rattle.naga_layouter.specs.Paths.{Reaches}
use Rattle.naga_layouter.specs.Types.{is_open_array}
use Rattle.naga_layouter.proofs.LeavesLemmas.{Faultless, laid-out, none-some}
use Rattle.naga_layouter.proofs.PathLemmas.{inside}
use Rattle.naga_layouter.proofs.SoundLemmas.{HasSound, slice-kept, slice-pushed, sound-of}

-- what was bound was there
bound : {A B : Type 0} (found : Option A) (next : A → Option B) (y : B) → (found >>= next) ≡ Some y → (x : A) × (found ≡ Some x) × (next x ≡ Some y)
bound None next y is = none-some y is
bound (Some x) next y is = (x, refl, is)

some-same : {A : Type 0} (x y : A) → Some x ≡ Some y → x ≡ y
some-same x y is = cc

-- ---- types of expressions

module _ (ctx : Context) where
  abbrev after : List TypeResolution → Expression → List Expression → Option TypeResolution → List TypeResolution × Option ResolveError
  after known first rest found =
      elim found as (λ _. List TypeResolution × Option ResolveError) [
        | None ↦ (known, Some (fault_of ctx (slice_get known) first))
        | Some ty ↦ typing ctx (known ++ ty ∷ []) rest
      ]

  -- types that are known stay
  known-kept : (known : List TypeResolution) (rest : List Expression) (i : ℕ) (ty : TypeResolution) → slice_get known i ≡ Some ty
      → slice_get (typing ctx known rest).0 i ≡ Some ty
  known-kept known [] i ty is = is
  known-kept known (first ∷ rest) i ty is =
      go (λ t. known-kept (known ++ t ∷ []) rest i ty (slice-kept known (t ∷ []) i ty is)) (type_of ctx (slice_get known) first)
    where
      go : ((t : TypeResolution) → slice_get (typing ctx (known ++ t ∷ []) rest).0 i ≡ Some ty) → (found : Option TypeResolution)
          → slice_get (after known first rest found).0 i ≡ Some ty
      go later None = is
      go later (Some t) = later t

  -- the expression has its type by the types of some that are in front
  record HasType (found : List TypeResolution) (expression : Expression) (ty : TypeResolution) : Type 0 where
    pub front : List TypeResolution
    pub kept : (i : ℕ) (other : TypeResolution) → slice_get front i ≡ Some other → slice_get found i ≡ Some other
    pub has : type_of ctx (slice_get front) expression ≡ Some ty

  has-type : (known : List TypeResolution) (rest : List Expression) (i : ℕ) (expression : Expression) (ty : TypeResolution)
      → slice_get rest i ≡ Some expression → slice_get (typing ctx known rest).0 (length known + i) ≡ Some ty
      → HasType (typing ctx known rest).0 expression ty
  has-type known [] zero expression ty here is = none-some expression here
  has-type known [] (suc i) expression ty here is = none-some expression here
  has-type known (first ∷ rest) zero expression ty here is = go (type_of ctx (slice_get known) first) refl is
    where
      go : (found : Option TypeResolution) → type_of ctx (slice_get known) first ≡ found
          → slice_get (after known first rest found).0 (length known + 0) ≡ Some ty → HasType (after known first rest found).0 expression ty
      go None none is =
          let within : length known + 0 < length known = slice_get_within known (length known + 0) ty is in absurd (omega (arith, within))
      go (Some t) some is =
          let at : length known + 0 ≡ length known = omega arith in
          let pushed : slice_get (typing ctx (known ++ t ∷ []) rest).0 (length known) ≡ Some t =
          known-kept (known ++ t ∷ []) rest (length known) t (slice-pushed known t) in
          let found : slice_get (typing ctx (known ++ t ∷ []) rest).0 (length known) ≡ Some ty =
          subst (λ (k : ℕ). slice_get (typing ctx (known ++ t ∷ []) rest).0 k ≡ Some ty) at is in
          let same : t ≡ ty = some-same t ty (sym pushed ∙ found) in
          let alike : first ≡ expression = some-same first expression here in
          let has : type_of ctx (slice_get known) expression ≡ Some t =
          subst (λ (e : Expression). type_of ctx (slice_get known) e ≡ Some t) alike some in
          record {
            front = known;
            kept = λ i other there. known-kept (known ++ t ∷ []) rest i other (slice-kept known (t ∷ []) i other there);
            has = has ∙ ap Some same;
          }
  has-type known (first ∷ rest) (suc i) expression ty here is =
      go (λ t. has-type (known ++ t ∷ []) rest i expression ty here) (type_of ctx (slice_get known) first) is
    where
      go : ((t : TypeResolution) → slice_get (typing ctx (known ++ t ∷ []) rest).0 (length (known ++ t ∷ []) + i) ≡ Some ty
          → HasType (typing ctx (known ++ t ∷ []) rest).0 expression ty)
          → (found : Option TypeResolution) → slice_get (after known first rest found).0 (length known + suc i) ≡ Some ty
          → HasType (after known first rest found).0 expression ty
      go later None is =
          let within : length known + suc i < length known = slice_get_within known (length known + suc i) ty is in
          absurd (omega (arith, within))
      go later (Some t) is =
          let at : length known + suc i ≡ length (known ++ t ∷ []) + i = omega (arith, length-append known (t ∷ [])) in
          later t (subst (λ (k : ℕ). slice_get (typing ctx (known ++ t ∷ []) rest).0 k ≡ Some ty) at is)

-- ---- parts of types

with_bytes-same : (contents kept : TypeInner) → with_bytes contents ≡ Some kept → contents ≡ kept
with_bytes-same (BindingArray base size) kept is = none-some kept is
with_bytes-same contents kept is = some-same contents kept is

when-some : (holds : Bool) (contents : TypeInner) (part : TypeResolution) → when_typed holds contents ≡ Some part → resolution.Value contents ≡ part
when-some true contents part is = some-same (resolution.Value contents) part is
when-some false contents part is = none-some part is

only-fixed : {A : Type 0} (b : Bool) → (b ≡ true) ⊎ ((false ≡ true) × A) → b ≡ true
only-fixed b (inl fixed) = fixed
only-fixed b (inr loose) = absurd (let e : false ≡ true = loose.0 in cc)

-- an index that may be computed may be this number
abbrev IsNumber : Option ℕ → ℕ → Type 0
IsNumber None number = ⊤
IsNumber (Some index) number = index ≡ number

module _ (types : List (NamedType × Span)) (n : ℕ) where
  -- the part with this index
  record IsStep (contents : TypeInner) (number : ℕ) (part : TypeInner) : Type 0 where
    pub offset : ℕ
    pub is : part_with types n contents number ≡ Some (offset, part)

  -- the contents of the type of a part that has bytes
  abbrev Part : TypeResolution → TypeInner → Type 0
  Part resolved part = (contents_of (inner_at types) resolved >>= with_bytes) ≡ Some part

  -- a pointer to a part points to it
  pointer-part : (space : AddressSpace) (resolved pointer : TypeResolution) (next part : TypeInner) → pointer_to space resolved ≡ Some pointer
      → contents_of (inner_at types) pointer ≡ Some next → target_of (inner_at types) next ≡ Some part → Part resolved part
  pointer-part space (resolution.Handle base) pointer next part to has target =
      let same : resolution.Value (Pointer base space) ≡ pointer = some-same (resolution.Value (Pointer base space)) pointer to in
      let here : contents_of (inner_at types) (resolution.Value (Pointer base space)) ≡ Some next =
      subst (λ (p : TypeResolution). contents_of (inner_at types) p ≡ Some next) (sym same) has in
      subst (λ (c : TypeInner). target_of (inner_at types) c ≡ Some part) (sym (some-same (Pointer base space) next here)) target
  pointer-part space (resolution.Value (Scalar scalar)) pointer next part to has target =
      let same : resolution.Value (ValuePointer None scalar space) ≡ pointer =
      some-same (resolution.Value (ValuePointer None scalar space)) pointer to in
      let here : contents_of (inner_at types) (resolution.Value (ValuePointer None scalar space)) ≡ Some next =
      subst (λ (p : TypeResolution). contents_of (inner_at types) p ≡ Some next) (sym same) has in
      subst (λ (c : TypeInner). target_of (inner_at types) c ≡ Some part) (sym (some-same (ValuePointer None scalar space) next here)) target
  pointer-part space (resolution.Value (Vector size scalar)) pointer next part to has target =
      let same : resolution.Value (ValuePointer (Some size) scalar space) ≡ pointer =
      some-same (resolution.Value (ValuePointer (Some size) scalar space)) pointer to in
      let here : contents_of (inner_at types) (resolution.Value (ValuePointer (Some size) scalar space)) ≡ Some next =
      subst (λ (p : TypeResolution). contents_of (inner_at types) p ≡ Some next) (sym same) has in
      subst (λ (c : TypeInner). target_of (inner_at types) c ≡ Some part) (sym (some-same (ValuePointer (Some size) scalar space) next here)) target
  pointer-part space (resolution.Value _) pointer next part to has target = none-some pointer to

  -- the part is a value of this type
  value-part : (contents : TypeInner) (resolved : TypeResolution) (part : TypeInner) → with_bytes contents ≡ Some contents
      → resolution.Value contents ≡ resolved → Part resolved part → contents ≡ part
  value-part contents resolved part kept same is =
      let here : (Some contents >>= with_bytes) ≡ Some part = subst (λ (r : TypeResolution). Part r part) (sym same) is in
      some-same contents part (sym kept ∙ here)

  -- the part has the type with this handle
  handle-part : (base : ℕ) (resolved : TypeResolution) (part : TypeInner) → resolution.Handle base ≡ resolved → Part resolved part
      → inner_at types base ≡ Some part
  handle-part base resolved part same is =
      let here : (inner_at types base >>= with_bytes) ≡ Some part = subst (λ (r : TypeResolution). Part r part) (sym same) is in
      let found = bound (inner_at types base) with_bytes part here in
      found.1 ∙ ap Some (with_bytes-same found.0 part found.2)

  -- the index is below the length of what has these contents
  abbrev Below : TypeInner → ℕ → Type 0
  Below contents number = (is_below_fixed (length_behind contents) number ≡ true) ⊎ ((is_open_array (Some contents) ≡ true) × (number < n))

  array-below : (base stride number : ℕ) (size : ArraySize) → Below (Array base size stride) number → nat_lt number (count_with n size) ≡ true
  array-below base stride number (array_size.Constant count) below = only-fixed (nat_lt number (non_zero_u32_get count)) below
  array-below base stride number (array_size.Pending named) (inl fixed) = absurd (let e : false ≡ true = fixed in cc)
  array-below base stride number (array_size.Pending named) (inr loose) = lt-ltb number n loose.1
  array-below base stride number array_size.Dynamic (inl fixed) = absurd (let e : false ≡ true = fixed in cc)
  array-below base stride number array_size.Dynamic (inr loose) = lt-ltb number n loose.1

  member-found : (found : Option StructMember) (resolved : TypeResolution) → option_map (λ member. handle member.ty) found ≡ Some resolved
      → (member : StructMember) × (found ≡ Some member) × (resolution.Handle member.ty ≡ resolved)
  member-found None resolved is = none-some resolved is
  member-found (Some member) resolved is = (member, refl, some-same (resolution.Handle member.ty) resolved is)

  -- an index below the length leads to the part that the type of the access has
  part-step : (contents : TypeInner) (index : Option ℕ) (number : ℕ) (resolved : TypeResolution) (part : TypeInner)
      → with_bytes contents ≡ Some contents → Below contents number → IsNumber index number → part_of index contents ≡ Some resolved
      → Part resolved part → IsStep contents number part
  part-step (Vector size scalar) index number resolved part kept below numbered is has =
      let same : Scalar scalar ≡ part = value-part (Scalar scalar) resolved part refl (when-some _ (Scalar scalar) resolved is) has in
      let there : nat_lt number (components_of size) ≡ true = only-fixed (nat_lt number (components_of size)) below in
      let offset : ℕ = number * scalar.width in
      let at : TypeInner → Option (ℕ × TypeInner) = λ p. Some (offset, p) in
      record { offset = offset; is = ap (λ (b : Bool). when b (at (Scalar scalar))) there ∙ ap at same }
  part-step (Matrix columns rows scalar) index number resolved part kept below numbered is has =
      let same : Vector rows scalar ≡ part = value-part (Vector rows scalar) resolved part refl (when-some _ (Vector rows scalar) resolved is) has in
      let there : nat_lt number (components_of columns) ≡ true = only-fixed (nat_lt number (components_of columns)) below in
      let offset : ℕ = number * (2 ^ alignment_of_size rows * scalar.width) in
      let at : TypeInner → Option (ℕ × TypeInner) = λ p. Some (offset, p) in
      record { offset = offset; is = ap (λ (b : Bool). when b (at (Vector rows scalar))) there ∙ ap at same }
  part-step (Array base size stride) index number resolved part kept below numbered is has =
      let found = handle-part base resolved part (some-same (resolution.Handle base) resolved is) has in
      let there : nat_lt number (count_with n size) ≡ true = array-below base stride number size below in
      record {
        offset = number * stride;
        is = ap (λ (b : Bool). when b (placed (number * stride) (inner_at types base))) there ∙ ap (placed (number * stride)) found;
      }
  part-step (Struct members span) None number resolved part kept below numbered is has = none-some resolved is
  part-step (Struct members span) (Some index) number resolved part kept below numbered is has =
      let member = member-found (slice_get members.items index) resolved is in
      let found = handle-part member.0.ty resolved part member.2 has in
      let here : slice_get members.items number ≡ Some member.0 = ap (slice_get members.items) (sym numbered) ∙ member.1 in
      record { offset = member.0.offset; is = ap (member_placed types) here ∙ ap (placed member.0.offset) found }
  part-step (BindingArray base size) index number resolved part kept below numbered is has = none-some (BindingArray base size) kept
  part-step _ None number resolved part kept below numbered is has = none-some resolved is
  part-step _ (Some index) number resolved part kept below numbered is has = none-some resolved is

-- ---- accesses

module _ (whole : the_module.Module) (inner : function.Function) (n : ℕ) where
  abbrev code : Typed
  code = typed_in whole inner

  abbrev ctx : Context
  ctx = context_in whole inner

  abbrev types : ℕ → Option TypeInner
  types = inner_at whole.types

  -- the index is below the length that was found, of what has these contents
  abbrev IsBelow : Bool → TypeInner → ℕ → Type 0
  IsBelow fixed contents number = (fixed ≡ true) ⊎ ((is_open_array (Some contents) ≡ true) × (number < n))

  -- the part that an access through a pointer reaches
  behind-step : (space : AddressSpace) (found : Option TypeInner) (index : Option ℕ) (number : ℕ) (resolved : TypeResolution)
      (next contents part : TypeInner) → ((found >>= part_of index) >>= pointer_to space) ≡ Some resolved
      → (found >>= with_bytes) ≡ Some contents → IsBelow (is_below_fixed (found >>= length_behind) number) contents number
      → IsNumber index number → contents_of types resolved ≡ Some next → target_of types next ≡ Some part
      → IsStep whole.types n contents number part
  behind-step space None index number resolved next contents part is kept below numbered has target = none-some resolved is
  behind-step space (Some old) index number resolved next contents part is kept below numbered has target =
      let same : old ≡ contents = with_bytes-same old contents kept in
      let to = bound (part_of index old) (pointer_to space) resolved is in
      let here : IsBelow (is_below_fixed (length_behind old) number) old number =
      subst (λ (c : TypeInner). IsBelow (is_below_fixed (length_behind old) number) c number) (sym same) below in
      let step : IsStep whole.types n old number part =
      part-step whole.types n old index number to.0 part (kept ∙ ap Some (sym same)) here numbered to.1
      (pointer-part whole.types n space to.0 resolved next part to.2 has target) in
      subst (λ (c : TypeInner). IsStep whole.types n c number part) same step

  access-step : (base : TypeInner) (index : Option ℕ) (number : ℕ) (resolved : TypeResolution) (next contents part : TypeInner)
      → accessed ctx index base ≡ Some resolved → target_of types base ≡ Some contents
      → IsBelow (is_below_fixed (length_reached types base) number) contents number → IsNumber index number
      → contents_of types resolved ≡ Some next → target_of types next ≡ Some part → IsStep whole.types n contents number part
  access-step (Pointer base space) index number resolved next contents part is kept below numbered has target =
      behind-step space (types base) index number resolved next contents part is kept below numbered has target
  access-step (ValuePointer None scalar space) None number resolved next contents part is kept below numbered has target =
      none-some resolved is
  access-step (ValuePointer None scalar space) (Some index) number resolved next contents part is kept below numbered has target =
      none-some resolved is
  access-step (ValuePointer (Some size) scalar space) index number resolved next contents part is kept below numbered has target =
      behind-step space (Some (Vector size scalar)) index number resolved next contents part is kept below numbered has target
  access-step _ index number resolved next contents part is kept below numbered has target = none-some contents kept

  -- an access that has a type
  record IsTypedAccess (front : ℕ → Option TypeResolution) (base number : ℕ) (ty : TypeResolution) : Type 0 where
    pub index : Option ℕ
    pub numbered : IsNumber index number
    pub has : ((front base >>= inner_of ctx) >>= accessed ctx index) ≡ Some ty

  typed-access : (front : ℕ → Option TypeResolution) (expression : Expression) (base number : ℕ) (ty : TypeResolution)
      → IsIndexed expression base number → type_of ctx front expression ≡ Some ty → IsTypedAccess front base number ty
  typed-access front (Access other index) base number ty indexed is = record {
    index = None;
    numbered = tt;
    has = subst (λ (b : ℕ). ((front b >>= inner_of ctx) >>= accessed ctx None) ≡ Some ty) indexed is;
  }
  typed-access front (AccessIndex other index) base number ty indexed is = record {
    index = Some index;
    numbered = indexed.1;
    has = subst (λ (b : ℕ). ((front b >>= inner_of ctx) >>= accessed ctx (Some index)) ≡ Some ty) indexed.0 is;
  }
  typed-access front _ base number ty indexed is = absurd indexed

  -- an access reaches a part of what its base points to
  access : (base number next : ℕ) (contents part : TypeInner) → IsAccess code n base number next → PointsTo code base contents
      → PointsTo code next part → IsStep whole.types n contents number part
  access base number next contents part is points reached =
      let pointer = bound (contents_at code next) (target_of types) part reached in
      let ty = bound (slice_get code.known next) (contents_of types) pointer.0 pointer.1 in
      let start : next ≡ 0 + next = omega arith in
      let here : slice_get code.known (0 + next) ≡ Some ty.0 = subst (λ (k : ℕ). slice_get code.known k ≡ Some ty.0) start ty.1 in
      let typed = has-type ctx [] (values inner.expressions) next is.expression ty.0 is.found here in
      let form = typed-access (slice_get typed.front) is.expression base number ty.0 is.indexed typed.has in
      let by = bound (slice_get typed.front base >>= inner_of ctx) (accessed ctx form.index) ty.0 form.has in
      let of = bound (slice_get typed.front base) (inner_of ctx) by.0 by.1 in
      let known : slice_get code.known base ≡ Some of.0 = typed.kept base of.0 of.1 in
      let base-contents : contents_at code base ≡ Some by.0 = ap (λ (t : Option TypeResolution). t >>= contents_of types) known ∙ of.2 in
      let same : is.target ≡ contents = some-same is.target contents (sym is.points ∙ points) in
      let below : IsBelow (is_below_fixed (length_reached types by.0) number) is.target number =
      subst (λ (c : Option TypeInner). IsBelow (is_below_fixed (c >>= length_reached types) number) is.target number) base-contents is.below in
      let below-contents : IsBelow (is_below_fixed (length_reached types by.0) number) contents number =
      subst (λ (c : TypeInner). IsBelow (is_below_fixed (length_reached types by.0) number) c number) same below in
      let target : target_of types by.0 ≡ Some contents =
      subst (λ (c : Option TypeInner). (c >>= target_of types) ≡ Some contents) base-contents points in
      access-step by.0 form.index number ty.0 pointer.0 contents part by.2 target below-contents form.numbered ty.2 pointer.2

  -- ---- chains

  -- the first expression of a chain is a pointer if the last one is
  first-points : (path : List ℕ) (first last : ℕ) (part : TypeInner) → GoesTo code n first path last → PointsTo code last part
      → (contents : TypeInner) × PointsTo code first contents
  first-points [] first last part goes points = (part, subst (λ (h : ℕ). PointsTo code h part) (sym goes) points)
  first-points (number ∷ path) first last part goes points = (goes.1.target, goes.1.points)

  reaches : (path : List ℕ) (first last : ℕ) (contents part : TypeInner) → GoesTo code n first path last → PointsTo code first contents
      → PointsTo code last part → (offset : ℕ) × Reaches (bytes_with whole.types n) (part_with whole.types n) contents path offset part
  reaches [] first last contents part goes points end =
      let here : PointsTo code first part = subst (λ (h : ℕ). PointsTo code h part) (sym goes) end in
      (0, (refl, some-same contents part (sym points ∙ here)))
  reaches (number ∷ path) first last contents part goes points end =
      let middle = first-points path goes.0 last part goes.2 end in
      let step = access first number goes.0 contents middle.0 goes.1 points middle.1 in
      let rest = reaches path goes.0 last middle.0 part goes.2 middle.1 end in
      (step.offset + rest.0, ((step.offset, middle.0), step.is, rest.0, refl, rest.1))

  -- ---- what is pointed to

  module _ (has : HasSound whole) where
    abbrev Fine : TypeInner → Type 0
    Fine contents = Faultless whole.types has.ctx has.known n has.sound contents

    target-fine : (pointer contents : TypeInner) → target_of types pointer ≡ Some contents → Fine contents
    target-fine (Pointer base space) contents is =
        let found = bound (types base) with_bytes contents is in
        (base, has.sound.faultless base contents (found.1 ∙ ap Some (with_bytes-same found.0 contents found.2)))
    target-fine (ValuePointer None scalar space) contents is = subst Fine (some-same (Scalar scalar) contents is) (0, refl)
    target-fine (ValuePointer (Some size) scalar space) contents is = subst Fine (some-same (Vector size scalar) contents is) (0, refl)
    target-fine _ contents is = none-some contents is

pub accesses-stay-inside : AccessesStayInside
accesses-stay-inside whole fine inner n first last path goes contents part points end =
    let has = sound-of whole fine in
    let pointer = bound (contents_at (typed_in whole inner) first) (target_of (inner_at whole.types)) contents points in
    let reached = reaches whole inner n path first last contents part goes points end in
    record {
      offset = reached.0;
      reached = reached.1;
      inside = inside (bytes_with whole.types n) (part_with whole.types n) (Faultless whole.types has.ctx has.known n has.sound)
          (laid-out whole.types has.ctx has.known n has.sound) path contents reached.0 part (target-fine whole inner n has pointer.0 contents pointer.2)
          reached.1;
    }
