-- The layouts of types, and the alignments of members, one more at a time.
use Rattle.std.proofs.Common.{◌≡◌, ℕ, zero, suc, ◌+◌, ◌≤◌, List, [], ◌∷◌, ◌++◌, Option, Some, None, Result, Ok, Err, get_or, ◌<◌, drop, length, refl, ap, sym, ◌∙◌, arith, add-one, drop-cons, max}
use Rattle.std.specs.List.{slice_get}
use Rattle.std.proofs.lemmas.List.{length-map}
use Rattle.std.proofs.lemmas.Option.{get_or_from_slice_get, slice_get_within, slice_get-get_or}
use Rattle.naga_arena.specs.Arena.{values}
use Rattle.naga_arena.specs.declared.span.Span.{Span}
use Rattle.naga_ir.specs.declared.global_ctx.GlobalCtx.{GlobalCtx}
use Rattle.naga_ir.specs.declared.types.StructMember.{StructMember}
use Rattle.naga_ir.specs.declared.types.«Type».{«Type» as NamedType}
use Rattle.naga_ir.specs.declared.types.TypeInner.{TypeInner}
use Rattle.naga_ir.specs.declared.types.TypeInner.TheVariants.{Scalar, Vector, Matrix, CooperativeMatrix, Atomic, Array, Struct}
use Rattle.naga_layouter.specs.Alignment.{alignment_of_side, alignment_of_size, alignment_of_width}
use Rattle.naga_layouter.specs.Layout.{IsStoppedBy, alignment_of, alignment_of_base, alignment_of_members, layout_of, laying, scaled, size_of, sized, with_alignment}
use Rattle.naga_layouter.specs.declared.layouter.TypeLayout.{TypeLayout}
use Rattle.naga_layouter.specs.declared.layout_error.LayoutErrorInner.{LayoutErrorInner}
use Rattle.naga_layouter.specs.declared.layout_error.LayoutErrorInner.TheVariants.{InvalidArrayElementType, InvalidStructMemberType, Memory, NonPowerOfTwoWidth, TooLarge}

pub drop-found : {X : Type 0} (xs : List X) (i : ℕ) (x : X) → slice_get xs i ≡ Some x → drop i xs ≡ x ∷ drop (i + 1) xs
drop-found xs i x found =
    drop-cons xs i x (slice_get_within xs i x found)
    ∙ ap (λ y. y ∷ drop (suc i) xs) (get_or_from_slice_get xs i x x found)
    ∙ ap (λ k. x ∷ drop k xs) (sym (add-one i))

pub drop-past : {X : Type 0} (xs : List X) (i : ℕ) → length xs ≤ i → drop i xs ≡ []
drop-past [] zero past = refl
drop-past [] (suc i) past = refl
drop-past (x ∷ xs) zero past = absurd (omega arith)
drop-past (x ∷ xs) (suc i) past = drop-past xs i (omega arith)

-- the item at an index
pub here-at : {X : Type 0} (xs : List X) (i : ℕ) (x : X) → i < length xs → x ≡ get_or xs i x → slice_get xs i ≡ Some x
here-at xs i x within is = slice_get-get_or xs i x within ∙ ap Some (sym is)

pub none-past : {X : Type 0} (xs : List X) (i : ℕ) → length xs ≤ i → slice_get xs i ≡ None
none-past [] zero past = refl
none-past [] (suc i) past = refl
none-past (x ∷ xs) zero past = absurd (omega arith)
none-past (x ∷ xs) (suc i) past = none-past xs i (omega arith)

module _ (ctx : GlobalCtx) (known : List TypeLayout) where
  abbrev after : List NamedType → Result TypeLayout LayoutErrorInner → List TypeLayout × Option LayoutErrorInner
  after rest found =
      elim found as (λ _. List TypeLayout × Option LayoutErrorInner) [
        | Err error ↦ (known, Some error)
        | Ok layout ↦ laying ctx (known ++ layout ∷ []) rest
      ]

  -- a type that has a layout
  pub laying-more : (types : List NamedType) (i : ℕ) (type : NamedType) (layout : TypeLayout)
      → slice_get types i ≡ Some type → layout_of ctx known type.inner ≡ Ok layout
      → laying ctx known (drop i types) ≡ laying ctx (known ++ layout ∷ []) (drop (i + 1) types)
  laying-more types i type layout here is =
      ap (laying ctx known) (drop-found types i type here) ∙ ap (after (drop (i + 1) types)) is

  -- a type that has none
  pub laying-stop : (types : List NamedType) (i : ℕ) (type : NamedType) (error : LayoutErrorInner)
      → slice_get types i ≡ Some type → layout_of ctx known type.inner ≡ Err error
      → laying ctx known (drop i types) ≡ (known, Some error)
  laying-stop types i type error here is =
      ap (laying ctx known) (drop-found types i type here) ∙ ap (after (drop (i + 1) types)) is

  -- no type is left
  pub laying-end : (arena : List (NamedType × Span)) (i : ℕ) → length arena ≤ i
      → laying ctx known (drop i (values arena)) ≡ (known, None)
  laying-end arena i past =
      let same : length (values arena) ≡ length arena = length-map arena (λ (p : NamedType × Span). p.0) in
      let short : length (values arena) ≤ i = omega (arith, same) in
      rw (drop-past (values arena) i short) refl

module _ (known : List TypeLayout) (members : List StructMember) (i before : ℕ) (member : StructMember) (here : slice_get members i ≡ Some member) where
  abbrev next : Option TypeLayout → Result ℕ LayoutErrorInner
  next found =
      elim found as (λ _. Result ℕ LayoutErrorInner) [
        | None ↦ Err (InvalidStructMemberType i member.ty)
        | Some layout ↦ alignment_of_members known (i + 1) (max before layout.alignment) (drop (i + 1) members)
      ]

  -- a member whose type comes before
  pub members-more : (layout : TypeLayout) → slice_get known member.ty ≡ Some layout
      → alignment_of_members known i before (drop i members)
      ≡ alignment_of_members known (i + 1) (max before layout.alignment) (drop (i + 1) members)
  members-more layout is = ap (alignment_of_members known i before) (drop-found members i member here) ∙ ap next is

  -- a member whose type does not
  pub members-stop : slice_get known member.ty ≡ None
      → alignment_of_members known i before (drop i members) ≡ Err (InvalidStructMemberType i member.ty)
  members-stop is = ap (alignment_of_members known i before) (drop-found members i member here) ∙ ap next is

-- no member is left
pub members-end : (known : List TypeLayout) (members : List StructMember) (i before : ℕ) → length members ≤ i
    → alignment_of_members known i before (drop i members) ≡ Ok before
members-end known members i before past = rw (drop-past members i past) refl

-- ---- a layout is never missing for want of memory

scaled-error : (factor : ℕ) (found : Option ℕ) → scaled factor found ≡ Err Memory → ⊥
scaled-error factor (Some alignment) lacks = cc
scaled-error factor None lacks = cc

base-error : (base : ℕ) (found : Option TypeLayout) → alignment_of_base base found ≡ Err Memory → ⊥
base-error base (Some layout) lacks = cc
base-error base None lacks = cc

abbrev and-on : List TypeLayout → (index before : ℕ) → StructMember → List StructMember → Option TypeLayout → Result ℕ LayoutErrorInner
and-on known index before member rest found =
    elim found as (λ _. Result ℕ LayoutErrorInner) [
      | None ↦ Err (InvalidStructMemberType index member.ty)
      | Some layout ↦ alignment_of_members known (index + 1) (max before layout.alignment) rest
    ]

member-error : (known : List TypeLayout) (index before : ℕ) (member : StructMember) (rest : List StructMember) (found : Option TypeLayout)
    → ((greatest : ℕ) → alignment_of_members known (index + 1) greatest rest ≡ Err Memory → ⊥)
    → and-on known index before member rest found ≡ Err Memory → ⊥
member-error known index before member rest None fine lacks =
    let e : Err (InvalidStructMemberType index member.ty) ≡ Err Memory = lacks in cc
member-error known index before member rest (Some layout) fine lacks = fine (max before layout.alignment) lacks

members-error : (known : List TypeLayout) (index before : ℕ) (members : List StructMember)
    → alignment_of_members known index before members ≡ Err Memory → ⊥
members-error known index before [] lacks = let e : Ok before ≡ Err Memory = lacks in cc
members-error known index before (member ∷ rest) lacks =
    member-error known index before member rest (slice_get known member.ty)
    (λ greatest h. members-error known (index + 1) greatest rest h) lacks

alignment-error : (known : List TypeLayout) (inner : TypeInner) → alignment_of known inner ≡ Err Memory → ⊥
alignment-error known (Scalar scalar) lacks = scaled-error 0 (alignment_of_width scalar.width) lacks
alignment-error known (Atomic scalar) lacks = scaled-error 0 (alignment_of_width scalar.width) lacks
alignment-error known (Vector size scalar) lacks = scaled-error (alignment_of_size size) (alignment_of_width scalar.width) lacks
alignment-error known (Matrix columns rows scalar) lacks = scaled-error (alignment_of_size rows) (alignment_of_width scalar.width) lacks
alignment-error known (CooperativeMatrix columns rows scalar role) lacks =
    scaled-error (alignment_of_side rows) (alignment_of_width scalar.width) lacks
alignment-error known (Array base size stride) lacks = base-error base (slice_get known base) lacks
alignment-error known (Struct members span) lacks = members-error known 0 0 members.items lacks
alignment-error known _ lacks = let e : Ok 0 ≡ Err Memory = lacks in cc

with_alignment-error : (size : ℕ) (alignment : Result ℕ LayoutErrorInner) → (alignment ≡ Err Memory → ⊥)
    → with_alignment size alignment ≡ Err Memory → ⊥
with_alignment-error size (Ok alignment) fine lacks = cc
with_alignment-error size (Err error) fine lacks = fine (let e : Err error ≡ Err Memory = lacks in cc)

sized-error : (known : List TypeLayout) (inner : TypeInner) (size : Option ℕ) → sized known inner size ≡ Err Memory → ⊥
sized-error known inner (Some size) lacks =
    with_alignment-error size (alignment_of known inner) (λ h. alignment-error known inner h) lacks
sized-error known inner None lacks = cc

-- why laying stopped, for an error of a layout
pub stopped-by : (ctx : GlobalCtx) (old new known : List TypeLayout) (types : List NamedType) (inner : TypeInner) (error : LayoutErrorInner)
    → layout_of ctx known inner ≡ Err error → laying ctx old types ≡ (new, Some error) → IsStoppedBy ctx old types error new
stopped-by ctx old new known types inner Memory found stopped = absurd (sized-error known inner (size_of ctx inner) found)
stopped-by ctx old new known types inner (InvalidArrayElementType base) found stopped = stopped
stopped-by ctx old new known types inner (InvalidStructMemberType index member) found stopped = stopped
stopped-by ctx old new known types inner NonPowerOfTwoWidth found stopped = stopped
stopped-by ctx old new known types inner TooLarge found stopped = stopped
