-- Types without faults have parts that lie inside and apart.
use Rattle.std.proofs.Common.{◌≡◌, ◌≢◌, ℕ, zero, suc, ◌+◌, ◌-◌, ◌*◌, ◌^◌, ◌<◌, ◌≤◌, ◌==◌, ◌&&◌, List, [], ◌∷◌, Option, Some, None, Bool, true, false, not, if◌then◌else◌, nat_lt, nat_le, length, refl, ap, sym, subst, ◌∙◌, arith}
use Rattle.std.specs.Int.NonZero.{non_zero_u32_get}
use Rattle.std.specs.List.{slice_get}
use Rattle.std.specs.Option.{option_or}
use Rattle.std.proofs.Math.Nat.{mul-le-mul_right}
use Rattle.std.proofs.lemmas.Bool.{eqb-true, ltb-true, ltb-false, ne_eqb}
use Rattle.std.proofs.lemmas.Option.{slice_get_within}
use Rattle.naga_arena.specs.declared.span.Span.{Span}
use Rattle.naga_kinds.specs.Scalar.{components_of}
use Rattle.naga_kinds.specs.declared.scalar.VectorSize.{VectorSize}
use Rattle.naga_kinds.specs.declared.scalar.VectorSize.TheVariants.{Bi, Tri, Quad}
use Rattle.naga_ir.specs.declared.global_ctx.GlobalCtx.{GlobalCtx}
use Rattle.naga_ir.specs.declared.types.ArraySize.{ArraySize}
use Rattle.naga_ir.specs.declared.types.ArraySize.TheVariants as array_size
use Rattle.naga_ir.specs.declared.types.StructMember.{StructMember}
use Rattle.naga_ir.specs.declared.types.«Type».{«Type» as NamedType}
use Rattle.naga_ir.specs.declared.types.TypeInner.{TypeInner}
use Rattle.naga_ir.specs.declared.types.TypeInner.TheVariants.{Scalar, Vector, Matrix, CooperativeMatrix, Atomic, Pointer, ValuePointer, Array, Struct}
use Rattle.naga_layouter.specs.Alignment.{alignment_of_size}
use Rattle.naga_layouter.specs.Faults.{array_cause, fault_by, is_misplaced, is_multiple, layout_at, member_cause, members_fault, place_cause, span_cause, stride_cause, type_fault}
use Rattle.naga_layouter.specs.Layout.{side_of, size_of}
use Rattle.naga_layouter.specs.Leaves.{bytes_to_end, bytes_with, count_with, member_placed, part_with, placed, when}
use Rattle.naga_layouter.specs.Types.{inner_at, inner_of_member, is_open, is_open_array, last_of}
use Rattle.naga_layouter.specs.declared.layouter.TypeLayout.{TypeLayout}
use Rattle.naga_layouter.proofs.PathLemmas.{AreLaidOut}
use Rattle.naga_layouter.specs.declared.layout_fault.LayoutCause.{LayoutCause}
use Rattle.naga_layouter.specs.declared.layout_fault.LayoutCause.TheVariants.{InvalidArrayBaseType, ArrayStride, InvalidArrayStride, UnsizedMember, MemberOffset, MemberOverlap, MemberOutOfBounds}
use Rattle.naga_layouter.specs.declared.layout_fault.LayoutFault.{LayoutFault}

-- ---- tests that found nothing

-- a test that would have found something did not hold
if-none : {A : Type 0} (b : Bool) (x : A) (rest : Option A) → (if b then Some x else rest) ≡ None → (b ≡ false) × (rest ≡ None)
if-none true x rest is = absurd (let empty : Some x ≡ None = is in cc)
if-none false x rest is = (refl, is)

pub or-none : (a b : Option LayoutFault) → option_or a b ≡ None → (a ≡ None) × (b ≡ None)
or-none None b is = (refl, is)
or-none (Some fault) b is = absurd (let empty : Some fault ≡ None = is in cc)

fault_by-none : (ty : ℕ) (member : Option ℕ) (cause : Option LayoutCause) → fault_by ty member cause ≡ None → cause ≡ None
fault_by-none ty member None is = refl
fault_by-none ty member (Some cause) is =
    absurd (let empty : Some (record { ty = ty; member = member; cause = cause }) ≡ None = is in cc)

pub none-some : {A B : Type 0} (x : A) → None ≡ Some x → B
none-some x is = absurd (cc)

-- ---- members

-- a member was found to be placed right
record IsPlaced (types : List (NamedType × Span)) (known : List TypeLayout) (start span : ℕ) (is_last : Bool) (member : StructMember) : Type 0 where
  pub kind : is_misplaced types is_last member ≡ false
  pub after : start ≤ member.offset
  pub within : member.offset + (layout_at known member.ty).size ≤ span

is-placed : (types : List (NamedType × Span)) (known : List TypeLayout) (start span : ℕ) (is_last : Bool) (member : StructMember)
    → member_cause types known start span is_last member ≡ None → IsPlaced types known start span is_last member
is-placed types known start span is_last member is =
    let layout = layout_at known member.ty in
    let kind = if-none (is_misplaced types is_last member) UnsizedMember (place_cause layout start span member.offset) is in
    let below : Option LayoutCause =
    if nat_lt span (member.offset + layout.size) then Some (MemberOutOfBounds member.offset layout.size span) else None in
    let before : Option LayoutCause = if nat_lt member.offset start then Some (MemberOverlap member.offset start) else below in
    let aligned = if-none (not (is_multiple member.offset layout.alignment)) (MemberOffset member.offset layout.alignment) before kind.1 in
    let after = if-none (nat_lt member.offset start) (MemberOverlap member.offset start) below aligned.1 in
    let within = if-none (nat_lt span (member.offset + layout.size)) (MemberOutOfBounds member.offset layout.size span) None after.1 in
    record {
      kind = kind.0;
      after = ltb-false member.offset start after.0;
      within = ltb-false span (member.offset + layout.size) within.0;
    }

module _ (types : List (NamedType × Span)) (known : List TypeLayout) (ty span count : ℕ) where
  abbrev Sound : (index start : ℕ) → List StructMember → Type 0
  Sound index start members = members_fault types known ty span count index start members ≡ None

  abbrev ending : StructMember → ℕ
  ending member = member.offset + (layout_at known member.ty).size

  first-placed : (index start : ℕ) (member : StructMember) (rest : List StructMember) → Sound index start (member ∷ rest)
      → IsPlaced types known start span (index + 1 == count) member × Sound (index + 1) (ending member) rest
  first-placed index start member rest sound =
      let cause = member_cause types known start span (index + 1 == count) member in
      let both = or-none (fault_by ty (Some index) cause) (members_fault types known ty span count (index + 1) (ending member) rest) sound in
      (is-placed types known start span (index + 1 == count) member (fault_by-none ty (Some index) cause both.0), both.1)

  members-after : (index start : ℕ) (members : List StructMember) (i : ℕ) (found : StructMember)
      → Sound index start members → slice_get members i ≡ Some found → start ≤ found.offset
  members-after index start [] zero found sound is = none-some found is
  members-after index start [] (suc i) found sound is = none-some found is
  members-after index start (member ∷ rest) zero found sound is =
      let e : Some member ≡ Some found = is in
      let same : member ≡ found = cc in
      let at : member.offset ≡ found.offset = ap (λ (m : StructMember). m.offset) same in
      let after = (first-placed index start member rest sound).0.after in
      omega arith
  members-after index start (member ∷ rest) (suc i) found sound is =
      let both = first-placed index start member rest sound in
      let later = members-after (index + 1) (ending member) rest i found both.1 is in
      let after = both.0.after in
      omega arith

  -- each member is placed right
  members-placed : (index start : ℕ) (members : List StructMember) (i : ℕ) (found : StructMember)
      → Sound index start members → slice_get members i ≡ Some found
      → (begin : ℕ) × IsPlaced types known begin span (index + i + 1 == count) found
  members-placed index start [] zero found sound is = none-some found is
  members-placed index start [] (suc i) found sound is = none-some found is
  members-placed index start (member ∷ rest) zero found sound is =
      let e : Some member ≡ Some found = is in
      let same : member ≡ found = cc in
      let here = (first-placed index start member rest sound).0 in
      let at : index + 1 ≡ index + 0 + 1 = omega arith in
      let moved = subst (λ (k : ℕ). IsPlaced types known start span (k == count) member) at here in
      (start, subst (λ (m : StructMember). IsPlaced types known start span (index + 0 + 1 == count) m) same moved)
  members-placed index start (member ∷ rest) (suc i) found sound is =
      let both = first-placed index start member rest sound in
      let later = members-placed (index + 1) (ending member) rest i found both.1 is in
      let at : index + 1 + i + 1 ≡ index + suc i + 1 = omega arith in
      (later.0, subst (λ (k : ℕ). IsPlaced types known later.0 span (k == count) found) at later.1)

  -- a member begins where one before it has ended
  members-apart : (index start : ℕ) (members : List StructMember) (i j : ℕ) (found later : StructMember)
      → Sound index start members → slice_get members i ≡ Some found → slice_get members j ≡ Some later → i < j
      → ending found ≤ later.offset
  members-apart index start [] zero j found later sound is also less = none-some found is
  members-apart index start [] (suc i) j found later sound is also less = none-some found is
  members-apart index start (member ∷ rest) i zero found later sound is also less = absurd (omega arith)
  members-apart index start (member ∷ rest) zero (suc j) found later sound is also less =
      let e : Some member ≡ Some found = is in
      let same : member ≡ found = cc in
      let both = first-placed index start member rest sound in
      subst (λ (m : StructMember). ending m ≤ later.offset) same (members-after (index + 1) (ending member) rest j later both.1 also)
  members-apart index start (member ∷ rest) (suc i) (suc j) found later sound is also less =
      let both = first-placed index start member rest sound in
      members-apart (index + 1) (ending member) rest i j found later both.1 is also (omega arith)

-- a member that is not the last has a fixed size
and-true : (b : Bool) → (b && true) ≡ false → b ≡ false
and-true true is = is
and-true false is = refl

kind-before : (types : List (NamedType × Span)) (is_last : Bool) (member : StructMember) → is_last ≡ false
    → is_misplaced types is_last member ≡ false → is_open types (inner_at types member.ty) ≡ false
kind-before types is_last member before kind =
    let found = inner_at types member.ty in
    let here : (is_open types found && not (false && is_open_array found)) ≡ false =
    subst (λ (last : Bool). (is_open types found && not (last && is_open_array found)) ≡ false) before kind in
    and-true (is_open types found) here

-- an open member is an array, and the last one
kind-open : (a last b : Bool) → (a && not (last && b)) ≡ false → a ≡ true → (last ≡ true) × (b ≡ true)
kind-open true true true is loose = (refl, refl)
kind-open true true false is loose = absurd (let e : true ≡ false = is in cc)
kind-open true false b is loose = absurd (let e : true ≡ false = is in cc)
kind-open false last b is loose = absurd (let e : false ≡ true = loose in cc)

-- ---- tests

by-test : {A : Type 0} (b : Bool) → (b ≡ true → A) → (b ≡ false → A) → A
by-test true holds fails = holds refl
by-test false holds fails = fails refl

true-and-false : (b : Bool) → b ≡ true → b ≡ false → ⊥
true-and-false true is differs = let e : true ≡ false = differs in cc
true-and-false false is differs = let e : false ≡ true = is in cc

below-last : (i m : ℕ) → i < m → i ≢ m - 1 → i < m - 1
below-last i m within differ = omega arith

-- what has a fixed size is no open array
not-open : (types : List (NamedType × Span)) (found : Option TypeInner) → is_open types found ≡ false → is_open_array found ≡ false
not-open types None fixed = refl
not-open types (Some (Struct members span)) fixed = refl
not-open types (Some (Array base size stride)) fixed = fixed
not-open types (Some _) fixed = refl

-- an open array in the last place ends at or after its own beginning
open-least : (n span offset : ℕ) (found : Option TypeInner) → is_open_array found ≡ true → offset ≤ bytes_to_end n span (placed offset found)
open-least n span offset None loose = absurd (let e : false ≡ true = loose in cc)
open-least n span offset (Some (Array base (array_size.Constant number) stride)) loose = absurd (let e : false ≡ true = loose in cc)
open-least n span offset (Some (Array base (array_size.Pending named) stride)) loose = omega arith
open-least n span offset (Some (Array base array_size.Dynamic stride)) loose = omega arith
open-least n span offset (Some _) loose = absurd (let e : false ≡ true = loose in cc)

-- ---- parts that are found

when-true : (b : Bool) (found : Option (ℕ × TypeInner)) (step : ℕ × TypeInner) → when b found ≡ Some step
    → (b ≡ true) × (found ≡ Some step)
when-true true found step is = (refl, is)
when-true false found step is = none-some step is

placed-some : (offset : ℕ) (found : Option TypeInner) (step : ℕ × TypeInner) → placed offset found ≡ Some step
    → (found ≡ Some step.1) × (step.0 ≡ offset)
placed-some offset None step is = none-some step is
placed-some offset (Some inner) step is =
    let e : Some (offset, inner) ≡ Some step = is in
    let same : (offset, inner) ≡ step = cc in
    (ap (λ (s : ℕ × TypeInner). Some s.1) same, sym (ap (λ (s : ℕ × TypeInner). s.0) same))

record IsMember (types : List (NamedType × Span)) (found : Option StructMember) (step : ℕ × TypeInner) : Type 0 where
  pub member : StructMember
  pub is : found ≡ Some member
  pub type : inner_at types member.ty ≡ Some step.1
  pub offset : step.0 ≡ member.offset

member-some : (types : List (NamedType × Span)) (found : Option StructMember) (step : ℕ × TypeInner)
    → member_placed types found ≡ Some step → IsMember types found step
member-some types None step is = none-some step is
member-some types (Some member) step is =
    let both = placed-some member.offset (inner_at types member.ty) step is in
    record { member = member; is = refl; type = both.0; offset = both.1 }

-- ---- elements

next-element : (i j w : ℕ) → i < j → i * w + w ≤ j * w
next-element i j w less = let more : (i + 1) * w ≤ j * w = mul-le-mul_right w (omega arith) in omega arith

column-fits : (rows : VectorSize) (w : ℕ) → components_of rows * w ≤ 2 ^ alignment_of_size rows * w
column-fits Bi w = omega arith
column-fits Tri w = omega arith
column-fits Quad w = omega arith

-- ---- bytes of types with a fixed size

same-some : (a b : ℕ) → Some a ≡ Some b → a ≡ b
same-some a b is = cc

bounded-some : (b : Bool) (n s : ℕ) → (if b then Some n else None) ≡ Some s → n ≡ s
bounded-some true n s is = same-some n s is
bounded-some false n s is = none-some s is

-- the end of a structure whose last member has a fixed size
fixed-end : (types : List (NamedType × Span)) (n span offset : ℕ) (found : Option TypeInner) → is_open_array found ≡ false
    → bytes_to_end n span (placed offset found) ≡ span
fixed-end types n span offset None fixed = refl
fixed-end types n span offset (Some (Array base (array_size.Constant number) stride)) fixed = refl
fixed-end types n span offset (Some (Array base (array_size.Pending named) stride)) fixed = absurd (let e : true ≡ false = fixed in cc)
fixed-end types n span offset (Some (Array base array_size.Dynamic stride)) fixed = absurd (let e : true ≡ false = fixed in cc)
fixed-end types n span offset (Some _) fixed = refl

fixed-span : (types : List (NamedType × Span)) (n span : ℕ) (found : Option StructMember)
    → is_open_array (inner_of_member types found) ≡ false → bytes_to_end n span (member_placed types found) ≡ span
fixed-span types n span None fixed = refl
fixed-span types n span (Some member) fixed = fixed-end types n span member.offset (inner_at types member.ty) fixed

-- the end of a structure whose last member has no fixed size
open-end : (types : List (NamedType × Span)) (n span offset : ℕ) (inner : TypeInner) → is_open_array (Some inner) ≡ true
    → bytes_to_end n span (Some (offset, inner)) ≡ offset + bytes_with types n inner
open-end types n span offset (Array base (array_size.Constant number) stride) loose = absurd (let e : false ≡ true = loose in cc)
open-end types n span offset (Array base (array_size.Pending named) stride) loose = refl
open-end types n span offset (Array base array_size.Dynamic stride) loose = refl
open-end types n span offset _ loose = absurd (let e : false ≡ true = loose in cc)

fixed-bytes : (types : List (NamedType × Span)) (ctx : GlobalCtx) (n s : ℕ) (inner : TypeInner)
    → is_open types (Some inner) ≡ false → size_of ctx inner ≡ Some s → bytes_with types n inner ≡ s
fixed-bytes types ctx n s (Scalar scalar) fixed is = same-some scalar.width s is
fixed-bytes types ctx n s (Atomic scalar) fixed is = same-some scalar.width s is
fixed-bytes types ctx n s (Vector size scalar) fixed is = same-some (components_of size * scalar.width) s is
fixed-bytes types ctx n s (Matrix columns rows scalar) fixed is =
    same-some (components_of columns * (2 ^ alignment_of_size rows * scalar.width)) s is
fixed-bytes types ctx n s (CooperativeMatrix columns rows scalar role) fixed is =
    same-some (side_of columns * (side_of rows * scalar.width)) s is
fixed-bytes types ctx n s (Pointer base space) fixed is = same-some 4 s is
fixed-bytes types ctx n s (ValuePointer size scalar space) fixed is = same-some 4 s is
fixed-bytes types ctx n s (Array base (array_size.Constant number) stride) fixed is =
    bounded-some (nat_le (non_zero_u32_get number * stride) 1073741824) (non_zero_u32_get number * stride) s is
fixed-bytes types ctx n s (Array base (array_size.Pending named) stride) fixed is = absurd (let e : true ≡ false = fixed in cc)
fixed-bytes types ctx n s (Array base array_size.Dynamic stride) fixed is = absurd (let e : true ≡ false = fixed in cc)
fixed-bytes types ctx n s (Struct members span) fixed is =
    fixed-span types n span (last_of members.items) fixed ∙ same-some span s is
fixed-bytes types ctx n s _ fixed is = same-some 0 s is

-- ---- types

-- the types have these layouts, and none has a fault
pub record AreSound (types : List (NamedType × Span)) (ctx : GlobalCtx) (known : List TypeLayout) : Type 0 where
  pub sizes : (handle : ℕ) (inner : TypeInner) → inner_at types handle ≡ Some inner → size_of ctx inner ≡ Some (layout_at known handle).size
  pub faultless : (handle : ℕ) (inner : TypeInner) → inner_at types handle ≡ Some inner → type_fault types known handle inner ≡ None

module _ (types : List (NamedType × Span)) (ctx : GlobalCtx) (known : List TypeLayout) (n : ℕ) (sound : AreSound types ctx known) where
  abbrev bytes : TypeInner → ℕ
  bytes inner = bytes_with types n inner

  abbrev Part : TypeInner → ℕ → ℕ × TypeInner → Type 0
  Part inner i step = part_with types n inner i ≡ Some step

  -- the type is one of the context, or like one, and has no fault
  abbrev pub Faultless : TypeInner → Type 0
  Faultless inner = (handle : ℕ) × (type_fault types known handle inner ≡ None)

  -- the bytes of a type that was looked up and has a fixed size
  found-bytes : (handle : ℕ) (inner : TypeInner) → inner_at types handle ≡ Some inner → is_open types (inner_at types handle) ≡ false
      → bytes inner ≡ (layout_at known handle).size
  found-bytes handle inner is fixed =
      fixed-bytes types ctx n (layout_at known handle).size inner
      (subst (λ (found : Option TypeInner). is_open types found ≡ false) is fixed) (sound.sizes handle inner is)

  part-faultless : (inner : TypeInner) (i : ℕ) (step : ℕ × TypeInner) → Faultless inner → Part inner i step → Faultless step.1
  part-faultless (Vector size scalar) i step fine is =
      let e : Some (i * scalar.width, Scalar scalar) ≡ Some step = (when-true _ _ step is).1 in
      let same : (i * scalar.width, Scalar scalar) ≡ step = cc in
      subst (λ (s : ℕ × TypeInner). Faultless s.1) same (0, refl)
  part-faultless (Matrix columns rows scalar) i step fine is =
      let e : Some (i * (2 ^ alignment_of_size rows * scalar.width), Vector rows scalar) ≡ Some step = (when-true _ _ step is).1 in
      let same : (i * (2 ^ alignment_of_size rows * scalar.width), Vector rows scalar) ≡ step = cc in
      subst (λ (s : ℕ × TypeInner). Faultless s.1) same (0, refl)
  part-faultless (Array base size stride) i step fine is =
      (base, sound.faultless base step.1 (placed-some (i * stride) (inner_at types base) step (when-true _ _ step is).1).0)
  part-faultless (Struct members span) i step fine is =
      let member = member-some types (slice_get members.items i) step is in
      (member.member.ty, sound.faultless member.member.ty step.1 member.type)
  part-faultless _ i step fine is = none-some step is

  -- ---- arrays

  -- elements have a fixed size, and are as far apart as they are long
  element-fits : (handle base stride : ℕ) (size : ArraySize) (inner : TypeInner) → type_fault types known handle (Array base size stride) ≡ None
      → inner_at types base ≡ Some inner → bytes inner ≤ stride
  element-fits handle base stride size inner fine is =
      let layout = layout_at known base in
      let cause = fault_by-none handle None (array_cause types known base stride) fine in
      let fixed = if-none (is_open types (inner_at types base)) InvalidArrayBaseType (stride_cause layout stride) cause in
      let short : Option LayoutCause = if nat_lt stride layout.size then Some (InvalidArrayStride stride layout.size) else None in
      let aligned = if-none (not (is_multiple stride layout.alignment)) (ArrayStride stride layout.alignment) short fixed.1 in
      let long = if-none (nat_lt stride layout.size) (InvalidArrayStride stride layout.size) None aligned.1 in
      let fits : layout.size ≤ stride = ltb-false stride layout.size long.0 in
      let same : bytes inner ≡ layout.size = found-bytes base inner is fixed.0 in
      omega arith

  -- ---- structures

  abbrev AreMembers : (handle span : ℕ) → List StructMember → Type 0
  AreMembers handle span members = members_fault types known handle span (length members) 0 0 members ≡ None

  no-member-fault : (handle span : ℕ) (members : List StructMember)
      → option_or (members_fault types known handle span (length members) 0 0 members)
      (fault_by handle None (span_cause (layout_at known handle).alignment span)) ≡ None
      → AreMembers handle span members
  no-member-fault handle span members fine =
      (or-none (members_fault types known handle span (length members) 0 0 members)
      (fault_by handle None (span_cause (layout_at known handle).alignment span)) fine).0

  -- a member before another one has a fixed size
  bytes-before : (handle span : ℕ) (members : List StructMember) (i j : ℕ) (member later : StructMember) (inner : TypeInner)
      → AreMembers handle span members → slice_get members i ≡ Some member → slice_get members j ≡ Some later → i < j
      → inner_at types member.ty ≡ Some inner → bytes inner ≡ (layout_at known member.ty).size
  bytes-before handle span members i j member later inner fine is also less type =
      let place = (members-placed types known handle span (length members) 0 0 members i member fine is).1 in
      let within : j < length members = slice_get_within members j later also in
      let differ : (0 + i + 1 == length members) ≡ false = ne_eqb (0 + i + 1) (length members) (λ e. omega (arith, e)) in
      found-bytes member.ty inner type (kind-before types (0 + i + 1 == length members) member differ place.kind)

  -- members before another one end where it begins, or before
  bytes-apart : (handle span : ℕ) (members : List StructMember) (i j : ℕ) (member later : StructMember) (inner : TypeInner)
      → AreMembers handle span members → slice_get members i ≡ Some member → slice_get members j ≡ Some later → i < j
      → inner_at types member.ty ≡ Some inner → member.offset + bytes inner ≤ later.offset
  bytes-apart handle span members i j member later inner fine is also less type =
      let same = bytes-before handle span members i j member later inner fine is also less type in
      let apart = members-apart types known handle span (length members) 0 0 members i j member later fine is also less in
      omega arith

  -- an open array in the last place ends where the structure does
  inside-open : (handle span : ℕ) (members : List StructMember) (i : ℕ) (member : StructMember) (inner : TypeInner)
      → slice_get members i ≡ Some member → inner_at types member.ty ≡ Some inner → i + 1 ≡ length members
      → is_open_array (inner_at types member.ty) ≡ true
      → member.offset + bytes inner ≤ bytes_to_end n span (member_placed types (last_of members))
  inside-open handle span members i member inner is type last loose =
      let at : length members - 1 ≡ i = omega arith in
      let here : last_of members ≡ Some member = ap (slice_get members) at ∙ is in
      let shown : bytes_to_end n span (member_placed types (last_of members)) ≡ bytes_to_end n span (Some (member.offset, inner)) =
      ap (λ (found : Option StructMember). bytes_to_end n span (member_placed types found)) here
      ∙ ap (λ (found : Option TypeInner). bytes_to_end n span (placed member.offset found)) type in
      let is-open : is_open_array (Some inner) ≡ true = subst (λ (found : Option TypeInner). is_open_array found ≡ true) type loose in
      let long = open-end types n span member.offset inner is-open in
      omega arith

  -- a member with a fixed size ends before an open array in the last place
  inside-before : (handle span : ℕ) (members : List StructMember) (i : ℕ) (member : StructMember) (inner : TypeInner) (last : Option StructMember)
      → AreMembers handle span members → slice_get members i ≡ Some member → inner_at types member.ty ≡ Some inner
      → is_open_array (inner_at types member.ty) ≡ false → last_of members ≡ last → is_open_array (inner_of_member types last) ≡ true
      → member.offset + bytes inner ≤ bytes_to_end n span (member_placed types last)
  inside-before handle span members i member inner None fine is type fixed there loose = absurd (let e : false ≡ true = loose in cc)
  inside-before handle span members i member inner (Some last) fine is type fixed there loose =
      let within : i < length members = slice_get_within members i member is in
      let differ : i ≢ length members - 1 = λ (e : i ≡ length members - 1).
      let same : Some member ≡ Some last = sym is ∙ ap (slice_get members) e ∙ there in
      let alike : member ≡ last = cc in
      let closed : is_open_array (inner_at types last.ty) ≡ false =
      subst (λ (m : StructMember). is_open_array (inner_at types m.ty) ≡ false) alike fixed in
      true-and-false (is_open_array (inner_at types last.ty)) loose closed in
      let less : i < length members - 1 = below-last i (length members) within differ in
      let apart = bytes-apart handle span members i (length members - 1) member last inner fine is there less type in
      let far = open-least n span last.offset (inner_at types last.ty) loose in
      omega arith

  -- each member ends at or before the end of the structure
  member-inside : (handle span : ℕ) (members : List StructMember) (i : ℕ) (member : StructMember) (inner : TypeInner)
      → AreMembers handle span members → slice_get members i ≡ Some member → inner_at types member.ty ≡ Some inner
      → member.offset + bytes inner ≤ bytes_to_end n span (member_placed types (last_of members))
  member-inside handle span members i member inner fine is type =
      let found = inner_at types member.ty in
      let placed-here = (members-placed types known handle span (length members) 0 0 members i member fine is).1 in
      by-test (is_open types found)
      (λ (loose : is_open types found ≡ true).
      let kind = kind-open (is_open types found) (0 + i + 1 == length members) (is_open_array found) placed-here.kind loose in
      let last : i + 1 ≡ length members = omega (arith, eqb-true (0 + i + 1) (length members) kind.0) in
      inside-open handle span members i member inner is type last kind.1)
      (λ (fixed : is_open types found ≡ false).
      by-test (is_open_array (inner_of_member types (last_of members)))
      (λ (loose : is_open_array (inner_of_member types (last_of members)) ≡ true).
      inside-before handle span members i member inner (last_of members) fine is type (not-open types found fixed) refl loose)
      (λ (closed : is_open_array (inner_of_member types (last_of members)) ≡ false).
      let whole = fixed-span types n span (last_of members) closed in
      let same = found-bytes member.ty inner type fixed in
      let within = placed-here.within in
      omega arith))

  -- ---- all types

  part-inside : (inner : TypeInner) → Faultless inner → (i : ℕ) (step : ℕ × TypeInner) → Part inner i step
      → step.0 + bytes step.1 ≤ bytes inner
  part-inside (Vector size scalar) fine i step is =
      let both = when-true _ _ step is in
      let e : Some (i * scalar.width, Scalar scalar) ≡ Some step = both.1 in
      let same : (i * scalar.width, Scalar scalar) ≡ step = cc in
      subst (λ (s : ℕ × TypeInner). s.0 + bytes s.1 ≤ components_of size * scalar.width) same
      (next-element i (components_of size) scalar.width (ltb-true _ _ both.0))
  part-inside (Matrix columns rows scalar) fine i step is =
      let both = when-true _ _ step is in
      let w = 2 ^ alignment_of_size rows * scalar.width in
      let e : Some (i * w, Vector rows scalar) ≡ Some step = both.1 in
      let same : (i * w, Vector rows scalar) ≡ step = cc in
      let column : components_of rows * scalar.width ≤ w = column-fits rows scalar.width in
      let whole : i * w + w ≤ components_of columns * w = next-element i (components_of columns) w (ltb-true _ _ both.0) in
      let here : i * w + components_of rows * scalar.width ≤ components_of columns * w = omega arith in
      subst (λ (s : ℕ × TypeInner). s.0 + bytes s.1 ≤ components_of columns * w) same here
  part-inside (Array base size stride) fine i step is =
      let both = when-true _ _ step is in
      let at = placed-some (i * stride) (inner_at types base) step both.1 in
      let short : bytes step.1 ≤ stride = element-fits fine.0 base stride size step.1 fine.1 at.0 in
      let whole : i * stride + stride ≤ count_with n size * stride = next-element i (count_with n size) stride (ltb-true _ _ both.0) in
      let start : step.0 ≡ i * stride = at.1 in
      omega arith
  part-inside (Struct members span) fine i step is =
      let member = member-some types (slice_get members.items i) step is in
      let fit = no-member-fault fine.0 span members.items fine.1 in
      let within = member-inside fine.0 span members.items i member.member step.1 fit member.is member.type in
      let start : step.0 ≡ member.member.offset = member.offset in
      omega arith
  part-inside _ fine i step is = none-some step is

  part-apart : (inner : TypeInner) → Faultless inner → (i j : ℕ) (step other : ℕ × TypeInner) → Part inner i step
      → Part inner j other → i < j → step.0 + bytes step.1 ≤ other.0
  part-apart (Vector size scalar) fine i j step other is also less =
      let e : Some (i * scalar.width, Scalar scalar) ≡ Some step = (when-true _ _ step is).1 in
      let f : Some (j * scalar.width, Scalar scalar) ≡ Some other = (when-true _ _ other also).1 in
      let same : (i * scalar.width, Scalar scalar) ≡ step = cc in
      let same-other : (j * scalar.width, Scalar scalar) ≡ other = cc in
      subst (λ (s : ℕ × TypeInner). s.0 + bytes s.1 ≤ other.0) same
      (subst (λ (o : ℕ × TypeInner). i * scalar.width + scalar.width ≤ o.0) same-other (next-element i j scalar.width less))
  part-apart (Matrix columns rows scalar) fine i j step other is also less =
      let w = 2 ^ alignment_of_size rows * scalar.width in
      let e : Some (i * w, Vector rows scalar) ≡ Some step = (when-true _ _ step is).1 in
      let f : Some (j * w, Vector rows scalar) ≡ Some other = (when-true _ _ other also).1 in
      let same : (i * w, Vector rows scalar) ≡ step = cc in
      let same-other : (j * w, Vector rows scalar) ≡ other = cc in
      let column : components_of rows * scalar.width ≤ w = column-fits rows scalar.width in
      let next : i * w + w ≤ j * w = next-element i j w less in
      let here : i * w + components_of rows * scalar.width ≤ j * w = omega arith in
      subst (λ (s : ℕ × TypeInner). s.0 + bytes s.1 ≤ other.0) same
      (subst (λ (o : ℕ × TypeInner). i * w + components_of rows * scalar.width ≤ o.0) same-other here)
  part-apart (Array base size stride) fine i j step other is also less =
      let at = placed-some (i * stride) (inner_at types base) step (when-true _ _ step is).1 in
      let at-other = placed-some (j * stride) (inner_at types base) other (when-true _ _ other also).1 in
      let short : bytes step.1 ≤ stride = element-fits fine.0 base stride size step.1 fine.1 at.0 in
      let next : i * stride + stride ≤ j * stride = next-element i j stride less in
      let start : step.0 ≡ i * stride = at.1 in
      let start-other : other.0 ≡ j * stride = at-other.1 in
      omega arith
  part-apart (Struct members span) fine i j step other is also less =
      let member = member-some types (slice_get members.items i) step is in
      let later = member-some types (slice_get members.items j) other also in
      let fit = no-member-fault fine.0 span members.items fine.1 in
      let before = bytes-apart fine.0 span members.items i j member.member later.member step.1 fit member.is later.is less member.type in
      let start : step.0 ≡ member.member.offset = member.offset in
      let start-other : other.0 ≡ later.member.offset = later.offset in
      omega arith
  part-apart _ fine i j step other is also less = none-some step is

  pub laid-out : AreLaidOut (bytes_with types n) (part_with types n) Faultless
  laid-out = record {
    parts = λ inner i step fine is. part-faultless inner i step fine is;
    inside = λ inner fine i step is. part-inside inner fine i step is;
    apart = λ inner fine i j step other is also less. part-apart inner fine i j step other is also less;
  }
