-- The first faults of members, types and variables, one more at a time.
use Rattle.std.proofs.Common.{◌≡◌, ℕ, ◌+◌, ◌≤◌, ◌==◌, List, [], ◌∷◌, ◌++◌, Option, Some, None, drop, length, refl, ap, sym, ◌∙◌, arith}
use Rattle.std.specs.List.{slice_get}
use Rattle.std.specs.Option.{option_or}
use Rattle.std.proofs.lemmas.List.{length-map}
use Rattle.naga_arena.specs.Arena.{values}
use Rattle.naga_arena.specs.declared.span.Span.{Span}
use Rattle.naga_ir.specs.declared.module.GlobalVariable.{GlobalVariable}
use Rattle.naga_ir.specs.declared.types.StructMember.{StructMember}
use Rattle.naga_ir.specs.declared.types.«Type».{«Type» as NamedType}
use Rattle.naga_ir.specs.declared.types.TypeInner.{TypeInner}
use Rattle.naga_layouter.specs.Faults.{fault_by, layout_at, member_cause, members_fault, type_fault, types_fault}
use Rattle.naga_layouter.specs.Spaces.{all_space_faults, fault_in, faults_at, least_after, shared_fault, shared_members_fault, space_faults, uniform_fault, uniform_members_fault, uniform_offset_cause, variables_fault}
use Rattle.naga_layouter.specs.Types.{inner_at}
use Rattle.naga_layouter.specs.declared.layouter.TypeLayout.{TypeLayout}
use Rattle.naga_layouter.specs.declared.layout_fault.LayoutCause.{LayoutCause}
use Rattle.naga_layouter.specs.declared.layout_fault.LayoutFault.{LayoutFault}
use Rattle.naga_layouter.specs.declared.spaces.SpaceFaults.{SpaceFaults}
use Rattle.naga_layouter.proofs.LayingLemmas.{drop-found, drop-past}

-- a fault that is there comes first
or-stop : (found rest : Option LayoutFault) (fault : LayoutFault) → found ≡ Some fault → option_or found rest ≡ Some fault
or-stop found rest fault is = ap (λ (o : Option LayoutFault). option_or o rest) is

-- where there is none, the later ones are left
or-more : (found rest : Option LayoutFault) → found ≡ None → option_or found rest ≡ rest
or-more found rest is = ap (λ (o : Option LayoutFault). option_or o rest) is

module _ (types : List (NamedType × Span)) (known : List TypeLayout) (ty span count : ℕ) (members : List StructMember) (i start : ℕ)
    (member : StructMember) (here : slice_get members i ≡ Some member) where
  abbrev cause : Option LayoutCause
  cause = member_cause types known start span (i + 1 == count) member

  abbrev later : Option LayoutFault
  later = members_fault types known ty span count (i + 1) (member.offset + (layout_at known member.ty).size) (drop (i + 1) members)

  -- the fault of this member
  pub members_fault-stop : (found : LayoutCause) → cause ≡ Some found
      → members_fault types known ty span count i start (drop i members)
      ≡ Some (record { ty = ty; member = Some i; cause = found })
  members_fault-stop found is =
      ap (members_fault types known ty span count i start) (drop-found members i member here)
      ∙ ap (λ (c : Option LayoutCause). option_or (fault_by ty (Some i) c) later) is

  -- the faults of the members after this one
  pub members_fault-more : cause ≡ None → members_fault types known ty span count i start (drop i members) ≡ later
  members_fault-more is =
      ap (members_fault types known ty span count i start) (drop-found members i member here)
      ∙ ap (λ (c : Option LayoutCause). option_or (fault_by ty (Some i) c) later) is

-- no member is left
pub members_fault-end : (types : List (NamedType × Span)) (known : List TypeLayout) (ty span count : ℕ) (members : List StructMember) (i start : ℕ)
    → length members ≤ i → members_fault types known ty span count i start (drop i members) ≡ None
members_fault-end types known ty span count members i start past = rw (drop-past members i past) refl

module _ (types : List (NamedType × Span)) (known : List TypeLayout) (i : ℕ) (type : NamedType)
    (here : slice_get (values types) i ≡ Some type) where
  abbrev later-types : Option LayoutFault
  later-types = types_fault types known (i + 1) (drop (i + 1) (values types))

  -- the fault of this type
  pub types_fault-stop : (fault : LayoutFault) → type_fault types known i type.inner ≡ Some fault
      → types_fault types known i (drop i (values types)) ≡ Some fault
  types_fault-stop fault is =
      ap (types_fault types known i) (drop-found (values types) i type here) ∙ or-stop (type_fault types known i type.inner) later-types fault is

  -- the faults of the types after this one
  pub types_fault-more : type_fault types known i type.inner ≡ None → types_fault types known i (drop i (values types)) ≡ later-types
  types_fault-more is =
      ap (types_fault types known i) (drop-found (values types) i type here) ∙ or-more (type_fault types known i type.inner) later-types is

-- no type is left
pub types_fault-end : (types : List (NamedType × Span)) (known : List TypeLayout) (i : ℕ) → length types ≤ i
    → types_fault types known i (drop i (values types)) ≡ None
types_fault-end types known i past =
    let same : length (values types) ≡ length types = length-map types (λ (p : NamedType × Span). p.0) in
    let short : length (values types) ≤ i = omega (arith, same) in
    rw (drop-past (values types) i short) refl

module _ (known : List SpaceFaults) (members : List StructMember) (i : ℕ) (member : StructMember)
    (here : slice_get members i ≡ Some member) where
  abbrev later-shared : Option LayoutFault
  later-shared = shared_members_fault known (drop (i + 1) members)

  pub shared-stop : (fault : LayoutFault) → (faults_at known member.ty).shared ≡ Some fault
      → shared_members_fault known (drop i members) ≡ Some fault
  shared-stop fault is =
      ap (shared_members_fault known) (drop-found members i member here) ∙ or-stop (faults_at known member.ty).shared later-shared fault is

  pub shared-more : (faults_at known member.ty).shared ≡ None → shared_members_fault known (drop i members) ≡ later-shared
  shared-more is =
      ap (shared_members_fault known) (drop-found members i member here) ∙ or-more (faults_at known member.ty).shared later-shared is

pub shared-end : (known : List SpaceFaults) (members : List StructMember) (i : ℕ) → length members ≤ i
    → shared_members_fault known (drop i members) ≡ None
shared-end known members i past = rw (drop-past members i past) refl

module _ (types : List (NamedType × Span)) (known : List SpaceFaults) (ty : ℕ) (members : List StructMember) (i least : ℕ)
    (member : StructMember) (here : slice_get members i ≡ Some member) where
  abbrev uniform-here : Option LayoutFault
  uniform-here =
      option_or (faults_at known member.ty).uniform
      (fault_by ty (Some i) (uniform_offset_cause (inner_at types member.ty) least member.offset))

  abbrev later-uniform : Option LayoutFault
  later-uniform =
      uniform_members_fault types known ty (i + 1) (least_after (inner_at types member.ty) member.offset) (drop (i + 1) members)

  pub uniform-stop : (fault : LayoutFault) → uniform-here ≡ Some fault
      → uniform_members_fault types known ty i least (drop i members) ≡ Some fault
  uniform-stop fault is =
      ap (uniform_members_fault types known ty i least) (drop-found members i member here) ∙ or-stop uniform-here later-uniform fault is

  pub uniform-more : uniform-here ≡ None → uniform_members_fault types known ty i least (drop i members) ≡ later-uniform
  uniform-more is =
      ap (uniform_members_fault types known ty i least) (drop-found members i member here) ∙ or-more uniform-here later-uniform is

pub uniform-end : (types : List (NamedType × Span)) (known : List SpaceFaults) (ty : ℕ) (members : List StructMember) (i least : ℕ)
    → length members ≤ i → uniform_members_fault types known ty i least (drop i members) ≡ None
uniform-end types known ty members i least past = rw (drop-past members i past) refl

module _ (known : List SpaceFaults) (variables : List (GlobalVariable × Span)) (i : ℕ) (variable : GlobalVariable)
    (here : slice_get (values variables) i ≡ Some variable) where
  abbrev variable-here : Option LayoutFault
  variable-here = fault_in variable.space (faults_at known variable.ty)

  abbrev later-variables : Option LayoutFault
  later-variables = variables_fault known (drop (i + 1) (values variables))

  pub variables-stop : (fault : LayoutFault) → variable-here ≡ Some fault
      → variables_fault known (drop i (values variables)) ≡ Some fault
  variables-stop fault is =
      ap (variables_fault known) (drop-found (values variables) i variable here) ∙ or-stop variable-here later-variables fault is

  pub variables-more : variable-here ≡ None → variables_fault known (drop i (values variables)) ≡ later-variables
  variables-more is =
      ap (variables_fault known) (drop-found (values variables) i variable here) ∙ or-more variable-here later-variables is

pub variables-end : (known : List SpaceFaults) (variables : List (GlobalVariable × Span)) (i : ℕ) → length variables ≤ i
    → variables_fault known (drop i (values variables)) ≡ None
variables-end known variables i past =
    let same : length (values variables) ≡ length variables = length-map variables (λ (p : GlobalVariable × Span). p.0) in
    let short : length (values variables) ≤ i = omega (arith, same) in
    rw (drop-past (values variables) i short) refl

-- the faults of one more type
pub space-faults-more : (types : List (NamedType × Span)) (known : List SpaceFaults) (i : ℕ) (type : NamedType)
    → slice_get (values types) i ≡ Some type
    → all_space_faults types known (drop i (values types))
    ≡ all_space_faults types (known ++ space_faults types known type.inner ∷ []) (drop (i + 1) (values types))
space-faults-more types known i type here = ap (all_space_faults types known) (drop-found (values types) i type here)

-- no type is left
pub space-faults-end : (types : List (NamedType × Span)) (known : List SpaceFaults) (i : ℕ) → length types ≤ i
    → all_space_faults types known (drop i (values types)) ≡ known
space-faults-end types known i past =
    let same : length (values types) ≡ length types = length-map types (λ (p : NamedType × Span). p.0) in
    let short : length (values types) ≤ i = omega (arith, same) in
    rw (drop-past (values types) i short) refl

-- the faults of a type, found with the faults that are known
pub space-faults-made : (types : List (NamedType × Span)) (known seen also : List SpaceFaults) (inner : TypeInner) (at i : ℕ)
    (shared uniform : Option LayoutFault) → seen ≡ known → also ≡ known → at ≡ i → length known ≡ i
    → shared ≡ shared_fault seen at inner → uniform ≡ uniform_fault types also at inner
    → record { shared = shared; uniform = uniform } ≡ space_faults types known inner
space-faults-made types known seen also inner at i shared uniform same same-also is reached of-shared of-uniform =
    let place : at ≡ length known = is ∙ sym reached in
    let s : shared ≡ shared_fault known (length known) inner =
    of-shared ∙ ap (λ (k : List SpaceFaults). shared_fault k at inner) same ∙ ap (λ (t : ℕ). shared_fault known t inner) place in
    let u : uniform ≡ uniform_fault types known (length known) inner =
    of-uniform ∙ ap (λ (k : List SpaceFaults). uniform_fault types k at inner) same-also ∙ ap (λ (t : ℕ). uniform_fault types known t inner) place in
    let with-shared : Option LayoutFault → SpaceFaults = λ x. record { shared = x; uniform = uniform } in
    let with-uniform : Option LayoutFault → SpaceFaults = λ x. record { shared = shared_fault known (length known) inner; uniform = x } in
    ap with-shared s ∙ ap with-uniform u
