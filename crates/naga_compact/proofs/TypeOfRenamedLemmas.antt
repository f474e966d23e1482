-- Types whose handles are renamed are equal only if they were equal before.
use Rattle.std.proofs.Common.{◌≡◌, ◌∙◌, sym, ap, refl, inl, inr, ◌⊎◌, ℕ, suc, ◌<◌, ◌≤◌, List, [], ◌∷◌, map, Bool, true, Option, arith}
use Rattle.std.proofs.lemmas.Bool.{cases_lt}
use Rattle.std.specs.FinSet.{contains}
use Rattle.std.specs.List.{Contains}
use Rattle.std.specs.Option.{option_map}
use Rattle.std.specs.Prelude.{option_to_list, string_bytes}
use Rattle.naga_ir.proofs.TypeOfLemmas.{type_of-decides}
use Rattle.naga_ir.specs.Types.{Inner, Member, inner_of, member_of, plain, structure, type_of}
use Rattle.naga_ir.specs.contracts.types.TypePartialEq.TheImpl as type_eq
use Rattle.naga_ir.specs.declared.types.ArraySize.{ArraySize}
use Rattle.naga_ir.specs.declared.types.ArraySize.TheVariants as size
use Rattle.naga_ir.specs.declared.types.StructMember.{StructMember}
use Rattle.naga_ir.specs.declared.types.«Type».{«Type» as NamedType}
use Rattle.naga_ir.specs.declared.types.TypeInner.{TypeInner}
use Rattle.naga_ir.specs.declared.types.TypeInner.TheVariants as inner
use Rattle.naga_valid.specs.Declarations.{references_of_inner, references_of_type, pending_of}
use Rattle.naga_valid.specs.declared.reference.Reference.{Reference}
use Rattle.naga_valid.specs.declared.reference.Reference.TheVariants as reference
use Rattle.naga_compact.specs.Kept.{rank}
use Rattle.naga_compact.specs.Module.Compaction.{IsKeptBelow}
use Rattle.naga_compact.specs.Renaming.{Renaming, unchanged}
use Rattle.naga_compact.specs.Renaming.Renumbering.{renaming_of}
use Rattle.naga_compact.specs.derived.Renaming.{rename_array_size, rename_struct_member, rename_type, rename_type_inner}
use Rattle.naga_compact.specs.declared.module.renumbering.ModuleRenumbering.{ModuleRenumbering}
use Rattle.naga_compact.proofs.MappedListLemmas.{items-mapped}
use Rattle.naga_compact.proofs.RankLemmas.{rank-increases, rank-injective, rank-onto}

-- ---- the old index, by the new one

old_index_at : (kept : ℕ → Bool) (bound n : ℕ) → (n < rank kept bound) ⊎ (rank kept bound ≤ n) → ℕ
old_index_at kept bound n (inl below) = (rank-onto kept bound n below).0
old_index_at kept bound n (inr past) = 0

-- the index below the bound that is kept and whose rank is `n`
old_index : (kept : ℕ → Bool) (bound n : ℕ) → ℕ
old_index kept bound n = old_index_at kept bound n (cases_lt n (rank kept bound))

old_index_at-rank : (kept : ℕ → Bool) (bound h : ℕ) → kept h ≡ true → h < bound → (place : (rank kept h < rank kept bound) ⊎ (rank kept bound ≤ rank kept h)) → old_index_at kept bound (rank kept h) place ≡ h
unfolding old_index_at
old_index_at-rank kept bound h so within (inl below) =
    let found = rank-onto kept bound (rank kept h) below in
    rank-injective kept found.0 h found.1 so found.2
old_index_at-rank kept bound h so within (inr past) = absurd (omega (arith, rank-increases kept h bound so within, past))

old_index-rank : (kept : ℕ → Bool) (bound h : ℕ) → kept h ≡ true → h < bound → old_index kept bound (rank kept h) ≡ h
unfolding old_index
old_index-rank kept bound h so within = old_index_at-rank kept bound h so within (cases_lt (rank kept h) (rank kept bound))

module _ (kept : ModuleRenumbering) where
  abbrev r : Renaming
  r = renaming_of kept

  -- types and overrides get their old indices
  abbrev back : Renaming
  back = record unchanged {
    types = old_index (contains kept.types.members) kept.types.bound;
    overrides = old_index (contains kept.overrides.members) kept.overrides.bound;
  }

  type-back : (h : ℕ) → IsKeptBelow kept (reference.«Type» h) → back.types (r.types h) ≡ h
  type-back h so = old_index-rank (contains kept.types.members) kept.types.bound h so.0 so.1

  override-back : (h : ℕ) → IsKeptBelow kept (reference.Override h) → back.overrides (r.overrides h) ≡ h
  override-back h so = old_index-rank (contains kept.overrides.members) kept.overrides.bound h so.0 so.1

  -- each type and override of the list is kept
  abbrev pub AreKept : List Reference → Type 0
  AreKept references = (n : Reference) → Contains references n → IsKeptBelow kept n

  AreKept-rest : (first : Reference) (rest : List Reference) → AreKept (first ∷ rest) → AreKept rest
  AreKept-rest first rest so n inside = so n (suc inside.0, omega (arith, inside.1), inside.2)

  AreKept-first : (first : Reference) (rest : List Reference) → AreKept (first ∷ rest) → IsKeptBelow kept first
  AreKept-first first rest so = so first (0, omega arith, refl)

  size-back : (x : ArraySize) → AreKept (option_to_list (option_map reference.Override (pending_of x))) → rename_array_size back (rename_array_size r x) ≡ x
  size-back (size.Constant count) so = refl
  size-back (size.Pending handle) so = ap size.Pending (override-back handle (AreKept-first (reference.Override handle) [] so))
  size-back size.Dynamic so = refl

  abbrev member_back : Member → Member
  member_back member = record member { ty = back.types member.ty }

  abbrev inner_back : Inner → Inner
  inner_back (structure members span) = structure (map member_back members) span
  inner_back (plain what) = plain (rename_type_inner back what)

  members-back : (members : List StructMember) → AreKept (map (λ (member : StructMember). reference.«Type» member.ty) members) → map member_back (map member_of (map (rename_struct_member r) members)) ≡ map member_of members
  members-back [] so = refl
  members-back (member ∷ members) so =
      let references : List Reference = map (λ (m : StructMember). reference.«Type» m.ty) members in
      let here = type-back member.ty (AreKept-first (reference.«Type» member.ty) references so) in
      let later = members-back members (AreKept-rest (reference.«Type» member.ty) references so) in
      λ i. record (member_of member) { ty = here i } ∷ later i

  inner-back : (x : TypeInner) → AreKept (references_of_inner x) → inner_back (inner_of (rename_type_inner r x)) ≡ inner_of x
  inner-back (inner.Scalar scalar) so = refl
  inner-back (inner.Vector size scalar) so = refl
  inner-back (inner.Matrix columns rows scalar) so = refl
  inner-back (inner.CooperativeMatrix columns rows scalar role) so = refl
  inner-back (inner.Atomic scalar) so = refl
  inner-back (inner.Pointer base space) so =
      ap (λ h. plain (inner.Pointer h space)) (type-back base (AreKept-first (reference.«Type» base) [] so))
  inner-back (inner.ValuePointer size scalar space) so = refl
  inner-back (inner.Array base x stride) so =
      let references : List Reference = option_to_list (option_map reference.Override (pending_of x)) in
      let first = type-back base (AreKept-first (reference.«Type» base) references so) in
      let second = size-back x (AreKept-rest (reference.«Type» base) references so) in
      λ i. plain (inner.Array (first i) (second i) stride)
  inner-back (inner.Struct members span) so =
      ap (λ xs. structure (map member_back (map member_of xs)) span) (items-mapped (rename_struct_member r) members)
      ∙ ap (λ ms. structure ms span) (members-back members.items so)
  inner-back (inner.Image dim arrayed class) so = refl
  inner-back (inner.Sampler comparison) so = refl
  inner-back (inner.AccelerationStructure vertex_return) so = refl
  inner-back (inner.RayQuery vertex_return) so = refl
  inner-back (inner.BindingArray base x) so =
      let references : List Reference = option_to_list (option_map reference.Override (pending_of x)) in
      let first = type-back base (AreKept-first (reference.«Type» base) references so) in
      let second = size-back x (AreKept-rest (reference.«Type» base) references so) in
      λ i. plain (inner.BindingArray (first i) (second i))

  type_of-back : (x : NamedType) → AreKept (references_of_type x) → inner_back (type_of (rename_type r x)).1 ≡ (type_of x).1
  type_of-back x so = inner-back x.inner so

  -- types are equal if they are equal with their new handles
  pub equal_before : (x y : NamedType) → AreKept (references_of_type x) → AreKept (references_of_type y) → type_eq.ghosts.eq (rename_type r x) (rename_type r y) ≡ true → type_eq.ghosts.eq x y ≡ true
  equal_before x y x-kept y-kept same =
      let views : type_of (rename_type r x) ≡ type_of (rename_type r y) = (type_of-decides (rename_type r x) (rename_type r y)).0 same in
      let names : option_map string_bytes x.name ≡ option_map string_bytes y.name = ap (λ (t : Option (List ℕ) × Inner). t.0) views in
      let contents : (type_of x).1 ≡ (type_of y).1 =
      sym (type_of-back x x-kept) ∙ (ap (λ (t : Option (List ℕ) × Inner). inner_back t.1) views ∙ type_of-back y y-kept)
      in
      (type_of-decides x y).1 (λ i. (names i, contents i))
