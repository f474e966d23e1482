-- A renaming of the expressions of a function, and of ranges of them, leaves types as they are.
use Rattle.std.proofs.Common.{◌≡◌, ◌∙◌, ap, sym, subst, refl, ℕ, Bool, true, List, [], ◌∷◌, map, length, Option, None, Some}
use Rattle.std.proofs.lemmas.Iterator.Adapters.{option_map_id}
use Rattle.std.proofs.lemmas.List.{map-id, with_items_is}
use Rattle.std.proofs.lemmas.List.Elements.{All-contains_itself, All-weaker}
use Rattle.std.proofs.Math.Nat.{ℕ_set}
use Rattle.std.specs.List.{AllByRecursion, Contains}
use Rattle.std.specs.Option.{option_map}
use Rattle.std.specs.Prelude.{All, IfSome}
use Rattle.std.specs.Vec.{with_items}
use Rattle.std.specs.declared.alloc.Global.{Global}
use Rattle.std.specs.declared.vec.Vec.{Vec}
use Rattle.naga_ir.specs.declared.types.ArraySize.{ArraySize}
use Rattle.naga_ir.specs.declared.types.ArraySize.TheVariants as size
use Rattle.naga_ir.specs.declared.types.StructMember.{StructMember}
use Rattle.naga_ir.specs.declared.types.TypeInner.{TypeInner}
use Rattle.naga_ir.specs.declared.types.TypeInner.TheVariants as inner
use Rattle.naga_valid.specs.declared.reference.Reference.{Reference}
use Rattle.naga_valid.specs.declared.reference.Reference.TheVariants as reference
use Rattle.naga_compact.specs.Renaming.{Renaming, unchanged}
use Rattle.naga_compact.specs.derived.Renaming.{rename_array_size, rename_type_inner}
use Rattle.naga_typifier.specs.Context.{Context}
use Rattle.naga_typifier.specs.declared.resolution.TypeResolution.{TypeResolution}
use Rattle.naga_typifier.specs.declared.resolution.TypeResolution.TheVariants as resolution
use Rattle.naga_typing.specs.Renamed.{HasRenamed, IsKept, MentionsKept, RenamesContext, TypeIsKept, TypesAreKept, rename_resolution}
use Rattle.naga_typing.specs.RenamedRequirements.{NameIsRenamed, RenamesCalled, RenamesSignature}
use Rattle.naga_typing.specs.Requirements.{Signature}

-- every type is kept
abbrev pub all_kept : ℕ → Bool
all_kept ty = true

-- what holds of each value holds of one that may be absent
if_some : {X : Type 0} (P : X → Type 0) → ((x : X) → P x) → (found : Option X) → IfSome found P
if_some P holds None = tt
if_some P holds (Some x) = holds x

each : {X : Type 0} (P : X → Type 0) → ((x : X) → P x) → (xs : List X) → AllByRecursion P xs
each P holds [] = tt
each P holds (x ∷ xs) = (holds x, each P holds xs)

same-mapped : {X : Type 0} (f : X → X) → ((x : X) → x ≡ f x) → (found : Option X) → found ≡ option_map f found
same-mapped f same None = refl
same-mapped f same (Some x) = ap Some (same x)

mentions-any : (what : TypeInner) → MentionsKept all_kept what
mentions-any (inner.Pointer base space) = refl
mentions-any (inner.Array base number stride) = refl
mentions-any (inner.BindingArray base number) = refl
mentions-any (inner.Struct members span) = each (λ (member : StructMember). TypeIsKept all_kept member.ty) (λ member. refl) members.items
mentions-any what = tt

keeps-any : (ty : TypeResolution) → IsKept all_kept ty
keeps-any (resolution.Handle ty) = refl
keeps-any (resolution.Value what) = mentions-any what

pub TypesAreKept-any : (ctx : Context) → TypesAreKept all_kept ctx
TypesAreKept-any ctx = record {
  closed = λ ty so. if_some (MentionsKept all_kept) mentions-any (ctx.types ty);
  locals = λ handle. if_some (TypeIsKept all_kept) (λ ty. refl) (ctx.locals handle);
  arguments = λ index. if_some (TypeIsKept all_kept) (λ ty. refl) (ctx.arguments index);
  ray_intersection = if_some (TypeIsKept all_kept) (λ ty. refl) ctx.ray_intersection;
  ray_vertex_return = if_some (TypeIsKept all_kept) (λ ty. refl) ctx.ray_vertex_return;
  predeclared = λ key. if_some (TypeIsKept all_kept) (λ ty. refl) (ctx.predeclared key);
}

-- a vector whose elements are written to it again
module _ {X : Type 0} (v : Vec X Global) where
  abbrev of_items : (items : List X) → v.len ≡ length items → Vec X Global
  of_items items long = record { ptr = v.ptr; len = v.len; cap = v.cap; alloc = v.alloc; items = items; ok = (long, v.ok.1); small = v.small }

  of_items-same : (xs ys : List X) (long : v.len ≡ length xs) (long' : v.len ≡ length ys) → xs ≡ ys → of_items xs long ≡ of_items ys long'
  of_items-same xs ys long long' same =
      subst (λ (zs : List X). (other : v.len ≡ length zs) → of_items xs long ≡ of_items zs other) same (λ other. ap (of_items xs) (ℕ_set v.len (length xs) long other)) long'

  with_items-same : v ≡ with_items v v.items
  with_items-same =
      sym (of_items-same (with_items v v.items).items v.items (with_items v v.items).ok.0 v.ok.0 (with_items_is v v.items (sym v.ok.0)))

module _ (f : ℕ → ℕ) (ranges : ℕ × ℕ → ℕ × ℕ) where
  abbrev r : Renaming
  r = record unchanged { expressions = f; ranges = ranges }

  size-same : (number : ArraySize) → number ≡ rename_array_size r number
  size-same (size.Pending override) = refl
  size-same number = refl

  inner-same : (what : TypeInner) → what ≡ rename_type_inner r what
  inner-same (inner.Array base number stride) = ap (λ (n : ArraySize). inner.Array base n stride) (size-same number)
  inner-same (inner.BindingArray base number) = ap (λ (n : ArraySize). inner.BindingArray base n) (size-same number)
  inner-same (inner.Struct members span) = ap (λ (list : Vec StructMember Global). inner.Struct list span) (with_items-same members ∙ ap (with_items members) (sym (map-id members.items)))
  inner-same what = refl

  type-same : (ty : TypeResolution) → ty ≡ rename_resolution r ty
  type-same (resolution.Handle ty) = refl
  type-same (resolution.Value what) = ap resolution.Value (inner-same what)

  handles-same : (found : Option ℕ) → found ≡ option_map (λ (ty : ℕ). ty) found
  handles-same found = sym (option_map_id found)

  pub RenamesContext-same : (ctx : Context) → RenamesContext r all_kept ctx ctx
  RenamesContext-same ctx = record {
    types = λ ty so. same-mapped (rename_type_inner r) inner-same (ctx.types ty);
    locals = λ handle. handles-same (ctx.locals handle);
    arguments = λ index. handles-same (ctx.arguments index);
    ray_intersection = handles-same ctx.ray_intersection;
    ray_vertex_return = handles-same ctx.ray_vertex_return;
    predeclared = λ key. handles-same (ctx.predeclared key);
  }

  pub RenamesSignature-same : (signature : Signature) → RenamesSignature r all_kept signature signature
  RenamesSignature-same signature = record {
    result = handles-same signature.result;
    result_kept = if_some (TypeIsKept all_kept) (λ ty. refl) signature.result;
    ray_desc = handles-same signature.ray_desc;
    ray_desc_kept = if_some (TypeIsKept all_kept) (λ ty. refl) signature.ray_desc;
  }

  pub RenamesCalled-same : (signature : Signature) (ctx : Context) (function : ℕ) → RenamesCalled r all_kept signature signature ctx ctx function
  RenamesCalled-same signature ctx function = record {
    parameters = same-mapped (map (λ (ty : ℕ). ty)) (λ types. sym (map-id types)) (signature.parameters function);
    parameters_kept = if_some (AllByRecursion (TypeIsKept all_kept)) (each (TypeIsKept all_kept) (λ ty. refl)) (signature.parameters function);
    result = same-mapped (option_map (λ (ty : ℕ). ty)) handles-same (ctx.results function);
  }

  -- an operand that has the same type at its new handle
  pub HasRenamed-same : (known after : ℕ → Option TypeResolution) (operand : ℕ) → after (f operand) ≡ known operand → HasRenamed r all_kept known after operand
  HasRenamed-same known after operand same =
      (same ∙ same-mapped (rename_resolution r) type-same (known operand), if_some (IsKept all_kept) keeps-any (known operand))

  -- what is named has its type at its new handle, if that holds of the operands
  pub NameIsRenamed-same : (signature : Signature) (ctx : Context) (known after : ℕ → Option TypeResolution) (names : List Reference)
      → ((operand : ℕ) → Contains names (reference.Expression operand) → after (f operand) ≡ known operand)
      → All (NameIsRenamed r all_kept signature signature ctx ctx known after) names
  NameIsRenamed-same signature ctx known after names same =
      All-weaker (Contains names) (NameIsRenamed r all_kept signature signature ctx ctx known after) go names (All-contains_itself names)
    where
      go : (name : Reference) → Contains names name → NameIsRenamed r all_kept signature signature ctx ctx known after name
      go (reference.Expression operand) inside = HasRenamed-same known after operand (same operand inside)
      go (reference.Function handle) inside = RenamesCalled-same signature ctx handle
      go (reference.«Type» handle) inside = refl
      go name inside = tt
