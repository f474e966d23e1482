-- The form of a renamed type is the renamed form.
use Rattle.std.proofs.Common.{◌≡◌, ◌∙◌, ap, sym, refl, ℕ, Bool, true, false, if◌then◌else◌, List, [], ◌∷◌, map, Option, None, Some}
use Rattle.std.proofs.lemmas.List.{length-map, with_items_is}
use Rattle.std.specs.Option.{option_and_then, option_map}
use Rattle.std.specs.Prelude.{IfSome, unwrap_or}
use Rattle.naga_kinds.specs.declared.address_space.AddressSpace.{AddressSpace}
use Rattle.naga_ir.specs.Types.{Inner, Member, inner_of, member_of, structure}
use Rattle.naga_ir.specs.declared.types.StructMember.{StructMember}
use Rattle.naga_ir.specs.declared.types.TypeInner.{TypeInner}
use Rattle.naga_ir.specs.declared.types.TypeInner.TheVariants as inner
use Rattle.naga_compact.specs.Renaming.{Renaming}
use Rattle.naga_compact.specs.derived.Renaming.{rename_struct_member, rename_type_inner}
use Rattle.naga_typifier.specs.Context.{Context}
use Rattle.naga_typifier.specs.declared.resolution.TypeResolution.{TypeResolution}
use Rattle.naga_typifier.specs.declared.resolution.TypeResolution.TheVariants as resolution
use Rattle.naga_typing.specs.Forms.{as_value_pointer, contents, contents_form, declared, declared_form, form, is_structure, value_pointer}
use Rattle.naga_typing.specs.Renamed.{IsClosed, IsKept, MentionsKept, RenamesContext, rename_resolution}
use Rattle.naga_typing.specs.RenamedRequirements.{rename_form, rename_inner, rename_member}
use Rattle.naga_typing.proofs.RenamedLemmas.{bind}

unwrap_or-mapped : {X : Type 0} (f : X → X) (found : Option X) (other : X) → unwrap_or (option_map f found) (f other) ≡ f (unwrap_or found other)
unwrap_or-mapped f None other = refl
unwrap_or-mapped f (Some x) other = refl

module _ (r : Renaming) where
  -- ---- contents

  members-renamed : (members : List StructMember) → map member_of (map (rename_struct_member r) members) ≡ map (rename_member r) (map member_of members)
  members-renamed [] = refl
  members-renamed (member ∷ members) = ap (λ (rest : List Member). rename_member r (member_of member) ∷ rest) (members-renamed members)

  inner_of-renamed : (what : TypeInner) → inner_of (rename_type_inner r what) ≡ rename_inner r (inner_of what)
  inner_of-renamed (inner.Struct members span) =
      ap (λ (items : List StructMember). structure (map member_of items) span)
      (with_items_is members (map (rename_struct_member r) members.items) (length-map members.items (rename_struct_member r) ∙ sym members.ok.0))
      ∙ ap (λ (list : List Member). structure list span) (members-renamed members.items)
  inner_of-renamed what = refl

  is_structure-renamed : (what : TypeInner) → is_structure (rename_type_inner r what) ≡ is_structure what
  is_structure-renamed (inner.Struct members span) = refl
  is_structure-renamed what = refl

  value_pointer-renamed : (space : AddressSpace) (what : TypeInner) → value_pointer space (rename_type_inner r what) ≡ option_map (rename_type_inner r) (value_pointer space what)
  value_pointer-renamed space (inner.Scalar scalar) = refl
  value_pointer-renamed space (inner.Vector size scalar) = refl
  value_pointer-renamed space what = refl

  chosen : (test : Bool) (ty : ℕ) (what : Inner) → (if test then declared (r.types ty) else contents (rename_inner r what)) ≡ rename_form r (if test then declared ty else contents what)
  chosen true ty what = refl
  chosen false ty what = refl

  -- ---- types

  module _ (kept : ℕ → Bool) (ctx new : Context) (is : RenamesContext r kept ctx new) (closed : IsClosed kept ctx) where
    as_value_pointer-renamed : (what : TypeInner) → MentionsKept kept what → as_value_pointer new.types (rename_type_inner r what) ≡ option_map (rename_type_inner r) (as_value_pointer ctx.types what)
    as_value_pointer-renamed (inner.Pointer base space) so =
        ap (option_and_then (value_pointer space)) (is.types base so)
        ∙ bind (rename_type_inner r) (rename_type_inner r) (value_pointer space) (value_pointer space) (value_pointer-renamed space) (ctx.types base)
    as_value_pointer-renamed what so = refl

    contents_form-renamed : (what : TypeInner) → MentionsKept kept what → inner_of (contents_form new.types (rename_type_inner r what)) ≡ rename_inner r (inner_of (contents_form ctx.types what))
    contents_form-renamed what so =
        ap (λ (found : Option TypeInner). inner_of (unwrap_or found (rename_type_inner r what))) (as_value_pointer-renamed what so)
        ∙ ap inner_of (unwrap_or-mapped (rename_type_inner r) (as_value_pointer ctx.types what) what)
        ∙ inner_of-renamed (contents_form ctx.types what)

    declared_form-renamed : (ty : ℕ) (found : Option TypeInner) → IfSome found (MentionsKept kept) → declared_form new.types (r.types ty) (option_map (rename_type_inner r) found) ≡ rename_form r (declared_form ctx.types ty found)
    declared_form-renamed ty None so = refl
    declared_form-renamed ty (Some what) so =
        (λ i. if is_structure-renamed what i then declared (r.types ty) else contents (contents_form-renamed what so i))
        ∙ chosen (is_structure what) ty (inner_of (contents_form ctx.types what))

    pub form-renamed : (ty : TypeResolution) → IsKept kept ty → form new.types (rename_resolution r ty) ≡ rename_form r (form ctx.types ty)
    form-renamed (resolution.Handle ty) so = ap (declared_form new.types (r.types ty)) (is.types ty so) ∙ declared_form-renamed ty (ctx.types ty) (closed ty so)
    form-renamed (resolution.Value what) so = ap contents (contents_form-renamed what so)
