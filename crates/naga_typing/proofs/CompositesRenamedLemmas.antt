-- A renamed type is composed of the same numbers of components, and has the same numbers of scalars.
use Rattle.std.proofs.Common.{◌≡◌, ◌∙◌, ap, sym, refl, ℕ, List, length, map, Option, None, Some}
use Rattle.std.proofs.lemmas.List.{length-map, with_items_is}
use Rattle.std.specs.Option.{option_map}
use Rattle.std.specs.Prelude.{nat_eq}
use Rattle.naga_ir.specs.declared.types.ArraySize.{ArraySize}
use Rattle.naga_ir.specs.declared.types.ArraySize.TheVariants as size
use Rattle.naga_ir.specs.declared.types.StructMember.{StructMember}
use Rattle.naga_ir.specs.declared.types.TypeInner.{TypeInner}
use Rattle.naga_ir.specs.declared.types.TypeInner.TheVariants as inner
use Rattle.naga_compact.specs.Renaming.{Renaming}
use Rattle.naga_compact.specs.derived.Renaming.{rename_array_size, rename_struct_member, rename_type_inner}
use Rattle.naga_typing.specs.Composites.{entries, entries_of, is_filled_by, takes, takes_elements, vector_scalar}

module _ (r : Renaming) where
  takes_elements-renamed : (count : ℕ) (number : ArraySize) → takes_elements count (rename_array_size r number) ≡ takes_elements count number
  takes_elements-renamed count (size.Pending override) = refl
  takes_elements-renamed count number = refl

  pub takes-renamed : (count : ℕ) (what : TypeInner) → takes count (rename_type_inner r what) ≡ takes count what
  takes-renamed count (inner.Vector size scalar) = refl
  takes-renamed count (inner.Matrix columns rows scalar) = refl
  takes-renamed count (inner.Array base number stride) = takes_elements-renamed count number
  takes-renamed count (inner.Struct members span) =
      ap (λ (items : List StructMember). nat_eq count (length items))
      (with_items_is members (map (rename_struct_member r) members.items) (length-map members.items (rename_struct_member r) ∙ sym members.ok.0))
      ∙ ap (nat_eq count) (length-map members.items (rename_struct_member r))
  takes-renamed count what = refl

  pub vector_scalar-renamed : (what : TypeInner) → vector_scalar (rename_type_inner r what) ≡ vector_scalar what
  vector_scalar-renamed (inner.Vector size scalar) = refl
  vector_scalar-renamed what = refl

  entries-renamed : (what : TypeInner) → entries (rename_type_inner r what) ≡ entries what
  entries-renamed (inner.Scalar scalar) = refl
  entries-renamed (inner.Vector size scalar) = refl
  entries-renamed what = refl

  pub entries_of-renamed : (found : Option TypeInner) → entries_of (option_map (rename_type_inner r) found) ≡ entries_of found
  entries_of-renamed None = refl
  entries_of-renamed (Some what) = entries-renamed what

  pub is_filled_by-renamed : (count : ℕ) (what : TypeInner) → is_filled_by count (rename_type_inner r what) ≡ is_filled_by count what
  is_filled_by-renamed count (inner.Vector size scalar) = refl
  is_filled_by-renamed count what = refl
