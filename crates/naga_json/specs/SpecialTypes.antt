-- Types that a module declares for its built-in functions.
use Rattle.std.specs.Prelude.{⊤, ℕ, List, codes, Option}
use Rattle.naga_kinds.specs.declared.scalar.PredeclaredType.{PredeclaredType}
use Rattle.naga_ir.specs.declared.module.SpecialTypes.{SpecialTypes}
use Rattle.naga_json.specs.Codec.{Codec, handle_codec}
use Rattle.naga_json.specs.Fields.{Fields, field, no_fields, optional_field, struct_codec}
use Rattle.naga_json.specs.Maps.{empty_map_codec}

-- special types, with the entries of the types of results
pub record SpecialTypesValue : Type 0 where
  pub ray_desc : Option ℕ
  pub ray_intersection : Option ℕ
  pub ray_vertex_return : Option ℕ
  pub external_texture_params : Option ℕ
  pub external_texture_transfer_function : Option ℕ
  pub predeclared_types : List (PredeclaredType × ℕ)

-- the value of special types
abbrev pub special_types_value : SpecialTypes → SpecialTypesValue
special_types_value special = record {
  ray_desc = special.ray_desc;
  ray_intersection = special.ray_intersection;
  ray_vertex_return = special.ray_vertex_return;
  external_texture_params = special.external_texture_params;
  external_texture_transfer_function = special.external_texture_transfer_function;
  predeclared_types = special.predeclared_types.entries;
}

-- the fields of special types
abbrev pub special_types_fields : Fields (Option ℕ × (Option ℕ × (Option ℕ × (Option ℕ × (Option ℕ × (List (PredeclaredType × ℕ) × ⊤))))))
special_types_fields =
    optional_field (codes "ray_desc") handle_codec (
    optional_field (codes "ray_intersection") handle_codec (
    optional_field (codes "ray_vertex_return") handle_codec (
    optional_field (codes "external_texture_params") handle_codec (
    optional_field (codes "external_texture_transfer_function") handle_codec (
    field (codes "predeclared_types") empty_map_codec no_fields)))))

-- special types
abbrev pub special_types_codec : Codec SpecialTypesValue
special_types_codec =
    struct_codec special_types_fields
    (λ parts. record {
      ray_desc = parts.0;
      ray_intersection = parts.1.0;
      ray_vertex_return = parts.1.1.0;
      external_texture_params = parts.1.1.1.0;
      external_texture_transfer_function = parts.1.1.1.1.0;
      predeclared_types = parts.1.1.1.1.1.0;
    })
    (λ value. (value.ray_desc, (value.ray_intersection, (value.ray_vertex_return, (value.external_texture_params, (value.external_texture_transfer_function, (value.predeclared_types, tt)))))))
