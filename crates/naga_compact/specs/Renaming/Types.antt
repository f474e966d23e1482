-- The special types of a module, renamed.
use Rattle.std.specs.Prelude.{ℕ, map, option_map}
use Rattle.indexmap.specs.IndexMap.{IndexMap, with_entries}
use Rattle.naga_ir.specs.declared.module.SpecialTypes as special
use Rattle.naga_compact.specs.Renaming.{Renaming}

module _ (r : Renaming) where
  -- the entry of a map of types with its type renamed; the key is unchanged
  abbrev pub rename_value : {K : Type 0} → K × ℕ → K × ℕ
  rename_value entry = (entry.0, r.types entry.1)

  -- the predeclared types, renamed; they keep their keys
  abbrev pub rename_predeclared : {K S : Type 0} → IndexMap K ℕ S → IndexMap K ℕ S
  rename_predeclared types = with_entries types (map rename_value types.entries)

  -- the special types that are present, and the predeclared types, renamed
  abbrev pub rename_special_types : special.SpecialTypes → special.SpecialTypes
  rename_special_types types = record {
    ray_desc = option_map r.types types.ray_desc;
    ray_intersection = option_map r.types types.ray_intersection;
    ray_vertex_return = option_map r.types types.ray_vertex_return;
    external_texture_params = option_map r.types types.external_texture_params;
    external_texture_transfer_function = option_map r.types types.external_texture_transfer_function;
    predeclared_types = rename_predeclared types.predeclared_types;
  }
