-- The handles that functions and entry points contain, renamed.
use Rattle.std.specs.Prelude.{◌≡◌, ℕ, List, Option, map, option_map}
use Rattle.std.specs.Vec.{with_items}
use Rattle.naga_arena.specs.declared.span.Span.{Span}
use Rattle.naga_ir.specs.View.{tree_of}
use Rattle.naga_ir.specs.declared.module.EntryPoint as entry_point
use Rattle.naga_ir.specs.declared.module.Function as function
use Rattle.naga_ir.specs.declared.module.FunctionArgument as argument
use Rattle.naga_ir.specs.declared.module.FunctionResult as outcome
use Rattle.naga_ir.specs.declared.module.MeshStageInfo.{MeshStageInfo}
use Rattle.naga_compact.specs.Renaming.{Renaming}
use Rattle.naga_compact.specs.Renaming.Declarations.{rename_local_variable}
use Rattle.naga_compact.specs.derived.Renaming.{rename_expression}
use Rattle.naga_compact.specs.Renaming.Blocks.{rename_tree}

-- the entry of an arena with its value replaced; the span is unchanged
abbrev pub map_value : {X : Type 0} → (X → X) → X × Span → X × Span
map_value f entry = (f entry.0, entry.1)

-- the arena with each value replaced; the spans are unchanged
abbrev pub map_values : {X : Type 0} → (X → X) → List (X × Span) → List (X × Span)
map_values f = map (map_value f)

module _ (r : Renaming) where
  -- the argument with its type renamed
  abbrev pub rename_argument : argument.FunctionArgument → argument.FunctionArgument
  rename_argument declared = record declared { ty = r.types declared.ty }

  -- the result with its type renamed
  abbrev pub rename_result : outcome.FunctionResult → outcome.FunctionResult
  rename_result declared = record declared { ty = r.types declared.ty }

  -- `new` is the function `old` with its handles renamed, except that its blocks may have other spare capacity, and that
  -- the keys of its named expressions are unchanged
  pub record IsRenamedFunction (old new : function.Function) : Type 0 where
    pub outside : new ≡ record old {
      arguments = with_items old.arguments (map rename_argument old.arguments.items);
      result = option_map rename_result old.result;
      local_variables = map_values (rename_local_variable r) old.local_variables;
      expressions = map_values (rename_expression r) old.expressions;
      body = new.body;
    }
    pub body : tree_of new.body ≡ rename_tree r (tree_of old.body)

  -- the information about a mesh stage with its expressions, types and variable renamed
  abbrev pub rename_mesh_info : MeshStageInfo → MeshStageInfo
  rename_mesh_info info = record info {
    max_vertices_override = option_map r.global_expressions info.max_vertices_override;
    max_primitives_override = option_map r.global_expressions info.max_primitives_override;
    vertex_output_type = r.types info.vertex_output_type;
    primitive_output_type = r.types info.primitive_output_type;
    output_variable = r.global_variables info.output_variable;
  }

  -- the expressions that replace the sizes of a workgroup, renamed
  abbrev pub rename_sizes : List (Option ℕ) → List (Option ℕ)
  rename_sizes = map (option_map r.global_expressions)

  -- `new` is the entry point `old` with its handles renamed, also in its function
  pub record IsRenamedEntryPoint (old new : entry_point.EntryPoint) : Type 0 where
    pub outside : new ≡ record old {
      workgroup_size_overrides = option_map rename_sizes old.workgroup_size_overrides;
      function = new.function;
      mesh_info = option_map rename_mesh_info old.mesh_info;
      task_payload = option_map r.global_variables old.task_payload;
      incoming_ray_payload = option_map r.global_variables old.incoming_ray_payload;
    }
    pub inside : IsRenamedFunction old.function new.function
