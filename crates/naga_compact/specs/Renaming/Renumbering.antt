-- The renaming of a module's handles, by the sets of the elements that are kept.
use Rattle.naga_compact.specs.Kept.{new_index}
use Rattle.naga_compact.specs.Renaming.{Renaming, unchanged}
use Rattle.naga_compact.specs.declared.module.renumbering.ModuleRenumbering.{ModuleRenumbering}

-- the new indices of the elements of a module's arenas; handles inside a function are unchanged
abbrev pub renaming_of : ModuleRenumbering → Renaming
renaming_of kept = record unchanged {
  types = new_index kept.types;
  constants = new_index kept.constants;
  overrides = new_index kept.overrides;
  global_variables = new_index kept.global_variables;
  global_expressions = new_index kept.global_expressions;
  functions = new_index kept.functions;
}
