-- The handles that declarations contain, renamed.
use Rattle.std.specs.Prelude.{option_map}
use Rattle.naga_ir.specs.declared.module.Constant as constant
use Rattle.naga_ir.specs.declared.module.GlobalVariable as global
use Rattle.naga_ir.specs.declared.module.LocalVariable as local
use Rattle.naga_ir.specs.declared.module.Override as override
use Rattle.naga_compact.specs.Renaming.{Renaming}

module _ (r : Renaming) where
  -- the constant with its type and its init renamed
  abbrev pub rename_constant : constant.Constant → constant.Constant
  rename_constant declared = record declared { ty = r.types declared.ty; init = r.global_expressions declared.init }

  -- the override with its type and its init renamed
  abbrev pub rename_override : override.Override → override.Override
  rename_override declared =
      record declared { ty = r.types declared.ty; init = option_map r.global_expressions declared.init }

  -- the global variable with its type and its init renamed
  abbrev pub rename_global_variable : global.GlobalVariable → global.GlobalVariable
  rename_global_variable declared =
      record declared { ty = r.types declared.ty; init = option_map r.global_expressions declared.init }

  -- the local variable with its type and its init renamed
  abbrev pub rename_local_variable : local.LocalVariable → local.LocalVariable
  rename_local_variable declared =
      record declared { ty = r.types declared.ty; init = option_map r.expressions declared.init }
