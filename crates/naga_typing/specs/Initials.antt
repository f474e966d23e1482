-- What declarations require of their initial values: that these have the types declared.
use Rattle.std.specs.Prelude.{ℕ, List, map, Option}
use Rattle.naga_arena.specs.Arena.{values}
use Rattle.naga_ir.specs.declared.module.Constant as constant
use Rattle.naga_ir.specs.declared.module.Function as function
use Rattle.naga_ir.specs.declared.module.GlobalVariable as global_variable
use Rattle.naga_ir.specs.declared.module.LocalVariable as local_variable
use Rattle.naga_ir.specs.declared.module.Module as the_module
use Rattle.naga_ir.specs.declared.module.Override as override
use Rattle.naga_typing.specs.Statements.{of_type, of_type_if}
use Rattle.naga_typing.specs.declared.initial.Initialized.{Initialized}
use Rattle.naga_typing.specs.declared.initial.Initialized.TheVariants as initial
use Rattle.naga_typing.specs.declared.initial.DeclarationKind.{DeclarationKind}
use Rattle.naga_typing.specs.declared.initial.DeclarationKind.TheVariants as kind
use Rattle.naga_typing.specs.declared.requirement.Requirement.{Requirement}
use Rattle.naga_typing.specs.declared.requirement.Source.TheVariants as source

-- a constant has its value
abbrev pub of_constant : constant.Constant → Option Requirement
of_constant declared = of_type (source.Declared declared.ty) declared.init

-- an override may have a default value
abbrev pub of_override : override.Override → Option Requirement
of_override declared = of_type_if (source.Declared declared.ty) declared.init

-- a global variable may have an initial value
abbrev pub of_global_variable : global_variable.GlobalVariable → Option Requirement
of_global_variable declared = of_type_if (source.Declared declared.ty) declared.init

-- a local variable may have an initial value
abbrev pub of_local_variable : local_variable.LocalVariable → Option Requirement
of_local_variable declared = of_type_if (source.Declared declared.ty) declared.init

-- what constants require of their values, by their handles
abbrev pub constants_of : the_module.Module → List (Option Requirement)
constants_of whole = map of_constant (values whole.constants)

-- what overrides require of their default values
abbrev pub overrides_of : the_module.Module → List (Option Requirement)
overrides_of whole = map of_override (values whole.overrides)

-- what global variables require of their initial values
abbrev pub variables_of : the_module.Module → List (Option Requirement)
variables_of whole = map of_global_variable (values whole.global_variables)

-- what the variables of a function require of their initial values
abbrev pub locals_of : function.Function → List (Option Requirement)
locals_of inside = map of_local_variable (values inside.local_variables)

-- what the declarations of this kind require, by their handles: those of a module, and the variables of a function
abbrev pub initials : the_module.Module → function.Function → DeclarationKind → List (Option Requirement)
initials whole inside kind.Constant = constants_of whole
initials whole inside kind.Override = overrides_of whole
initials whole inside kind.GlobalVariable = variables_of whole
initials whole inside kind.LocalVariable = locals_of inside

-- the declaration of this kind with this handle
abbrev pub declaration_at : DeclarationKind → ℕ → Initialized
declaration_at kind.Constant handle = initial.Constant handle
declaration_at kind.Override handle = initial.Override handle
declaration_at kind.GlobalVariable handle = initial.GlobalVariable handle
declaration_at kind.LocalVariable handle = initial.LocalVariable handle
