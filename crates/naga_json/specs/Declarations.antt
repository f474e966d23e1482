-- The values of constants, overrides, variables and arguments.
use Rattle.std.specs.Prelude.{ℕ, List, string_bytes, Option, option_map}
use Rattle.naga_kinds.specs.declared.address_space.AddressSpace.{AddressSpace}
use Rattle.naga_kinds.specs.declared.binding.Binding.{Binding}
use Rattle.naga_kinds.specs.declared.binding.ResourceBinding.{ResourceBinding}
use Rattle.naga_kinds.specs.declared.flags.MemoryDecorations.{MemoryDecorations}
use Rattle.naga_ir.specs.declared.module.Constant.{Constant}
use Rattle.naga_ir.specs.declared.module.Override.{Override}
use Rattle.naga_ir.specs.declared.module.GlobalVariable.{GlobalVariable}
use Rattle.naga_ir.specs.declared.module.LocalVariable.{LocalVariable}
use Rattle.naga_ir.specs.declared.module.FunctionArgument.{FunctionArgument}

-- a constant without the spare capacity of its name
pub record ConstantValue : Type 0 where
  pub name : Option (List ℕ)
  pub ty : ℕ
  pub init : ℕ

-- the value of a constant
abbrev pub constant_value : Constant → ConstantValue
constant_value constant = record {
  name = option_map string_bytes constant.name;
  ty = constant.ty;
  init = constant.init;
}

-- an override without the spare capacity of its name
pub record OverrideValue : Type 0 where
  pub name : Option (List ℕ)
  pub id : Option ℕ
  pub ty : ℕ
  pub init : Option ℕ

-- the value of an override
abbrev pub override_value : Override → OverrideValue
override_value override = record {
  name = option_map string_bytes override.name;
  id = override.id;
  ty = override.ty;
  init = override.init;
}

-- a global variable without the spare capacity of its name
pub record GlobalVariableValue : Type 0 where
  pub name : Option (List ℕ)
  pub space : AddressSpace
  pub binding : Option ResourceBinding
  pub ty : ℕ
  pub init : Option ℕ
  pub memory_decorations : MemoryDecorations

-- the value of a global variable
abbrev pub global_variable_value : GlobalVariable → GlobalVariableValue
global_variable_value variable = record {
  name = option_map string_bytes variable.name;
  space = variable.space;
  binding = variable.binding;
  ty = variable.ty;
  init = variable.init;
  memory_decorations = variable.memory_decorations;
}

-- an argument without the spare capacity of its name
pub record FunctionArgumentValue : Type 0 where
  pub name : Option (List ℕ)
  pub ty : ℕ
  pub binding : Option Binding

-- the value of an argument
abbrev pub function_argument_value : FunctionArgument → FunctionArgumentValue
function_argument_value argument = record {
  name = option_map string_bytes argument.name;
  ty = argument.ty;
  binding = argument.binding;
}

-- a local variable without the spare capacity of its name
pub record LocalVariableValue : Type 0 where
  pub name : Option (List ℕ)
  pub ty : ℕ
  pub init : Option ℕ

-- the value of a local variable
abbrev pub local_variable_value : LocalVariable → LocalVariableValue
local_variable_value variable = record {
  name = option_map string_bytes variable.name;
  ty = variable.ty;
  init = variable.init;
}
