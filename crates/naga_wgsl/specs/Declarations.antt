-- The declarations of constants, overrides and variables of a module.
use Rattle.std.specs.Prelude.{ℕ, ◌==◌, List, [], ◌++◌, Option, Some, None, Result, Ok, Err, codes, if◌then◌else◌}
use Rattle.std.specs.Fmt.{decimal}
use Rattle.naga_kinds.specs.declared.address_space.AddressSpace.{AddressSpace}
use Rattle.naga_kinds.specs.declared.binding.ResourceBinding.{ResourceBinding}
use Rattle.naga_ir.specs.declared.module.Constant.{Constant}
use Rattle.naga_ir.specs.declared.module.GlobalVariable.{GlobalVariable}
use Rattle.naga_ir.specs.declared.module.Override.{Override}
use Rattle.naga_wgsl.specs.Operations.{between, followed, operand_text}
use Rattle.naga_wgsl.specs.Spaces.{space_text}
use Rattle.naga_wgsl.specs.Structures.{typed_text}
use Rattle.naga_wgsl.specs.TypeTexts.{text_at}
use Rattle.naga_wgsl.specs.declared.write_error.Cause.{Cause}
use Rattle.naga_wgsl.specs.declared.write_error.Cause.TheVariants as cause

-- the number of an override, if it has one
abbrev pub id_text : Option ℕ → List ℕ
id_text (Some id) = codes "@id(" ++ (decimal id ++ codes ") ")
id_text None = []

-- the place of a resource, if it is one
abbrev pub resource_text : Option ResourceBinding → List ℕ
resource_text (Some place) = (codes "@group(" ++ (decimal place.group ++ codes ") ")) ++ (codes "@binding(" ++ (decimal place.binding ++ codes ") "))
resource_text None = []

-- a variable in an address space
abbrev pub variable_text : AddressSpace → Result (List ℕ) Cause
variable_text space = between (codes "var") (space_text space) (codes " ")

-- an initial value, if there is one
abbrev pub initial_text : (known : List (Result (List ℕ) Cause)) → (init : Option ℕ) → Result (List ℕ) Cause
initial_text known (Some init) = operand_text known (codes " = ") init
initial_text known None = Ok []

module _ (types known : List (Result (List ℕ) Cause)) where
  -- a name, its type and its initial value
  abbrev pub initialized_text : (name : List ℕ) (ty : ℕ) (init : Option ℕ) → Result (List ℕ) Cause
  initialized_text name ty init = followed (typed_text (Ok name) (text_at types ty)) (initial_text known init)

  -- a constant with a name
  abbrev pub constant_text : (name : List ℕ) → Constant → Result (List ℕ) Cause
  constant_text name declared = between (codes "const ") (initialized_text name declared.ty (Some declared.init)) (codes ";\n")

  -- an override with a name
  abbrev pub override_text : (name : List ℕ) → Override → Result (List ℕ) Cause
  override_text name declared = between (id_text declared.id ++ codes "override ") (initialized_text name declared.ty declared.init) (codes ";\n")

  -- a variable of a module with a name; WGSL does not say how its memory is used
  abbrev pub global_variable_text : (name : List ℕ) → GlobalVariable → Result (List ℕ) Cause
  global_variable_text name declared =
      if declared.memory_decorations.0 == 0
      then between (resource_text declared.binding) (followed (variable_text declared.space) (initialized_text name declared.ty declared.init)) (codes ";\n")
      else Err cause.Decorations
