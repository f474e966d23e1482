-- Modules.
use Rattle.std.specs.Prelude.{◌≡◌, ◌≢◌, ⊤, Option, Some, None, Result, Ok, Err}
use Rattle.json.specs.Json.{Json}
use Rattle.json.specs.Value.{value_view}
use Rattle.json.specs.declared.value.Value.{Value}
use Rattle.std.specs.declared.alloc.Global.{Global}
use Rattle.naga_ir.specs.declared.module.Module as the_module
use Rattle.naga_valid.specs.Faults.{IsAtFault}
use Rattle.naga_json.specs.Numbers.{◌>>=◌}
use Rattle.naga_json.specs.Module.{ModuleValue, module_form, module_value}
use Rattle.naga_json_types.specs.Arenas.{AreDistinct, RepeatsAt}
use Rattle.naga_json_values.specs.declared.cause.Cause.{Cause}
use Rattle.naga_json_values.specs.declared.cause.Cause.TheVariants as cause
use Rattle.naga_json_read.specs.Parts.{DeclarationsValue, declarations_in, declarations_value, DefinitionsValue, definitions_in, definitions_value}
use Rattle.naga_json_read.specs.declared.read.module.Rest.{Rest}
use Rattle.naga_json_read.specs.declared.read_error.ReadError.{ReadError}
use Rattle.naga_json_read.specs.declared.read_error.ReadError.TheVariants as error

-- The parser returned the JSON of the text. Or an allocation failed, or the text is not JSON.
abbrev pub Parses : Result (Value Global) ReadError → Option Json → Type 0
Parses (Ok value) text = text ≡ Some (value_view value)
Parses (Err error.Memory) text = ⊤
Parses (Err (error.Text offset)) text = text ≡ None
Parses (Err (error.Value reason)) text = ⊥
Parses (Err (error.Handle fault)) text = ⊥

-- the error of a module that was not read for this reason
abbrev pub error_of : Cause → ReadError
error_of cause.Memory = error.Memory
error_of other = error.Value other

-- all of a module but its types
pub record RestValue : Type 0 where
  pub declarations : DeclarationsValue
  pub definitions : DefinitionsValue

-- the value of all of a module but its types
abbrev pub rest_value : Rest → RestValue
rest_value rest = record {
  declarations = declarations_value rest.declarations;
  definitions = definitions_value rest.definitions;
}

-- all of a module but its types, if there are both parts
abbrev pub whole_rest : Option DeclarationsValue → Option DefinitionsValue → Option RestValue
whole_rest declarations definitions = declarations >>= λ a. definitions >>= λ b. Some (record { declarations = a; definitions = b })

-- what the fields of a module represent, but for its types
unfoldable pub rest_in : Json → Option RestValue
rest_in value = whole_rest (declarations_in value) (definitions_in value)

-- Why a module is not read: a type is the same as an earlier one, if there is a module at all. Or there is none. Or an
-- allocation failed.
abbrev pub RefusesModule : Cause → Option ModuleValue → Type 0
RefusesModule (cause.RepeatedType position) meaning = (value : ModuleValue) → Some value ≡ meaning → RepeatsAt position value.types
RefusesModule cause.Memory meaning = ⊤
RefusesModule other meaning = None ≡ meaning

-- The reader returned a module, which is the meaning, and has no type twice. Or it returned the reason why not.
abbrev pub ReadsParts : Result the_module.Module Cause → Option ModuleValue → Type 0
ReadsParts (Ok whole) meaning = (Some (module_value whole) ≡ meaning) × AreDistinct (module_value whole).types
ReadsParts (Err reason) meaning = RefusesModule reason meaning

-- The reader returned the module that the JSON of the text represents, which has no type twice. Or an allocation
-- failed, or the text is not JSON, or the JSON represents no module or one with a type twice, or the module has a
-- handle that is not valid.
abbrev pub ReadsModule : Result the_module.Module ReadError → Option Json → Type 0
ReadsModule (Ok whole) text = (Some (module_value whole) ≡ (text >>= module_form.decode)) × AreDistinct (module_value whole).types
ReadsModule (Err error.Memory) text = ⊤
ReadsModule (Err (error.Text offset)) text = text ≡ None
ReadsModule (Err (error.Value reason)) text =
    (reason ≢ cause.Memory) × ((j : Json) × (text ≡ Some j) × RefusesModule reason (module_form.decode j))
ReadsModule (Err (error.Handle fault)) text = (whole : the_module.Module) × (Some (module_value whole) ≡ (text >>= module_form.decode)) × IsAtFault whole fault
