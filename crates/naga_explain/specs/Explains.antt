-- What is to be said of a text that was not read as a module.
use Rattle.std.specs.Prelude.{◌≡◌, ℕ, List, Option, Some, None, IsSome}
use Rattle.json.specs.Json.{Json}
use Rattle.json_fault.specs.Fault.{IsTextFault}
use Rattle.naga_ir.specs.declared.module.Module as the_module
use Rattle.naga_json.specs.Module.{ModuleValue, module_form, module_value}
use Rattle.naga_json.specs.Numbers.{◌>>=◌}
use Rattle.naga_json.specs.Text.{document}
use Rattle.naga_json.specs.declared.nesting.TheConstants.{MAX_NESTING}
use Rattle.naga_json_types.specs.Arenas.{AreDistinct}
use Rattle.naga_json_values.specs.declared.cause.Cause.{Cause}
use Rattle.naga_json_read.specs.declared.read_error.ReadError.{ReadError}
use Rattle.naga_json_read.specs.declared.read_error.ReadError.TheVariants as read
use Rattle.naga_schema.specs.Fault.{fault}
use Rattle.naga_schema.specs.Leads.{LeadsToFault}
use Rattle.naga_schema.specs.Path.{found_of}
use Rattle.naga_schema.specs.declared.derived.type_name.TypeName.TheVariants as type_name
use Rattle.naga_valid.specs.declared.invalid_handle.InvalidHandle.{InvalidHandle}
use Rattle.naga_explain.specs.Items.{IsItemAtFault}
use Rattle.naga_explain.specs.Position.{IsPosition}
use Rattle.naga_explain.specs.declared.explanation.Explanation.{Explanation}
use Rattle.naga_explain.specs.declared.explanation.Explanation.TheVariants.{Text, Value, Handle, Error}

-- The text is not JSON, and this is its first fault, with its place in a file that has this many bytes before the text. Or
-- the text is JSON, and the error itself is shown.
abbrev pub ExplainsText : List ℕ → (skipped offset : ℕ) → Explanation → Type 0
ExplainsText text skipped offset (Text found position) = IsTextFault text found × IsPosition text skipped found.offset position
ExplainsText text skipped offset (Value found) = ⊥
ExplainsText text skipped offset (Handle invalid item whole) = ⊥
ExplainsText text skipped offset (Error error) = (error ≡ read.Text offset) × IsSome (document text)

-- The JSON of the text has this fault first, and the path leads to a value that has it. Or it has none, and the error
-- itself is shown.
abbrev pub ExplainsValue : Option Json → Cause → Explanation → Type 0
ExplainsValue text reason (Text found position) = ⊥
ExplainsValue text reason (Value found) =
    (j : Json) × (Some j ≡ text) × (Some (found_of found) ≡ fault j MAX_NESTING type_name.Module) × LeadsToFault j (found_of found)
ExplainsValue text reason (Handle invalid item whole) = ⊥
ExplainsValue text reason (Error error) =
    (error ≡ read.Value reason) × ((j : Json) → Some j ≡ text → None ≡ fault j MAX_NESTING type_name.Module)

-- The text represents this module, whose names are shown with the handle, and this is the item that contains the handle.
-- Or it represents none without a type twice, and the error itself is shown.
abbrev pub ExplainsHandle : Option Json → InvalidHandle → Explanation → Type 0
ExplainsHandle text invalid (Text found position) = ⊥
ExplainsHandle text invalid (Value found) = ⊥
ExplainsHandle text invalid (Handle shown item whole) =
    (shown ≡ invalid) × (Some (module_value whole) ≡ (text >>= module_form.decode)) × IsItemAtFault whole shown item
ExplainsHandle text invalid (Error error) =
    (error ≡ read.Handle invalid) × ((value : ModuleValue) → Some value ≡ (text >>= module_form.decode) → ¬ AreDistinct value.types)

-- This is to be said of a text with this error, in a file that has this many bytes before the text: nothing but the error
-- if an allocation failed.
abbrev pub Explains : List ℕ → (skipped : ℕ) → ReadError → Explanation → Type 0
Explains text skipped (read.Text offset) explanation = ExplainsText text skipped offset explanation
Explains text skipped (read.Value reason) explanation = ExplainsValue (document text) reason explanation
Explains text skipped (read.Handle invalid) explanation = ExplainsHandle (document text) invalid explanation
Explains text skipped read.Memory explanation = explanation ≡ Error read.Memory
