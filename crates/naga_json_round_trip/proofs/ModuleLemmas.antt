-- Modules are read as they are written, and a module that was read is read as it was written.
use Rattle.std.proofs.Common.{◌≡◌, ◌∙◌, sym, subst, Option, Some, None, Result, Ok, Err, IfOk, IfSome}
use Rattle.json.specs.Json.{Json}
use Rattle.naga_ir.specs.declared.module.Module as the_module
use Rattle.naga_json.specs.Lawful.{Gives, IsRead}
use Rattle.naga_json.specs.Module.{ModuleValue, module_form, module_value}
use Rattle.naga_json.specs.Numbers.{◌>>=◌}
use Rattle.naga_json.specs.Unspanned.{unspanned_module}
use Rattle.naga_json.proofs.ModuleLemmas.{lawful-module}
use Rattle.naga_json.proofs.UnspannedLemmas.{Writes-unspanned_module}
use Rattle.naga_json_read.specs.Module.{ReadsModule}
use Rattle.naga_json_read.specs.declared.read_error.ReadError.{ReadError}
use Rattle.naga_json_write.specs.Module.{IsModuleJson}
use Rattle.naga_json_round_trip.specs.Module.{ModuleFits}
use Rattle.naga_json_round_trip.proofs.UnspannedLemmas.{same_module, written-unspanned}

-- the JSON of a module that fits represents the module, without spans
pub IsRead-module : (whole : the_module.Module) (j : Json) → ModuleFits whole → IsModuleJson whole j → IsRead module_form.decode (unspanned_module (module_value whole)) j
IsRead-module whole j fits is =
    lawful-module.reads (unspanned_module (module_value whole)) j (subst module_form.Fits (written-unspanned whole j is) fits) (Writes-unspanned_module (module_value whole) j is.writes)

fits_if_read : (value : ModuleValue) (o : Option ModuleValue) → Some value ≡ o → Gives module_form.Fits o → module_form.Fits value
fits_if_read value o is gives = subst (λ found. IfSome found module_form.Fits) (sym is) gives.holds

-- a module that was read fits
pub ModuleFits-read : (whole : the_module.Module) (text : Option Json) → ReadsModule (Ok whole) text → ModuleFits whole
ModuleFits-read whole None reads = let none = reads.0 in absurd (cc)
ModuleFits-read whole (Some j) reads =
    let fits = fits_if_read (module_value whole) (module_form.decode j) reads.0 (lawful-module.gives j) in
    subst module_form.Fits (sym (same_module (module_value whole) fits)) fits

-- a module that was read is the one that the text represents
pub same_if_read : (result : Result the_module.Module ReadError) (text : Option Json) (value : ModuleValue) → ReadsModule result text → (text >>= module_form.decode) ≡ Some value → IfOk result (λ again. module_value again ≡ value)
same_if_read (Ok again) None value reads is = absurd (cc)
same_if_read (Ok again) (Some j) value reads is = let both : Some (module_value again) ≡ Some value = reads.0 ∙ is in cc
same_if_read (Err error) text value reads is = tt
