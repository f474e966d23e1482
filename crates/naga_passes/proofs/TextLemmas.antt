-- What passes make of a module that is a text: lemmas on specs/Text.antt.
use Rattle.std.proofs.Common.{◌≡◌, ◌∙◌, sym, ℕ, List, Some}
use Rattle.std.specs.Prelude.{Ok}
use Rattle.naga_json.specs.Module.{module_in_text, module_value}
use Rattle.naga_json.specs.Text.{document}
use Rattle.naga_json.specs.Unspanned.{unspanned_module}
use Rattle.naga_json.proofs.TextLemmas.{document-print}
use Rattle.naga_ir.specs.declared.module.Module as the_module
use Rattle.naga_json_read.specs.Module.{ReadsModule}
use Rattle.naga_json_round_trip.specs.Module.{ModuleFits}
use Rattle.naga_json_round_trip.proofs.ModuleLemmas.{IsRead-module}
use Rattle.naga_passes.specs.Text.{IsText, WritesAfter}
use Rattle.naga_passes.specs.declared.pass.Pass.{Pass}
use Rattle.naga_valid.specs.Valid.{HandlesAreValid}

-- a module that was read, and whose handles are valid
pub IsText-read : (whole : the_module.Module) (text : List ℕ) → ReadsModule (Ok whole) (document text) → HandlesAreValid whole → IsText whole text
IsText-read whole text means valid = record { meaning = means.0; distinct = means.1; valid = valid }

-- ---- what is read back

-- the text is read as the module that was written, with undefined spans
pub module_in_text-written : (passes : List Pass) (old : the_module.Module) (text : List ℕ) (written : WritesAfter passes old text) → ModuleFits written.new →
    module_in_text text ≡ Some (unspanned_module (module_value written.new))
module_in_text-written passes old text written fits =
    let read = IsRead-module written.new written.j fits written.written in
    rw written.printed (rw (document-print written.j read.numbers written.shallow) read.reads)

-- a module as which the text is read is the one that was written, with undefined spans
pub module_value-read : (passes : List Pass) (old read : the_module.Module) (text : List ℕ) (written : WritesAfter passes old text) → ModuleFits written.new → module_in_text text ≡ Some (module_value read) →
    module_value read ≡ unspanned_module (module_value written.new)
module_value-read passes old read text written fits is =
    let found : Some (module_value read) ≡ Some (unspanned_module (module_value written.new)) = sym is ∙ module_in_text-written passes old text written fits in cc
