-- What passes make of a module that is a text.
use Rattle.std.specs.Prelude.{◌≡◌, ◌≤◌, ℕ, List, Some}
use Rattle.json.specs.Json.{Json}
use Rattle.naga_json.specs.Text.{document}
use Rattle.naga_json.specs.declared.nesting.TheConstants.{MAX_NESTING}
use Rattle.json.specs.Print.{print}
use Rattle.json.specs.Tree.{depth, json_tokens}
use Rattle.naga_ir.specs.declared.module.Module as the_module
use Rattle.naga_json_types.specs.Arenas.{AreDistinct}
use Rattle.naga_json.specs.Module.{module_form, module_value}
use Rattle.naga_json.specs.Numbers.{◌>>=◌}
use Rattle.naga_json_write.specs.Module.{IsModuleJson}
use Rattle.naga_valid.specs.Valid.{HandlesAreValid}
use Rattle.naga_passes.specs.After.{After}
use Rattle.naga_passes.specs.declared.pass.Pass.{Pass}

-- the text represents the module, which has no type twice and whose handles are valid
pub record IsText (whole : the_module.Module) (text : List ℕ) : Type 0 where
  pub meaning : Some (module_value whole) ≡ (document text >>= module_form.decode)
  pub distinct : AreDistinct (module_value whole).types
  pub valid : HandlesAreValid whole

-- `text` is the JSON of what the passes make of the module, and not nested too deep to be read
pub record WritesAfter (passes : List Pass) (old : the_module.Module) (text : List ℕ) : Type 0 where
  pub new : the_module.Module
  pub j : Json
  pub after : After passes old new
  pub written : IsModuleJson new j
  pub shallow : depth j ≤ MAX_NESTING
  pub printed : text ≡ print (json_tokens j)

-- the first text represents a module, and the second one is the JSON of what the passes make of it
abbrev pub TransformsText : List Pass → (text written : List ℕ) → Type 0
TransformsText passes text written = (whole : the_module.Module) × IsText whole text × WritesAfter passes whole written
