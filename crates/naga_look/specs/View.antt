-- What is shown of a module that passes made of an old one.
use Rattle.std.specs.Prelude.{◌≡◌, ◌≢◌, ◌↔◌, ◌++◌, Bool, true, false, List, codes, string_bytes}
use Rattle.json.specs.Print.{print}
use Rattle.json.specs.Tree.{json_tokens}
use Rattle.naga_ir.specs.declared.module.Module as the_module
use Rattle.naga_text.specs.Module.{module_text_compared}
use Rattle.naga_look.specs.Graph.{module_dot_compared}
use Rattle.naga_look.specs.Findings.{AreFindings, fault_count}
use Rattle.naga_look.specs.FindingsJson.{findings_json}
use Rattle.naga_look.specs.Report.{IsReport, ModulePasses, limit_of}
use Rattle.naga_look.specs.declared.finding.Finding.{Finding}
use Rattle.naga_look.specs.declared.shown.Extent.{Extent}
use Rattle.naga_look.specs.declared.shown.Format.{Format}
use Rattle.naga_look.specs.declared.shown.Format.TheVariants.{Lines, Json}
use Rattle.naga_look.specs.declared.shown.Shown.{Shown}
use Rattle.naga_look.specs.declared.shown.View.{View}
use Rattle.naga_look.specs.declared.shown.View.TheVariants as view

-- the view compares the module with the old one
abbrev pub compares : View → Bool
compares view.Text = true
compares view.Dot = true
compares (view.Report extent format) = false

-- the readable text of the module, in which each return is marked that the old module does not have at the same place
abbrev pub IsComparedText : (old new : the_module.Module) → Shown → Type 0
IsComparedText old new shown = (string_bytes shown.text ≡ module_text_compared old new) × (shown.faults ≡ 0)

-- the graph of the module, in which each return is marked that the old module does not have at the same place
abbrev pub IsGraph : (old new : the_module.Module) → Shown → Type 0
IsGraph old new shown = (string_bytes shown.text ≡ module_dot_compared old new) × (shown.faults ≡ 0)

-- the report on the module, and the number of its faults, which is not 0 exactly if the module does not pass
abbrev pub IsWholeReport : the_module.Module → Extent → Shown → Type 0
IsWholeReport new extent shown =
    IsReport new extent (string_bytes shown.text) shown.faults × (shown.faults ≢ 0 ↔ (¬ ModulePasses new))

-- the JSON of the findings on the module, and a newline; and the number of faults among them, which is not 0 exactly if the
-- module does not pass
abbrev pub AreShownFindings : Extent → the_module.Module → Shown → Type 0
AreShownFindings extent new shown =
    (found : List Finding) × AreFindings new (limit_of extent) found
    × (string_bytes shown.text ≡ print (json_tokens (findings_json found)) ++ codes "\n") × (shown.faults ≡ fault_count found)
    × (shown.faults ≢ 0 ↔ (¬ ModulePasses new))

-- the report on the module, in this format
abbrev pub IsShownReport : Format → Extent → the_module.Module → Shown → Type 0
IsShownReport Lines extent new shown = IsWholeReport new extent shown
IsShownReport Json extent new shown = AreShownFindings extent new shown

-- this is shown of the module
abbrev pub IsShown : View → (old new : the_module.Module) → Shown → Type 0
IsShown view.Text old new shown = IsComparedText old new shown
IsShown view.Dot old new shown = IsGraph old new shown
IsShown (view.Report extent format) old new shown = IsShownReport format extent new shown
