-- A text that is taken whole is read as the value.
use Rattle.std.proofs.Common.{◌≡◌, ◌∙◌, refl, sym, ℕ, List, [], Option, Some, None, IfSome, Ok, option_and_then}
use Rattle.json.specs.Json.{Json}
use Rattle.json.specs.Lex.{tokens}
use Rattle.json.specs.Token.{Token}
use Rattle.naga_ir.specs.declared.module.Module as the_module
use Rattle.naga_json.specs.Module.{module_form, module_value}
use Rattle.naga_json.specs.Numbers.{◌>>=◌}
use Rattle.naga_json.specs.Text.{document}
use Rattle.naga_json_tokens.specs.Levels.{shallow}
use Rattle.naga_json_tokens.specs.Takes.{Takes}
use Rattle.naga_json_tokens.proofs.TakesLemmas.{takes_document}
use Rattle.naga_json_types.specs.Arenas.{AreDistinct}
use Rattle.naga_json_read.specs.Module.{ReadsModule}

and_then : {A B : Type 0} (o : Option A) (f : A → Option B) → (o >>= f) ≡ option_and_then f o
and_then None f = refl
and_then (Some x) f = refl

document-taken : {A : Type 0} (meaning : Json → Option A) (value : A) (text : List ℕ) (old new : List Token) → old ≡ shallow 0 (tokens text) → Takes meaning value old new → new ≡ []
    → Some value ≡ (document text >>= meaning)
document-taken meaning value text old new begun taken ended =
    sym (and_then (document text) meaning ∙ takes_document meaning value text old new begun taken ended)

-- a module that a text ends with is the module that the text represents
pub module-taken : (result : Option the_module.Module) (text : List ℕ) (old : List Token) → old ≡ shallow 0 (tokens text)
    → IfSome result (λ whole. Takes module_form.decode (module_value whole) old []) → IfSome result (λ whole. AreDistinct (module_value whole).types)
    → IfSome result (λ whole. ReadsModule (Ok whole) (document text))
module-taken None text old begun taken distinct = tt
module-taken (Some whole) text old begun taken distinct = (document-taken module_form.decode (module_value whole) text old [] begun taken refl, distinct)
