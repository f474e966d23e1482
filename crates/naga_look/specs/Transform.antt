-- What passes make of a module that is a text, as an answer, and what they do.
use Rattle.std.specs.Prelude.{◌≡◌, ◌≢◌, ◌≤◌, ◌⊎◌, ⊤, ℕ, false, List, [], ◌++◌, codes, Err, Option, Some, None, String, string_bytes}
use Rattle.std.specs.declared.alloc.Global.{Global}
use Rattle.json.specs.Json.{Json}
use Rattle.json.specs.Print.{print}
use Rattle.json.specs.Tree.{depth, json_tokens}
use Rattle.naga_bounds.specs.declared.restrict_error.RestrictError.{RestrictError}
use Rattle.naga_ir.specs.declared.module.Module as the_module
use Rattle.naga_json.specs.Text.{document}
use Rattle.naga_json.specs.declared.nesting.TheConstants.{MAX_NESTING}
use Rattle.naga_json_read.specs.Messages.{read_error_text}
use Rattle.naga_json_read.specs.Module.{ReadsModule}
use Rattle.naga_json_read.specs.declared.read_error.ReadError.{ReadError}
use Rattle.naga_json_read.specs.declared.read_error.ReadError.TheVariants as read
use Rattle.naga_json_write.specs.Module.{IsModuleJson, IsReason}
use Rattle.naga_json_write.specs.WriteError.{write_error_text}
use Rattle.naga_json_write.specs.declared.write_error.WriteError.{WriteError}
use Rattle.naga_json_write.specs.declared.write_error.WriteError.TheVariants as write
use Rattle.naga_passes.specs.After.{After, StopsAt}
use Rattle.naga_passes.specs.Text.{IsText, TransformsText}
use Rattle.naga_passes.specs.declared.pass.Pass.{Pass}
use Rattle.naga_passes.specs.declared.pass_error.PassFault.{PassFault}
use Rattle.naga_passes.specs.declared.pass_error.PassFault.TheVariants as pass
use Rattle.naga_look.specs.RestrictMessage.{IsRestrictMessage}
use Rattle.naga_look.specs.Stats.{Accounts}
use Rattle.naga_look.specs.View.{IsShown, compares}
use Rattle.naga_look.specs.declared.shown.Shown.{Shown}
use Rattle.naga_look.specs.declared.shown.View.{View}
use Rattle.naga_look.specs.declared.stats.Account.{Account}
use Rattle.naga_look.specs.declared.stats.Detail.{Detail}
use Rattle.naga_look.specs.declared.transform_error.TransformError.{TransformError}
use Rattle.naga_look.specs.declared.transform_error.TransformError.TheVariants.{Memory, Read, Write, Restrict}

-- ---- answers to a text

-- the text represents a module, and this is shown of what the passes make of it, beside a module that the text represents
pub record ShowsText (view : View) (passes : List Pass) (text : List ℕ) (shown : Shown) : Type 0 where
  pub read : the_module.Module
  pub reads : IsText read text
  pub new : the_module.Module
  pub after : After passes read new
  pub old : the_module.Module
  pub represents : IsText old text
  pub shows : IsShown view old new shown

-- this is the answer to the text after these passes: what is shown, or the JSON
abbrev pub IsAnswerAfter : List Pass → Option View → (text : List ℕ) → Shown → Type 0
IsAnswerAfter passes None text shown = TransformsText passes text (string_bytes shown.text) × (shown.faults ≡ 0)
IsAnswerAfter passes (Some view) text shown = ShowsText view passes text shown

-- the text represents a module, and this is the account of what the passes do to it
abbrev pub IsAccountOf : Detail → List Pass → (text : List ℕ) → Account → Type 0
IsAccountOf detail passes text account =
    (old new : the_module.Module) × IsText old text
    × Accounts detail passes old new account.counts.items (string_bytes account.notes)

-- One of the passes restricts, and cannot clamp the accesses of a function. Those before it were run, and the message is the
-- one about what they left.
pub record StopsWith (passes : List Pass) (text message : List ℕ) : Type 0 where
  pub old : the_module.Module
  pub reads : IsText old text
  pub position : ℕ
  pub reason : RestrictError
  pub new : the_module.Module
  pub stops : StopsAt position (pass.Restrict reason) passes old new
  pub says : IsRestrictMessage new reason message

-- this is the reason why what the passes make of a module that the text represents is not written
pub record IsNotWritten (passes : List Pass) (text : List ℕ) (error : WriteError) : Type 0 where
  pub old : the_module.Module
  pub reads : IsText old text
  pub new : the_module.Module
  pub after : After passes old new
  pub other : error ≢ write.Memory
  pub reason : IsReason new error

-- Answering the text after these passes may have this error: an allocation failed, the text was not read as a module, one of
-- the passes stopped, or what they make of the module is not written where it is to be.
abbrev pub MayFailAfter : List Pass → Option View → List ℕ → TransformError → Type 0
MayFailAfter passes view text Memory = ⊤
MayFailAfter passes view text (Read error) = (error ≢ read.Memory) × ReadsModule (Err error) (document text)
MayFailAfter passes view text (Write error) = (view ≡ None) × IsNotWritten passes text error
MayFailAfter passes view text (Restrict message) = StopsWith passes text (string_bytes message)

-- the message of an error
abbrev pub transform_error_text : TransformError → List ℕ
transform_error_text Memory = codes "out of memory"
transform_error_text (Read error) = read_error_text error
transform_error_text (Write error) = write_error_text error
transform_error_text (Restrict message) = string_bytes message

-- ---- errors of the parts

-- the error of a text that was not read
abbrev pub error_of_read : ReadError → TransformError
error_of_read read.Memory = Memory
error_of_read error = Read error

-- the error of a module that was not written
abbrev pub error_of_write : WriteError → TransformError
error_of_write write.Memory = Memory
error_of_write error = Write error

-- the error of a pass that stopped for this reason, and left this module
abbrev pub IsErrorOfPass : the_module.Module → PassFault → TransformError → Type 0
IsErrorOfPass left pass.Memory error = error ≡ Memory
IsErrorOfPass left (pass.Restrict reason) error =
    (error ≡ Memory)
    ⊎ ((message : String Global) × (error ≡ Restrict message) × IsRestrictMessage left reason (string_bytes message))

-- ---- answers about a module that passes made

-- this is the JSON of the module, which is not nested too deep to be read
pub record IsJson (new : the_module.Module) (shown : Shown) : Type 0 where
  pub j : Json
  pub written : IsModuleJson new j
  pub shallow : depth j ≤ MAX_NESTING
  pub printed : string_bytes shown.text ≡ print (json_tokens j)
  pub sound : shown.faults ≡ 0

-- This is shown of the module, which the passes made of one that the text represents: beside a module that the text
-- represents, or beside itself if there are no passes or the view compares nothing.
abbrev pub IsShownAfter : List Pass → View → (text : List ℕ) → the_module.Module → Shown → Type 0
IsShownAfter passes view text new shown =
    ((old : the_module.Module) × IsText old text × IsShown view old new shown)
    ⊎ (((passes ≡ []) ⊎ (compares view ≡ false)) × IsShown view new new shown)

-- this is the answer about the module, which the passes made of one that the text represents
abbrev pub IsAnswerOf : List Pass → Option View → (text : List ℕ) → the_module.Module → Shown → Type 0
IsAnswerOf passes None text new shown = IsJson new shown
IsAnswerOf passes (Some view) text new shown = IsShownAfter passes view text new shown

-- showing the module, which passes made of what the text represents, or writing it may have this error
abbrev pub MayFailToAnswer : Option View → (text : List ℕ) → the_module.Module → TransformError → Type 0
MayFailToAnswer view text new Memory = ⊤
MayFailToAnswer view text new (Read error) = (error ≢ read.Memory) × ReadsModule (Err error) (document text)
MayFailToAnswer view text new (Write error) = (view ≡ None) × (error ≢ write.Memory) × IsReason new error
MayFailToAnswer view text new (Restrict message) = ⊥
