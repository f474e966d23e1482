-- Answers to a text after passes, and the errors of answering: lemmas on specs/Transform.antt.
use Rattle.std.proofs.Common.{◌≡◌, inl, inr, subst, sym, ℕ, List, Option, Some, None}
use Rattle.std.specs.Prelude.{Result, Ok, Err, IfErr, IsErrAnd}
use Rattle.naga_json.specs.Text.{document}
use Rattle.naga_ir.specs.declared.module.Module as the_module
use Rattle.naga_json_read.specs.Module.{ReadsModule}
use Rattle.naga_json_read.specs.declared.read_error.ReadError.{ReadError}
use Rattle.naga_json_read.specs.declared.read_error.ReadError.TheVariants as read
use Rattle.naga_passes.specs.After.{After}
use Rattle.naga_passes.specs.Text.{IsText}
use Rattle.naga_passes.specs.declared.pass.Pass.{Pass}
use Rattle.naga_passes.specs.declared.pass_error.PassFault.{PassFault}
use Rattle.naga_passes.specs.declared.pass_error.PassFault.TheVariants as pass
use Rattle.naga_look.specs.Stats.{StopsCounting}
use Rattle.naga_look.specs.Transform.{IsAnswerAfter, IsAnswerOf, IsErrorOfPass, MayFailAfter, MayFailToAnswer, error_of_read}
use Rattle.naga_look.specs.declared.shown.Shown.{Shown}
use Rattle.naga_look.specs.declared.shown.View.{View}
use Rattle.naga_look.specs.declared.transform_error.TransformError.{TransformError}
use Rattle.naga_look.specs.declared.transform_error.TransformError.TheVariants.{Memory, Read, Write, Restrict}
use Rattle.naga_look.proofs.ViewLemmas.{IsShown-alone}

-- a result whose error is one with a property
IfErr-same : {T E : Type 0} (P : E → Type 0) (r : Result T E) (error : E) → IsErrAnd r (λ e. e ≡ error) → P error → IfErr r P
IfErr-same P (Ok value) error same holds = tt
IfErr-same P (Err e) error same holds = subst P (sym same) holds

-- ---- the text

MayFailAfter-read : (passes : List Pass) (view : Option View) (text : List ℕ) (given : ReadError) → ReadsModule (Err given) (document text) → MayFailAfter passes view text (error_of_read given)
MayFailAfter-read passes view text read.Memory reads = tt
MayFailAfter-read passes view text given reads = ((λ same. cc), reads)

-- the error of a text that was not read
pub MayFailAfter-converted : {T : Type 0} (passes : List Pass) (view : Option View) (text : List ℕ) (r : Result T TransformError) (given : ReadError)
    → IsErrAnd r (λ e. e ≡ error_of_read given) → ReadsModule (Err given) (document text) → IfErr r (MayFailAfter passes view text)
MayFailAfter-converted passes view text r given same reads =
    IfErr-same (MayFailAfter passes view text) r (error_of_read given) same (MayFailAfter-read passes view text given reads)

-- ---- passes

-- one of the passes stopped, or an allocation failed before it
pub MayFailAfter-stopped : (passes : List Pass) (view : Option View) (text : List ℕ) (old new : the_module.Module) (position : ℕ) (fault : PassFault) (error : TransformError)
    → IsErrorOfPass new fault error → IsText old text → StopsCounting position fault passes old new → MayFailAfter passes view text error
MayFailAfter-stopped passes view text old new position pass.Memory error same is stops = subst (MayFailAfter passes view text) (sym same) tt
MayFailAfter-stopped passes view text old new position (pass.Restrict reason) error (inl same) is stops = subst (MayFailAfter passes view text) (sym same) tt
MayFailAfter-stopped passes view text old new position (pass.Restrict reason) error (inr (message, same, says)) is (inl stops) =
    subst (MayFailAfter passes view text) (sym same)
    (record { old = old; reads = is; position = position; reason = reason; new = new; stops = stops; says = says })
MayFailAfter-stopped passes view text old new position (pass.Restrict reason) error (inr said) is (inr unbegun) =
    absurd (let same : pass.Restrict reason ≡ pass.Memory = unbegun.0 in cc)

-- ---- the module that the passes made

-- an answer about what the passes made is one to the text
pub IsAnswerAfter-answer : (passes : List Pass) (view : Option View) (text : List ℕ) (old new : the_module.Module) (shown : Shown)
    → IsText old text → After passes old new → IsAnswerOf passes view text new shown → IsAnswerAfter passes view text shown
IsAnswerAfter-answer passes None text old new shown is after json =
    ((old, is, record { new = new; j = json.j; after = after; written = json.written; shallow = json.shallow; printed = json.printed }), json.sound)
IsAnswerAfter-answer passes (Some chosen) text read new shown is after (inl (old, represents, shows)) =
    record { read = read; reads = is; new = new; after = after; old = old; represents = represents; shows = shows }
IsAnswerAfter-answer passes (Some chosen) text read new shown is after (inr (inl none, shows)) =
    let same : new ≡ read = subst (λ those. After those read new) none after in
    record { read = read; reads = is; new = new; after = after; old = new; represents = subst (λ whole. IsText whole text) (sym same) is; shows = shows }
IsAnswerAfter-answer passes (Some chosen) text read new shown is after (inr (inr alone, shows)) =
    record { read = read; reads = is; new = new; after = after; old = read; represents = is; shows = IsShown-alone chosen new read new shown alone shows }

-- and so is an error
MayFailAfter-fault : (passes : List Pass) (view : Option View) (text : List ℕ) (old new : the_module.Module) (error : TransformError)
    → IsText old text → After passes old new → MayFailToAnswer view text new error → MayFailAfter passes view text error
MayFailAfter-fault passes view text old new Memory is after fails = tt
MayFailAfter-fault passes view text old new (Read error) is after fails = fails
MayFailAfter-fault passes view text old new (Write error) is after fails =
    (fails.0, record { old = old; reads = is; new = new; after = after; other = fails.1; reason = fails.2 })
MayFailAfter-fault passes view text old new (Restrict message) is after fails = absurd fails

pub MayFailAfter-answer : {T : Type 0} (passes : List Pass) (view : Option View) (text : List ℕ) (old new : the_module.Module) (r : Result T TransformError) (error : TransformError)
    → IsErrAnd r (λ e. e ≡ error) → IsText old text → After passes old new → MayFailToAnswer view text new error → IfErr r (MayFailAfter passes view text)
MayFailAfter-answer passes view text old new r error same is after fails =
    IfErr-same (MayFailAfter passes view text) r error same (MayFailAfter-fault passes view text old new error is after fails)
