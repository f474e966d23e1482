-- The errors that an input may have: lemmas on specs/Answer.antt.
use Rattle.std.proofs.Common.{◌≡◌, subst, sym, ℕ, ◌-◌, List, [], length, Option, Some, None, refl, inl, inr}
use Rattle.std.specs.Prelude.{Result, Ok, Err, IfErr, IsErrAnd}
use Rattle.naga_look.specs.declared.shown.Shown.{Shown}
use Rattle.naga_look.specs.declared.transform_error.TransformError.{TransformError}
use Rattle.naga_look.specs.declared.transform_error.TransformError.TheVariants as error
use Rattle.naga_opt.specs.Answer.{IsAnswer, IsFaultOf, MayFault, MayHaveNoAnswer}
use Rattle.naga_opt.specs.Input.{IsKnown, IsOutputFault, IsStreamError, without_mark}
use Rattle.naga_opt.specs.Task.{Chosen, passes_of}
use Rattle.naga_opt.specs.declared.report.ProgramFault.{ProgramFault}
use Rattle.naga_opt.specs.declared.report.ProgramFault.TheVariants.{Arguments, NotUtf8, Input, Output, Unread, Unrestricted, Unwritten, Memory}

-- a result that has an error with a property
IfErr-same : {T E : Type 0} (P : E → Type 0) (r : Result T E) (error : E) → IsErrAnd r (λ e. e ≡ error) → P error → IfErr r P
IfErr-same P (Ok value) error same holds = tt
IfErr-same P (Err e) error same holds = subst P (sym same) holds

-- the errors of reading the input
MayFault-stream : (chosen : Chosen) (input : Option (List ℕ)) (fault : ProgramFault) → IsStreamError fault → MayFault chosen input fault
MayFault-stream chosen input (Arguments wrong) fails = absurd fails
MayFault-stream chosen input NotUtf8 fails = absurd fails
MayFault-stream chosen input (Input error) fails = tt
MayFault-stream chosen input (Output error) fails = absurd fails
MayFault-stream chosen input (Unread message) fails = absurd fails
MayFault-stream chosen input (Unrestricted message) fails = absurd fails
MayFault-stream chosen input (Unwritten error) fails = absurd fails
MayFault-stream chosen input Memory fails = tt

pub MayFault-read : {T : Type 0} (r : Result T ProgramFault) (chosen : Chosen) (input : Option (List ℕ)) (fault : ProgramFault)
    → IsErrAnd r (λ e. e ≡ fault) → IsStreamError fault → IfErr r (MayFault chosen input)
MayFault-read r chosen input fault same fails = IfErr-same (MayFault chosen input) r fault same (MayFault-stream chosen input fault fails)

-- the error of a text that has no answer
pub MayFault-answer : (chosen : Chosen) (input : Option (List ℕ)) (bytes : List ℕ) (reason : TransformError) (fault : ProgramFault)
    → IsFaultOf (without_mark bytes) (length bytes - length (without_mark bytes)) reason fault → IsKnown input bytes
    → MayHaveNoAnswer chosen (without_mark bytes) reason → MayFault chosen input fault
MayFault-answer chosen input bytes error.Memory fault is known fails = subst (MayFault chosen input) (sym is) tt
MayFault-answer chosen input bytes (error.Write cause) fault is known fails = subst (MayFault chosen input) (sym is) (bytes, known, fails)
MayFault-answer chosen input bytes (error.Restrict message) fault is known fails = subst (MayFault chosen input) (sym is) (bytes, known, fails)
MayFault-answer chosen input bytes (error.Read cause) fault (inl is) known fails = subst (MayFault chosen input) (sym is) tt
MayFault-answer chosen input bytes (error.Read cause) fault (inr (message, is, told)) known fails =
    subst (MayFault chosen input) (sym is) (bytes, known, (cause, fails, told))

-- the error of an answer that was not written
output-fault : (chosen : Chosen) (input : Option (List ℕ)) (bytes : List ℕ) (shown : Shown) (fault : ProgramFault)
    → IsOutputFault fault → IsKnown input bytes → IsAnswer chosen (without_mark bytes) shown → MayFault chosen input fault
output-fault chosen input bytes shown (Arguments wrong) is known answers = absurd is
output-fault chosen input bytes shown NotUtf8 is known answers = absurd is
output-fault chosen input bytes shown (Input error) is known answers = absurd is
output-fault chosen input bytes shown (Output error) is known answers = (bytes, known, (shown, answers))
output-fault chosen input bytes shown (Unread message) is known answers = absurd is
output-fault chosen input bytes shown (Unrestricted message) is known answers = absurd is
output-fault chosen input bytes shown (Unwritten error) is known answers = absurd is
output-fault chosen input bytes shown Memory is known answers = absurd is

pub MayFault-output : {T : Type 0} (r : Result T ProgramFault) (chosen : Chosen) (input : Option (List ℕ)) (bytes : List ℕ) (shown : Shown) (fault : ProgramFault)
    → IsErrAnd r (λ e. e ≡ fault) → IsOutputFault fault → IsKnown input bytes → IsAnswer chosen (without_mark bytes) shown → IfErr r (MayFault chosen input)
MayFault-output r chosen input bytes shown fault same is known answers =
    IfErr-same (MayFault chosen input) r fault same (output-fault chosen input bytes shown fault is known answers)
