-- The failures of a text that has no answer: lemmas on specs/Answer.antt.
use Rattle.std.proofs.Common.{refl, subst, sym, ℕ, List, Option, inl, inr}
use Rattle.std.specs.Str.{IsUtf8}
use Rattle.naga_passes.specs.declared.pass.Pass.{Pass}
use Rattle.naga_look.specs.Transform.{MayFailAfter}
use Rattle.naga_look.specs.declared.shown.View.{View}
use Rattle.naga_look.specs.declared.transform_error.TransformError.{TransformError}
use Rattle.naga_look.specs.declared.transform_error.TransformError.TheVariants as error
use Rattle.naga_capi.specs.Answer.{IsFailureOf, MayHaveNoAnswer}
use Rattle.naga_capi.specs.declared.failure.Failure.{Failure}

-- answering a text that has no answer
pub MayHaveNoAnswer-failure : (passes : List Pass) (view : Option View) (text : List ℕ) (reason : TransformError) (failure : Failure)
    → IsFailureOf text reason failure → IsUtf8 text → MayFailAfter passes view text reason → MayHaveNoAnswer passes view text failure
MayHaveNoAnswer-failure passes view text error.Memory failure is valid fails = subst (MayHaveNoAnswer passes view text) (sym is) valid
MayHaveNoAnswer-failure passes view text (error.Write cause) failure is valid fails = subst (MayHaveNoAnswer passes view text) (sym is) (valid, fails)
MayHaveNoAnswer-failure passes view text (error.Restrict message) failure is valid fails =
    subst (MayHaveNoAnswer passes view text) (sym is) (valid, fails)
MayHaveNoAnswer-failure passes view text (error.Read cause) failure (inl is) valid fails = subst (MayHaveNoAnswer passes view text) (sym is) valid
MayHaveNoAnswer-failure passes view text (error.Read cause) failure (inr (message, is, told)) valid fails =
    subst (MayHaveNoAnswer passes view text) (sym is) (valid, (cause, refl, fails, told))
