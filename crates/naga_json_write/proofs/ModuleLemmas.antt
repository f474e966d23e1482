-- Reasons why a module is not written.
use Rattle.std.proofs.Common.{◌≡◌, ◌≢◌, refl, sym, subst}
use Rattle.std.specs.Prelude.{Result, Ok, Err, IfErr, IsErrAnd}
use Rattle.json.specs.Json.{Json}
use Rattle.naga_ir.specs.declared.module.Module.{Module}
use Rattle.naga_json.specs.Module.{module_form, module_value}
use Rattle.naga_json_write.specs.Module.{IsModuleJson, IsReason, IsWritable}
use Rattle.naga_json_write.specs.WriteError.{error_of_value}
use Rattle.naga_json_write.specs.declared.write_error.TryWriteError.{TryWriteError}
use Rattle.naga_json_write.specs.declared.write_error.TryWriteError.TheVariants as value
use Rattle.naga_json_write.specs.declared.write_error.WriteError.{WriteError}
use Rattle.naga_json_write.specs.declared.write_error.WriteError.TheVariants.{Memory, NotFinite, PredeclaredTypes, MemberComments, TooDeep}
use Rattle.naga_json_write.proofs.FiniteLemmas.{module_is_finite}

module _ (whole : Module) where
  -- a module has no JSON if there is a reason other than that an allocation failed or that it is nested too deep
  pub has_no_json : (error : WriteError) → IsReason whole error → error ≢ Memory → error ≢ TooDeep → (j : Json) → IsModuleJson whole j → ⊥
  has_no_json Memory reason other shallow j is = absurd (other refl)
  has_no_json NotFinite reason other shallow j is = reason j is.writes
  has_no_json PredeclaredTypes reason other shallow j is = reason is.no_predeclared_types
  has_no_json MemberComments reason other shallow j is = reason is.no_member_comments
  has_no_json TooDeep reason other shallow j is = absurd (shallow refl)

  -- where a module has a JSON, nothing in it stands in the way of one
  pub writable : (j : Json) → IsModuleJson whole j → IsWritable whole
  writable j is = record {
    no_predeclared_types = is.no_predeclared_types;
    no_member_comments = is.no_member_comments;
    finite = module_is_finite whole j is.writes;
  }

  -- an error that is equal to a reason is one
  pub equal_reason : (error reason : WriteError) → error ≡ reason → IsReason whole reason → IsReason whole error
  equal_reason error reason same is = subst (IsReason whole) (sym same) is

  -- the error of a step that failed is a reason, where what it was made of is one
  pub failed : {T : Type 0} (result : Result T WriteError) (error : WriteError) → IsErrAnd result (λ e. e ≡ error) → IsReason whole error → IfErr result (IsReason whole)
  failed (Ok done) error same reason = tt
  failed (Err e) error same reason = equal_reason e error same reason

  -- the error of a value that was not written
  pub reason_of_value : (given : TryWriteError) → IsWritable whole → (given ≢ value.Memory → (j : Json) → module_form.Writes (module_value whole) j → ⊥) → IsReason whole (error_of_value given)
  reason_of_value value.Memory writes none = writes
  reason_of_value value.NotFinite writes none = none (λ same. cc)
