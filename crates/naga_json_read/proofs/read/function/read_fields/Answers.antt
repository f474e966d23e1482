use Rattle.std.proofs.Common.{sym, refl}
use Rattle.json.specs.Value.{value_view}
use Rattle.naga_json.specs.Function.{function_value}
use Rattle.naga_json_read.specs.Parts.{function_in}
use Rattle.naga_json_values.proofs.ReadsLemmas.{reads-none}
use Rattle.naga_json_read.proofs.read.function.read_fields.Goals as goal

pub returns-in_err-signature : goal.returns-in_err-signature
unfolding function_in
returns-in_err-signature c =
    reads-none function_value c.from_residual.result c.in_err-signature.field-0.0 (function_in (value_view c.args.value.now)) c.from_residual.ensures.1 (
    λ other. rw (sym (c.in_err-signature.ensures other)) refl
    )

pub returns-in_err-local_variables : goal.returns-in_err-local_variables
unfolding function_in
returns-in_err-local_variables c =
    reads-none function_value c.from_residual-in_err-local_variables.result c.in_err-local_variables.field-0.0 (function_in (value_view c.args.value.now)) c.from_residual-in_err-local_variables.ensures.1 (
    λ other. rw (sym c.in_ok-signature.ensures) (rw (sym (c.in_err-local_variables.ensures other)) refl)
    )

pub returns : goal.returns
unfolding function_in
returns c = rw (sym c.in_ok-signature.ensures) (rw (sym c.in_ok-local_variables.ensures) (refl))
