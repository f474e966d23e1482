use Rattle.std.proofs.Common.{sym, refl}
use Rattle.json.specs.Value.{value_view}
use Rattle.naga_json_read.specs.Parts.{signature_in, signature_value}
use Rattle.naga_json_values.proofs.ReadsLemmas.{reads-none}
use Rattle.naga_json_read.proofs.read.function.read_signature.Goals as goal

pub returns-in_err-name : goal.returns-in_err-name
unfolding signature_in
returns-in_err-name c =
    reads-none signature_value c.from_residual.result c.in_err-name.field-0.0 (signature_in (value_view c.args.value.now)) c.from_residual.ensures.1 (
    λ other. rw (sym (c.in_err-name.ensures other)) refl
    )

pub returns-in_err-arguments : goal.returns-in_err-arguments
unfolding signature_in
returns-in_err-arguments c =
    reads-none signature_value c.from_residual-in_err-arguments.result c.in_err-arguments.field-0.0 (signature_in (value_view c.args.value.now)) c.from_residual-in_err-arguments.ensures.1 (
    λ other. rw (sym c.in_ok-name.ensures) (rw (sym (c.in_err-arguments.ensures other)) refl)
    )

pub returns-in_err-result : goal.returns-in_err-result
unfolding signature_in
returns-in_err-result c =
    reads-none signature_value c.from_residual-in_err-result.result c.in_err-result.field-0.0 (signature_in (value_view c.args.value.now)) c.from_residual-in_err-result.ensures.1 (
    λ other. rw (sym c.in_ok-name.ensures) (rw (sym c.in_ok-arguments.ensures) (rw (sym c.in_err-result.ensures) refl))
    )

pub returns : goal.returns
unfolding signature_in
returns c = rw (sym c.in_ok-name.ensures) (rw (sym c.in_ok-arguments.ensures) (rw (sym c.in_ok-result.ensures) (refl)))
