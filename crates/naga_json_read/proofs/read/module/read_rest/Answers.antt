use Rattle.std.proofs.Common.{sym, refl}
use Rattle.json.specs.Value.{value_view}
use Rattle.naga_json_read.specs.Module.{rest_in, rest_value}
use Rattle.naga_json_values.proofs.ReadsLemmas.{reads-none}
use Rattle.naga_json_read.proofs.read.module.read_rest.Goals as goal

pub returns-in_err-declarations : goal.returns-in_err-declarations
unfolding rest_in
returns-in_err-declarations c =
    reads-none rest_value c.from_residual.result c.in_err-declarations.field-0.0 (rest_in (value_view c.args.value.now)) c.from_residual.ensures.1 (
    λ other. rw (sym (c.in_err-declarations.ensures other)) refl
    )

pub returns-in_err-definitions : goal.returns-in_err-definitions
unfolding rest_in
returns-in_err-definitions c =
    reads-none rest_value c.from_residual-in_err-definitions.result c.in_err-definitions.field-0.0 (rest_in (value_view c.args.value.now)) c.from_residual-in_err-definitions.ensures.1 (
    λ other. rw (sym c.in_ok-declarations.ensures) (rw (sym (c.in_err-definitions.ensures other)) refl)
    )

pub returns : goal.returns
unfolding rest_in
returns c = rw (sym c.in_ok-declarations.ensures) (rw (sym c.in_ok-definitions.ensures) (refl))
