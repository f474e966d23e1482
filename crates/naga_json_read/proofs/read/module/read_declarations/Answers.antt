use Rattle.std.proofs.Common.{sym, refl}
use Rattle.json.specs.Value.{value_view}
use Rattle.naga_json_read.specs.Parts.{declarations_in, declarations_value}
use Rattle.naga_json_values.proofs.ReadsLemmas.{reads-none}
use Rattle.naga_json_read.proofs.read.module.read_declarations.Goals as goal

pub returns-in_err-special_types : goal.returns-in_err-special_types
unfolding declarations_in
returns-in_err-special_types c =
    reads-none declarations_value c.from_residual.result c.in_err-special_types.field-0.0 (declarations_in (value_view c.args.value.now)) c.from_residual.ensures.1 (
    λ other. rw (sym (c.in_err-special_types.ensures other)) refl
    )

pub returns-in_err-constants : goal.returns-in_err-constants
unfolding declarations_in
returns-in_err-constants c =
    reads-none declarations_value c.from_residual-in_err-constants.result c.in_err-constants.field-0.0 (declarations_in (value_view c.args.value.now)) c.from_residual-in_err-constants.ensures.1 (
    λ other. rw (sym c.in_ok-special_types.ensures) (rw (sym (c.in_err-constants.ensures other)) refl)
    )

pub returns-in_err-overrides : goal.returns-in_err-overrides
unfolding declarations_in
returns-in_err-overrides c =
    reads-none declarations_value c.from_residual-in_err-overrides.result c.in_err-overrides.field-0.0 (declarations_in (value_view c.args.value.now)) c.from_residual-in_err-overrides.ensures.1 (
    λ other. rw (sym c.in_ok-special_types.ensures) (rw (sym c.in_ok-constants.ensures) (rw (sym (c.in_err-overrides.ensures other)) refl))
    )

pub returns-in_err-global_variables : goal.returns-in_err-global_variables
unfolding declarations_in
returns-in_err-global_variables c =
    reads-none declarations_value c.from_residual-in_err-global_variables.result c.in_err-global_variables.field-0.0 (declarations_in (value_view c.args.value.now)) c.from_residual-in_err-global_variables.ensures.1 (
    λ other. rw (sym c.in_ok-special_types.ensures) (rw (sym c.in_ok-constants.ensures) (rw (sym c.in_ok-overrides.ensures) (rw (sym (c.in_err-global_variables.ensures other)) refl)))
    )

pub returns-in_err-global_expressions : goal.returns-in_err-global_expressions
unfolding declarations_in
returns-in_err-global_expressions c =
    reads-none declarations_value c.from_residual-in_err-global_expressions.result c.in_err-global_expressions.field-0.0 (declarations_in (value_view c.args.value.now)) c.from_residual-in_err-global_expressions.ensures.1 (
    λ other. rw (sym c.in_ok-special_types.ensures) (rw (sym c.in_ok-constants.ensures) (rw (sym c.in_ok-overrides.ensures) (rw (sym c.in_ok-global_variables.ensures) (rw (sym (c.in_err-global_expressions.ensures other)) refl))))
    )

pub returns : goal.returns
unfolding declarations_in
returns c = rw (sym c.in_ok-special_types.ensures) (rw (sym c.in_ok-constants.ensures) (rw (sym c.in_ok-overrides.ensures) (rw (sym c.in_ok-global_variables.ensures) (rw (sym c.in_ok-global_expressions.ensures) (refl)))))
