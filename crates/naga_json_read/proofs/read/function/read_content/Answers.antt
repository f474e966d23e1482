use Rattle.std.proofs.Common.{sym, refl}
use Rattle.json.specs.Value.{value_view}
use Rattle.naga_json_read.specs.Parts.{content_in, content_value}
use Rattle.naga_json_values.proofs.ReadsLemmas.{reads-none}
use Rattle.naga_json_read.proofs.read.function.read_content.Goals as goal

pub returns-in_err-local_variables : goal.returns-in_err-local_variables
unfolding content_in
returns-in_err-local_variables c =
    reads-none content_value c.from_residual.result c.in_err-local_variables.field-0.0 (content_in (value_view c.args.value.now)) c.from_residual.ensures.1 (
    λ other. rw (sym (c.in_err-local_variables.ensures other)) refl
    )

pub returns-in_err-expressions : goal.returns-in_err-expressions
unfolding content_in
returns-in_err-expressions c =
    reads-none content_value c.from_residual-in_err-expressions.result c.in_err-expressions.field-0.0 (content_in (value_view c.args.value.now)) c.from_residual-in_err-expressions.ensures.1 (
    λ other. rw (sym c.in_ok-local_variables.ensures) (rw (sym (c.in_err-expressions.ensures other)) refl)
    )

pub returns-in_err-named_expressions : goal.returns-in_err-named_expressions
unfolding content_in
returns-in_err-named_expressions c =
    reads-none content_value c.from_residual-in_err-named_expressions.result c.in_err-named_expressions.field-0.0 (content_in (value_view c.args.value.now)) c.from_residual-in_err-named_expressions.ensures.1 (
    λ other. rw (sym c.in_ok-local_variables.ensures) (rw (sym c.in_ok-expressions.ensures) (rw (sym (c.in_err-named_expressions.ensures other)) refl))
    )

pub returns-in_err-body : goal.returns-in_err-body
unfolding content_in
returns-in_err-body c =
    reads-none content_value c.from_residual-in_err-body.result c.in_err-body.field-0.0 (content_in (value_view c.args.value.now)) c.from_residual-in_err-body.ensures.1 (
    λ other. rw (sym c.in_ok-local_variables.ensures) (rw (sym c.in_ok-expressions.ensures) (rw (sym c.in_ok-named_expressions.ensures) (rw (sym (c.in_err-body.ensures other)) refl)))
    )

pub returns-in_err-diagnostic_filter_leaf : goal.returns-in_err-diagnostic_filter_leaf
unfolding content_in
returns-in_err-diagnostic_filter_leaf c =
    reads-none content_value c.from_residual-in_err-diagnostic_filter_leaf.result c.in_err-diagnostic_filter_leaf.field-0.0 (content_in (value_view c.args.value.now)) c.from_residual-in_err-diagnostic_filter_leaf.ensures.1 (
    λ other. rw (sym c.in_ok-local_variables.ensures) (rw (sym c.in_ok-expressions.ensures) (rw (sym c.in_ok-named_expressions.ensures) (rw (sym c.in_ok-body.ensures) (rw (sym c.in_err-diagnostic_filter_leaf.ensures) refl))))
    )

pub returns : goal.returns
unfolding content_in
returns c = rw (sym c.in_ok-local_variables.ensures) (rw (sym c.in_ok-expressions.ensures) (rw (sym c.in_ok-named_expressions.ensures) (rw (sym c.in_ok-body.ensures) (rw (sym c.in_ok-diagnostic_filter_leaf.ensures) (refl)))))
