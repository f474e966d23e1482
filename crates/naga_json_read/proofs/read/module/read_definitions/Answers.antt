use Rattle.std.proofs.Common.{sym, refl}
use Rattle.json.specs.Value.{value_view}
use Rattle.naga_json_read.specs.Parts.{definitions_in, definitions_value}
use Rattle.naga_json_values.proofs.ReadsLemmas.{reads-none}
use Rattle.naga_json_read.proofs.read.module.read_definitions.Goals as goal

pub returns-in_err-functions : goal.returns-in_err-functions
unfolding definitions_in
returns-in_err-functions c =
    reads-none definitions_value c.from_residual.result c.in_err-functions.field-0.0 (definitions_in (value_view c.args.value.now)) c.from_residual.ensures.1 (
    λ other. rw (sym (c.in_err-functions.ensures other)) refl
    )

pub returns-in_err-entry_points : goal.returns-in_err-entry_points
unfolding definitions_in
returns-in_err-entry_points c =
    reads-none definitions_value c.from_residual-in_err-entry_points.result c.in_err-entry_points.field-0.0 (definitions_in (value_view c.args.value.now)) c.from_residual-in_err-entry_points.ensures.1 (
    λ other. rw (sym c.in_ok-functions.ensures) (rw (sym (c.in_err-entry_points.ensures other)) refl)
    )

pub returns-in_err-diagnostic_filters : goal.returns-in_err-diagnostic_filters
unfolding definitions_in
returns-in_err-diagnostic_filters c =
    reads-none definitions_value c.from_residual-in_err-diagnostic_filters.result c.in_err-diagnostic_filters.field-0.0 (definitions_in (value_view c.args.value.now)) c.from_residual-in_err-diagnostic_filters.ensures.1 (
    λ other. rw (sym c.in_ok-functions.ensures) (rw (sym c.in_ok-entry_points.ensures) (rw (sym (c.in_err-diagnostic_filters.ensures other)) refl))
    )

pub returns-in_err-diagnostic_filter_leaf : goal.returns-in_err-diagnostic_filter_leaf
unfolding definitions_in
returns-in_err-diagnostic_filter_leaf c =
    reads-none definitions_value c.from_residual-in_err-diagnostic_filter_leaf.result c.in_err-diagnostic_filter_leaf.field-0.0 (definitions_in (value_view c.args.value.now)) c.from_residual-in_err-diagnostic_filter_leaf.ensures.1 (
    λ other. rw (sym c.in_ok-functions.ensures) (rw (sym c.in_ok-entry_points.ensures) (rw (sym c.in_ok-diagnostic_filters.ensures) (rw (sym c.in_err-diagnostic_filter_leaf.ensures) refl)))
    )

pub returns-in_err-doc_comments : goal.returns-in_err-doc_comments
unfolding definitions_in
returns-in_err-doc_comments c =
    reads-none definitions_value c.from_residual-in_err-doc_comments.result c.in_err-doc_comments.field-0.0 (definitions_in (value_view c.args.value.now)) c.from_residual-in_err-doc_comments.ensures.1 (
    λ other. rw (sym c.in_ok-functions.ensures) (rw (sym c.in_ok-entry_points.ensures) (rw (sym c.in_ok-diagnostic_filters.ensures) (rw (sym c.in_ok-diagnostic_filter_leaf.ensures) (rw (sym (c.in_err-doc_comments.ensures other)) refl))))
    )

pub returns : goal.returns
unfolding definitions_in
returns c = rw (sym c.in_ok-functions.ensures) (rw (sym c.in_ok-entry_points.ensures) (rw (sym c.in_ok-diagnostic_filters.ensures) (rw (sym c.in_ok-diagnostic_filter_leaf.ensures) (rw (sym c.in_ok-doc_comments.ensures) (refl)))))
