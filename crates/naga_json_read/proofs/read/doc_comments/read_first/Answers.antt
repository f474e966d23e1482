use Rattle.std.proofs.Common.{sym, refl}
use Rattle.json.specs.Value.{value_view}
use Rattle.naga_json_read.specs.Parts.{first_comments_in, first_comments_value}
use Rattle.naga_json_values.proofs.ReadsLemmas.{reads-none}
use Rattle.naga_json_read.proofs.read.doc_comments.read_first.Goals as goal

pub returns-in_err-types : goal.returns-in_err-types
unfolding first_comments_in
returns-in_err-types c =
    reads-none first_comments_value c.from_residual.result c.in_err-types.field-0.0 (first_comments_in (value_view c.args.value.now)) c.from_residual.ensures.1 (
    λ other. rw (sym (c.in_err-types.ensures other)) refl
    )

pub returns-in_err-struct_members : goal.returns-in_err-struct_members
unfolding first_comments_in
returns-in_err-struct_members c =
    reads-none first_comments_value c.from_residual-in_err-struct_members.result c.in_err-struct_members.field-0.0 (first_comments_in (value_view c.args.value.now)) c.from_residual-in_err-struct_members.ensures.1 (
    λ other. rw (sym c.in_ok-types.ensures) (rw (sym (c.in_err-struct_members.ensures other)) refl)
    )

pub returns-in_err-entry_points : goal.returns-in_err-entry_points
unfolding first_comments_in
returns-in_err-entry_points c =
    reads-none first_comments_value c.from_residual-in_err-entry_points.result c.in_err-entry_points.field-0.0 (first_comments_in (value_view c.args.value.now)) c.from_residual-in_err-entry_points.ensures.1 (
    λ other. rw (sym c.in_ok-types.ensures) (rw (sym c.in_ok-struct_members.ensures) (rw (sym (c.in_err-entry_points.ensures other)) refl))
    )

pub returns : goal.returns
unfolding first_comments_in
returns c = rw (sym c.in_ok-types.ensures) (rw (sym c.in_ok-struct_members.ensures) (rw (sym c.in_ok-entry_points.ensures) (refl)))
