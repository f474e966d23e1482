use Rattle.std.proofs.Common.{sym, refl}
use Rattle.json.specs.Value.{value_view}
use Rattle.naga_json.specs.DocComments.{comments_value}
use Rattle.naga_json_read.specs.Parts.{comments_in}
use Rattle.naga_json_values.proofs.ReadsLemmas.{reads-none}
use Rattle.naga_json_read.proofs.read.doc_comments.read_fields.Goals as goal

pub returns-in_err-first : goal.returns-in_err-first
unfolding comments_in
returns-in_err-first c =
    reads-none comments_value c.from_residual.result c.in_err-first.field-0.0 (comments_in (value_view c.args.value.now)) c.from_residual.ensures.1 (
    λ other. rw (sym (c.in_err-first.ensures other)) refl
    )

pub returns-in_err-functions : goal.returns-in_err-functions
unfolding comments_in
returns-in_err-functions c =
    reads-none comments_value c.from_residual-in_err-functions.result c.in_err-functions.field-0.0 (comments_in (value_view c.args.value.now)) c.from_residual-in_err-functions.ensures.1 (
    λ other. rw (sym c.in_ok-first.ensures) (rw (sym (c.in_err-functions.ensures other)) refl)
    )

pub returns : goal.returns
unfolding comments_in
returns c = rw (sym c.in_ok-first.ensures) (rw (sym c.in_ok-functions.ensures) (refl))
