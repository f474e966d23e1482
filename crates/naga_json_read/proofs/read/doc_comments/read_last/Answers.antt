use Rattle.std.proofs.Common.{sym, refl}
use Rattle.json.specs.Value.{value_view}
use Rattle.naga_json_read.specs.Parts.{last_comments_in, last_comments_value}
use Rattle.naga_json_values.proofs.ReadsLemmas.{reads-none}
use Rattle.naga_json_read.proofs.read.doc_comments.read_last.Goals as goal

pub returns-in_err-functions : goal.returns-in_err-functions
unfolding last_comments_in
returns-in_err-functions c =
    reads-none last_comments_value c.from_residual.result c.in_err-functions.field-0.0 (last_comments_in (value_view c.args.value.now)) c.from_residual.ensures.1 (
    λ other. rw (sym (c.in_err-functions.ensures other)) refl
    )

pub returns-in_err-constants : goal.returns-in_err-constants
unfolding last_comments_in
returns-in_err-constants c =
    reads-none last_comments_value c.from_residual-in_err-constants.result c.in_err-constants.field-0.0 (last_comments_in (value_view c.args.value.now)) c.from_residual-in_err-constants.ensures.1 (
    λ other. rw (sym c.in_ok-functions.ensures) (rw (sym (c.in_err-constants.ensures other)) refl)
    )

pub returns-in_err-global_variables : goal.returns-in_err-global_variables
unfolding last_comments_in
returns-in_err-global_variables c =
    reads-none last_comments_value c.from_residual-in_err-global_variables.result c.in_err-global_variables.field-0.0 (last_comments_in (value_view c.args.value.now)) c.from_residual-in_err-global_variables.ensures.1 (
    λ other. rw (sym c.in_ok-functions.ensures) (rw (sym c.in_ok-constants.ensures) (rw (sym (c.in_err-global_variables.ensures other)) refl))
    )

pub returns-in_err-module : goal.returns-in_err-module
unfolding last_comments_in
returns-in_err-module c =
    reads-none last_comments_value c.from_residual-in_err-module.result c.in_err-module.field-0.0 (last_comments_in (value_view c.args.value.now)) c.from_residual-in_err-module.ensures.1 (
    λ other. rw (sym c.in_ok-functions.ensures) (rw (sym c.in_ok-constants.ensures) (rw (sym c.in_ok-global_variables.ensures) (rw (sym (c.in_err-module.ensures other)) refl)))
    )

pub returns : goal.returns
unfolding last_comments_in
returns c = rw (sym c.in_ok-functions.ensures) (rw (sym c.in_ok-constants.ensures) (rw (sym c.in_ok-global_variables.ensures) (rw (sym c.in_ok-module.ensures) (refl))))
