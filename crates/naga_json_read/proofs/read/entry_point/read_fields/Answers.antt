use Rattle.std.proofs.Common.{sym, refl}
use Rattle.json.specs.Value.{value_view}
use Rattle.naga_json.specs.EntryPoint.{entry_point_value}
use Rattle.naga_json_read.specs.Parts.{entry_point_in}
use Rattle.naga_json_values.proofs.ReadsLemmas.{reads-none}
use Rattle.naga_json_read.proofs.read.entry_point.read_fields.Goals as goal

pub returns-in_err-invocation : goal.returns-in_err-invocation
unfolding entry_point_in
returns-in_err-invocation c =
    reads-none entry_point_value c.from_residual.result c.in_err-invocation.field-0.0 (entry_point_in (value_view c.args.value.now)) c.from_residual.ensures.1 (
    λ other. rw (sym (c.in_err-invocation.ensures other)) refl
    )

pub returns-in_err-function : goal.returns-in_err-function
unfolding entry_point_in
returns-in_err-function c =
    reads-none entry_point_value c.from_residual-in_err-function.result c.in_err-function.field-0.0 (entry_point_in (value_view c.args.value.now)) c.from_residual-in_err-function.ensures.1 (
    λ other. rw (sym c.in_ok-invocation.ensures) (rw (sym (c.in_err-function.ensures other)) refl)
    )

pub returns : goal.returns
unfolding entry_point_in
returns c = rw (sym c.in_ok-invocation.ensures) (rw (sym c.in_ok-function.ensures) (refl))
