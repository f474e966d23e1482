use Rattle.std.proofs.Common.{sym, refl}
use Rattle.json.specs.Value.{value_view}
use Rattle.naga_json_read.specs.Parts.{invocation_in, invocation_value}
use Rattle.naga_json_values.proofs.ReadsLemmas.{reads-none}
use Rattle.naga_json_read.proofs.read.entry_point.read_invocation.Goals as goal

pub returns-in_err-name : goal.returns-in_err-name
unfolding invocation_in
returns-in_err-name c =
    reads-none invocation_value c.from_residual.result c.in_err-name.field-0.0 (invocation_in (value_view c.args.value.now)) c.from_residual.ensures.1 (
    λ other. rw (sym (c.in_err-name.ensures other)) refl
    )

pub returns-in_err-stage : goal.returns-in_err-stage
unfolding invocation_in
returns-in_err-stage c =
    reads-none invocation_value c.from_residual-in_err-stage.result c.in_err-stage.field-0.0 (invocation_in (value_view c.args.value.now)) c.from_residual-in_err-stage.ensures.1 (
    λ other. rw (sym c.in_ok-name.ensures) (rw (sym c.in_err-stage.ensures) refl)
    )

pub returns-in_err-early_depth_test : goal.returns-in_err-early_depth_test
unfolding invocation_in
returns-in_err-early_depth_test c =
    reads-none invocation_value c.from_residual-in_err-early_depth_test.result c.in_err-early_depth_test.field-0.0 (invocation_in (value_view c.args.value.now)) c.from_residual-in_err-early_depth_test.ensures.1 (
    λ other. rw (sym c.in_ok-name.ensures) (rw (sym c.in_ok-stage.ensures) (rw (sym c.in_err-early_depth_test.ensures) refl))
    )

pub returns-in_err-workgroup_size : goal.returns-in_err-workgroup_size
unfolding invocation_in
returns-in_err-workgroup_size c =
    reads-none invocation_value c.from_residual-in_err-workgroup_size.result c.in_err-workgroup_size.field-0.0 (invocation_in (value_view c.args.value.now)) c.from_residual-in_err-workgroup_size.ensures.1 (
    λ other. rw (sym c.in_ok-name.ensures) (rw (sym c.in_ok-stage.ensures) (rw (sym c.in_ok-early_depth_test.ensures) (rw (sym c.in_err-workgroup_size.ensures) refl)))
    )

pub returns-in_err-workgroup_size_overrides : goal.returns-in_err-workgroup_size_overrides
unfolding invocation_in
returns-in_err-workgroup_size_overrides c =
    reads-none invocation_value c.from_residual-in_err-workgroup_size_overrides.result c.in_err-workgroup_size_overrides.field-0.0 (invocation_in (value_view c.args.value.now)) c.from_residual-in_err-workgroup_size_overrides.ensures.1 (
    λ other. rw (sym c.in_ok-name.ensures) (rw (sym c.in_ok-stage.ensures) (rw (sym c.in_ok-early_depth_test.ensures) (rw (sym c.in_ok-workgroup_size.ensures) (rw (sym c.in_err-workgroup_size_overrides.ensures) refl))))
    )

pub returns : goal.returns
unfolding invocation_in
returns c = rw (sym c.in_ok-name.ensures) (rw (sym c.in_ok-stage.ensures) (rw (sym c.in_ok-early_depth_test.ensures) (rw (sym c.in_ok-workgroup_size.ensures) (rw (sym c.in_ok-workgroup_size_overrides.ensures) (refl)))))
