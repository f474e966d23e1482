use Rattle.std.proofs.Common.{sym, refl}
use Rattle.json.specs.Value.{value_view}
use Rattle.naga_json_read.specs.Parts.{work_in, work_value}
use Rattle.naga_json_values.proofs.ReadsLemmas.{reads-none}
use Rattle.naga_json_read.proofs.read.entry_point.read_work.Goals as goal

pub returns-in_err-function : goal.returns-in_err-function
unfolding work_in
returns-in_err-function c =
    reads-none work_value c.from_residual.result c.in_err-function.field-0.0 (work_in (value_view c.args.value.now)) c.from_residual.ensures.1 (
    λ other. rw (sym (c.in_err-function.ensures other)) refl
    )

pub returns-in_err-mesh_info : goal.returns-in_err-mesh_info
unfolding work_in
returns-in_err-mesh_info c =
    reads-none work_value c.from_residual-in_err-mesh_info.result c.in_err-mesh_info.field-0.0 (work_in (value_view c.args.value.now)) c.from_residual-in_err-mesh_info.ensures.1 (
    λ other. rw (sym c.in_ok-function.ensures) (rw (sym c.in_err-mesh_info.ensures) refl)
    )

pub returns-in_err-task_payload : goal.returns-in_err-task_payload
unfolding work_in
returns-in_err-task_payload c =
    reads-none work_value c.from_residual-in_err-task_payload.result c.in_err-task_payload.field-0.0 (work_in (value_view c.args.value.now)) c.from_residual-in_err-task_payload.ensures.1 (
    λ other. rw (sym c.in_ok-function.ensures) (rw (sym c.in_ok-mesh_info.ensures) (rw (sym c.in_err-task_payload.ensures) refl))
    )

pub returns-in_err-incoming_ray_payload : goal.returns-in_err-incoming_ray_payload
unfolding work_in
returns-in_err-incoming_ray_payload c =
    reads-none work_value c.from_residual-in_err-incoming_ray_payload.result c.in_err-incoming_ray_payload.field-0.0 (work_in (value_view c.args.value.now)) c.from_residual-in_err-incoming_ray_payload.ensures.1 (
    λ other. rw (sym c.in_ok-function.ensures) (rw (sym c.in_ok-mesh_info.ensures) (rw (sym c.in_ok-task_payload.ensures) (rw (sym c.in_err-incoming_ray_payload.ensures) refl)))
    )

pub returns : goal.returns
unfolding work_in
returns c = rw (sym c.in_ok-function.ensures) (rw (sym c.in_ok-mesh_info.ensures) (rw (sym c.in_ok-task_payload.ensures) (rw (sym c.in_ok-incoming_ray_payload.ensures) (refl))))
