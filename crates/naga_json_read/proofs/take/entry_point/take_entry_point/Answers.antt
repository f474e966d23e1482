use Rattle.std.proofs.Common.{refl}
use Rattle.naga_json.specs.FormFields.{form_struct_in}
use Rattle.naga_json.specs.EntryPoint.{entry_point_form}
use Rattle.naga_json_tokens.proofs.TakesStructLemmas.{takes_first, takes_last, takes_object}
use Rattle.naga_json_read.proofs.take.entry_point.take_entry_point.Goals as goal

pub returns : goal.returns
unfolding form_struct_in
returns c =
    takes_object entry_point_form.decode _ _ _ _ c.in_ok-take_begin.ensures
    (takes_first _ _ _ _ _ _ _ _ c.in_ok-invocation.ensures.name (λ j1 e1.
    takes_first _ _ _ _ _ _ _ _ c.in_ok-invocation.ensures.stage (λ j2 e2.
    takes_first _ _ _ _ _ _ _ _ c.in_ok-invocation.ensures.early_depth_test (λ j3 e3.
    takes_first _ _ _ _ _ _ _ _ c.in_ok-invocation.ensures.workgroup_size (λ j4 e4.
    takes_first _ _ _ _ _ _ _ _ c.in_ok-invocation.ensures.workgroup_size_overrides (λ j5 e5.
    takes_first _ _ _ _ _ _ _ _ c.in_ok-function.ensures.function (λ j6 e6.
    takes_first _ _ _ _ _ _ _ _ c.in_ok-function.ensures.mesh_info (λ j7 e7.
    takes_first _ _ _ _ _ _ _ _ c.in_ok-function.ensures.task_payload (λ j8 e8.
    takes_first _ _ _ _ _ _ _ _ c.in_ok-function.ensures.incoming_ray_payload (λ j9 e9.
    takes_last _ _ _ _ c.in_ok-function.ensures.ended (rw (e1, e2, e3, e4, e5, e6, e7, e8, e9) refl)))))))))))
