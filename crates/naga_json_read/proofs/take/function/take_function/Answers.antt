use Rattle.std.proofs.Common.{refl}
use Rattle.naga_json.specs.FormFields.{form_struct_in}
use Rattle.naga_json.specs.Function.{function_form}
use Rattle.naga_json_tokens.proofs.TakesStructLemmas.{takes_first, takes_last, takes_object}
use Rattle.naga_json_read.proofs.take.function.take_function.Goals as goal

pub returns : goal.returns
unfolding form_struct_in
returns c =
    takes_object function_form.decode _ _ _ _ c.in_ok-take_begin.ensures
    (takes_first _ _ _ _ _ _ _ _ c.in_ok-signature.ensures.name (λ j1 e1.
    takes_first _ _ _ _ _ _ _ _ c.in_ok-signature.ensures.arguments (λ j2 e2.
    takes_first _ _ _ _ _ _ _ _ c.in_ok-signature.ensures.result (λ j3 e3.
    takes_first _ _ _ _ _ _ _ _ c.in_ok-local_variables.ensures.local_variables (λ j4 e4.
    takes_first _ _ _ _ _ _ _ _ c.in_ok-local_variables.ensures.expressions (λ j5 e5.
    takes_first _ _ _ _ _ _ _ _ c.in_ok-local_variables.ensures.named_expressions (λ j6 e6.
    takes_first _ _ _ _ _ _ _ _ c.in_ok-local_variables.ensures.body (λ j7 e7.
    takes_first _ _ _ _ _ _ _ _ c.in_ok-local_variables.ensures.diagnostic_filter_leaf (λ j8 e8.
    takes_last _ _ _ _ c.in_ok-local_variables.ensures.ended (rw (e1, e2, e3, e4, e5, e6, e7, e8) refl))))))))))
