use Rattle.std.proofs.Common.{refl}
use Rattle.naga_json.specs.FormFields.{form_struct_in}
use Rattle.naga_json.specs.Module.{module_form}
use Rattle.naga_json_tokens.proofs.TakesStructLemmas.{takes_first, takes_last, takes_object}
use Rattle.naga_json_read.proofs.take.module.take_fields.Goals as goal

pub returns-clause-taken : goal.returns-clause-taken
unfolding form_struct_in
returns-clause-taken c =
    takes_object module_form.decode _ _ _ _ c.in_ok-take_begin.ensures
    (takes_first _ _ _ _ _ _ _ _ c.in_ok-types.ensures.taken (λ j1 e1.
    takes_first _ _ _ _ _ _ _ _ c.in_ok-declarations.ensures.special_types (λ j2 e2.
    takes_first _ _ _ _ _ _ _ _ c.in_ok-declarations.ensures.constants (λ j3 e3.
    takes_first _ _ _ _ _ _ _ _ c.in_ok-declarations.ensures.overrides (λ j4 e4.
    takes_first _ _ _ _ _ _ _ _ c.in_ok-declarations.ensures.global_variables (λ j5 e5.
    takes_first _ _ _ _ _ _ _ _ c.in_ok-declarations.ensures.global_expressions (λ j6 e6.
    takes_first _ _ _ _ _ _ _ _ c.in_ok-functions.ensures.functions (λ j7 e7.
    takes_first _ _ _ _ _ _ _ _ c.in_ok-functions.ensures.entry_points (λ j8 e8.
    takes_first _ _ _ _ _ _ _ _ c.in_ok-functions.ensures.diagnostic_filters (λ j9 e9.
    takes_first _ _ _ _ _ _ _ _ c.in_ok-functions.ensures.diagnostic_filter_leaf (λ j10 e10.
    takes_first _ _ _ _ _ _ _ _ c.in_ok-functions.ensures.doc_comments (λ j11 e11.
    takes_last _ _ _ _ c.in_ok-functions.ensures.ended (rw (e1, e2, e3, e4, e5, e6, e7, e8, e9, e10, e11) refl)))))))))))))
