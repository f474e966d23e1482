use Rattle.std.proofs.Common.{true}
use Rattle.std.specs.Prelude.{is_some}
use Rattle.naga_valid.specs.declared.reference.Reference.TheVariants.{«Type», Override, GlobalVariable, Function}
use Rattle.naga_compact.specs.Module.Used.{elements_where}
use Rattle.naga_compact.specs.Module.Visits.{visit}
use Rattle.naga_compact.proofs.FoldLemmas.{fold-four}
use Rattle.naga_compact.proofs.VisitsLemmas.{visits-arena}
use Rattle.naga_compact.proofs.module.roots.visit_kept_if_unused.Goals as goal

pub returns : goal.returns
returns c =
    let whole = c.args.module.now in
    fold-four visit c.args.tracer.now c.visit_kept.new.tracer c.visit_kept-2.new.tracer c.visit_kept-3.new.tracer c.visit_kept-4.new.tracer
    (elements_where «Type» (λ type. is_some type.name) whole.types)
    (elements_where Override (λ override. is_some override.name) whole.overrides)
    (elements_where GlobalVariable (λ variable. true) whole.global_variables)
    (elements_where Function (λ function. true) whole.functions)
    (visits-arena c.args.tracer.now c.visit_kept.new.tracer «Type» (λ type. is_some type.name) whole.types c.iter.result c.iter.ensures.rest c.visit_kept.ensures)
    (visits-arena c.visit_kept.new.tracer c.visit_kept-2.new.tracer Override (λ override. is_some override.name) whole.overrides c.iter-2.result c.iter-2.ensures.rest c.visit_kept-2.ensures)
    (visits-arena c.visit_kept-2.new.tracer c.visit_kept-3.new.tracer GlobalVariable (λ variable. true) whole.global_variables c.iter-3.result c.iter-3.ensures.rest c.visit_kept-3.ensures)
    (visits-arena c.visit_kept-3.new.tracer c.visit_kept-4.new.tracer Function (λ function. true) whole.functions c.iter-4.result c.iter-4.ensures.rest c.visit_kept-4.ensures)
