use Rattle.std.proofs.Common.{◌≡◌, ◌∙◌, ap, sym, subst}
use Rattle.naga_compact.specs.Module.References.{references_of_element}
use Rattle.naga_compact.specs.Module.Used.{AreUsed, roots}
use Rattle.naga_compact.specs.Module.Visits.{visits}
use Rattle.naga_compact.proofs.IsUsedLemmas.{IsTraced, IsTraced-end, IsTraced-start, IsTraced-step, nothing_visited}
use Rattle.naga_compact.proofs.VisitsLemmas.{visits-fewer}
use Rattle.naga_compact.proofs.module.used_handles.Goals as goal

pub pending-init : goal.pending-init
pending-init c =
    let whole = c.args.module.now in
    let from = roots whole c.args.keep_unused in
    let visited : c.visit_roots.new.tracer ≡ visits (nothing_visited whole) from = c.visit_roots.ensures ∙ ap (λ v. visits v from) c.in_ok-tracer.ensures in
    subst (IsTraced whole from) (sym visited) (IsTraced-start whole from)

pub pending-preserved : goal.pending-preserved
pending-preserved c =
    IsTraced-step c.args.module.now (roots c.args.module.now c.args.keep_unused) c.pending.tracer c.take.new.self c.visit_element.new.tracer c.in-Some.element c.pending.invariant c.in-Some.ensures.used c.in-Some.ensures.pending c.visit_element.ensures

pub pending-smaller : goal.pending-smaller
pending-smaller c =
    visits-fewer c.pending.tracer c.take.new.self c.visit_element.new.tracer c.in-Some.element (references_of_element c.args.module.now c.in-Some.element) c.in-Some.ensures.used c.in-Some.ensures.pending c.visit_element.ensures

pub returns : goal.returns
returns c =
    subst (AreUsed c.args.module.now c.args.keep_unused) (sym (c.finish.ensures ∙ c.in_default.ensures.used))
    (IsTraced-end c.args.module.now c.args.keep_unused c.pending.tracer c.pending.invariant c.in_default.ensures.none)
