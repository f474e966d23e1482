use Rattle.std.proofs.Common.{◌≡◌, ap, [], ◌∷◌, rules}
use Rattle.std.specs.List.{filter_map}
use Rattle.naga_compact.specs.Module.Used.{element_if}
use Rattle.naga_compact.specs.Module.Visits.{visit, visits}
use Rattle.naga_compact.proofs.FoldLemmas.{fold-end_optional, fold-next_optional}
use Rattle.naga_compact.proofs.module.roots.visit_kept.Goals as goal

pub loop-handle-init : goal.loop-handle-init
loop-handle-init g c =
    let kept = element_if g.T.Declaration.element (g.T.Declaration.keeps c.args.types.now) in
    ap (λ xs. visits c.args.tracer.now (filter_map kept xs)) c.into_iter-handle-iterator.ensures.into_iter_gives

pub loop-handle-preserved : goal.loop-handle-preserved
loop-handle-preserved g c =
    let kept = element_if g.T.Declaration.element (g.T.Declaration.keeps c.args.types.now) in
    let is : c.loop-handle.handle-iterator ≡ (c.in-Some.handle, c.in-Some.declared.now) ∷ c.next.new.self = c.in-Some.ensures.steps in
    fold-next_optional visit kept c.loop-handle.tracer c.visit_if_kept.new.tracer (visits c.args.tracer.now (filter_map kept c.args.elements)) c.loop-handle.handle-iterator c.next.new.self (c.in-Some.handle, c.in-Some.declared.now) is c.loop-handle.invariant c.visit_if_kept.ensures

pub returns : goal.returns
returns g c =
    let kept = element_if g.T.Declaration.element (g.T.Declaration.keeps c.args.types.now) in
    let is : c.loop-handle.handle-iterator ≡ [] = search rules in
    fold-end_optional visit kept c.loop-handle.tracer (visits c.args.tracer.now (filter_map kept c.args.elements)) c.loop-handle.handle-iterator is c.loop-handle.invariant
