use Rattle.std.proofs.Common.{◌≡◌, ◌∙◌, ap, map, [], ◌∷◌, rules}
use Rattle.naga_compact.specs.Module.References.{as_global}
use Rattle.naga_compact.specs.Module.Visits.{visit, visits}
use Rattle.naga_compact.proofs.FoldLemmas.{fold-end_mapped, fold-next_mapped}
use Rattle.naga_compact.proofs.module.elements.visit_each_global.Goals as goal

pub references-preserved : goal.references-preserved
references-preserved c =
    let is : c.references.references ≡ c.in-Some.reference ∷ c.next.new.self = search rules in
    fold-next_mapped visit as_global c.references.tracer c.add.new.self (visits c.args.tracer.now (map as_global c.args.references)) c.references.references c.next.new.self c.in-Some.reference is c.references.invariant
    (c.add.ensures ∙ ap (visit c.references.tracer) c.as_global.ensures)

pub returns : goal.returns
returns c =
    let is : c.references.references ≡ [] = search rules in
    fold-end_mapped visit as_global c.references.tracer (visits c.args.tracer.now (map as_global c.args.references)) c.references.references is c.references.invariant
