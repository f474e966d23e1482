use Rattle.std.proofs.Common.{◌≡◌, map, [], ◌∷◌, rules}
use Rattle.indexmap.specs.IndexMap.{values}
use Rattle.naga_valid.specs.Places.{references_of_fixed_types}
use Rattle.naga_valid.specs.declared.reference.Reference.TheVariants.{«Type»}
use Rattle.naga_compact.specs.Module.Visits.{visit, visits}
use Rattle.naga_compact.proofs.FoldLemmas.{fold-end_mapped, fold-next_mapped, fold-then}
use Rattle.naga_compact.proofs.module.roots.visit_special_types.Goals as goal

pub loop-ty-preserved : goal.loop-ty-preserved
loop-ty-preserved c =
    let is : c.loop-ty.ty-iterator ≡ c.in-Some.ty.now ∷ c.next.new.self = c.in-Some.ensures.steps in
    fold-next_mapped visit «Type» c.loop-ty.tracer c.add.new.self (visits c.collect_references.new.collector (map «Type» (values c.args.types.now.predeclared_types))) c.loop-ty.ty-iterator c.next.new.self c.in-Some.ty.now is c.loop-ty.invariant c.add.ensures

pub returns : goal.returns
returns c =
    let is : c.loop-ty.ty-iterator ≡ [] = search rules in
    let rest = fold-end_mapped visit «Type» c.loop-ty.tracer (visits c.collect_references.new.collector (map «Type» (values c.args.types.now.predeclared_types))) c.loop-ty.ty-iterator is c.loop-ty.invariant in
    fold-then visit c.args.tracer.now c.collect_references.new.collector c.loop-ty.tracer (references_of_fixed_types c.args.types.now) (map «Type» (values c.args.types.now.predeclared_types))
    c.collect_references.ensures rest
