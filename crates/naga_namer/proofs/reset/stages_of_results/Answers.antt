use Rattle.std.proofs.Common.{◌≡◌, ◌∙◌, List, Some, ap}
use Rattle.std.specs.List.{slice_get}
use Rattle.std.proofs.lemmas.List.{take_all}
use Rattle.std.specs.Prelude.{nat_eq}
use Rattle.std.specs.HashMap.{get}
use Rattle.naga_ir.specs.declared.module.EntryPoint as entry_point
use Rattle.naga_namer.specs.Declarations.{stage_of_result}
use Rattle.naga_namer.proofs.EachLemmas.{found-at}
use Rattle.naga_namer.proofs.StageOfResultLemmas.{stage-turn}
use Rattle.naga_namer.proofs.reset.stages_of_results.Goals as goal

pub each-preserved : goal.each-preserved
each-preserved c =
    let entry = c.index-entries-index.result in
    let here : slice_get c.args.entries.now c.each.index ≡ Some entry =
    found-at c.args.entries.now c.each.index entry c.each-test.true c.index-entries-index.is in
    stage-turn c.args.entries.now c.each.index entry (get nat_eq c.each.stages) (get nat_eq c.add_stage.new.stages)
    here c.each.invariant c.in_ok-add_stage.ensures

pub returns : goal.returns
returns c = λ ty.
    c.each.invariant ty
    ∙ ap (λ (items : List entry_point.EntryPoint). stage_of_result items ty) (take_all c.each.index c.args.entries.now c.each-test.false)
