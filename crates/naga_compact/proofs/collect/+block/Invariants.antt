use Rattle.std.proofs.Common.{◌≡◌, drop}
use Rattle.std.specs.List.{flat_map, fold}
use Rattle.naga_ir.specs.Block.{statements}
use Rattle.naga_valid.proofs.ReferencesOfTreeLemmas.{references_inside, references_of_case}
use Rattle.naga_compact.proofs.collect.+block.Given as goal

-- what the statements from this one on refer to is still to be collected
abbrev pub invariant-collect_block-front : goal.invariant-collect_block-front
invariant-collect_block-front g l =
    fold g.C.Collect.collected l.collector (flat_map references_inside (drop l.position (statements l.block))) ≡ fold g.C.Collect.collected l.initial.collector (flat_map references_inside (statements l.block))

-- what the cases from this one on refer to is still to be collected
abbrev pub invariant-collect_cases-loop-case : goal.invariant-collect_cases-loop-case
invariant-collect_cases-loop-case g l =
    fold g.C.Collect.collected l.collector (flat_map references_of_case (drop l.case-index l.cases)) ≡ fold g.C.Collect.collected l.initial.collector (flat_map references_of_case l.cases)
