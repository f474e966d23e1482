use Rattle.std.proofs.Common.{take}
use Rattle.std.specs.Prelude.{All}
use Rattle.naga_ir.specs.Block.{statements}
use Rattle.naga_valid.specs.Limits.{AreWithin}
use Rattle.naga_valid.proofs.ReferencesOfTreeLemmas.{references_inside, references_of_case}
use Rattle.naga_valid.proofs.handles.body.+body.Given as goal

abbrev pub invariant-first_outside_in_block-front : goal.invariant-first_outside_in_block-front
invariant-first_outside_in_block-front l =
    All (λ s. AreWithin l.limits (references_inside s)) (take l.position (statements l.block))

abbrev pub invariant-first_outside_in_cases-loop-case : goal.invariant-first_outside_in_cases-loop-case
invariant-first_outside_in_cases-loop-case l =
    All (λ x. AreWithin l.limits (references_of_case x)) (take l.case-index l.cases)
