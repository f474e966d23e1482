use Rattle.std.proofs.Common.{◌≡◌, ℕ, ◌<◌, get_or, take}
use Rattle.naga_ir.specs.View.{cases_of}
use Rattle.naga_ir.specs.declared.statement.SwitchCase.{SwitchCase}
use Rattle.naga_runs.specs.Diverges.{cases_diverge}
use Rattle.naga_compact.specs.Culling.{culled}
use Rattle.naga_compact.proofs.CulledBlocks.{CulledTo}
use Rattle.naga_compact.proofs.MappedBlocks.{CaseMapped}
use Rattle.naga_compact.proofs.cull.+cull.Given as goal

-- the statements before the position are culled, and none of them diverges
abbrev pub invariant-cull_block-front : goal.invariant-cull_block-front
invariant-cull_block-front l = CulledTo l.initial.block l.block l.position

-- the cases before `i` are culled
abbrev pub invariant-cull_cases-cases : goal.invariant-cull_cases-cases
invariant-cull_cases-cases l =
    (goal.unvisited-cull_cases-cases l × ((k : ℕ) (d : SwitchCase) → k < l.i → CaseMapped culled (get_or l.initial.cases.items k d) (get_or l.cases.items k d)))
    × (l.diverge ≡ cases_diverge (cases_of (take l.i l.cases.items)))
