use Rattle.std.proofs.Common.{ℕ, ◌<◌, get_or}
use Rattle.naga_ir.specs.declared.statement.SwitchCase.{SwitchCase}
use Rattle.naga_compact.specs.Mapping.{map_tree}
use Rattle.naga_compact.specs.derived.Renaming.{rename_statement}
use Rattle.naga_compact.proofs.MappedBlocks.{CaseMapped, MappedTo}
use Rattle.naga_compact.proofs.renaming.block.+body.Given as goal

-- the statements before the position are mapped
abbrev pub invariant-rename_block-front : goal.invariant-rename_block-front
invariant-rename_block-front g l = MappedTo (map_tree (rename_statement (g.N.NewHandles.renaming l.new)) (g.N.NewHandles.renaming l.new).expressions) l.initial.block l.block l.position

-- the cases before `i` are mapped
abbrev pub invariant-rename_cases-cases : goal.invariant-rename_cases-cases
invariant-rename_cases-cases g l =
    goal.unvisited-rename_cases-cases g l × ((k : ℕ) (d : SwitchCase) → k < l.i → CaseMapped (map_tree (rename_statement (g.N.NewHandles.renaming l.new)) (g.N.NewHandles.renaming l.new).expressions) (get_or l.initial.cases.items k d) (get_or l.cases.items k d))
