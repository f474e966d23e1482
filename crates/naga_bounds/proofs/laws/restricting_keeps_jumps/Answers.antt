use Rattle.std.proofs.Common.{◌∙◌, ap}
use Rattle.naga_ir.specs.View.{tree_of}
use Rattle.naga_flow.specs.Structured.{jumps_are_structured, of_function}
use Rattle.naga_compact.specs.derived.Renaming.{rename_statement}
use Rattle.naga_meaning.proofs.Uses.StructuredLemmas.{map_tree-is_structured}
use Rattle.naga_bounds.specs.Restricted.{moving, new_of}
use Rattle.naga_bounds.proofs.laws.restricting_keeps_jumps.Goals as goal

pub returns : goal.returns
returns c counts code old new clamped =
    ap jumps_are_structured clamped.changed_to.body
    ∙ map_tree-is_structured (rename_statement (moving clamped.changes)) (new_of clamped.changes) of_function (tree_of old.body)
