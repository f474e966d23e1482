use Rattle.std.proofs.Common.{◌≡◌, ◌++◌, drop}
use Rattle.std.specs.Prelude.{flat_map, option_copied}
use Rattle.std.specs.Iterator.Adapters.{enumerate_count, enumerate_source}
use Rattle.std.specs.List.{enumerate_from}
use Rattle.naga_ir.specs.Block.{statements}
use Rattle.naga_ir.specs.View.{cases_of}
use Rattle.naga_text.specs.Counterparts.{optional_tree}
use Rattle.naga_text.proofs.TreeTextLemmas.{AreLast}
use Rattle.naga_look.specs.Graph.Flow.{cases_flow}
use Rattle.naga_look.proofs.FlowLemmas.{step_of}
use Rattle.naga_look.proofs.graph.flow.+flow.Given as goal

-- the statements that are left are still to be written
abbrev pub invariant-push_block-loop-position : goal.invariant-push_block-loop-position
invariant-push_block-loop-position l = record {
  last : AreLast l.block (enumerate_source l.position-iterator);
  text : l.text ++ flat_map (step_of l.«module» l.name (optional_tree (option_copied l.old))) (enumerate_from (enumerate_count l.position-iterator) (enumerate_source l.position-iterator))
      ≡ l.initial.text ++ flat_map (step_of l.«module» l.name (optional_tree (option_copied l.old))) (enumerate_from 0 (statements l.block));
}

-- the cases from this one on are still to be written
abbrev pub invariant-push_cases-loop-index : goal.invariant-push_cases-loop-index
invariant-push_cases-loop-index l =
    l.text ++ cases_flow l.«module» l.name (optional_tree (option_copied l.old)) l.position l.index (cases_of (drop l.index l.cases))
    ≡ l.initial.text ++ cases_flow l.«module» l.name (optional_tree (option_copied l.old)) l.position 0 (cases_of l.cases)
