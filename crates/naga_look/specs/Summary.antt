-- The summary of a module.
use Rattle.std.specs.Prelude.{ℕ, ◌+◌, ◌-◌, ◌^◌, List, ◌++◌, None, length, map, min, sum_by}
use Rattle.naga_arena.specs.Arena.{values}
use Rattle.naga_ir.specs.Tree.{Tree}
use Rattle.naga_ir.specs.Uses.{uses_mesh_shaders, uses_ray_pipelines, uses_ray_queries}
use Rattle.naga_ir.specs.View.{tree_of}
use Rattle.naga_ir.specs.declared.module.EntryPoint.{EntryPoint}
use Rattle.naga_ir.specs.declared.module.Function.{Function}
use Rattle.naga_ir.specs.declared.module.Module as the_module
use Rattle.naga_proc.specs.declared.terminator.rule.Rule.TheVariants.{New, Old}
use Rattle.naga_look.specs.Counts.{open_tails, statement_count}
use Rattle.naga_look.specs.declared.summary.Summary.{Summary}
use Rattle.naga_look.specs.declared.summary.counts.Counts.{Counts}

-- the sum, or `u64::MAX` if the sum is greater
abbrev pub saturating_sum : ℕ → ℕ → ℕ
saturating_sum counted more = min (counted + more) (2 ^ 64 - 1)

-- the counts with those of more blocks added
abbrev pub with_blocks : Counts → List Tree → Counts
with_blocks counts blocks = record {
  statements = saturating_sum counts.statements (sum_by statement_count blocks);
  open_tails = saturating_sum counts.open_tails (sum_by (open_tails New) blocks);
  open_tails_old = saturating_sum counts.open_tails_old (sum_by (open_tails Old) blocks);
}

-- the counts of no blocks
abbrev pub no_counts : Counts
no_counts = record { statements = 0; open_tails = 0; open_tails_old = 0 }

-- the counts of two lists of blocks together
abbrev pub plus : Counts → Counts → Counts
plus counts others = record {
  statements = saturating_sum counts.statements others.statements;
  open_tails = saturating_sum counts.open_tails others.open_tails;
  open_tails_old = saturating_sum counts.open_tails_old others.open_tails_old;
}

-- the body of a function
abbrev pub body_of : Function → Tree
body_of declared = tree_of declared.body

-- the body of the function of an entry point
abbrev pub entry_body_of : EntryPoint → Tree
entry_body_of entry = body_of entry.function

-- the bodies of all functions and entry points
abbrev pub bodies_of : the_module.Module → List Tree
bodies_of whole = map body_of (values whole.functions) ++ map entry_body_of whole.entry_points.items

-- the summary of a module
abbrev pub summary_of : the_module.Module → Summary
summary_of whole = record {
  types = length whole.types;
  functions = length whole.functions;
  entry_points = length whole.entry_points.items;
  counts = with_blocks no_counts (bodies_of whole);
  ray_pipelines = uses_ray_pipelines whole None;
  ray_queries = uses_ray_queries whole None;
  mesh_shaders = uses_mesh_shaders whole;
}
