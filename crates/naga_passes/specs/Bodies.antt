-- The bodies of the functions and entry points of a module.
use Rattle.std.specs.Prelude.{All, List}
use Rattle.std.specs.List.{AllZip, Contains}
use Rattle.naga_arena.specs.declared.span.Span.{Span}
use Rattle.naga_ir.specs.Tree.{Tree}
use Rattle.naga_ir.specs.View.{tree_of}
use Rattle.naga_ir.specs.declared.module.EntryPoint as entry_point
use Rattle.naga_ir.specs.declared.module.Function as function
use Rattle.naga_ir.specs.declared.module.Module as the_module

-- the body of a function in its arena
abbrev pub body_of : function.Function × Span → Tree
body_of entry = tree_of entry.0.body

-- the body of the function of an entry point
abbrev pub entry_body_of : entry_point.EntryPoint → Tree
entry_body_of entry = tree_of entry.function.body

-- `P` holds for the body of each function and entry point
pub record AllBodies (P : Tree → Type 0) (whole : the_module.Module) : Type 0 where
  pub functions : All (λ entry. P (body_of entry)) whole.functions
  pub entry_points : All (λ entry. P (entry_body_of entry)) whole.entry_points.items

-- the body of a function of the arena is related to the block
abbrev pub ComesFrom : (Tree → Tree → Type 0) → List (function.Function × Span) → Tree → Type 0
ComesFrom Related functions block =
    (before : function.Function × Span) × Contains functions before × Related (body_of before) block

-- the body of each function comes from that of a function of the old module, and the body of each entry point from that
-- of the old entry point at its position
pub record BodiesComeFrom (Related : Tree → Tree → Type 0) (old new : the_module.Module) : Type 0 where
  pub functions : All (λ entry. ComesFrom Related old.functions (body_of entry)) new.functions
  pub entry_points : AllZip (λ before after. Related (entry_body_of before) (entry_body_of after))
      old.entry_points.items new.entry_points.items
