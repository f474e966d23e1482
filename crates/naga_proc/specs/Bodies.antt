-- Modules of which only the bodies of functions and entry points change.
use Rattle.std.specs.Prelude.{◌≡◌, All}
use Rattle.std.specs.List.{AllZip}
use Rattle.naga_ir.specs.Tree.{Tree}
use Rattle.naga_ir.specs.View.{tree_of}
use Rattle.naga_ir.specs.declared.module.EntryPoint as entry_point
use Rattle.naga_ir.specs.declared.module.Function as function
use Rattle.naga_ir.specs.declared.module.Module as the_module
use Rattle.naga_proc.specs.Closing.{ClosedBy}
use Rattle.naga_proc.specs.Closing.Room.{HasRoomAtTails}
use Rattle.naga_proc.specs.declared.terminator.rule.Rule.{Rule}

-- the new body of the function is related to the old one, and nothing else of the function changes
abbrev pub ChangesBody : (Tree → Tree → Type 0) → (old new : function.Function) → Type 0
ChangesBody Related old new = (new ≡ record old { body = new.body }) × Related (tree_of old.body) (tree_of new.body)

-- the new body of the entry point is related to the old one, and nothing else of the entry point changes
abbrev pub ChangesEntryBody : (Tree → Tree → Type 0) → (old new : entry_point.EntryPoint) → Type 0
ChangesEntryBody Related old new =
    (new ≡ record old { function = new.function }) × ChangesBody Related old.function new.function

-- the new body of each function and entry point is related to the old one, and nothing else of the module changes
pub record ChangesBodies (Related : Tree → Tree → Type 0) (old new : the_module.Module) : Type 0 where
  pub outside : new ≡ record old { functions = new.functions; entry_points = new.entry_points }
  pub functions : AllZip (λ before after. ChangesBody Related before.0 after.0 × (after.1 ≡ before.1)) old.functions new.functions
  pub entry_points : AllZip (ChangesEntryBody Related) old.entry_points.items new.entry_points.items

-- the second block has the same statements as the first
abbrev pub IsSame : Tree → Tree → Type 0
IsSame b c = c ≡ b

-- the second module is the first, except perhaps for the spare capacity of blocks
abbrev pub HasSameStatements : (old new : the_module.Module) → Type 0
HasSameStatements = ChangesBodies IsSame

-- the second module is the first with the bodies of all functions and entry points closed by the rule
abbrev pub ClosesBodies : Rule → (old new : the_module.Module) → Type 0
ClosesBodies rule = ChangesBodies (ClosedBy rule)

-- the body of the function has spare capacity for the returns that it gets by the rule
abbrev pub HasRoomInBody : Rule → function.Function → Type 0
HasRoomInBody rule declared = HasRoomAtTails rule declared.body

-- the bodies of all functions and entry points have spare capacity for the returns that they get by the rule
pub record HasRoomInBodies (rule : Rule) (whole : the_module.Module) : Type 0 where
  pub functions : All (λ entry. HasRoomInBody rule entry.0) whole.functions
  pub entry_points : All (λ entry. HasRoomInBody rule entry.function) whole.entry_points.items
