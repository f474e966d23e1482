-- Modules of which only the bodies change, once and twice.
use Rattle.std.proofs.Common.{◌≡◌, ◌∙◌, sym, ap, subst, refl, List, length}
use Rattle.std.proofs.lemmas.List.{with_items_is}
use Rattle.std.proofs.lemmas.Slice.Zip.{AllZip-long}
use Rattle.std.specs.List.{All, AllZip}
use Rattle.std.specs.Vec.{with_items}
use Rattle.naga_arena.specs.declared.span.Span.{Span}
use Rattle.naga_ir.specs.Tree.{Tree}
use Rattle.naga_ir.specs.View.{tree_of}
use Rattle.naga_ir.specs.declared.module.EntryPoint as entry_point
use Rattle.naga_ir.specs.declared.module.Function as function
use Rattle.naga_ir.specs.declared.module.Module as the_module
use Rattle.naga_proc.specs.declared.terminator.rule.Rule.{Rule}
use Rattle.naga_proc.specs.Bodies.{ChangesBodies, ChangesBody, ChangesEntryBody, HasRoomInBodies, HasRoomInBody, HasSameStatements, IsSame}
use Rattle.naga_proc.proofs.Bodies.AllZipLemmas.{AllZip-itself, AllZip-parted, AllZip-then}

-- ---- entries of an arena, and entry points

-- the body of the entry's function changes, and its span is unchanged
abbrev pub ChangesEntry : (Tree → Tree → Type 0) → (before after : function.Function × Span) → Type 0
ChangesEntry Related before after = ChangesBody Related before.0 after.0 × (after.1 ≡ before.1)

-- the statements of the entry's function and its span are unchanged, and space for returns is reserved
abbrev pub IsReservedEntry : Rule → (before after : function.Function × Span) → Type 0
IsReservedEntry rule before after = ChangesEntry IsSame before after × HasRoomInBody rule after.0

-- the statements of the entry point are unchanged, and space for returns is reserved
abbrev pub IsReservedEntryPoint : Rule → (before after : entry_point.EntryPoint) → Type 0
IsReservedEntryPoint rule before after = ChangesEntryBody IsSame before after × HasRoomInBody rule after.function

pub ChangesEntry-itself : (before : function.Function × Span) → ChangesEntry IsSame before before
ChangesEntry-itself before = ((refl, refl), refl)

pub ChangesEntryBody-itself : (before : entry_point.EntryPoint) → ChangesEntryBody IsSame before before
ChangesEntryBody-itself before = (refl, (refl, refl))

-- ---- two changes

module _ (R S T : Tree → Tree → Type 0) where
  -- one after the other
  module _ (joined : (b c d : Tree) → R b c → S c d → T b d) where
    ChangesBody-joined : (old middle new : function.Function) → ChangesBody R old middle → ChangesBody S middle new → ChangesBody T old new
    ChangesBody-joined old middle new once again = (
      again.0 ∙ ap (λ (f : function.Function). record f { body = new.body }) once.0,
      joined (tree_of old.body) (tree_of middle.body) (tree_of new.body) once.1 again.1,
    )

    ChangesEntry-joined : (old middle new : function.Function × Span) → ChangesEntry R old middle → ChangesEntry S middle new → ChangesEntry T old new
    ChangesEntry-joined old middle new once again =
        (ChangesBody-joined old.0 middle.0 new.0 once.0 again.0, again.1 ∙ once.1)

    ChangesEntryBody-joined : (old middle new : entry_point.EntryPoint) → ChangesEntryBody R old middle → ChangesEntryBody S middle new → ChangesEntryBody T old new
    ChangesEntryBody-joined old middle new once again = (
      again.0 ∙ ap (λ (e : entry_point.EntryPoint). record e { function = new.function }) once.0,
      ChangesBody-joined old.function middle.function new.function once.1 again.1,
    )

    pub ChangesBodies-joined : (old middle new : the_module.Module) → ChangesBodies R old middle → ChangesBodies S middle new → ChangesBodies T old new
    ChangesBodies-joined old middle new once again = record {
      outside = again.outside ∙ ap (λ (m : the_module.Module). record m { functions = new.functions; entry_points = new.entry_points }) once.outside;
      functions = AllZip-then (ChangesEntry R) (ChangesEntry S) (ChangesEntry T) ChangesEntry-joined old.functions middle.functions new.functions once.functions again.functions;
      entry_points = AllZip-then (ChangesEntryBody R) (ChangesEntryBody S) (ChangesEntryBody T) ChangesEntryBody-joined old.entry_points.items middle.entry_points.items new.entry_points.items once.entry_points again.entry_points;
    }

  -- each by itself
  module _ (parted : (b c d : Tree) → R b c → S b d → T c d) where
    ChangesBody-parted : (old new other : function.Function) → ChangesBody R old new → ChangesBody S old other → ChangesBody T new other
    ChangesBody-parted old new other one two = (
      two.0 ∙ sym (ap (λ (f : function.Function). record f { body = other.body }) one.0),
      parted (tree_of old.body) (tree_of new.body) (tree_of other.body) one.1 two.1,
    )

    ChangesEntry-parted : (old new other : function.Function × Span) → ChangesEntry R old new → ChangesEntry S old other → ChangesEntry T new other
    ChangesEntry-parted old new other one two = (ChangesBody-parted old.0 new.0 other.0 one.0 two.0, two.1 ∙ sym one.1)

    ChangesEntryBody-parted : (old new other : entry_point.EntryPoint) → ChangesEntryBody R old new → ChangesEntryBody S old other → ChangesEntryBody T new other
    ChangesEntryBody-parted old new other one two = (
      two.0 ∙ sym (ap (λ (e : entry_point.EntryPoint). record e { function = other.function }) one.0),
      ChangesBody-parted old.function new.function other.function one.1 two.1,
    )

    pub ChangesBodies-parted : (old new other : the_module.Module) → ChangesBodies R old new → ChangesBodies S old other → ChangesBodies T new other
    ChangesBodies-parted old new other one two = record {
      outside = two.outside ∙ sym (ap (λ (m : the_module.Module). record m { functions = other.functions; entry_points = other.entry_points }) one.outside);
      functions = AllZip-parted (ChangesEntry R) (ChangesEntry S) (ChangesEntry T) ChangesEntry-parted old.functions new.functions other.functions one.functions two.functions;
      entry_points = AllZip-parted (ChangesEntryBody R) (ChangesEntryBody S) (ChangesEntryBody T) ChangesEntryBody-parted old.entry_points.items new.entry_points.items other.entry_points.items one.entry_points two.entry_points;
    }

-- a change of bodies after one that changed only spare capacities
pub ChangesBodies-then : (Related : Tree → Tree → Type 0) (old middle new : the_module.Module) → HasSameStatements old middle → ChangesBodies Related middle new → ChangesBodies Related old new
ChangesBodies-then Related =
    ChangesBodies-joined IsSame Related Related (λ b c d same related. subst (λ block. Related block d) same related)

-- ---- one part after the other

-- the functions of the arena changed, and then those of the entry points
pub ChangesBodies-from : (Related : Tree → Tree → Type 0) (old : the_module.Module) (functions : List (function.Function × Span)) (before after : List entry_point.EntryPoint) → AllZip (ChangesEntry Related) old.functions functions → before ≡ old.entry_points.items → AllZip (ChangesEntryBody Related) before after →
    ChangesBodies Related old (record old { functions = functions; entry_points = with_items old.entry_points after })
ChangesBodies-from Related old functions before after changed same entered =
    let long : length after ≡ old.entry_points.len =
    AllZip-long (ChangesEntryBody Related) before after entered ∙ ap length same ∙ sym old.entry_points.ok.0
    in record {
      outside = refl;
      functions = changed;
      entry_points = subst (AllZip (ChangesEntryBody Related) old.entry_points.items) (sym (with_items_is old.entry_points after long)) (subst (λ entries. AllZip (ChangesEntryBody Related) entries after) same entered);
    }

-- space is reserved in the functions of the arena, and then in those of the entry points
pub HasRoomInBodies-from : (rule : Rule) (old : the_module.Module) (functions : List (function.Function × Span)) (before after : List entry_point.EntryPoint) → All (λ (entry : function.Function × Span). HasRoomInBody rule entry.0) functions → before ≡ old.entry_points.items → length after ≡ length before → All (λ (entry : entry_point.EntryPoint). HasRoomInBody rule entry.function) after →
    HasRoomInBodies rule (record old { functions = functions; entry_points = with_items old.entry_points after })
HasRoomInBodies-from rule old functions before after reserved same long entered =
    let fits : length after ≡ old.entry_points.len = long ∙ ap length same ∙ sym old.entry_points.ok.0 in record {
      functions = reserved;
      entry_points = subst (All (λ (entry : entry_point.EntryPoint). HasRoomInBody rule entry.function)) (sym (with_items_is old.entry_points after fits)) entered;
    }

-- only the functions of the arena changed
pub HasSameStatements-functions : (old : the_module.Module) (functions : List (function.Function × Span)) → AllZip (ChangesEntry IsSame) old.functions functions → HasSameStatements old (record old { functions = functions })
HasSameStatements-functions old functions changed = record {
  outside = refl;
  functions = changed;
  entry_points = AllZip-itself (ChangesEntryBody IsSame) ChangesEntryBody-itself old.entry_points.items;
}
