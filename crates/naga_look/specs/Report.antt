-- The report on a module: the faults of declarations, bodies and types, the summary, the functions that use an access without
-- an `Emit` of its own, and notes.
use Rattle.std.specs.Prelude.{◌≡◌, ◌⊎◌, ℕ, ◌-◌, ◌^◌, All, IfSome, List, [], ◌∷◌, ◌++◌, ◌==◌, codes, flat_map, length, map, string_bytes}
use Rattle.std.specs.List.{enumerate_from, filter}
use Rattle.naga_arena.specs.Arena.{values}
use Rattle.naga_flow.specs.Bodies.{BodyPasses, HasFault, functions_of, functions_of_entries}
use Rattle.naga_flow.specs.Messages.{IsPlaced}
use Rattle.naga_flow.specs.declared.bodies.InvalidBody.{InvalidBody}
use Rattle.naga_ir.specs.declared.module.EntryPoint as entry_point
use Rattle.naga_ir.specs.declared.module.Function as function
use Rattle.naga_ir.specs.declared.module.Module as the_module
use Rattle.naga_text.specs.Escapes.{visible}
use Rattle.naga_text.specs.Module.{declared_text}
use Rattle.naga_text.specs.Readable.{IsLine, IsReadable}
use Rattle.naga_text.specs.Words.{number, quoted}
use Rattle.naga_typing.specs.FunctionFaults.{AreFirstFaults}
use Rattle.naga_typing.specs.Joined.{AreJoined}
use Rattle.naga_typing.specs.Messages.{placed_type_fault_text}
use Rattle.naga_typing.specs.TypedModules.{DeclarationsAreTyped, FunctionIsTyped}
use Rattle.naga_typing.specs.declared.invalid_types.TypeFault.{TypeFault}
use Rattle.naga_valid.specs.ElementNames.{text_of}
use Rattle.naga_look.specs.Accesses.{accesses_line}
use Rattle.naga_look.specs.DeclarationLines.{AreDeclarationLines}
use Rattle.naga_look.specs.Emits.{LacksEmit}
use Rattle.naga_look.specs.Layouts.{IsLayoutNote}
use Rattle.naga_look.specs.Notes.{notes_in}
use Rattle.naga_look.specs.Summary.{summary_of}
use Rattle.naga_look.specs.SummaryText.{summary_lines}
use Rattle.naga_look.specs.declared.shown.Extent.{Extent}
use Rattle.naga_look.specs.declared.shown.Extent.TheVariants.{Full, Short}

-- a function, and what its line begins with
pub record Headed : Type 0 where
  pub head : List ℕ
  pub whole : function.Function

-- a function of the module: its position, and its name if it has one
abbrev pub headed_function : ℕ × function.Function → Headed
headed_function entry = record {
  head = declared_text (codes "function") entry.0 (text_of (entry.1).name);
  whole = entry.1;
}

-- the function of an entry point: the position and the name of the entry point
abbrev pub headed_entry_point : ℕ × entry_point.EntryPoint → Headed
headed_entry_point entry = record {
  head = codes "entry point" ++ (number entry.0 ++ quoted (string_bytes (entry.1).name));
  whole = (entry.1).function;
}

-- the functions that are no entry points, in their order
abbrev pub headed_functions : List function.Function → List Headed
headed_functions functions = map headed_function (enumerate_from 0 functions)

-- the functions of entry points, in their order
abbrev pub headed_entry_points : List entry_point.EntryPoint → List Headed
headed_entry_points entry_points = map headed_entry_point (enumerate_from 0 entry_points)

-- the functions of the module, and then those of its entry points
abbrev pub headed_bodies : the_module.Module → List Headed
headed_bodies whole = headed_functions (values whole.functions) ++ headed_entry_points whole.entry_points.items

-- the body of the function passes the checks of jumps and of uses, and the function uses each value at its type
abbrev pub Passes : the_module.Module → function.Function → Type 0
Passes whole inside = BodyPasses inside × FunctionIsTyped whole inside

-- the declarations use each value at its type, and each function and each entry point passes
abbrev pub ModulePasses : the_module.Module → Type 0
ModulePasses whole =
    DeclarationsAreTyped whole × All (Passes whole) (functions_of whole)
    × All (Passes whole) (functions_of_entries whole.entry_points.items)

-- the first fault of the body of the function, with the path to its statement
abbrev pub IsBodyFault : function.Function → List ℕ → Type 0
IsBodyFault inside found = (error : InvalidBody) × HasFault inside error × IsPlaced inside error found

-- it is what the line of the fault says, with the path to its statement, if a text is stated
abbrev pub IsSaidOfTypes : function.Function → TypeFault → List ℕ → Type 0
IsSaidOfTypes inside fault said = IfSome (placed_type_fault_text inside fault) (λ known. said ≡ known)

-- a line that says a fault
abbrev pub fault_line : (head said : List ℕ) → List ℕ
fault_line head said = head ++ (codes ": " ++ (visible said ++ codes "\n"))

-- Nothing, if the body passes the checks of jumps and of uses. Otherwise a line of the function, which also says their first
-- fault. Its only newline is at its end.
abbrev pub IsBodyLine : Headed → List ℕ → Type 0
IsBodyLine headed line =
    (BodyPasses headed.whole × (line ≡ []))
    ⊎ (¬ BodyPasses headed.whole × IsLine line
    × ((said : List ℕ) × IsBodyFault headed.whole said × (line ≡ fault_line headed.head said)))

-- the line of a fault of the types of a function, which also says the fault; its only newline is at its end
abbrev pub IsTypeLine : Headed → TypeFault → List ℕ → Type 0
IsTypeLine headed fault line =
    IsLine line × ((said : List ℕ) × IsSaidOfTypes headed.whole fault said × (line ≡ fault_line headed.head said))

-- a line for each fault of the types of a function, one after another, up to the limit
abbrev pub AreTypeLines : the_module.Module → (limit : ℕ) → Headed → List ℕ → Type 0
AreTypeLines whole limit headed text =
    (faults : List TypeFault) × AreFirstFaults whole headed.whole limit faults × AreJoined (IsTypeLine headed) faults text

-- the line of the body of a function, and then those of its types
pub record AreFunctionLines (whole : the_module.Module) (limit : ℕ) (headed : Headed) (text : List ℕ) : Type 0 where
  pub body : List ℕ
  pub of_body : IsBodyLine headed body
  pub types : List ℕ
  pub of_types : AreTypeLines whole limit headed types
  pub joined : text ≡ body ++ types

-- the line that names a function that uses an access without an `Emit` of its own
abbrev pub emit_text : (head : List ℕ) → List ℕ
emit_text head = codes "an access without its own Emit: " ++ (head ++ codes "\n")

-- Nothing, if the function lacks no `Emit`. Otherwise the line that names it. Its only newline is at its end.
abbrev pub IsEmitLine : Headed → List ℕ → Type 0
IsEmitLine headed line =
    (¬ LacksEmit headed.whole × (line ≡ []))
    ⊎ (LacksEmit headed.whole × IsLine line × (line ≡ emit_text headed.head))

-- how many faults of the types of a function, and how many notes of a kind on it, are listed
abbrev pub limit_of : Extent → ℕ
limit_of Short = 20
limit_of Full = 2 ^ 64 - 1

-- the lines of the faults of the declarations, and then those of functions
pub record AreFaults (whole : the_module.Module) (extent : Extent) (text : List ℕ) : Type 0 where
  pub declared : List ℕ
  pub of_declarations : AreDeclarationLines whole declared
  pub faults : List ℕ
  pub of_functions : AreJoined (AreFunctionLines whole (limit_of extent)) (headed_bodies whole) faults
  pub joined : text ≡ declared ++ faults

-- the lines of faults, or a line that says that there are none
abbrev pub lines_or_none : (lines : List ℕ) → List ℕ
lines_or_none [] = codes "no faults\n"
lines_or_none (byte ∷ bytes) = byte ∷ bytes

-- the number of lines of the text, each of which ends in a newline
abbrev pub line_count : (text : List ℕ) → ℕ
line_count text = length (filter (λ byte. byte == 10) text)

-- the notes on a function
abbrev pub notes_on : the_module.Module → (limit : ℕ) → Headed → List ℕ
notes_on whole limit headed = notes_in whole limit headed.head headed.whole

-- the notes on all functions and entry points
abbrev pub notes_of : the_module.Module → (limit : ℕ) → List ℕ
notes_of whole limit = flat_map (notes_on whole limit) (headed_bodies whole)

-- The lines of faults, of which there are this many, then the summary with the number of accesses that may be out of bounds,
-- then the lines of functions that lack an `Emit`, and then the notes, on layouts first. The text is readable.
abbrev pub IsReport : the_module.Module → Extent → (text : List ℕ) → (number : ℕ) → Type 0
IsReport whole extent text number =
    (faults emits layout : List ℕ) × AreFaults whole extent faults × (number ≡ line_count faults)
    × AreJoined IsEmitLine (headed_bodies whole) emits × IsLayoutNote whole layout
    × (text ≡ lines_or_none faults
    ++ (summary_lines (summary_of whole) ++ (accesses_line whole ++ (emits ++ (layout ++ notes_of whole (limit_of extent))))))
    × IsReadable text
