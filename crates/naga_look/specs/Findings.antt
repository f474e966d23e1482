-- The findings on a module, as data: faults, and notes, which are no faults.
use Rattle.std.specs.Prelude.{◌≡◌, ◌⊎◌, ℕ, Bool, true, false, List, [], ◌∷◌, ◌++◌, codes, IfSome, Option, Some, None, length, map, string_bytes, take}
use Rattle.std.specs.List.{enumerate_from, filter}
use Rattle.naga_arena.specs.Arena.{values}
use Rattle.naga_bounds.specs.Messages.{unfit_access_text}
use Rattle.naga_bounds.specs.Modules.{typed_in}
use Rattle.naga_bounds.specs.Unfit.{unfit_accesses}
use Rattle.naga_bounds.specs.declared.invalid_access.UnfitAccess.{UnfitAccess}
use Rattle.naga_flow.specs.Bodies.{BodyPasses, HasFault}
use Rattle.naga_flow.specs.Messages.{jump_text, misuse_text}
use Rattle.naga_flow.specs.Paths.{path_text}
use Rattle.naga_flow.specs.declared.bodies.BodyOwner.{BodyOwner}
use Rattle.naga_flow.specs.declared.bodies.BodyOwner.TheVariants.{EntryPoint, Function}
use Rattle.naga_flow.specs.declared.bodies.InvalidBody.{InvalidBody}
use Rattle.naga_flow.specs.declared.bodies.InvalidBody.TheVariants as body
use Rattle.naga_flow.specs.declared.invalid_use.Misuse.{Misuse}
use Rattle.naga_flow.specs.declared.misplaced_jump.MisplacedJump.{MisplacedJump}
use Rattle.naga_ir.specs.View.{tree_of}
use Rattle.naga_ir.specs.declared.module.EntryPoint as entry_point
use Rattle.naga_ir.specs.declared.module.Function as function
use Rattle.naga_ir.specs.declared.module.Module as the_module
use Rattle.naga_typing.specs.DeclarationFaults.{AreFaultsOfDeclarations}
use Rattle.naga_typing.specs.FunctionFaults.{AreFirstFaults}
use Rattle.naga_typing.specs.Joined.{AreJoined}
use Rattle.naga_typing.specs.Messages.{unmet_text, value_fault_text}
use Rattle.naga_typing.specs.declared.invalid_types.TypeFault.{TypeFault}
use Rattle.naga_typing.specs.declared.invalid_types.TypeFault.TheVariants.{Value, Mismatch}
use Rattle.naga_typing.specs.declared.invalid_types.Unmet.{Unmet}
use Rattle.naga_typing.specs.declared.invalid_types.ValueFault.{ValueFault}
use Rattle.naga_typing.specs.declared.invalid_types.ValueFault.TheVariants.{NoType, Operand, Initial}
use Rattle.naga_valid.specs.ElementNames.{name_of_place, text_of}
use Rattle.naga_valid.specs.declared.place.Place.TheVariants as place
use Rattle.naga_look.specs.Emits.{LacksEmit}
use Rattle.naga_look.specs.Layouts.{HasNoLayoutFault, SaysOfLayouts}
use Rattle.naga_look.specs.OpenEnds.{missing_returns}
use Rattle.naga_look.specs.declared.finding.body.Body as declared_body
use Rattle.naga_look.specs.declared.finding.Finding.{Finding}
use Rattle.naga_look.specs.declared.finding.FindingKind.{FindingKind}
use Rattle.naga_look.specs.declared.finding.FindingKind.TheVariants.{Fault, Layout, Emit, Return, Access}
use Rattle.naga_look.specs.declared.finding.FindingOwner.{FindingOwner}
use Rattle.naga_look.specs.declared.finding.FindingOwner.TheVariants.{GlobalExpression, Declaration, Body}
use Rattle.naga_look.specs.declared.finding.FindingOwner.TheVariants as owner

-- ---- functions

-- a function or an entry point of the module, and its name
pub record Inside : Type 0 where
  pub owner : BodyOwner
  pub name : Option (List ℕ)
  pub whole : function.Function

-- a function of the module, with its position
abbrev pub inside_function : ℕ × function.Function → Inside
inside_function entry = record { owner = Function entry.0; name = text_of (entry.1).name; whole = entry.1 }

-- the function of an entry point, with the position of the entry point
abbrev pub inside_entry_point : ℕ × entry_point.EntryPoint → Inside
inside_entry_point entry = record {
  owner = EntryPoint entry.0;
  name = Some (string_bytes (entry.1).name);
  whole = (entry.1).function;
}

-- the functions that are no entry points, in their order
abbrev pub inside_functions : List function.Function → List Inside
inside_functions functions = map inside_function (enumerate_from 0 functions)

-- the functions of entry points, in their order
abbrev pub inside_entry_points : List entry_point.EntryPoint → List Inside
inside_entry_points entry_points = map inside_entry_point (enumerate_from 0 entry_points)

-- the functions of the module, and then those of its entry points
abbrev pub inside_bodies : the_module.Module → List Inside
inside_bodies whole = inside_functions (values whole.functions) ++ inside_entry_points whole.entry_points.items

-- ---- findings in a function

-- a finding in the function
abbrev pub finding_in :
    FindingKind → Inside → (path : Option (List ℕ)) → (expression : Option ℕ) → (message : List ℕ) → Finding
finding_in kind inside path expression message = record {
  kind = kind;
  owner = Body inside.owner;
  name = inside.name;
  path = path;
  expression = expression;
  message = message;
}

-- the path to the statement of the function with this number
abbrev pub path_in : Inside → ℕ → Option (List ℕ)
path_in inside statement = Some (path_text (tree_of (inside.whole).body) statement)

-- a jump that is not allowed where it is
abbrev pub jump_fault : Inside → MisplacedJump → Finding
jump_fault inside fault = finding_in Fault inside (path_in inside fault.statement) None (jump_text fault.jump)

-- an expression that a statement misuses
abbrev pub misuse_fault : Inside → Misuse → Finding
misuse_fault inside misuse =
    finding_in Fault inside (path_in inside misuse.statement) (Some misuse.expression) (misuse_text misuse)

-- it is the finding for this fault of a body
abbrev pub IsBodyFault : Inside → InvalidBody → List Finding → Type 0
IsBodyFault inside body.Memory found = ⊥
IsBodyFault inside (body.Jump fault) found = found ≡ jump_fault inside fault ∷ []
IsBodyFault inside (body.Use misuse) found = found ≡ misuse_fault inside misuse ∷ []

-- nothing, if the body passes the checks of jumps and of uses, and else their first fault
abbrev pub AreBodyFaults : Inside → List Finding → Type 0
AreBodyFaults inside found =
    (BodyPasses inside.whole × (found ≡ []))
    ⊎ (¬ BodyPasses inside.whole × ((error : InvalidBody) × HasFault inside.whole error × IsBodyFault inside error found))

-- it is what is said, if a text is stated
abbrev pub Says : Option (List ℕ) → List ℕ → Type 0
Says stated said = IfSome stated (λ known. said ≡ known)

-- the expression at fault, if there is one
abbrev pub expression_at_fault : ValueFault → Option ℕ
expression_at_fault (NoType expression error) = Some expression
expression_at_fault (Operand expression unmet) = Some expression
expression_at_fault (Initial declared unmet) = None

-- the finding for a fault of an expression or of an initial value
abbrev pub IsValueFault : Inside → ValueFault → List Finding → Type 0
IsValueFault inside fault found =
    (said : List ℕ) × Says (value_fault_text fault) said
    × (found ≡ finding_in Fault inside None (expression_at_fault fault) said ∷ [])

-- the finding for a requirement of the statement with this number that is not met
abbrev pub IsUnmet : Inside → (statement : ℕ) → Unmet → List Finding → Type 0
IsUnmet inside statement unmet found =
    (said : List ℕ) × Says (unmet_text unmet) said × (found ≡ finding_in Fault inside (path_in inside statement) None said ∷ [])

-- the finding for a fault of the types of the function
abbrev pub IsTypeFault : Inside → TypeFault → List Finding → Type 0
IsTypeFault inside (Value fault) found = IsValueFault inside fault found
IsTypeFault inside (Mismatch mismatch what) found =
    IsUnmet inside mismatch.statement (record { requirement = mismatch.requirement; found = what }) found

-- the findings for the faults of the types of the function, up to the limit
abbrev pub AreTypeFaults : the_module.Module → (limit : ℕ) → Inside → List Finding → Type 0
AreTypeFaults whole limit inside found =
    (faults : List TypeFault) × AreFirstFaults whole inside.whole limit faults × AreJoined (IsTypeFault inside) faults found

-- that the function lacks an `Emit`, if it does
abbrev pub AreEmits : Inside → List Finding → Type 0
AreEmits inside found =
    (¬ LacksEmit inside.whole × (found ≡ []))
    ⊎ (LacksEmit inside.whole × (found ≡ finding_in Emit inside None None (codes "an access without its own Emit") ∷ []))

-- a block with this path, in which a return is missing
abbrev pub return_finding : Inside → (path : List ℕ) → Finding
return_finding inside path = finding_in Return inside (Some path) None (codes "a return is missing at the end")

-- an access that may be out of bounds
abbrev pub access_finding : Inside → UnfitAccess → Finding
access_finding inside unfit = finding_in Access inside None (Some unfit.expression) (unfit_access_text unfit)

-- the notes on the function, of each kind up to the limit
abbrev pub notes_inside : the_module.Module → (limit : ℕ) → Inside → List Finding
notes_inside whole limit inside =
    map (return_finding inside) (missing_returns limit inside.whole)
    ++ map (access_finding inside) (take limit (unfit_accesses (typed_in whole inside.whole)))

-- the findings in the function
pub record AreFindingsInside (whole : the_module.Module) (limit : ℕ) (inside : Inside) (found : List Finding) : Type 0 where
  pub body : List Finding
  pub of_body : AreBodyFaults inside body
  pub types : List Finding
  pub of_types : AreTypeFaults whole limit inside types
  pub emits : List Finding
  pub of_emits : AreEmits inside emits
  pub joined : found ≡ body ++ (types ++ (emits ++ notes_inside whole limit inside))

-- ---- findings in declarations

-- the global expression or the declaration at fault
abbrev pub owner_at_fault : ValueFault → FindingOwner
owner_at_fault (NoType expression error) = GlobalExpression expression
owner_at_fault (Operand expression unmet) = GlobalExpression expression
owner_at_fault (Initial declared unmet) = Declaration declared

-- a fault of the declarations
abbrev pub declaration_fault : ValueFault → (said : List ℕ) → Finding
declaration_fault fault said = record {
  kind = Fault;
  owner = owner_at_fault fault;
  name = None;
  path = None;
  expression = expression_at_fault fault;
  message = said;
}

-- the finding for a fault of the declarations
abbrev pub IsDeclarationFault : ValueFault → List Finding → Type 0
IsDeclarationFault fault found =
    (said : List ℕ) × Says (value_fault_text fault) said × (found ≡ declaration_fault fault said ∷ [])

-- the findings for the faults of the declarations
abbrev pub AreDeclarationFaults : the_module.Module → List Finding → Type 0
AreDeclarationFaults whole found =
    (faults : List ValueFault) × AreFaultsOfDeclarations whole faults × AreJoined IsDeclarationFault faults found

-- ---- the finding on layouts

-- a type whose layout does not fit
abbrev pub layout_finding : the_module.Module → (ty : ℕ) → (message : List ℕ) → Finding
layout_finding whole ty message = record {
  kind = Layout;
  owner = owner.«Type» ty;
  name = name_of_place whole (place.«Type» ty);
  path = None;
  expression = None;
  message = message;
}

-- nothing, if the layouts have no fault, and else their first fault
abbrev pub AreLayoutFindings : the_module.Module → List Finding → Type 0
AreLayoutFindings whole found =
    (HasNoLayoutFault whole × (found ≡ []))
    ⊎ ((ty : ℕ) × (message : List ℕ) × SaysOfLayouts whole ty message × (found ≡ layout_finding whole ty message ∷ []))

-- ---- all findings

-- the findings in the declarations and on layouts, and then those in each function
pub record AreFindings (whole : the_module.Module) (limit : ℕ) (found : List Finding) : Type 0 where
  pub declared : List Finding
  pub of_declarations : AreDeclarationFaults whole declared
  pub layouts : List Finding
  pub of_layouts : AreLayoutFindings whole layouts
  pub inside : List Finding
  pub of_functions : AreJoined (AreFindingsInside whole limit) (inside_bodies whole) inside
  pub joined : found ≡ declared ++ (layouts ++ inside)

-- it is the kind of faults
abbrev pub is_kind_of_faults : FindingKind → Bool
is_kind_of_faults Fault = true
is_kind_of_faults Layout = false
is_kind_of_faults Emit = false
is_kind_of_faults Return = false
is_kind_of_faults Access = false

-- it is a fault
abbrev pub is_fault : Finding → Bool
is_fault finding = is_kind_of_faults finding.kind

-- the number of faults
abbrev pub fault_count : List Finding → ℕ
fault_count found = length (filter is_fault found)

-- a function of the code, as a function of the module
abbrev pub inside_of : declared_body.Body → Inside
inside_of given = record { owner = given.owner; name = given.name.now; whole = given.function.now }
