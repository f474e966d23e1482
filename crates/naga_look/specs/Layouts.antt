-- What is said of the layouts of a module: their first fault, if the handles of the module are valid.
use Rattle.std.specs.Prelude.{◌≡◌, ◌⊎◌, ℕ, List, [], ◌++◌, codes, Option, Some, None}
use Rattle.naga_ir.specs.declared.module.Module as the_module
use Rattle.naga_layouter.specs.Check.{FirstFaultIs}
use Rattle.naga_layouter.specs.declared.layout_fault.LayoutFault.{LayoutFault}
use Rattle.naga_text.specs.Escapes.{visible}
use Rattle.naga_text.specs.Module.{declared_text}
use Rattle.naga_text.specs.Readable.{IsLine}
use Rattle.naga_text.specs.Words.{number}
use Rattle.naga_valid.specs.ElementNames.{name_of_place}
use Rattle.naga_valid.specs.Valid.{HandlesAreValid}
use Rattle.naga_valid.specs.declared.place.Place.TheVariants as place

-- the handles of the module are valid, and this is the first fault of its layouts
abbrev pub HasLayoutFault : the_module.Module → LayoutFault → Type 0
HasLayoutFault whole fault = HandlesAreValid whole × FirstFaultIs whole (Some fault)

-- the layouts of the module have no fault, or one of its handles is not valid
abbrev pub HasNoLayoutFault : the_module.Module → Type 0
HasNoLayoutFault whole = (¬ HandlesAreValid whole) ⊎ FirstFaultIs whole None

-- the member at fault, if one is
abbrev pub member_text : Option ℕ → List ℕ
member_text None = []
member_text (Some member) = codes "member" ++ (number member ++ codes ": ")

-- it says the member and then the cause, of which no text is stated
abbrev pub SaysLayoutFault : LayoutFault → List ℕ → Type 0
SaysLayoutFault fault message = (cause : List ℕ) × (message ≡ member_text fault.member ++ cause)

-- this is the type of the first fault of the layouts, and what is said of it
abbrev pub SaysOfLayouts : the_module.Module → (ty : ℕ) → (message : List ℕ) → Type 0
SaysOfLayouts whole ty message =
    (fault : LayoutFault) × HasLayoutFault whole fault × (fault.ty ≡ ty) × SaysLayoutFault fault message

-- what the note of a type begins with: the type, and its name if it has one
abbrev pub type_head : the_module.Module → (ty : ℕ) → List ℕ
type_head whole ty = declared_text (codes "note: type") ty (name_of_place whole (place.«Type» ty))

-- the note of a type, which says this; its only newline is at its end
abbrev pub IsLayoutLine : the_module.Module → (ty : ℕ) → (message : List ℕ) → List ℕ → Type 0
IsLayoutLine whole ty message line =
    IsLine line × (line ≡ type_head whole ty ++ (codes ": " ++ (visible message ++ codes "\n")))

-- nothing, if the layouts have no fault, and else the note of their first fault
abbrev pub IsLayoutNote : the_module.Module → List ℕ → Type 0
IsLayoutNote whole line =
    (HasNoLayoutFault whole × (line ≡ []))
    ⊎ ((ty : ℕ) × (message : List ℕ) × SaysOfLayouts whole ty message × IsLayoutLine whole ty message line)
