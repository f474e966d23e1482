-- Types and global variables that are equal, at different handles.
use Rattle.std.specs.Prelude.{ℕ, List, [], ◌∷◌, Option, None}
use Rattle.std.specs.declared.alloc.Global.{Global}
use Rattle.std.specs.declared.string.String.{String}
use Rattle.naga_arena.specs.Span.{undefined}
use Rattle.naga_arena.specs.declared.span.Span.{Span}
use Rattle.naga_kinds.specs.declared.address_space.AddressSpace.TheVariants as space
use Rattle.naga_kinds.specs.declared.scalar.ScalarKind.{ScalarKind}
use Rattle.naga_kinds.specs.declared.scalar.ScalarKind.TheVariants as kind
use Rattle.naga_ir.specs.declared.module.GlobalVariable.{GlobalVariable}
use Rattle.naga_ir.specs.declared.module.Module as the_module
use Rattle.naga_ir.specs.declared.types.«Type».{«Type» as NamedType}
use Rattle.naga_ir.specs.declared.types.TypeInner.{TypeInner}
use Rattle.naga_ir.specs.declared.types.TypeInner.TheVariants as inner

-- a type of this name
abbrev pub named : Option (String Global) → TypeInner → NamedType × Span
named name contents = (record { name = name; inner = contents }, undefined)

-- a scalar of four bytes
abbrev pub scalar_of : ScalarKind → TypeInner
scalar_of kind = inner.Scalar (record { kind = kind; width = 4 })

-- a pointer to a private variable of this type
abbrev pub pointer_to : ℕ → TypeInner
pointer_to base = inner.Pointer base space.Private

-- `u32` twice, by these names, `f32`, and a pointer to each of the three
abbrev pub example_types : (name other : Option (String Global)) → List (NamedType × Span)
example_types name other =
    named name (scalar_of kind.Uint) ∷ named other (scalar_of kind.Uint) ∷ named None (scalar_of kind.Float)
    ∷ named None (pointer_to 0) ∷ named None (pointer_to 1) ∷ named None (pointer_to 2) ∷ []

-- the module with these types
abbrev pub with_types : the_module.Module → (name other : Option (String Global)) → the_module.Module
with_types whole name other = record whole { types = example_types name other }

-- the module with this global variable, twice
abbrev pub with_variables : the_module.Module → GlobalVariable → the_module.Module
with_variables whole variable = record whole { global_variables = (variable, undefined) ∷ (variable, undefined) ∷ [] }
