-- Accesses through pointers, and the bytes that they reach.
use Rattle.std.specs.Prelude.{◌≡◌, ℕ, ◌+◌, ◌<◌, ◌≤◌, ◌⊎◌, List, [], ◌∷◌, Option, Some, None, true}
use Rattle.naga_arena.specs.declared.span.Span.{Span}
use Rattle.naga_ir.specs.declared.expression.Expression.{Expression}
use Rattle.naga_ir.specs.declared.expression.Expression.TheVariants.{Access, AccessIndex}
use Rattle.naga_ir.specs.declared.module.Function as function
use Rattle.naga_ir.specs.declared.module.Module as the_module
use Rattle.naga_ir.specs.declared.types.«Type».{«Type» as NamedType}
use Rattle.naga_ir.specs.declared.types.TypeInner.{TypeInner}
use Rattle.naga_ir.specs.declared.types.TypeInner.TheVariants.{Pointer, ValuePointer, BindingArray}
use Rattle.naga_typifier.specs.Context.{inner_at}
use Rattle.naga_typifier.specs.Rows.{◌>>=◌, sized}
use Rattle.naga_bounds.specs.Modules.{typed_in}
use Rattle.naga_bounds.specs.Reach.{Typed, contents_at, expression_at, is_below_fixed, length_at}
use Rattle.naga_layouter.specs.Check.{FirstFaultIs}
use Rattle.naga_layouter.specs.Leaves.{bytes_with, part_with}
use Rattle.naga_layouter.specs.Paths.{Reaches}
use Rattle.naga_layouter.specs.Types.{is_open_array}

-- ---- what pointers point to

-- the contents of a type whose values have bytes; a binding array has none, since each of its elements is a variable
abbrev pub with_bytes : TypeInner → Option TypeInner
with_bytes (BindingArray base size) = None
with_bytes contents = Some contents

-- the contents of the type of what a pointer points to
abbrev pub target_of : (types : ℕ → Option TypeInner) → TypeInner → Option TypeInner
target_of types (Pointer base space) = types base >>= with_bytes
target_of types (ValuePointer size scalar space) = Some (sized size scalar)
target_of types _ = None

-- the expression is a pointer to a value of a type with these contents
abbrev pub PointsTo : Typed → (handle : ℕ) → TypeInner → Type 0
PointsTo code handle contents = (contents_at code handle >>= target_of (inner_at code.types)) ≡ Some contents

-- ---- accesses

-- the expression is an access to this base by an index with this number; which number a computed index is, is not known here
abbrev pub IsIndexed : Expression → (base number : ℕ) → Type 0
IsIndexed (Access other index) base number = other ≡ base
IsIndexed (AccessIndex other index) base number = (other ≡ base) × (index ≡ number)
IsIndexed _ base number = ⊥

module _ (code : Typed) (n : ℕ) where
  -- The number is below the length with which the check of bounds compares it, of a base that points to these contents: a
  -- fixed length, or else that of an array with n elements whose number is not written in the shader.
  abbrev pub IsBelowLength : (base : ℕ) → TypeInner → (number : ℕ) → Type 0
  IsBelowLength base contents number =
      (is_below_fixed (length_at code base) number ≡ true) ⊎ ((is_open_array (Some contents) ≡ true) × (number < n))

  -- the expression is an access through the pointer `base` by an index with this number, which is below the length
  pub record IsAccess (base number handle : ℕ) : Type 0 where
    pub expression : Expression
    pub found : expression_at code handle ≡ Some expression
    pub indexed : IsIndexed expression base number
    pub target : TypeInner
    pub points : PointsTo code base target
    pub below : IsBelowLength base target number

  -- a chain of such accesses, by indices with these numbers, goes from the first expression to the last
  abbrev pub GoesTo : (first : ℕ) → List ℕ → (last : ℕ) → Type 0
  GoesTo first [] last = first ≡ last
  GoesTo first (number ∷ path) last = (next : ℕ) × IsAccess first number next × GoesTo next path last

-- ---- their bytes

-- the path leads from a value of a type to a part of the other type, whose bytes are among those of the value
pub record IsPart (types : List (NamedType × Span)) (n : ℕ) (contents : TypeInner) (path : List ℕ) (part : TypeInner) : Type 0 where
  pub offset : ℕ
  pub reached : Reaches (bytes_with types n) (part_with types n) contents path offset part
  pub inside : offset + bytes_with types n part ≤ bytes_with types n contents

-- If the check of layouts finds no fault in a module, then a chain of accesses in a function, whose indices are below the
-- lengths with which the check of bounds compares them, reaches only bytes of what its first pointer points to. An array
-- whose number of elements is not written in the shader may have any number of them; a value has at most one such array.
abbrev pub AccessesStayInside : Type 0
AccessesStayInside = (whole : the_module.Module) → FirstFaultIs whole None → (inside : function.Function)
    → (n first last : ℕ) (path : List ℕ) → GoesTo (typed_in whole inside) n first path last → (contents part : TypeInner)
    → PointsTo (typed_in whole inside) first contents → PointsTo (typed_in whole inside) last part
    → IsPart whole.types n contents path part
