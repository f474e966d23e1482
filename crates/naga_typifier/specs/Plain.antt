-- Types that need not be declared contain no list, so that copying them allocates nothing.
use Rattle.std.specs.Prelude.{◌≡◌, ⊤, ℕ, Option, Some, None}
use Rattle.naga_ir.specs.declared.expression.Expression.{Expression}
use Rattle.naga_typifier.specs.Context.{Context}
use Rattle.naga_typifier.specs.Rows.{copied}
use Rattle.naga_typifier.specs.Table.{type_of}
use Rattle.naga_typifier.specs.declared.resolution.TypeResolution.{TypeResolution}

-- the type, if there is one, has itself as its copy
abbrev pub Stays : Option TypeResolution → Type 0
Stays None = ⊤
Stays (Some ty) = copied ty ≡ Some ty

-- each type that an expression has, whatever the types of its operands, has itself as its copy
abbrev pub TypesStay : Type 0
TypesStay =
    (ctx : Context) (known : ℕ → Option TypeResolution) (expression : Expression) → Stays
    (type_of ctx known expression)
