-- The types of the expressions of an arena, and those of an arena of which some expressions are dropped.
use Rattle.std.specs.Prelude.{◌≡◌, ◌<◌, ℕ, Bool, true, Option, Some, option_and_then}
use Rattle.std.specs.Option.{option_map}
use Rattle.naga_ir.specs.declared.expression.Expression.{Expression}
use Rattle.naga_compact.specs.Renaming.{Renaming}
use Rattle.naga_compact.specs.derived.Renaming.{rename_expression}
use Rattle.naga_typifier.specs.Context.{Context}
use Rattle.naga_typifier.specs.Table.{type_of}
use Rattle.naga_typifier.specs.declared.resolution.TypeResolution.{TypeResolution}
use Rattle.naga_typing.specs.Operands.{Depends}
use Rattle.naga_typing.specs.Renamed.{NamesAreKept, NamesAreRenamed}

-- These are the types of these expressions, by their handles. An expression that has no type leaves its handle without
-- one, and the expressions after it have types all the same.
abbrev pub AreTypes : Context → (expressions : ℕ → Option Expression) → (types : ℕ → Option TypeResolution) → Type 0
AreTypes ctx expressions types = (handle : ℕ) → types handle ≡ option_and_then (type_of ctx types) (expressions handle)

-- The expressions that stay are found at their new handles, renamed, as is what they name. They come after those on
-- which their types depend, and these stay, too.
pub record IsCompacted (r : Renaming) (kept stays : ℕ → Bool) (ctx new : Context)
    (old renamed : ℕ → Option Expression) : Type 0 where
  pub found : (handle : ℕ) → stays handle ≡ true →
      renamed (r.expressions handle) ≡ option_map (rename_expression r) (old handle)
  pub names : (handle : ℕ) (expression : Expression) → stays handle ≡ true → old handle ≡ Some expression →
      NamesAreRenamed r ctx new expression
  pub names_kept : (handle : ℕ) (expression : Expression) → stays handle ≡ true → old handle ≡ Some expression →
      NamesAreKept kept ctx expression
  pub operands : (handle : ℕ) (expression : Expression) → stays handle ≡ true → old handle ≡ Some expression →
      Depends (λ operand. (operand < handle) × (stays operand ≡ true)) expression
