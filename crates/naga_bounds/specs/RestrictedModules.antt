-- The module in which accesses are clamped, and why those of a function cannot be.
pub mod Parts
use Rattle.std.specs.Prelude.{◌≡◌, ◌<◌, ⊤, ℕ, Bool, List, [], IsOk, Err, None, Some, drop, length, slice_get, take}
use Rattle.std.specs.List.{AllZip}
use Rattle.naga_arena.specs.Arena.{values}
use Rattle.naga_arena.specs.Limits.{max_len}
use Rattle.naga_arena.specs.declared.span.Span.{Span}
use Rattle.naga_ir.specs.View.{tree_of}
use Rattle.naga_ir.specs.declared.module.EntryPoint as entry_point
use Rattle.naga_ir.specs.declared.module.Function as function
use Rattle.naga_ir.specs.declared.module.Module as the_module
use Rattle.naga_flow.specs.Bodies.{functions_of, functions_of_entries}
use Rattle.naga_flow.specs.Misuses.{BlockMisuse}
use Rattle.naga_flow.specs.Readings.{emitted_in}
use Rattle.naga_flow.specs.Scopes.{BlockPasses}
use Rattle.naga_flow.specs.Uses.{Expressions}
use Rattle.naga_flow.specs.declared.bodies.BodyOwner.{BodyOwner}
use Rattle.naga_flow.specs.declared.bodies.BodyOwner.TheVariants as owner
use Rattle.naga_flow.specs.declared.invalid_use.Misuse.{Misuse}
use Rattle.naga_typifier.specs.Context.{context_in}
use Rattle.naga_typifier.specs.Typing.{typing}
use Rattle.naga_typifier.specs.declared.typifier.GrowError.{GrowError}
use Rattle.naga_typifier.specs.declared.typifier.GrowError.TheVariants as stopped
use Rattle.naga_bounds.specs.Changes.{AreChanges, change_at, counts_by}
use Rattle.naga_bounds.specs.Modules.{typed_in}
use Rattle.naga_bounds.specs.Reach.{Typed, is_fixed_access}
use Rattle.naga_bounds.specs.Restricted.{Restricts, new_len}
use Rattle.naga_bounds.specs.declared.cause.Cause.{Cause}
use Rattle.naga_bounds.specs.declared.change.Change.{Change}
use Rattle.naga_bounds.specs.declared.restrict_error.Obstacle.{Obstacle}
use Rattle.naga_bounds.specs.declared.restrict_error.Obstacle.TheVariants as obstacle
use Rattle.naga_bounds.specs.declared.restrict_error.RestrictError.{RestrictError}

-- ---- functions

-- the override with this handle is of type `u32`
abbrev pub counts_in : the_module.Module → ℕ → Bool
counts_in whole = counts_by whole.overrides whole.types

-- each expression of the function has a type
abbrev pub IsTyped : the_module.Module → function.Function → Type 0
IsTyped whole inside = (typing (context_in whole inside) [] (values inside.expressions)).1 ≡ None

-- the expressions of the function, where a use of an expression reads what its `Emit` evaluated, except that accesses by
-- constant indices below fixed lengths may be evaluated where they are used
abbrev pub emitted_of : the_module.Module → function.Function → Expressions
emitted_of whole inside = emitted_in (is_fixed_access (typed_in whole inside)) inside.expressions

-- each expression of the function is evaluated before its value is used, and not again in its scope
abbrev pub IsEmitted : the_module.Module → function.Function → Type 0
IsEmitted whole inside = BlockPasses (emitted_of whole inside) [] [] (tree_of inside.body)

-- The function passes both checks, and each of its accesses that does not fit is clamped.
pub record RestrictsIn (whole : the_module.Module) (old new : function.Function) : Type 0 where
  pub typed : IsTyped whole old
  pub emitted : IsEmitted whole old
  pub restricts : Restricts (counts_in whole) (typed_in whole old) old new

-- ---- modules

abbrev pub RestrictsElement : the_module.Module → (old new : function.Function × Span) → Type 0
RestrictsElement whole old new = RestrictsIn whole old.0 new.0 × (new.1 ≡ old.1)

-- nothing of the entry point changes except its function
abbrev pub RestrictsEntry : the_module.Module → (old new : entry_point.EntryPoint) → Type 0
RestrictsEntry whole old new = (new ≡ record old { function = new.function }) × RestrictsIn whole old.function new.function

-- each function is restricted, also those of the entry points, and nothing else of the module changes
pub record RestrictsModule (old new : the_module.Module) : Type 0 where
  pub outside : new ≡ record old { functions = new.functions; entry_points = new.entry_points }
  pub functions : AllZip (RestrictsElement old) old.functions new.functions
  pub entry_points : AllZip (RestrictsEntry old) old.entry_points.items new.entry_points.items

-- ---- errors

-- Why the changes of a function cannot be planned: an access has no clamp, or the function would have too many expressions.
-- `counts` are the overrides of type `u32`. If an allocation failed, nothing is said here.
module _ (counts : ℕ → Bool) (code : Typed) where
  -- this access is the first that has no clamp, for this cause
  pub record IsFirstUnclamped (access : ℕ) (cause : Cause) : Type 0 where
    pub unclamped : change_at counts code access ≡ Err cause
    pub earlier : (other : ℕ) → other < access → IsOk (change_at counts code other)

  -- the arena in which accesses are clamped would have too many expressions
  abbrev pub IsOverfull : Type 0
  IsOverfull = (changes : List Change) × AreChanges counts code changes × (max_len < new_len changes)

  abbrev pub IsUnplanned : Obstacle → Type 0
  IsUnplanned obstacle.Memory = ⊤
  IsUnplanned (obstacle.NoClamp access cause) = IsFirstUnclamped access cause
  IsUnplanned obstacle.Full = IsOverfull
  IsUnplanned _ = ⊥

-- the same where a typifier stops in the function with this error
abbrev pub obstacle_of : GrowError → Obstacle
obstacle_of stopped.Memory = obstacle.Memory
obstacle_of (stopped.NoType expression error) = obstacle.NoType expression error

-- Why the function cannot be restricted: first its types are judged, then its uses, then each access in order, and then
-- its length. If an allocation failed, nothing is said here.
abbrev pub IsObstacle : the_module.Module → function.Function → Obstacle → Type 0
IsObstacle whole inside obstacle.Memory = ⊤
IsObstacle whole inside (obstacle.NoType expression error) =
    (typing (context_in whole inside) [] (values inside.expressions) ≡ ((typed_in whole inside).known, Some error))
    × (expression ≡ length (typed_in whole inside).known)
IsObstacle whole inside (obstacle.NotEmitted misuse) =
    IsTyped whole inside × BlockMisuse (emitted_of whole inside) 0 [] [] (tree_of inside.body) misuse × ¬ IsEmitted whole inside
IsObstacle whole inside other = IsTyped whole inside × IsEmitted whole inside × IsUnplanned (counts_in whole) (typed_in whole inside) other

-- this number of first elements are related to those of the other list, and the rest is the same
pub record AreChangedTo {A : Type 0} (Related : (old new : A) → Type 0) (count : ℕ) (old new : List A) : Type 0 where
  pub first : AllZip Related (take count old) (take count new)
  pub rest : drop count new ≡ drop count old

-- the function at this position of a list has this obstacle
abbrev pub HasObstacleAt : the_module.Module → List function.Function → (position : ℕ) → Obstacle → Type 0
HasObstacleAt whole functions position found =
    (inside : function.Function) × (slice_get functions position ≡ Some inside) × IsObstacle whole inside found

-- the function of the owner has this obstacle, and those before it are restricted; nothing else of the module changes
abbrev pub IsRestrictedTo : (old new : the_module.Module) → BodyOwner → Obstacle → Type 0
IsRestrictedTo old new (owner.Function handle) found =
    HasObstacleAt old (functions_of old) handle found
    × AreChangedTo (RestrictsElement old) handle old.functions new.functions
    × (new ≡ record old { functions = new.functions })
IsRestrictedTo old new (owner.EntryPoint position) found =
    HasObstacleAt old (functions_of_entries old.entry_points.items) position found
    × AllZip (RestrictsElement old) old.functions new.functions
    × AreChangedTo (RestrictsEntry old) position old.entry_points.items new.entry_points.items
    × (new ≡ record old { functions = new.functions; entry_points = new.entry_points })

-- The error names the first function that cannot be restricted; the functions come before the entry points.
abbrev pub IsRestrictError : (old new : the_module.Module) → RestrictError → Type 0
IsRestrictError old new error = IsRestrictedTo old new error.owner error.obstacle
