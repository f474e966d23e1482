-- A module some of whose functions are restricted gives the same types to the others.
use Rattle.std.proofs.Common.{◌≡◌, ◌∙◌, ap, inl, inr, refl, subst, ℕ, zero, suc, List, [], ◌∷◌, Option, Some, None, length}
use Rattle.std.specs.List.{AllZip}
use Rattle.std.specs.Prelude.{⊤, IfSome}
use Rattle.std.specs.Option.{option_map}
use Rattle.naga_arena.specs.Arena.{value_at, values}
use Rattle.naga_arena.specs.declared.span.Span.{Span}
use Rattle.naga_ir.specs.View.{tree_of}
use Rattle.naga_ir.specs.declared.module.Function as function
use Rattle.naga_ir.specs.declared.module.FunctionResult as outcome
use Rattle.naga_ir.specs.declared.module.Module as the_module
use Rattle.naga_flow.specs.Misuses.{BlockMisuse}
use Rattle.naga_flow.specs.Readings.{emitted_in}
use Rattle.naga_flow.specs.Scopes.{BlockPasses}
use Rattle.naga_flow.specs.Uses.{Expressions}
use Rattle.naga_typifier.specs.Context.{Context, context_in}
use Rattle.naga_typifier.specs.Typing.{typing}
use Rattle.naga_compact.proofs.AllZipLemmas.{ReplacedTo}
use Rattle.naga_bounds.specs.Modules.{typed_in}
use Rattle.naga_bounds.specs.Reach.{Typed, is_fixed_access}
use Rattle.naga_bounds.specs.Restricted.{IsChanged, Restricts}
use Rattle.naga_bounds.specs.RestrictedModules.{IsObstacle, IsUnplanned, RestrictsElement, RestrictsIn, RestrictsModule, counts_in}
use Rattle.naga_bounds.specs.Prepared.{IsPrepared, IsReady}
use Rattle.naga_bounds.specs.declared.prepared.Prepared.{Prepared}
use Rattle.naga_bounds.specs.declared.restrict_error.Obstacle.{Obstacle}
use Rattle.naga_bounds.specs.declared.restrict_error.Obstacle.TheVariants as obstacle

-- ---- what is prepared

module _ (whole : the_module.Module) (inside : function.Function) where
  -- there is memory for what is prepared
  pub IsPrepared-ready : (found : Option Prepared) → IsPrepared whole inside found → IfSome found (IsReady inside)
  IsPrepared-ready None is = tt
  IsPrepared-ready (Some prepared) is = is.changes.2

  -- A function of which nothing is prepared stays as it is, and any other becomes the one with the changes.
  pub IsPrepared-applied : (new : function.Function) (found : Option Prepared) → IsPrepared whole inside found
      → (found ≡ None → new ≡ inside) → IfSome found (λ prepared. IsChanged prepared.plan inside new) → RestrictsIn whole inside new
  IsPrepared-applied new None is kept changed =
      record { typed = is.typed; emitted = is.emitted; restricts = inl (is.changes, kept refl) }
  IsPrepared-applied new (Some prepared) is kept changed = record {
    typed = is.typed;
    emitted = is.emitted;
    restricts = inr (record { some_misfits = is.changes.0; changes = prepared.plan; planned = is.changes.1; changed_to = changed });
  }

-- ---- results

-- a restricted function keeps its result
RestrictsIn-result : (whole : the_module.Module) (old new : function.Function) → RestrictsIn whole old new → new.result ≡ old.result
RestrictsIn-result whole old new is = elim is.restricts [
  | inl kept ↦ ap (λ (inside : function.Function). inside.result) kept.1
  | inr clamped ↦ clamped.changed_to.result
]

-- the type of what a function returns
pub type_returned : List (function.Function × Span) → ℕ → Option (Option ℕ)
type_returned functions handle =
    option_map (λ (inside : function.Function). option_map (λ (result : outcome.FunctionResult). result.ty) inside.result) (value_at functions handle)

pub ReplacedTo-type_returned : (whole : the_module.Module) (count : ℕ) (old now : List (function.Function × Span))
    → ReplacedTo (RestrictsElement whole) count old now → (handle : ℕ) → type_returned now handle ≡ type_returned old handle
unfolding type_returned
ReplacedTo-type_returned whole zero old now so handle = ap (λ functions. type_returned functions handle) so
ReplacedTo-type_returned whole (suc count) [] now so handle = ap (λ functions. type_returned functions handle) so
ReplacedTo-type_returned whole (suc count) (x ∷ xs) [] so handle = absurd so
ReplacedTo-type_returned whole (suc count) (x ∷ xs) (y ∷ ys) so zero =
    ap (λ (found : Option outcome.FunctionResult). Some (option_map (λ (result : outcome.FunctionResult). result.ty) found)) (RestrictsIn-result whole x.0 y.0 so.0.0)
ReplacedTo-type_returned whole (suc count) (x ∷ xs) (y ∷ ys) so (suc handle) = ReplacedTo-type_returned whole count xs ys so.1 handle

-- ---- types

-- the expressions of a function with their types in a context
abbrev typed_by : the_module.Module → function.Function → Context → Typed
typed_by whole inside context = record {
  types = whole.types;
  known = (typing context [] (values inside.expressions)).0;
  arena = inside.expressions;
}

abbrev emitted_by : the_module.Module → function.Function → Context → Expressions
emitted_by whole inside context = emitted_in (is_fixed_access (typed_by whole inside context)) inside.expressions

-- a module with other functions, which return the same types, and with other entry points
module _ (whole : the_module.Module) (functions : List (function.Function × Span)) (same : (handle : ℕ) → type_returned functions handle ≡ type_returned whole.functions handle) where
  abbrev exchanged : the_module.Module → the_module.Module
  exchanged given = record whole { functions = functions; entry_points = given.entry_points }

  module _ (given : the_module.Module) (inside : function.Function) where
    same_context : context_in (exchanged given) inside ≡ context_in whole inside
    unfolding type_returned
    same_context = λ i. record (context_in whole inside) { results = λ handle. same handle i }

    pub RestrictsIn-exchanged : (new : function.Function) → RestrictsIn (exchanged given) inside new → RestrictsIn whole inside new
    RestrictsIn-exchanged new is = record {
      typed = subst (λ context. (typing context [] (values inside.expressions)).1 ≡ None) same_context is.typed;
      emitted = subst (λ context. BlockPasses (emitted_by whole inside context) [] [] (tree_of inside.body)) same_context is.emitted;
      restricts = subst (λ context. Restricts (counts_in whole) (typed_by whole inside context) inside new) same_context is.restricts;
    }

    -- what an obstacle says in a context
    abbrev IsObstacleBy : Context → Obstacle → Type 0
    IsObstacleBy context obstacle.Memory = ⊤
    IsObstacleBy context (obstacle.NoType expression error) =
        (typing context [] (values inside.expressions) ≡ ((typed_by whole inside context).known, Some error))
        × (expression ≡ length (typed_by whole inside context).known)
    IsObstacleBy context (obstacle.NotEmitted misuse) =
        ((typing context [] (values inside.expressions)).1 ≡ None)
        × BlockMisuse (emitted_by whole inside context) 0 [] [] (tree_of inside.body) misuse
        × ¬ BlockPasses (emitted_by whole inside context) [] [] (tree_of inside.body)
    IsObstacleBy context other =
        ((typing context [] (values inside.expressions)).1 ≡ None)
        × BlockPasses (emitted_by whole inside context) [] [] (tree_of inside.body)
        × IsUnplanned (counts_in whole) (typed_by whole inside context) other

    pub IsObstacle-exchanged : (found : Obstacle) → IsObstacle (exchanged given) inside found → IsObstacle whole inside found
    IsObstacle-exchanged obstacle.Memory is = tt
    IsObstacle-exchanged (obstacle.NoType expression error) is =
        subst (λ context. IsObstacleBy context (obstacle.NoType expression error)) same_context is
    IsObstacle-exchanged (obstacle.NotEmitted misuse) is =
        subst (λ context. IsObstacleBy context (obstacle.NotEmitted misuse)) same_context is
    IsObstacle-exchanged (obstacle.NoClamp access cause) is =
        subst (λ context. IsObstacleBy context (obstacle.NoClamp access cause)) same_context is
    IsObstacle-exchanged obstacle.Full is = subst (λ context. IsObstacleBy context obstacle.Full) same_context is

-- ---- modules in which the first functions are restricted

module _ (whole now : the_module.Module) (count : ℕ) (so : ReplacedTo (RestrictsElement whole) count whole.functions now.functions)
    (outside : now ≡ record whole { functions = now.functions }) (inside : function.Function) where
  same : (handle : ℕ) → type_returned now.functions handle ≡ type_returned whole.functions handle
  same = ReplacedTo-type_returned whole count whole.functions now.functions so

  pub RestrictsIn-functions : (new : function.Function) → RestrictsIn now inside new → RestrictsIn whole inside new
  RestrictsIn-functions new is =
      RestrictsIn-exchanged whole now.functions same whole inside new (subst (λ given. RestrictsIn given inside new) outside is)

  pub IsObstacle-functions : (found : Obstacle) → IsObstacle now inside found → IsObstacle whole inside found
  IsObstacle-functions found is =
      IsObstacle-exchanged whole now.functions same whole inside found (subst (λ given. IsObstacle given inside found) outside is)

-- ---- modules with other entry points

module _ (whole now : the_module.Module) (outside : now ≡ record whole { entry_points = now.entry_points }) (inside : function.Function) where
  pub RestrictsIn-entry_points : (new : function.Function) → RestrictsIn now inside new → RestrictsIn whole inside new
  RestrictsIn-entry_points new is =
      RestrictsIn-exchanged whole whole.functions (λ handle. refl) now inside new (subst (λ given. RestrictsIn given inside new) outside is)

  pub IsObstacle-entry_points : (found : Obstacle) → IsObstacle now inside found → IsObstacle whole inside found
  IsObstacle-entry_points found is =
      IsObstacle-exchanged whole whole.functions (λ handle. refl) now inside found (subst (λ given. IsObstacle given inside found) outside is)

-- ---- modules that are restricted

AllZip-replaced : {X : Type 0} (R : X → X → Type 0) (xs ys : List X) → AllZip R xs ys → ReplacedTo R (length xs) xs ys
AllZip-replaced R [] [] all = refl
AllZip-replaced R [] (y ∷ ys) all = absurd all
AllZip-replaced R (x ∷ xs) [] all = absurd all
AllZip-replaced R (x ∷ xs) (y ∷ ys) all = (all.0, AllZip-replaced R xs ys all.1)

-- the expressions of a function have the same types in a module after it was restricted
pub typed-restricted : (old new : the_module.Module) → RestrictsModule old new → (inside : function.Function) → typed_in new inside ≡ typed_in old inside
typed-restricted old new restricts inside =
    let same : (handle : ℕ) → type_returned new.functions handle ≡ type_returned old.functions handle =
    ReplacedTo-type_returned old (length old.functions) old.functions new.functions (AllZip-replaced (RestrictsElement old) old.functions new.functions restricts.functions)
    in
    ap (λ given. typed_in given inside) restricts.outside ∙ ap (typed_by old inside) (same_context old new.functions same new inside)
