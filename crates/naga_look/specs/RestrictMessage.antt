-- The message about a module that cannot be restricted.
use Rattle.std.specs.Prelude.{◌≡◌, ℕ, List, ◌++◌, codes, IfSome, MatchOption, Option, Some, None, slice_get}
use Rattle.naga_arena.specs.Arena.{value_at}
use Rattle.naga_bounds.specs.Messages.{obstacle_text, restrict_error_text}
use Rattle.naga_bounds.specs.declared.restrict_error.Obstacle.{Obstacle}
use Rattle.naga_bounds.specs.declared.restrict_error.Obstacle.TheVariants as obstacle
use Rattle.naga_bounds.specs.declared.restrict_error.RestrictError.{RestrictError}
use Rattle.naga_flow.specs.Messages.{placed_misuse_text}
use Rattle.naga_flow.specs.declared.bodies.BodyOwner.{BodyOwner}
use Rattle.naga_flow.specs.declared.bodies.BodyOwner.TheVariants as owner
use Rattle.naga_ir.specs.declared.module.Function as function
use Rattle.naga_ir.specs.declared.module.Module as the_module
use Rattle.naga_text.specs.Escapes.{visible}
use Rattle.naga_look.specs.Report.{Headed, headed_entry_point, headed_function}

-- why the accesses of a function cannot be clamped, with the path to the statement at fault, if a text is stated
abbrev pub placed_obstacle_text : function.Function → Obstacle → Option (List ℕ)
placed_obstacle_text inside (obstacle.NotEmitted misuse) = Some (placed_misuse_text inside misuse)
placed_obstacle_text inside obstacle = obstacle_text obstacle

-- it says why the accesses of the function cannot be clamped
abbrev pub IsSaidOfObstacle : function.Function → Obstacle → List ℕ → Type 0
IsSaidOfObstacle inside obstacle said = IfSome (placed_obstacle_text inside obstacle) (λ known. said ≡ known)

-- the message names the function, and says why its accesses cannot be clamped
abbrev pub IsObstacleMessage : Headed → Obstacle → (message : List ℕ) → Type 0
IsObstacleMessage headed obstacle message =
    (said : List ℕ) × IsSaidOfObstacle headed.whole obstacle said
    × (message ≡ codes "restrict: " ++ (headed.head ++ (codes ": " ++ visible said)))

-- the message about a function that the module does not have
abbrev pub IsUnplacedMessage : RestrictError → (message : List ℕ) → Type 0
IsUnplacedMessage error message = IfSome (restrict_error_text error) (λ known. message ≡ codes "restrict: " ++ known)

-- the message about this function of the module
abbrev pub IsMessageOf : the_module.Module → BodyOwner → RestrictError → (message : List ℕ) → Type 0
IsMessageOf whole (owner.Function handle) error message =
    MatchOption (value_at whole.functions handle) (IsUnplacedMessage error message)
    (λ found. IsObstacleMessage (headed_function (handle, found)) error.obstacle message)
IsMessageOf whole (owner.EntryPoint position) error message =
    MatchOption (slice_get whole.entry_points.items position) (IsUnplacedMessage error message)
    (λ found. IsObstacleMessage (headed_entry_point (position, found)) error.obstacle message)

-- the message about the module, whose accesses cannot be clamped for this reason
abbrev pub IsRestrictMessage : the_module.Module → RestrictError → (message : List ℕ) → Type 0
IsRestrictMessage whole error message = IsMessageOf whole error.owner error message
