-- The texts of what the checks of bodies find.
use Rattle.std.specs.Prelude.{◌≡◌, ℕ, List, ◌++◌, codes}
use Rattle.std.specs.Fmt.{decimal}
use Rattle.naga_ir.specs.View.{tree_of}
use Rattle.naga_ir.specs.declared.module.Function as function
use Rattle.naga_flow.specs.declared.bodies.BodyOwner.{BodyOwner}
use Rattle.naga_flow.specs.declared.bodies.BodyOwner.TheVariants as owner
use Rattle.naga_flow.specs.declared.bodies.InvalidBodies.{InvalidBodies}
use Rattle.naga_flow.specs.declared.bodies.InvalidBody.{InvalidBody}
use Rattle.naga_flow.specs.declared.bodies.InvalidBody.TheVariants as body
use Rattle.naga_flow.specs.declared.evaluation.Evaluation.{Evaluation}
use Rattle.naga_flow.specs.declared.evaluation.Evaluation.TheVariants as evaluation
use Rattle.naga_flow.specs.declared.invalid_use.Cause.{Cause}
use Rattle.naga_flow.specs.declared.invalid_use.Cause.TheVariants.{NotEvaluated, NotEvaluatedBy, EvaluatedAgain}
use Rattle.naga_flow.specs.declared.invalid_use.InvalidUse.{InvalidUse}
use Rattle.naga_flow.specs.declared.invalid_use.InvalidUse.TheVariants as invalid
use Rattle.naga_flow.specs.declared.invalid_use.Misuse.{Misuse}
use Rattle.naga_flow.specs.declared.misplaced_jump.Jump.{Jump}
use Rattle.naga_flow.specs.declared.misplaced_jump.Jump.TheVariants.{Break, Continue, Return, Kill}
use Rattle.naga_flow.specs.declared.misplaced_jump.MisplacedJump.{MisplacedJump}
use Rattle.naga_flow.specs.Paths.{path_text}

-- ---- jumps

-- what is wrong with a jump
abbrev pub jump_text : Jump → List ℕ
jump_text Break = codes "a break outside of a loop and of a switch"
jump_text Continue = codes "a continue outside of a loop"
jump_text Return = codes "a return in a continuing block"
jump_text Kill = codes "a kill in a continuing block"

-- a misplaced jump, with the number of its statement
abbrev pub misplaced_jump_text : MisplacedJump → List ℕ
misplaced_jump_text fault = codes "statement " ++ (decimal fault.statement ++ (codes ": " ++ jump_text fault.jump))

-- a misplaced jump, with the path to its statement in a function
abbrev pub placed_jump_text : function.Function → MisplacedJump → List ℕ
placed_jump_text whole fault = path_text (tree_of whole.body) fault.statement ++ (codes ": " ++ jump_text fault.jump)

-- ---- uses

-- how an expression gets its value
abbrev pub evaluation_text : Evaluation → List ℕ
evaluation_text evaluation.Ready = codes "without a statement"
evaluation_text evaluation.Emit = codes "by an emit"
evaluation_text (evaluation.Call function) = codes "by a call of function " ++ decimal function
evaluation_text evaluation.Atomic = codes "by an atomic operation"
evaluation_text evaluation.WorkGroupUniformLoad = codes "by a uniform load"
evaluation_text evaluation.RayQueryProceed = codes "by a ray query that proceeds"
evaluation_text evaluation.SubgroupBallot = codes "by a ballot"
evaluation_text evaluation.SubgroupOperation = codes "by a subgroup operation"

-- why an expression is misused
abbrev pub cause_text : Cause → List ℕ
cause_text NotEvaluated = codes "is used and may not have been evaluated"
cause_text (NotEvaluatedBy way) = codes "cannot be evaluated " ++ evaluation_text way
cause_text EvaluatedAgain = codes "is evaluated again in its scope"

-- a misuse without its statement
abbrev pub misuse_text : Misuse → List ℕ
misuse_text misuse = codes "expression " ++ (decimal misuse.expression ++ (codes " " ++ cause_text misuse.cause))

-- a misuse, with the number of its statement
abbrev pub numbered_misuse_text : Misuse → List ℕ
numbered_misuse_text misuse = codes "statement " ++ (decimal misuse.statement ++ (codes ": " ++ misuse_text misuse))

-- a misuse, with the path to its statement in a function
abbrev pub placed_misuse_text : function.Function → Misuse → List ℕ
placed_misuse_text whole misuse = path_text (tree_of whole.body) misuse.statement ++ (codes ": " ++ misuse_text misuse)

-- why the check of uses fails
abbrev pub invalid_use_text : InvalidUse → List ℕ
invalid_use_text invalid.Memory = codes "out of memory"
invalid_use_text (invalid.Misuse misuse) = numbered_misuse_text misuse

-- ---- bodies

-- a function or an entry point
abbrev pub owner_text : BodyOwner → List ℕ
owner_text (owner.Function handle) = codes "function " ++ decimal handle
owner_text (owner.EntryPoint position) = codes "entry point " ++ decimal position

-- why a body does not pass
abbrev pub invalid_body_text : InvalidBody → List ℕ
invalid_body_text body.Memory = codes "out of memory"
invalid_body_text (body.Jump fault) = misplaced_jump_text fault
invalid_body_text (body.Use misuse) = numbered_misuse_text misuse

-- the body that does not pass, and why
abbrev pub invalid_bodies_text : InvalidBodies → List ℕ
invalid_bodies_text invalid = owner_text invalid.owner ++ (codes ": " ++ invalid_body_text invalid.error)

-- the text is that of an error of a body that is not for want of memory, with the path to its statement in the function
abbrev pub IsPlaced : function.Function → InvalidBody → List ℕ → Type 0
IsPlaced whole body.Memory text = ⊥
IsPlaced whole (body.Jump fault) text = text ≡ placed_jump_text whole fault
IsPlaced whole (body.Use misuse) text = text ≡ placed_misuse_text whole misuse
