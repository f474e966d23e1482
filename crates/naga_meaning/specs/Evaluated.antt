-- Lists of commands in which each expression is evaluated before its value is used.
--
-- An expression is appended while the emitter is running exactly if it gets its value from an `Emit`. A statement is
-- pushed only while the emitter is not running; it contains no block, is no `Emit`, and is no `Break` or `Continue`.
-- What an emitted expression or a statement uses is appended before and, if it is the result of a statement, that one
-- is pushed before. The result of a statement is appended before the statement, and is an expression for such results.
use Rattle.std.specs.Prelude.{◌≡◌, ◌↔◌, ⊤, ℕ, true, false, List, [], ◌∷◌, ◌++◌, All, Some, option_to_list}
use Rattle.std.specs.List.{Contains}
use Rattle.naga_arena.specs.Arena.{value_at}
use Rattle.naga_flow.specs.Results.{emitted_by, evaluation_by, evaluation_of, result_of, used_by}
use Rattle.naga_flow.specs.Structured.{allows, of_function}
use Rattle.naga_flow.specs.declared.evaluation.Evaluation.{Evaluation}
use Rattle.naga_flow.specs.declared.evaluation.Evaluation.TheVariants as by
use Rattle.naga_ir.specs.Tree.{Node, plain, jump}
use Rattle.naga_ir.specs.View.{node_of}
use Rattle.naga_ir.specs.declared.expression.Expression.{Expression}
use Rattle.naga_ir.specs.declared.statement.Statement.{Statement}
use Rattle.naga_valid.specs.Operands.{operands_of}
use Rattle.naga_proc.specs.Building.{appended, is_running}
use Rattle.naga_proc.specs.declared.builder.BuildCommand.{BuildCommand}
use Rattle.naga_proc.specs.declared.builder.BuildCommand.TheVariants.{Append, Push}

-- the results of the statements that the commands push
abbrev pub results : List BuildCommand → List ℕ
results [] = []
results (Push statement span ∷ rest) = option_to_list (result_of statement) ++ results rest
results (_ ∷ rest) = results rest

-- expressions that get their values in this way are results of statements
abbrev pub IsResult : Evaluation → Type 0
IsResult by.Ready = ⊥
IsResult by.Emit = ⊥
IsResult _ = ⊤

-- the commands append the expression and, if it is the result of a statement, push its statement
pub record IsAvailable (commands : List BuildCommand) (handle : ℕ) : Type 0 where
  pub expression : Expression
  pub found : value_at (appended commands) handle ≡ Some expression
  pub pushed : IsResult (evaluation_of expression) → Contains (results commands) handle

-- the commands append an expression that is the result of statements of this kind
pub record IsResultOf (commands : List BuildCommand) (statement : Statement) (handle : ℕ) : Type 0 where
  pub expression : Expression
  pub found : value_at (appended commands) handle ≡ Some expression
  pub kind : evaluation_of expression ≡ evaluation_by statement

-- a plain statement that emits nothing, or a jump that may leave the body of a function
abbrev pub MayBePushed : Node → Type 0
MayBePushed (plain what) = emitted_by what ≡ []
MayBePushed (jump to) = allows of_function to ≡ true
MayBePushed _ = ⊥

-- The expression may be appended after the commands: it is one to be emitted exactly while the emitter is running, and
-- its operands are available then.
pub record MayAppend (commands : List BuildCommand) (expression : Expression) : Type 0 where
  pub emitted : (is_running commands ≡ true) ↔ (evaluation_of expression ≡ by.Emit)
  pub operands : is_running commands ≡ true → All (IsAvailable commands) (operands_of expression)

-- The statement may be pushed after the commands: the emitter is not running, the statement contains no block and emits
-- nothing, what it uses is available, and its result is an expression of its kind.
pub record MayPush (commands : List BuildCommand) (statement : Statement) : Type 0 where
  pub idle : is_running commands ≡ false
  pub form : MayBePushed (node_of statement)
  pub used : All (IsAvailable commands) (used_by statement)
  pub result : All (IsResultOf commands statement) (option_to_list (result_of statement))

abbrev pub MayFollow : List BuildCommand → BuildCommand → Type 0
MayFollow commands (Append expression span) = MayAppend commands expression
MayFollow commands (Push statement span) = MayPush commands statement
MayFollow commands _ = ⊤

-- each command may follow those before it
abbrev pub EvaluatesBeforeUse : List BuildCommand → Type 0
EvaluatesBeforeUse commands =
    (before after : List BuildCommand) (command : BuildCommand) → commands ≡ before ++ command ∷ after → MayFollow before command
