-- The blocks in which each expression is evaluated before its value is used.
--
-- An expression has a value if it is ready when the function is entered, or if it has been evaluated. A use reads the
-- expression itself or, if it is an access chain that ends in a ready expression, the indices of the chain. What the
-- body of a loop evaluates for certain is what its first statements evaluate, as many as contain no `Continue` of the
-- loop and follow none after which control never goes on.
use Rattle.std.specs.Prelude.{◌≡◌, ◌⊎◌, ⊤, ℕ, Bool, not, ◌||◌, List, [], ◌∷◌, ◌++◌, All, Option, Some, None, option_to_list, if◌then◌else◌}
use Rattle.std.specs.List.{Contains}
use Rattle.std.specs.Option.{option_map}
use Rattle.naga_arena.specs.Arena.{value_at}
use Rattle.naga_arena.specs.declared.span.Span.{Span}
use Rattle.naga_ir.specs.Tree.{Tree, empty, push, Node, plain, nested, branch, switch, loop, jump, Jump, return, Cases, no_cases, case}
use Rattle.naga_ir.specs.declared.expression.Expression.{Expression}
use Rattle.naga_ir.specs.declared.statement.Statement.{Statement}
use Rattle.naga_valid.specs.Operands.{operands_of}
use Rattle.naga_flow.specs.Places.{reads_in}
use Rattle.naga_flow.specs.Results.{emitted_by, evaluated_by, evaluation_by, evaluation_of, used_by}
use Rattle.naga_flow.specs.Ways.{may_go_on, ways_of, ways_of_node}
use Rattle.naga_flow.specs.declared.evaluation.Evaluation.{Evaluation}
use Rattle.naga_flow.specs.declared.evaluation.Evaluation.TheVariants as by
use Rattle.naga_flow.specs.declared.ways.Ways.{Ways}

-- what the evaluation of a body depends on: how each expression gets its value, its operands, and what a use of it reads
pub record Expressions : Type 0 where
  pub evaluation : ℕ → Option Evaluation
  pub operands : ℕ → List ℕ
  pub reads : ℕ → List ℕ

abbrev pub operands_found : Option Expression → List ℕ
operands_found None = []
operands_found (Some expression) = operands_of expression

-- the expressions of an arena
abbrev pub expressions_in : List (Expression × Span) → Expressions
expressions_in arena = record {
  evaluation = λ handle. option_map evaluation_of (value_at arena handle);
  operands = λ handle. operands_found (value_at arena handle);
  reads = reads_in arena;
}

module _ (expressions : Expressions) where
  -- the expression has a value, if these have been evaluated
  abbrev pub IsKnown : (known : List ℕ) → ℕ → Type 0
  IsKnown known handle = (expressions.evaluation handle ≡ Some by.Ready) ⊎ Contains known handle

  abbrev pub AreKnown : (known : List ℕ) → List ℕ → Type 0
  AreKnown known = All (IsKnown known)

  -- what a use of the expression reads has a value, if these have been evaluated
  abbrev pub MayUse : (known : List ℕ) → ℕ → Type 0
  MayUse known handle = AreKnown known (expressions.reads handle)

  abbrev pub MayUseEach : (known : List ℕ) → List ℕ → Type 0
  MayUseEach known = All (MayUse known)

  -- the expressions get their values in this way
  abbrev pub AreEvaluatedBy : Evaluation → List ℕ → Type 0
  AreEvaluatedBy way = All (λ handle. expressions.evaluation handle ≡ Some way)

  -- the operands of each of these expressions may be used when it is evaluated, if they are evaluated in this order
  abbrev pub OperandsAreKnown : (known emitted : List ℕ) → Type 0
  OperandsAreKnown known [] = ⊤
  OperandsAreKnown known (handle ∷ rest) =
      MayUseEach known (expressions.operands handle) × OperandsAreKnown (handle ∷ known) rest

  -- what a plain statement uses has a value, if these have been evaluated, and what it evaluates is evaluated by such a
  -- statement
  pub record PlainUsesKnown (known : List ℕ) (what : Statement) : Type 0 where
    pub used : MayUseEach known (used_by what)
    pub operands : OperandsAreKnown known (emitted_by what)
    pub evaluated : AreEvaluatedBy (evaluation_by what) (evaluated_by what)

-- ---- blocks

-- the expressions that a statement evaluates outside the blocks in it
abbrev pub values_of_node : Node → List ℕ
values_of_node (plain what) = evaluated_by what
values_of_node node = []

-- the expressions that a block evaluates, in order, outside the blocks in it
abbrev pub values_of : Tree → List ℕ
values_of empty = []
values_of (push front last span) = values_of front ++ values_of_node last

-- where control goes on after a block, by its end or by a continue, it need not have passed the last statement, since it
-- never reaches this one or may leave the block by a continue before
abbrev pub may_be_skipped : (front last : Ways) → Bool
may_be_skipped front last = not front.falls_off || (front.continues || last.continues)

-- The first statements of a block, as many as contain no continue and follow none after which control never goes on. A
-- run after which the turn of a loop goes on has executed them.
abbrev pub certain : Tree → Tree
certain empty = empty
certain (push front last span) =
    if may_be_skipped (ways_of front) (ways_of_node last) then certain front else push front last span

-- the expressions where control reaches a use only if the test holds: where it does not, a use reads nothing
abbrev pub where_reached : Bool → Expressions → Expressions
where_reached is_reached expressions = record expressions { reads = λ handle. if is_reached then expressions.reads handle else [] }

-- the expressions in the continuing block and in the break condition of a loop with this body, which control reaches only
-- if it may fall off the end of the body or leave it by a continue
abbrev pub after_body : (body : Tree) → Expressions → Expressions
after_body body expressions = where_reached (may_go_on (ways_of body)) expressions

abbrev pub JumpUsesKnown : Expressions → (known : List ℕ) → Jump → Type 0
JumpUsesKnown expressions known (return value) = MayUseEach expressions known (option_to_list value)
JumpUsesKnown expressions known to = ⊤

abbrev mutual
  -- Whatever the block uses has a value, if these have been evaluated before. What a block evaluates is known in the
  -- statements after it in the block, and in the blocks inside these, but not after the block. What the body of a loop
  -- evaluates for certain is also known in the continuing block, and what both evaluate for certain in the break
  -- condition. If control never goes on after the body, what these two use need not have a value.
  pub UsesKnown : Expressions → (known : List ℕ) → Tree → Type 0
  UsesKnown expressions known empty = ⊤
  UsesKnown expressions known (push front last span) = UsesKnown expressions known front × NodeUsesKnown expressions (values_of front ++ known) last

  pub NodeUsesKnown : Expressions → (known : List ℕ) → Node → Type 0
  NodeUsesKnown expressions known (plain what) = PlainUsesKnown expressions known what
  NodeUsesKnown expressions known (nested inner) = UsesKnown expressions known inner
  NodeUsesKnown expressions known (branch condition accept reject) =
      MayUse expressions known condition × UsesKnown expressions known accept × UsesKnown expressions known reject
  NodeUsesKnown expressions known (switch selector cases) = MayUse expressions known selector × CasesUseKnown expressions known cases
  NodeUsesKnown expressions known (loop body continuing break_if) =
      UsesKnown expressions known body × UsesKnown (after_body body expressions) (values_of (certain body) ++ known) continuing
      × MayUseEach (after_body body expressions) (values_of (certain continuing) ++ (values_of (certain body) ++ known)) (option_to_list break_if)
  NodeUsesKnown expressions known (jump to) = JumpUsesKnown expressions known to

  pub CasesUseKnown : Expressions → (known : List ℕ) → Cases → Type 0
  CasesUseKnown expressions known no_cases = ⊤
  CasesUseKnown expressions known (case value body falls_through others) =
      UsesKnown expressions known body × CasesUseKnown expressions known others
