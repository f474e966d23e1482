-- The first expression of a body that is misused: its value is used and need not have been evaluated, or it is evaluated
-- by another kind of statement than the expression requires, or again in its scope.
use Rattle.std.specs.Prelude.{◌≡◌, ◌⊎◌, ⊤, ℕ, List, [], ◌∷◌, ◌++◌, Option, None, Some, option_to_list, Result, MatchResult}
use Rattle.std.specs.List.{Contains}
use Rattle.naga_arena.specs.Span.{undefined}
use Rattle.naga_arena.specs.declared.span.Span.{Span}
use Rattle.naga_ir.specs.Tree.{Tree, empty, push, Node, plain, nested, branch, switch, loop, jump, Jump, return, Cases, no_cases, case}
use Rattle.naga_ir.specs.declared.statement.Statement.{Statement}
use Rattle.naga_flow.specs.Jumps.{numbered}
use Rattle.naga_flow.specs.Results.{emitted_by, evaluation_by, result_of, used_by}
use Rattle.naga_flow.specs.Scopes.{BlockPasses}
use Rattle.naga_flow.specs.Tracking.{IsFirstNot}
use Rattle.naga_flow.specs.Uses.{AreEvaluatedBy, Expressions, IsKnown, MayUse, MayUseEach, after_body, certain, values_of}
use Rattle.naga_flow.specs.declared.evaluation.Evaluation.{Evaluation}
use Rattle.naga_flow.specs.declared.evaluation.Evaluation.TheVariants as by
use Rattle.naga_flow.specs.declared.invalid_use.Cause.TheVariants.{EvaluatedAgain, NotEvaluated, NotEvaluatedBy}
use Rattle.naga_flow.specs.declared.invalid_use.InvalidUse.{InvalidUse}
use Rattle.naga_flow.specs.declared.invalid_use.InvalidUse.TheVariants as invalid
use Rattle.naga_flow.specs.declared.invalid_use.Misuse.{Misuse}

-- ---- numbers of statements

abbrev mutual
  -- the number of what follows a block, if this is the number of its first statement
  pub number_after : ℕ → Tree → ℕ
  number_after number empty = number
  number_after number (push front last span) = number_after_node (number_after number front) last

  -- the number of what follows a statement with this number
  pub number_after_node : ℕ → Node → ℕ
  number_after_node number (plain what) = numbered number 1
  number_after_node number (nested inner) = number_after (numbered number 1) inner
  number_after_node number (branch condition accept reject) = number_after (number_after (numbered number 1) accept) reject
  number_after_node number (switch selector cases) = number_after_cases (numbered number 1) cases
  number_after_node number (loop body continuing break_if) = number_after (number_after (numbered number 1) body) continuing
  number_after_node number (jump to) = numbered number 1

  pub number_after_cases : ℕ → Cases → ℕ
  number_after_cases number no_cases = number
  number_after_cases number (case value body falls_through others) = number_after_cases (number_after number body) others

-- the misuse is at the statement with this number and this span
pub record IsAt (number : ℕ) (span : Span) (misuse : Misuse) : Type 0 where
  pub number_is : misuse.statement ≡ number
  pub span_is : misuse.span ≡ span

-- the misuse of a statement that uses an expression without a value
abbrev pub not_evaluated : (expression statement : ℕ) → Span → Misuse
not_evaluated expression statement span = record { statement = statement; span = span; expression = expression; cause = NotEvaluated }

module _ (expressions : Expressions) where
  -- the first of these expressions that may not be used reads this expression first of those that have no value
  pub record IsUnread (known used : List ℕ) (misuse : Misuse) : Type 0 where
    pub handle : ℕ
    pub first : IsFirstNot (MayUse expressions known) used handle
    pub reads : IsFirstNot (IsKnown expressions known) (expressions.reads handle) misuse.expression
    pub cause : misuse.cause ≡ NotEvaluated

  -- the first of these expressions that may not be used reads this expression first of those that have no value
  abbrev pub ReadsUnread : (known used : List ℕ) → ℕ → Type 0
  ReadsUnread known used expression = IsUnread known used (not_evaluated expression 0 undefined)

  -- the answer is such an expression, or `None` if each of these may be used
  abbrev pub FindsUnread : (known used : List ℕ) → Option ℕ → Type 0
  FindsUnread known used None = MayUseEach expressions known used
  FindsUnread known used (Some expression) = ReadsUnread known used expression

  -- this expression is the first of these that does not get its value in this way
  pub record IsUnfit (way : Evaluation) (evaluated : List ℕ) (misuse : Misuse) : Type 0 where
    pub first : IsFirstNot (λ handle. expressions.evaluation handle ≡ Some way) evaluated misuse.expression
    pub cause : misuse.cause ≡ NotEvaluatedBy way

-- this expression is one of these, and in scope already
pub record IsRepeated (scope evaluated : List ℕ) (misuse : Misuse) : Type 0 where
  pub one_of : Contains evaluated misuse.expression
  pub in_scope : Contains scope misuse.expression
  pub cause : misuse.cause ≡ EvaluatedAgain

module _ (expressions : Expressions) where
  -- the first misuse in an `Emit` of these expressions
  abbrev pub EmitMisuse : (known scope emitted : List ℕ) → Misuse → Type 0
  EmitMisuse known scope [] misuse = ⊥
  EmitMisuse known scope (handle ∷ rest) misuse =
      IsUnfit expressions by.Emit (handle ∷ []) misuse
      ⊎ (AreEvaluatedBy expressions by.Emit (handle ∷ [])
      × (IsUnread expressions known (expressions.operands handle) misuse
      ⊎ (MayUseEach expressions known (expressions.operands handle)
      × (IsRepeated scope (handle ∷ []) misuse
      ⊎ (¬ Contains scope handle × EmitMisuse (handle ∷ known) (handle ∷ scope) rest misuse)))))

  -- the first misuse of the result of a statement, if it has one
  abbrev pub ResultMisuse : Evaluation → (scope evaluated : List ℕ) → Misuse → Type 0
  ResultMisuse way scope evaluated misuse =
      IsUnfit expressions way evaluated misuse
      ⊎ (AreEvaluatedBy expressions way evaluated × IsRepeated scope evaluated misuse)

  abbrev pub PlainMisuse : (known scope : List ℕ) → Statement → Misuse → Type 0
  PlainMisuse known scope what misuse =
      IsUnread expressions known (used_by what) misuse
      ⊎ (MayUseEach expressions known (used_by what)
      × (EmitMisuse known scope (emitted_by what) misuse ⊎ ResultMisuse (evaluation_by what) scope (option_to_list (result_of what)) misuse))

  abbrev pub JumpMisuse : (known : List ℕ) → Jump → Misuse → Type 0
  JumpMisuse known (return value) misuse = IsUnread expressions known (option_to_list value) misuse
  JumpMisuse known to misuse = ⊥

abbrev mutual
  -- the first misuse in a block whose first statement has this number, if these have been evaluated before and these are
  -- in scope; whatever is read before it passes
  pub BlockMisuse : Expressions → ℕ → (known scope : List ℕ) → Tree → Misuse → Type 0
  BlockMisuse expressions number known scope empty misuse = ⊥
  BlockMisuse expressions number known scope (push front last span) misuse =
      BlockMisuse expressions number known scope front misuse
      ⊎ (BlockPasses expressions known scope front
      × NodeMisuse expressions (number_after number front) span (values_of front ++ known) (values_of front ++ scope) last misuse)

  pub NodeMisuse : Expressions → ℕ → Span → (known scope : List ℕ) → Node → Misuse → Type 0
  NodeMisuse expressions number span known scope (plain what) misuse = IsAt number span misuse × PlainMisuse expressions known scope what misuse
  NodeMisuse expressions number span known scope (nested inner) misuse = BlockMisuse expressions (numbered number 1) known scope inner misuse
  NodeMisuse expressions number span known scope (branch condition accept reject) misuse =
      (IsAt number span misuse × IsUnread expressions known (condition ∷ []) misuse)
      ⊎ (MayUse expressions known condition
      × (BlockMisuse expressions (numbered number 1) known scope accept misuse
      ⊎ (BlockPasses expressions known scope accept × BlockMisuse expressions (number_after (numbered number 1) accept) known scope reject misuse)))
  NodeMisuse expressions number span known scope (switch selector cases) misuse =
      (IsAt number span misuse × IsUnread expressions known (selector ∷ []) misuse)
      ⊎ (MayUse expressions known selector × CasesMisuse expressions (numbered number 1) known scope cases misuse)
  NodeMisuse expressions number span known scope (loop body continuing break_if) misuse =
      let then_known = values_of (certain body) ++ known in
      let then_scope = values_of body ++ scope in
      BlockMisuse expressions (numbered number 1) known scope body misuse
      ⊎ (BlockPasses expressions known scope body
      × (BlockMisuse (after_body body expressions) (number_after (numbered number 1) body) then_known then_scope continuing misuse
      ⊎ (BlockPasses (after_body body expressions) then_known then_scope continuing
      × IsAt number span misuse
      × IsUnread (after_body body expressions) (values_of (certain continuing) ++ then_known) (option_to_list break_if) misuse)))
  NodeMisuse expressions number span known scope (jump to) misuse = IsAt number span misuse × JumpMisuse expressions known to misuse

  pub CasesMisuse : Expressions → ℕ → (known scope : List ℕ) → Cases → Misuse → Type 0
  CasesMisuse expressions number known scope no_cases misuse = ⊥
  CasesMisuse expressions number known scope (case value body falls_through others) misuse =
      BlockMisuse expressions number known scope body misuse
      ⊎ (BlockPasses expressions known scope body × CasesMisuse expressions (number_after number body) known scope others misuse)

-- the error is a misuse of which this holds, or an allocation failed
abbrev pub IfMisuse : InvalidUse → (Misuse → Type 0) → Type 0
IfMisuse invalid.Memory Q = ⊤
IfMisuse (invalid.Misuse misuse) Q = Q misuse

-- a call that succeeded, or failed with a misuse; nothing is said if an allocation failed
abbrev pub Judged : {X : Type 0} → Result X InvalidUse → (X → Type 0) → (Misuse → Type 0) → Type 0
Judged result P Q = MatchResult result P (λ error. IfMisuse error Q)
