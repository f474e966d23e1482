-- What statements evaluate, and the values that they use.
--
-- An expression is ready when the function is entered, or an `Emit` evaluates it, or it is the result of a statement,
-- such as a call of one function. A statement uses the expressions to which it refers, except for the first reference
-- to its own result.
use Rattle.std.specs.Prelude.{ℕ, List, [], ◌∷◌, ◌++◌, Option, Some, None, option_to_list, if◌then◌else◌, nat_eq}
use Rattle.naga_arena.specs.Range.{handles_of}
use Rattle.naga_ir.specs.Expression.{needs_pre_emit}
use Rattle.naga_ir.specs.declared.expression.Expression.{Expression}
use Rattle.naga_ir.specs.declared.expression.Expression.TheVariants.{CallResult, AtomicResult, WorkGroupUniformLoadResult, RayQueryProceedResult, SubgroupBallotResult, SubgroupOperationResult}
use Rattle.naga_ir.specs.declared.statement.RayQueryFunction.{RayQueryFunction}
use Rattle.naga_ir.specs.declared.statement.RayQueryFunction.TheVariants.{Initialize, Proceed, GenerateIntersection, ConfirmIntersection, Terminate}
use Rattle.naga_ir.specs.declared.statement.Statement.{Statement, Emit, Block', If', Switch', Loop', Break, Continue, Return, Kill, ControlBarrier, MemoryBarrier, Store, ImageStore, Atomic, ImageAtomic, WorkGroupUniformLoad, Call, RayQuery, RayPipelineFunction, SubgroupBallot, SubgroupGather, SubgroupCollectiveOperation, CooperativeStore}
use Rattle.naga_valid.specs.Operands.{expressions_of}
use Rattle.naga_valid.specs.Statements.{references_of_statement}
use Rattle.naga_flow.specs.declared.evaluation.Evaluation.{Evaluation}
use Rattle.naga_flow.specs.declared.evaluation.Evaluation.TheVariants as by

-- ---- results

-- the result of an operation on a ray query
abbrev pub result_of_query : RayQueryFunction → Option ℕ
result_of_query (Initialize acceleration_structure descriptor) = None
result_of_query (Proceed result) = Some result
result_of_query (GenerateIntersection hit_t) = None
result_of_query ConfirmIntersection = None
result_of_query Terminate = None

-- the expression whose value is the result of the statement
abbrev pub result_of : Statement → Option ℕ
result_of (Emit range) = None
result_of (Block' shape row) = None
result_of (If' condition shape accept shape' reject) = None
result_of (Switch' selector shape cases) = None
result_of (Loop' shape body shape' continuing break_if) = None
result_of Break = None
result_of Continue = None
result_of (Return value) = None
result_of Kill = None
result_of (ControlBarrier barrier) = None
result_of (MemoryBarrier barrier) = None
result_of (Store pointer value) = None
result_of (ImageStore image coordinate array_index value) = None
result_of (Atomic pointer fun value result) = result
result_of (ImageAtomic image coordinate array_index fun value) = None
result_of (WorkGroupUniformLoad pointer result) = Some result
result_of (Call function arguments result) = result
result_of (RayQuery query fun) = result_of_query fun
result_of (RayPipelineFunction fun) = None
result_of (SubgroupBallot result predicate) = Some result
result_of (SubgroupGather mode argument result) = Some result
result_of (SubgroupCollectiveOperation op collective_op argument result) = Some result
result_of (CooperativeStore target data') = None

-- how an expression gets its value
abbrev pub evaluation_of : Expression → Evaluation
evaluation_of (CallResult function) = by.Call function
evaluation_of (AtomicResult ty comparison) = by.Atomic
evaluation_of (WorkGroupUniformLoadResult ty) = by.WorkGroupUniformLoad
evaluation_of RayQueryProceedResult = by.RayQueryProceed
evaluation_of SubgroupBallotResult = by.SubgroupBallot
evaluation_of (SubgroupOperationResult ty) = by.SubgroupOperation
evaluation_of expression = if needs_pre_emit expression then by.Ready else by.Emit

-- how the expressions that a statement evaluates get their values
abbrev pub evaluation_by : Statement → Evaluation
evaluation_by (Atomic pointer fun value result) = by.Atomic
evaluation_by (WorkGroupUniformLoad pointer result) = by.WorkGroupUniformLoad
evaluation_by (Call function arguments result) = by.Call function
evaluation_by (RayQuery query fun) = by.RayQueryProceed
evaluation_by (SubgroupBallot result predicate) = by.SubgroupBallot
evaluation_by (SubgroupGather mode argument result) = by.SubgroupOperation
evaluation_by (SubgroupCollectiveOperation op collective_op argument result) = by.SubgroupOperation
evaluation_by _ = by.Emit

-- the expressions that the statement evaluates one after another
abbrev pub emitted_by : Statement → List ℕ
emitted_by (Emit range) = handles_of range
emitted_by what = []

-- the expressions that have a value after the statement
abbrev pub evaluated_by : Statement → List ℕ
evaluated_by what = emitted_by what ++ option_to_list (result_of what)

-- ---- uses

-- the list without the first occurrence of the number
abbrev pub without_first : ℕ → List ℕ → List ℕ
without_first x [] = []
without_first x (y ∷ ys) = if nat_eq y x then ys else y ∷ without_first x ys

abbrev pub without : Option ℕ → List ℕ → List ℕ
without None ys = ys
without (Some x) ys = without_first x ys

-- the expressions that a plain statement uses: those to which it refers, except that its result is not one of them
-- unless the statement refers to it once more
abbrev pub used_by : Statement → List ℕ
used_by what = without (result_of what) (expressions_of (references_of_statement what))
