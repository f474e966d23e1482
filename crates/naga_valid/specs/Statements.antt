-- The handles and ranges that a statement contains, in declared order: one line for each variant. Those in the blocks
-- of a statement belong to the statements of these blocks.
use Rattle.std.specs.Prelude.{ℕ, List, [], ◌∷◌, ◌++◌, Option, Some, None, option_to_list}
use Rattle.std.specs.Option.{option_map}
use Rattle.naga_ir.specs.Tree.{Tree, empty, push, Node, plain, nested, branch, switch, loop, jump, Jump, break, continue, kill, return, Cases, no_cases, case}
use Rattle.naga_ir.specs.declared.expression.AtomicFunction.{AtomicFunction}
use Rattle.naga_ir.specs.declared.expression.AtomicFunction.TheVariants.{Add, Subtract, And, ExclusiveOr, InclusiveOr, Min, Max, Exchange}
use Rattle.naga_ir.specs.declared.expression.GatherMode.{GatherMode}
use Rattle.naga_ir.specs.declared.expression.GatherMode.TheVariants.{BroadcastFirst, Broadcast, Shuffle, ShuffleDown, ShuffleUp, ShuffleXor, QuadBroadcast, QuadSwap}
use Rattle.naga_ir.specs.declared.statement.RayPipelineFunction as pipeline
use Rattle.naga_ir.specs.declared.statement.RayPipelineFunction.TheVariants.{TraceRay}
use Rattle.naga_ir.specs.declared.statement.RayQueryFunction.{RayQueryFunction}
use Rattle.naga_ir.specs.declared.statement.RayQueryFunction.TheVariants.{Initialize, Proceed, GenerateIntersection, ConfirmIntersection, Terminate}
use Rattle.naga_ir.specs.declared.statement.Statement.{Statement, Emit, Block', If', Switch', Loop', Break, Continue, Return, Kill, ControlBarrier, MemoryBarrier, Store, ImageStore, Atomic, ImageAtomic, WorkGroupUniformLoad, Call, RayQuery, RayPipelineFunction, SubgroupBallot, SubgroupGather, SubgroupCollectiveOperation, CooperativeStore}
use Rattle.naga_valid.specs.declared.reference.Reference.{Reference}
use Rattle.naga_valid.specs.declared.reference.Reference.TheVariants as reference
use Rattle.naga_valid.specs.Reference.{operands, present}

-- the expression that an `AtomicFunction` contains
abbrev pub operand_of_atomic_function : AtomicFunction → Option ℕ
operand_of_atomic_function Add = None
operand_of_atomic_function Subtract = None
operand_of_atomic_function And = None
operand_of_atomic_function ExclusiveOr = None
operand_of_atomic_function InclusiveOr = None
operand_of_atomic_function Min = None
operand_of_atomic_function Max = None
operand_of_atomic_function (Exchange compare) = compare

-- the expression that a `GatherMode` contains
abbrev pub operand_of_gather_mode : GatherMode → Option ℕ
operand_of_gather_mode BroadcastFirst = None
operand_of_gather_mode (Broadcast index) = Some index
operand_of_gather_mode (Shuffle index) = Some index
operand_of_gather_mode (ShuffleDown delta) = Some delta
operand_of_gather_mode (ShuffleUp delta) = Some delta
operand_of_gather_mode (ShuffleXor mask) = Some mask
operand_of_gather_mode (QuadBroadcast index) = Some index
operand_of_gather_mode (QuadSwap direction) = None

-- the expressions that a `RayQueryFunction` contains
abbrev pub operands_of_ray_query_function : RayQueryFunction → List ℕ
operands_of_ray_query_function (Initialize acceleration_structure descriptor) = acceleration_structure ∷ descriptor ∷ []
operands_of_ray_query_function (Proceed result) = result ∷ []
operands_of_ray_query_function (GenerateIntersection hit_t) = hit_t ∷ []
operands_of_ray_query_function ConfirmIntersection = []
operands_of_ray_query_function Terminate = []

-- the expressions that a `RayPipelineFunction` contains
abbrev pub operands_of_ray_pipeline_function : pipeline.RayPipelineFunction → List ℕ
operands_of_ray_pipeline_function (TraceRay acceleration_structure descriptor payload) = acceleration_structure ∷ descriptor ∷ payload ∷ []

-- what a statement contains, without the statements of its blocks
abbrev pub references_of_statement : Statement → List Reference
references_of_statement (Emit range) = reference.Expressions range.0 range.1 ∷ []
references_of_statement (Block' shape row) = []
references_of_statement (If' condition shape accept shape' reject) = operands (condition ∷ [])
references_of_statement (Switch' selector shape cases) = operands (selector ∷ [])
references_of_statement (Loop' shape body shape' continuing break_if) = present (break_if ∷ [])
references_of_statement Break = []
references_of_statement Continue = []
references_of_statement (Return value) = present (value ∷ [])
references_of_statement Kill = []
references_of_statement (ControlBarrier barrier) = []
references_of_statement (MemoryBarrier barrier) = []
references_of_statement (Store pointer value) = operands (pointer ∷ value ∷ [])
references_of_statement (ImageStore image coordinate array_index value) = present (Some image ∷ Some coordinate ∷ array_index ∷ Some value ∷ [])
references_of_statement (Atomic pointer fun value result) = present (Some pointer ∷ operand_of_atomic_function fun ∷ Some value ∷ result ∷ [])
references_of_statement (ImageAtomic image coordinate array_index fun value) = present (Some image ∷ Some coordinate ∷ array_index ∷ operand_of_atomic_function fun ∷ Some value ∷ [])
references_of_statement (WorkGroupUniformLoad pointer result) = operands (pointer ∷ result ∷ [])
references_of_statement (Call function arguments result) = reference.Function function ∷ (operands arguments.items ++ option_to_list (option_map reference.Expression result))
references_of_statement (RayQuery query fun) = operands (query ∷ operands_of_ray_query_function fun)
references_of_statement (RayPipelineFunction fun) = operands (operands_of_ray_pipeline_function fun)
references_of_statement (SubgroupBallot result predicate) = present (Some result ∷ predicate ∷ [])
references_of_statement (SubgroupGather mode argument result) = present (operand_of_gather_mode mode ∷ Some argument ∷ Some result ∷ [])
references_of_statement (SubgroupCollectiveOperation op collective_op argument result) = operands (argument ∷ result ∷ [])
references_of_statement (CooperativeStore target data') = operands (target ∷ data'.pointer ∷ data'.stride ∷ [])

-- ---- trees of statements

abbrev pub references_of_jump : Jump → List Reference
references_of_jump break = []
references_of_jump continue = []
references_of_jump kill = []
references_of_jump (return value) = present (value ∷ [])

abbrev mutual
  -- the handles and ranges of the statements of a tree, and of those in nested blocks; those of a statement come before
  -- those of its blocks
  pub references_of_tree : Tree → List Reference
  references_of_tree empty = []
  references_of_tree (push front last span) = references_of_tree front ++ references_of_node last

  pub references_of_node : Node → List Reference
  references_of_node (plain what) = references_of_statement what
  references_of_node (nested inner) = references_of_tree inner
  references_of_node (branch condition accept reject) = operands (condition ∷ []) ++ (references_of_tree accept ++ references_of_tree reject)
  references_of_node (switch selector cases) = operands (selector ∷ []) ++ references_of_cases cases
  references_of_node (loop body continuing break_if) = present (break_if ∷ []) ++ (references_of_tree body ++ references_of_tree continuing)
  references_of_node (jump to) = references_of_jump to

  pub references_of_cases : Cases → List Reference
  references_of_cases no_cases = []
  references_of_cases (case value body falls_through others) = references_of_tree body ++ references_of_cases others
