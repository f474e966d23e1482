-- Made by tests/derive from the declarations of naga_kinds and naga_ir.
-- The forms of expressions and statements do not depend on their handles.
use Rattle.std.proofs.Common.{None, Option, refl, Some, ℕ, ◌≡◌}
use Rattle.std.specs.Option.{option_map}
use Rattle.naga_compact.specs.Renaming.{Renaming}
use Rattle.naga_meaning.specs.Forms.{erasing, expression_form, of_expression, of_statement, statement_form}
use Rattle.naga_ir.specs.declared.expression.SampleLevel.{SampleLevel}
use Rattle.naga_ir.specs.declared.expression.SampleLevel.TheVariants as sample_level
use Rattle.naga_compact.specs.derived.Renaming.{rename_atomic_function, rename_expression, rename_gather_mode, rename_image_query, rename_ray_pipeline_function, rename_ray_query_function, rename_sample_level, rename_statement}
use Rattle.naga_ir.specs.declared.expression.ImageQuery.{ImageQuery}
use Rattle.naga_ir.specs.declared.expression.ImageQuery.TheVariants as image_query
use Rattle.naga_ir.specs.declared.expression.Expression.{Expression}
use Rattle.naga_ir.specs.declared.expression.Expression.TheVariants as expression
use Rattle.naga_ir.specs.declared.expression.AtomicFunction.{AtomicFunction}
use Rattle.naga_ir.specs.declared.expression.AtomicFunction.TheVariants as atomic_function
use Rattle.naga_ir.specs.declared.statement.RayQueryFunction.{RayQueryFunction}
use Rattle.naga_ir.specs.declared.statement.RayQueryFunction.TheVariants as ray_query_function
use Rattle.naga_ir.specs.declared.statement.RayPipelineFunction.{RayPipelineFunction}
use Rattle.naga_ir.specs.declared.statement.RayPipelineFunction.TheVariants as ray_pipeline_function
use Rattle.naga_ir.specs.declared.expression.GatherMode.{GatherMode}
use Rattle.naga_ir.specs.declared.expression.GatherMode.TheVariants as gather_mode
use Rattle.naga_ir.specs.declared.statement.Statement.{Statement}
use Rattle.naga_ir.specs.declared.statement.Statement as statement

module _ (r : Renaming) where
  -- an optional handle is erased, whether it was renamed before or not
  optional : (rename : ℕ → ℕ) (handle : Option ℕ) → option_map erasing.expressions (option_map rename handle) ≡ option_map erasing.expressions handle
  optional rename None = refl
  optional rename (Some handle) = refl

  sample_level-erased : (of : SampleLevel) → rename_sample_level erasing (rename_sample_level r of) ≡ rename_sample_level erasing of
  sample_level-erased sample_level.Auto = refl
  sample_level-erased _ = refl

  image_query-erased : (of : ImageQuery) → rename_image_query erasing (rename_image_query r of) ≡ rename_image_query erasing of
  image_query-erased (image_query.Size level) = λ i. image_query.Size (optional r.expressions level i)
  image_query-erased _ = refl

  pub expression_form-renamed : (of : Expression) → expression_form (rename_expression r of) ≡ expression_form of
  expression_form-renamed (expression.ImageSample image sampler gather coordinate array_index offset level depth_ref clamp_to_edge) = λ i. of_expression (expression.ImageSample 0 0 gather 0 (optional r.expressions array_index i) (optional r.expressions offset i) (sample_level-erased level i) (optional r.expressions depth_ref i) clamp_to_edge)
  expression_form-renamed (expression.ImageLoad image coordinate array_index sample level) = λ i. of_expression (expression.ImageLoad 0 0 (optional r.expressions array_index i) (optional r.expressions sample i) (optional r.expressions level i))
  expression_form-renamed (expression.ImageQuery image query) = λ i. of_expression (expression.ImageQuery 0 (image_query-erased query i))
  expression_form-renamed (expression.Math fun arg arg1 arg2 arg3) = λ i. of_expression (expression.Math fun 0 (optional r.expressions arg1 i) (optional r.expressions arg2 i) (optional r.expressions arg3 i))
  expression_form-renamed _ = refl

  atomic_function-erased : (of : AtomicFunction) → rename_atomic_function erasing (rename_atomic_function r of) ≡ rename_atomic_function erasing of
  atomic_function-erased (atomic_function.Exchange compare) = λ i. atomic_function.Exchange (optional r.expressions compare i)
  atomic_function-erased _ = refl

  ray_query_function-erased : (of : RayQueryFunction) → rename_ray_query_function erasing (rename_ray_query_function r of) ≡ rename_ray_query_function erasing of
  ray_query_function-erased (ray_query_function.Initialize acceleration_structure descriptor) = refl
  ray_query_function-erased _ = refl

  ray_pipeline_function-erased : (of : RayPipelineFunction) → rename_ray_pipeline_function erasing (rename_ray_pipeline_function r of) ≡ rename_ray_pipeline_function erasing of
  ray_pipeline_function-erased (ray_pipeline_function.TraceRay acceleration_structure descriptor payload) = refl

  gather_mode-erased : (of : GatherMode) → rename_gather_mode erasing (rename_gather_mode r of) ≡ rename_gather_mode erasing of
  gather_mode-erased gather_mode.BroadcastFirst = refl
  gather_mode-erased _ = refl

  pub statement_form-renamed : (of : Statement) → statement_form (rename_statement r of) ≡ statement_form of
  statement_form-renamed (statement.Loop' shape body shape' continuing break_if) = λ i. of_statement (statement.Loop' shape body shape' continuing (optional r.expressions break_if i))
  statement_form-renamed (statement.Return value) = λ i. of_statement (statement.Return (optional r.expressions value i))
  statement_form-renamed (statement.ImageStore image coordinate array_index value) = λ i. of_statement (statement.ImageStore 0 0 (optional r.expressions array_index i) 0)
  statement_form-renamed (statement.Atomic pointer fun value result) = λ i. of_statement (statement.Atomic 0 (atomic_function-erased fun i) 0 (optional r.expressions result i))
  statement_form-renamed (statement.ImageAtomic image coordinate array_index fun value) = λ i. of_statement (statement.ImageAtomic 0 0 (optional r.expressions array_index i) (atomic_function-erased fun i) 0)
  statement_form-renamed (statement.Call function arguments None) = refl
  statement_form-renamed (statement.Call function arguments (Some handle)) = refl
  statement_form-renamed (statement.RayQuery query fun) = λ i. of_statement (statement.RayQuery 0 (ray_query_function-erased fun i))
  statement_form-renamed (statement.RayPipelineFunction ray_pipeline_function) = λ i. of_statement (statement.RayPipelineFunction (ray_pipeline_function-erased ray_pipeline_function i))
  statement_form-renamed (statement.SubgroupBallot result predicate) = λ i. of_statement (statement.SubgroupBallot 0 (optional r.expressions predicate i))
  statement_form-renamed (statement.SubgroupGather mode argument result) = λ i. of_statement (statement.SubgroupGather (gather_mode-erased mode i) 0 0)
  statement_form-renamed _ = refl
