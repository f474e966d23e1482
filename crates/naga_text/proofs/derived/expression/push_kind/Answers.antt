-- Made by tests/derive from the declarations of naga_kinds and naga_ir.
use Rattle.naga_text.proofs.PiecesLemmas.{OnOk-variant}
use Rattle.naga_text.specs.derived.Expression.{kind_text}
use Rattle.naga_text.proofs.derived.expression.push_kind.Goals as goal

pub returns-in-Literal : goal.returns-in-Literal
returns-in-Literal c = OnOk-variant kind_text c.push_expression_literal.result c.args.text.now c.push_expression_literal.new.text c.args.expression.now _ c.in-Literal.is c.push_expression_literal.ensures

pub returns-in-Constant : goal.returns-in-Constant
returns-in-Constant c = OnOk-variant kind_text c.push.result c.args.text.now c.push.new.self c.args.expression.now _ c.in-Constant.is c.push.ensures

pub returns-in-Override : goal.returns-in-Override
returns-in-Override c = OnOk-variant kind_text c.push-in-Override.result c.args.text.now c.push-in-Override.new.self c.args.expression.now _ c.in-Override.is c.push-in-Override.ensures

pub returns-in-ZeroValue : goal.returns-in-ZeroValue
returns-in-ZeroValue c = OnOk-variant kind_text c.push-in-ZeroValue.result c.args.text.now c.push-in-ZeroValue.new.self c.args.expression.now _ c.in-ZeroValue.is c.push-in-ZeroValue.ensures

pub returns-in-Compose : goal.returns-in-Compose
returns-in-Compose c = OnOk-variant kind_text c.push-in-Compose.result c.args.text.now c.push-in-Compose.new.self c.args.expression.now _ c.in-Compose.is c.push-in-Compose.ensures

pub returns-in-Access : goal.returns-in-Access
returns-in-Access c = OnOk-variant kind_text c.push-in-Access.result c.args.text.now c.push-in-Access.new.self c.args.expression.now _ c.in-Access.is c.push-in-Access.ensures

pub returns-in-AccessIndex : goal.returns-in-AccessIndex
returns-in-AccessIndex c = OnOk-variant kind_text c.push_numbered.result c.args.text.now c.push_numbered.new.text c.args.expression.now _ c.in-AccessIndex.is c.push_numbered.ensures

pub returns-in-Splat : goal.returns-in-Splat
returns-in-Splat c = OnOk-variant kind_text c.push_named_kind.result c.args.text.now c.push_named_kind.new.text c.args.expression.now _ c.in-Splat.is c.push_named_kind.ensures

pub returns-in-Swizzle : goal.returns-in-Swizzle
returns-in-Swizzle c = OnOk-variant kind_text c.push_expression_swizzle.result c.args.text.now c.push_expression_swizzle.new.text c.args.expression.now _ c.in-Swizzle.is c.push_expression_swizzle.ensures

pub returns-in-FunctionArgument : goal.returns-in-FunctionArgument
returns-in-FunctionArgument c = OnOk-variant kind_text c.push_numbered-in-FunctionArgument.result c.args.text.now c.push_numbered-in-FunctionArgument.new.text c.args.expression.now _ c.in-FunctionArgument.is c.push_numbered-in-FunctionArgument.ensures

pub returns-in-GlobalVariable : goal.returns-in-GlobalVariable
returns-in-GlobalVariable c = OnOk-variant kind_text c.push-in-GlobalVariable.result c.args.text.now c.push-in-GlobalVariable.new.self c.args.expression.now _ c.in-GlobalVariable.is c.push-in-GlobalVariable.ensures

pub returns-in-LocalVariable : goal.returns-in-LocalVariable
returns-in-LocalVariable c = OnOk-variant kind_text c.push-in-LocalVariable.result c.args.text.now c.push-in-LocalVariable.new.self c.args.expression.now _ c.in-LocalVariable.is c.push-in-LocalVariable.ensures

pub returns-in-Load : goal.returns-in-Load
returns-in-Load c = OnOk-variant kind_text c.push-in-Load.result c.args.text.now c.push-in-Load.new.self c.args.expression.now _ c.in-Load.is c.push-in-Load.ensures

pub returns-in-ImageSample : goal.returns-in-ImageSample
returns-in-ImageSample c = OnOk-variant kind_text c.push_expression_image_sample.result c.args.text.now c.push_expression_image_sample.new.text c.args.expression.now _ c.in-ImageSample.is c.push_expression_image_sample.ensures

pub returns-in-ImageLoad : goal.returns-in-ImageLoad
returns-in-ImageLoad c = OnOk-variant kind_text c.push_expression_image_load.result c.args.text.now c.push_expression_image_load.new.text c.args.expression.now _ c.in-ImageLoad.is c.push_expression_image_load.ensures

pub returns-in-ImageQuery : goal.returns-in-ImageQuery
returns-in-ImageQuery c = OnOk-variant kind_text c.push_expression_image_query.result c.args.text.now c.push_expression_image_query.new.text c.args.expression.now _ c.in-ImageQuery.is c.push_expression_image_query.ensures

pub returns-in-Unary : goal.returns-in-Unary
returns-in-Unary c = OnOk-variant kind_text c.push_named_kind-in-Unary.result c.args.text.now c.push_named_kind-in-Unary.new.text c.args.expression.now _ c.in-Unary.is c.push_named_kind-in-Unary.ensures

pub returns-in-Binary : goal.returns-in-Binary
returns-in-Binary c = OnOk-variant kind_text c.push_named_kind-in-Binary.result c.args.text.now c.push_named_kind-in-Binary.new.text c.args.expression.now _ c.in-Binary.is c.push_named_kind-in-Binary.ensures

pub returns-in-Select : goal.returns-in-Select
returns-in-Select c = OnOk-variant kind_text c.push-in-Select.result c.args.text.now c.push-in-Select.new.self c.args.expression.now _ c.in-Select.is c.push-in-Select.ensures

pub returns-in-Derivative : goal.returns-in-Derivative
returns-in-Derivative c = OnOk-variant kind_text c.push_expression_derivative.result c.args.text.now c.push_expression_derivative.new.text c.args.expression.now _ c.in-Derivative.is c.push_expression_derivative.ensures

pub returns-in-Relational : goal.returns-in-Relational
returns-in-Relational c = OnOk-variant kind_text c.push_named_kind-in-Relational.result c.args.text.now c.push_named_kind-in-Relational.new.text c.args.expression.now _ c.in-Relational.is c.push_named_kind-in-Relational.ensures

pub returns-in-Math : goal.returns-in-Math
returns-in-Math c = OnOk-variant kind_text c.push_named_kind-in-Math.result c.args.text.now c.push_named_kind-in-Math.new.text c.args.expression.now _ c.in-Math.is c.push_named_kind-in-Math.ensures

pub returns-in-As : goal.returns-in-As
returns-in-As c = OnOk-variant kind_text c.push_expression_as.result c.args.text.now c.push_expression_as.new.text c.args.expression.now _ c.in-As.is c.push_expression_as.ensures

pub returns-in-CallResult : goal.returns-in-CallResult
returns-in-CallResult c = OnOk-variant kind_text c.push-in-CallResult.result c.args.text.now c.push-in-CallResult.new.self c.args.expression.now _ c.in-CallResult.is c.push-in-CallResult.ensures

pub returns-in-AtomicResult : goal.returns-in-AtomicResult
returns-in-AtomicResult c = OnOk-variant kind_text c.push_flagged.result c.args.text.now c.push_flagged.new.text c.args.expression.now _ c.in-AtomicResult.is c.push_flagged.ensures

pub returns-in-WorkGroupUniformLoadResult : goal.returns-in-WorkGroupUniformLoadResult
returns-in-WorkGroupUniformLoadResult c = OnOk-variant kind_text c.push-in-WorkGroupUniformLoadResult.result c.args.text.now c.push-in-WorkGroupUniformLoadResult.new.self c.args.expression.now _ c.in-WorkGroupUniformLoadResult.is c.push-in-WorkGroupUniformLoadResult.ensures

pub returns-in-ArrayLength : goal.returns-in-ArrayLength
returns-in-ArrayLength c = OnOk-variant kind_text c.push-in-ArrayLength.result c.args.text.now c.push-in-ArrayLength.new.self c.args.expression.now _ c.in-ArrayLength.is c.push-in-ArrayLength.ensures

pub returns-in-RayQueryVertexPositions : goal.returns-in-RayQueryVertexPositions
returns-in-RayQueryVertexPositions c = OnOk-variant kind_text c.push_flagged-in-RayQueryVertexPositions.result c.args.text.now c.push_flagged-in-RayQueryVertexPositions.new.text c.args.expression.now _ c.in-RayQueryVertexPositions.is c.push_flagged-in-RayQueryVertexPositions.ensures

pub returns-in-RayQueryProceedResult : goal.returns-in-RayQueryProceedResult
returns-in-RayQueryProceedResult c = OnOk-variant kind_text c.push-in-RayQueryProceedResult.result c.args.text.now c.push-in-RayQueryProceedResult.new.self c.args.expression.now _ c.in-RayQueryProceedResult.is c.push-in-RayQueryProceedResult.ensures

pub returns-in-RayQueryGetIntersection : goal.returns-in-RayQueryGetIntersection
returns-in-RayQueryGetIntersection c = OnOk-variant kind_text c.push_flagged-in-RayQueryGetIntersection.result c.args.text.now c.push_flagged-in-RayQueryGetIntersection.new.text c.args.expression.now _ c.in-RayQueryGetIntersection.is c.push_flagged-in-RayQueryGetIntersection.ensures

pub returns-in-SubgroupBallotResult : goal.returns-in-SubgroupBallotResult
returns-in-SubgroupBallotResult c = OnOk-variant kind_text c.push-in-SubgroupBallotResult.result c.args.text.now c.push-in-SubgroupBallotResult.new.self c.args.expression.now _ c.in-SubgroupBallotResult.is c.push-in-SubgroupBallotResult.ensures

pub returns-in-SubgroupOperationResult : goal.returns-in-SubgroupOperationResult
returns-in-SubgroupOperationResult c = OnOk-variant kind_text c.push-in-SubgroupOperationResult.result c.args.text.now c.push-in-SubgroupOperationResult.new.self c.args.expression.now _ c.in-SubgroupOperationResult.is c.push-in-SubgroupOperationResult.ensures

pub returns-in-CooperativeLoad : goal.returns-in-CooperativeLoad
returns-in-CooperativeLoad c = OnOk-variant kind_text c.push_expression_cooperative_load.result c.args.text.now c.push_expression_cooperative_load.new.text c.args.expression.now _ c.in-CooperativeLoad.is c.push_expression_cooperative_load.ensures

pub returns-in-CooperativeMultiplyAdd : goal.returns-in-CooperativeMultiplyAdd
returns-in-CooperativeMultiplyAdd c = OnOk-variant kind_text c.push-in-CooperativeMultiplyAdd.result c.args.text.now c.push-in-CooperativeMultiplyAdd.new.self c.args.expression.now _ c.in-CooperativeMultiplyAdd.is c.push-in-CooperativeMultiplyAdd.ensures
