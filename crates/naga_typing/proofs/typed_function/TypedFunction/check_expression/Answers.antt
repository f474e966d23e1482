use Rattle.std.proofs.Common.{subst, sym}
use Rattle.naga_typing.specs.Checks.{Checks}
use Rattle.naga_typing.specs.Expressions.{of_compose, required_by_expression}
use Rattle.naga_typing.specs.TypedFunctions.{FitsIn}
use Rattle.naga_typing.proofs.typed_function.TypedFunction.check_expression.Goals as goal

pub returns-in-Compose : goal.returns-in-Compose
returns-in-Compose c =
    subst (λ expression. Checks (FitsIn c.args.self.now) (required_by_expression expression) c.check_compose.result) (sym c.in-Compose.is)
    (subst (λ items. Checks (FitsIn c.args.self.now) (of_compose c.in-Compose.ty items) c.check_compose.result) c.as_slice.ensures.value
    c.check_compose.ensures)

pub returns-in-Swizzle : goal.returns-in-Swizzle
returns-in-Swizzle c =
    subst (λ expression. Checks (FitsIn c.args.self.now) (required_by_expression expression) c.check_swizzle.result) (sym c.in-Swizzle.is)
    c.check_swizzle.ensures

pub returns-in-ImageSample : goal.returns-in-ImageSample
returns-in-ImageSample c =
    subst (λ expression. Checks (FitsIn c.args.self.now) (required_by_expression expression) c.check_sample.result) (sym c.in-ImageSample.is)
    c.check_sample.ensures

pub returns-in-ImageLoad : goal.returns-in-ImageLoad
returns-in-ImageLoad c =
    subst (λ expression. Checks (FitsIn c.args.self.now) (required_by_expression expression) c.check_load.result) (sym c.in-ImageLoad.is)
    c.check_load.ensures

pub returns-in-Select : goal.returns-in-Select
returns-in-Select c =
    subst (λ expression. Checks (FitsIn c.args.self.now) (required_by_expression expression) c.check_select.result) (sym c.in-Select.is)
    c.check_select.ensures

pub returns-in-Math : goal.returns-in-Math
returns-in-Math c =
    subst (λ expression. Checks (FitsIn c.args.self.now) (required_by_expression expression) c.check_math.result) (sym c.in-Math.is)
    c.check_math.ensures

pub returns-in-CooperativeMultiplyAdd : goal.returns-in-CooperativeMultiplyAdd
returns-in-CooperativeMultiplyAdd c =
    subst (λ expression. Checks (FitsIn c.args.self.now) (required_by_expression expression) c.check_product.result) (sym c.in-CooperativeMultiplyAdd.is)
    c.check_product.ensures
