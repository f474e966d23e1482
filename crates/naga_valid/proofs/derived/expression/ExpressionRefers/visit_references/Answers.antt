-- Made by tests/derive from the declarations of naga_kinds and naga_ir.
use Rattle.std.proofs.Common.{subst, sym}
use Rattle.naga_valid.specs.Expressions.{references_of_expression}
use Rattle.naga_valid.specs.Visits.{IsWalk}
use Rattle.naga_valid.proofs.derived.expression.ExpressionRefers.visit_references.Goals as goal

pub returns-in-ImageSample : goal.returns-in-ImageSample
returns-in-ImageSample g c =
    subst (λ value. IsWalk g.V.Visitor.visits c.args.visitor.now (references_of_expression value) c.visit_image_sample.result c.visit_image_sample.new.visitor) (sym c.in-ImageSample.is) c.visit_image_sample.ensures

pub returns-in-ImageLoad : goal.returns-in-ImageLoad
returns-in-ImageLoad g c =
    subst (λ value. IsWalk g.V.Visitor.visits c.args.visitor.now (references_of_expression value) c.visit_image_load.result c.visit_image_load.new.visitor) (sym c.in-ImageLoad.is) c.visit_image_load.ensures

pub returns-in-Select : goal.returns-in-Select
returns-in-Select g c =
    subst (λ value. IsWalk g.V.Visitor.visits c.args.visitor.now (references_of_expression value) c.three.result c.three.new.visitor) (sym c.in-Select.is) c.three.ensures

pub returns-in-Math : goal.returns-in-Math
returns-in-Math g c =
    subst (λ value. IsWalk g.V.Visitor.visits c.args.visitor.now (references_of_expression value) c.visit_math.result c.visit_math.new.visitor) (sym c.in-Math.is) c.visit_math.ensures

pub returns-in-CooperativeMultiplyAdd : goal.returns-in-CooperativeMultiplyAdd
returns-in-CooperativeMultiplyAdd g c =
    subst (λ value. IsWalk g.V.Visitor.visits c.args.visitor.now (references_of_expression value) c.three-in-CooperativeMultiplyAdd.result c.three-in-CooperativeMultiplyAdd.new.visitor) (sym c.in-CooperativeMultiplyAdd.is) c.three-in-CooperativeMultiplyAdd.ensures
