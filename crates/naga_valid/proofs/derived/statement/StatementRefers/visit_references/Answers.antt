-- Made by tests/derive from the declarations of naga_kinds and naga_ir.
use Rattle.std.proofs.Common.{subst, sym}
use Rattle.naga_valid.specs.Statements.{references_of_statement}
use Rattle.naga_valid.specs.Visits.{IsWalk}
use Rattle.naga_valid.proofs.derived.statement.StatementRefers.visit_references.Goals as goal

pub returns-in-ImageStore : goal.returns-in-ImageStore
returns-in-ImageStore g c =
    subst (λ value. IsWalk g.V.Visitor.visits c.args.visitor.now (references_of_statement value) c.visit_image_store.result c.visit_image_store.new.visitor) (sym c.in-ImageStore.is) c.visit_image_store.ensures

pub returns-in-Atomic : goal.returns-in-Atomic
returns-in-Atomic g c =
    subst (λ value. IsWalk g.V.Visitor.visits c.args.visitor.now (references_of_statement value) c.visit_atomic.result c.visit_atomic.new.visitor) (sym c.in-Atomic.is) c.visit_atomic.ensures

pub returns-in-ImageAtomic : goal.returns-in-ImageAtomic
returns-in-ImageAtomic g c =
    subst (λ value. IsWalk g.V.Visitor.visits c.args.visitor.now (references_of_statement value) c.visit_image_atomic.result c.visit_image_atomic.new.visitor) (sym c.in-ImageAtomic.is) c.visit_image_atomic.ensures

pub returns-in-SubgroupGather : goal.returns-in-SubgroupGather
returns-in-SubgroupGather g c =
    subst (λ value. IsWalk g.V.Visitor.visits c.args.visitor.now (references_of_statement value) c.visit_subgroup_gather.result c.visit_subgroup_gather.new.visitor) (sym c.in-SubgroupGather.is) c.visit_subgroup_gather.ensures

pub returns-in-CooperativeStore : goal.returns-in-CooperativeStore
returns-in-CooperativeStore g c =
    subst (λ value. IsWalk g.V.Visitor.visits c.args.visitor.now (references_of_statement value) c.three.result c.three.new.visitor) (sym c.in-CooperativeStore.is) c.three.ensures
