use Rattle.std.proofs.Common.{◌≡◌, ◌∙◌, ◌<◌, ◌≤◌, length, ap, sym, refl, arith}
use Rattle.std.proofs.lemmas.List.{take_all}
use Rattle.std.proofs.lemmas.List.Elements.{all_zip_more}
use Rattle.naga_ir.specs.declared.statement.Statement as variant
use Rattle.naga_ir.specs.Clones.{of_empty, of_plain, IsPlainClone, IsStatementClone, IsCaseClone}
use Rattle.naga_ir.proofs.IsTreeCloneLemmas.{IsPairClone, IsStatementClone-copy, IsTreeClone-pushed, IsStatementClone-Block, IsStatementClone-If, IsStatementClone-Loop, IsStatementClone-Switch, by_variants-equal}
use Rattle.naga_ir.proofs.+statement.Goals.{block::BlockClone::clone-in-Break, block::BlockClone::clone-in-Continue, block::BlockClone::clone-in-Kill, block::BlockClone::clone-in-Return, block::BlockClone::clone-in-Store, block::BlockClone::clone-in_default+in_ok-copy-in_default}
use Rattle.naga_ir.proofs.+statement.Goals as goal

pub statement::StatementClone::clone-returns-in-ControlBarrier : goal.statement::StatementClone::clone-returns-in-ControlBarrier
statement::StatementClone::clone-returns-in-ControlBarrier t c = record { cases = IsStatementClone-copy _ _ c.in-ControlBarrier.is }

pub statement::StatementClone::clone-returns-in-MemoryBarrier : goal.statement::StatementClone::clone-returns-in-MemoryBarrier
statement::StatementClone::clone-returns-in-MemoryBarrier t c = record { cases = IsStatementClone-copy _ _ c.in-MemoryBarrier.is }

pub statement::StatementClone::clone-returns-in-RayPipelineFunction : goal.statement::StatementClone::clone-returns-in-RayPipelineFunction
statement::StatementClone::clone-returns-in-RayPipelineFunction t c = record { cases = IsStatementClone-copy _ _ c.in-RayPipelineFunction.is }

pub statement::StatementClone::clone-returns-in-Break : goal.statement::StatementClone::clone-returns-in-Break
statement::StatementClone::clone-returns-in-Break t c = record { cases = IsStatementClone-copy _ _ c.in-Break.is }

pub statement::StatementClone::clone-returns-in-Continue : goal.statement::StatementClone::clone-returns-in-Continue
statement::StatementClone::clone-returns-in-Continue t c = record { cases = IsStatementClone-copy _ _ c.in-Continue.is }

pub statement::StatementClone::clone-returns-in-Return : goal.statement::StatementClone::clone-returns-in-Return
statement::StatementClone::clone-returns-in-Return t c = record { cases = IsStatementClone-copy _ _ c.in-Return.is }

pub statement::StatementClone::clone-returns-in-Kill : goal.statement::StatementClone::clone-returns-in-Kill
statement::StatementClone::clone-returns-in-Kill t c = record { cases = IsStatementClone-copy _ _ c.in-Kill.is }

pub statement::StatementClone::clone-returns-in-Store : goal.statement::StatementClone::clone-returns-in-Store
statement::StatementClone::clone-returns-in-Store t c = record { cases = IsStatementClone-copy _ _ c.in-Store.is }

pub statement::StatementClone::clone-returns-in-ImageStore : goal.statement::StatementClone::clone-returns-in-ImageStore
statement::StatementClone::clone-returns-in-ImageStore t c = record { cases = IsStatementClone-copy _ _ c.in-ImageStore.is }

pub statement::StatementClone::clone-returns-in-Atomic : goal.statement::StatementClone::clone-returns-in-Atomic
statement::StatementClone::clone-returns-in-Atomic t c = record { cases = IsStatementClone-copy _ _ c.in-Atomic.is }

pub statement::StatementClone::clone-returns-in-ImageAtomic : goal.statement::StatementClone::clone-returns-in-ImageAtomic
statement::StatementClone::clone-returns-in-ImageAtomic t c = record { cases = IsStatementClone-copy _ _ c.in-ImageAtomic.is }

pub statement::StatementClone::clone-returns-in-WorkGroupUniformLoad : goal.statement::StatementClone::clone-returns-in-WorkGroupUniformLoad
statement::StatementClone::clone-returns-in-WorkGroupUniformLoad t c = record { cases = IsStatementClone-copy _ _ c.in-WorkGroupUniformLoad.is }

pub statement::StatementClone::clone-returns-in-SubgroupBallot : goal.statement::StatementClone::clone-returns-in-SubgroupBallot
statement::StatementClone::clone-returns-in-SubgroupBallot t c = record { cases = IsStatementClone-copy _ _ c.in-SubgroupBallot.is }

pub statement::StatementClone::clone-returns-in-SubgroupGather : goal.statement::StatementClone::clone-returns-in-SubgroupGather
statement::StatementClone::clone-returns-in-SubgroupGather t c = record { cases = IsStatementClone-copy _ _ c.in-SubgroupGather.is }

pub statement::StatementClone::clone-returns-in-SubgroupCollectiveOperation : goal.statement::StatementClone::clone-returns-in-SubgroupCollectiveOperation
statement::StatementClone::clone-returns-in-SubgroupCollectiveOperation t c = record { cases = IsStatementClone-copy _ _ c.in-SubgroupCollectiveOperation.is }

pub statement::StatementClone::clone-returns-in-CooperativeStore : goal.statement::StatementClone::clone-returns-in-CooperativeStore
statement::StatementClone::clone-returns-in-CooperativeStore t c = record { cases = IsStatementClone-copy _ _ c.in-CooperativeStore.is }

pub statement::StatementClone::clone-returns-in_ok-clone-in-Emit : goal.statement::StatementClone::clone-returns-in_ok-clone-in-Emit
statement::StatementClone::clone-returns-in_ok-clone-in-Emit t c = record { cases = rw c.in-Emit.is (of_plain (ap variant.Emit c.in_ok-clone-in-Emit.ensures.cases)) }

pub statement::StatementClone::clone-returns-in_ok-clone-in-Block : goal.statement::StatementClone::clone-returns-in_ok-clone-in-Block
statement::StatementClone::clone-returns-in_ok-clone-in-Block t c = record { cases = rw c.in-Block.is (IsStatementClone-Block _ _ c.in_ok-clone-in-Block.ensures.cases) }

pub statement::StatementClone::clone-returns-in_ok-reject-in-If : goal.statement::StatementClone::clone-returns-in_ok-reject-in-If
statement::StatementClone::clone-returns-in_ok-reject-in-If t c = record { cases = rw c.in-If.is (IsStatementClone-If _ _ _ _ _ c.in_ok-accept-in-If.ensures.cases c.in_ok-reject-in-If.ensures.cases) }

pub statement::StatementClone::clone-returns-in_ok-continuing-in-Loop : goal.statement::StatementClone::clone-returns-in_ok-continuing-in-Loop
statement::StatementClone::clone-returns-in_ok-continuing-in-Loop t c = record { cases = rw c.in-Loop.is (IsStatementClone-Loop _ _ _ _ _ c.in_ok-body-in-Loop.ensures.cases c.in_ok-continuing-in-Loop.ensures.cases) }

pub statement::StatementClone::clone-returns-in_ok-clone_cases-in-Switch : goal.statement::StatementClone::clone-returns-in_ok-clone_cases-in-Switch
statement::StatementClone::clone-returns-in_ok-clone_cases-in-Switch t c = record { cases = rw c.in-Switch.is (IsStatementClone-Switch _ _ _ c.in_ok-clone_cases-in-Switch.ensures) }

pub statement::StatementClone::clone-returns-in_ok-clone-in-RayQuery : goal.statement::StatementClone::clone-returns-in_ok-clone-in-RayQuery
statement::StatementClone::clone-returns-in_ok-clone-in-RayQuery t c = record { cases = rw c.in-RayQuery.is (of_plain (ap (variant.RayQuery c.in-RayQuery.query) (by_variants-equal _ _ c.in_ok-clone-in-RayQuery.ensures.cases))) }

pub statement::StatementClone::clone-returns-in_ok-clone_arguments-in-Call : goal.statement::StatementClone::clone-returns-in_ok-clone_arguments-in-Call
statement::StatementClone::clone-returns-in_ok-clone_arguments-in-Call t c =
    let call : IsPlainClone (variant.Call c.in-Call.function c.in-Call.arguments c.in-Call.result) (variant.Call c.in-Call.function c.in_ok-clone_arguments-in-Call.field-0 c.in-Call.result) =
    (refl, c.in_ok-clone_arguments-in-Call.ensures, refl)
    in
    record { cases = rw c.in-Call.is (of_plain call) }

pub block::BlockClone::clone-returns : goal.block::BlockClone::clone-returns
block::BlockClone::clone-returns t c =
    let past : length c.args.self.now.entries.items ≤ c.statements.statement-index =
    omega (arith, ap length c.deref-statement-items.ensures.value)
    in
    let whole = rw (take_all c.statements.statement-index c.args.self.now.entries.items past) at c.statements.invariant.clones in
    record { cases = IsTreeClone-pushed _ _ _ _ of_empty whole }

pub block::BlockClone::clone-statements-preserved : goal.block::BlockClone::clone-statements-preserved
block::BlockClone::clone-statements-preserved t c =
    let before = c.statements.invariant in
    let items : c.deref-statement-items.result.now ≡ c.args.self.now.entries.items = c.deref-statement-items.ensures.value in
    let inside : c.statements.statement-index < length c.args.self.now.entries.items = omega (arith, ap length items) in
    let cloned : IsStatementClone c.statements-item.result.0 c.match-statement.copy =
    elim c.match-statement.branch [
      | block::BlockClone::clone-in-Break w ↦ IsStatementClone-copy _ _ (w.in-Break.is ∙ sym w.copy-is)
      | block::BlockClone::clone-in-Continue w ↦ IsStatementClone-copy _ _ (w.in-Continue.is ∙ sym w.copy-is)
      | block::BlockClone::clone-in-Kill w ↦ IsStatementClone-copy _ _ (w.in-Kill.is ∙ sym w.copy-is)
      | block::BlockClone::clone-in-Return w ↦ IsStatementClone-copy _ _ (w.in-Return.is ∙ sym w.copy-is)
      | block::BlockClone::clone-in-Store w ↦ IsStatementClone-copy _ _ (w.in-Store.is ∙ sym w.copy-is)
      | block::BlockClone::clone-in_default+in_ok-copy-in_default w ↦ rw w.copy-is w.in_ok-copy-in_default.ensures.cases
    ]
    in
    record {
      len = omega (arith, c.push_reserved.ensures);
      capacity = omega (arith, c.push_reserved.ensures);
      clones = rw c.push_reserved.ensures.items (all_zip_more IsPairClone _ _ _ _ _ inside (rw items at c.statements-item.is) before.clones (cloned, refl));
    }

pub statement::clone_cases-returns : goal.statement::clone_cases-returns
statement::clone_cases-returns t c =
    let past : length c.args.cases.now.items ≤ c.cases.case-index = omega (arith, ap length c.deref-case-items.ensures.value) in
    rw (take_all c.cases.case-index c.args.cases.now.items past) at c.cases.invariant.clones

pub statement::clone_cases-cases-preserved : goal.statement::clone_cases-cases-preserved
statement::clone_cases-cases-preserved t c =
    let before = c.cases.invariant in
    let items : c.deref-case-items.result.now ≡ c.args.cases.now.items = c.deref-case-items.ensures.value in
    let inside : c.cases.case-index < length c.args.cases.now.items = omega (arith, ap length items) in
    record {
      len = omega (arith, c.push_reserved.ensures);
      capacity = omega (arith, c.push_reserved.ensures);
      clones = rw c.push_reserved.ensures.items (all_zip_more IsCaseClone _ _ _ _ _ inside (rw items at c.case-item.is) before.clones c.in_ok-clone.ensures.cases);
    }
