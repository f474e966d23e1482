use Rattle.std.proofs.Common.{sym, subst}
use Rattle.std.specs.List.{All}
use Rattle.naga_ir.specs.declared.module.EntryPoint.{EntryPoint}
use Rattle.naga_compact.specs.Operands.{OperandsPrecede}
use Rattle.naga_compact.proofs.CompactsFunctionsLemmas.{CompactsFunctions-from}
use Rattle.naga_compact.proofs.OnOkLemmas.{on_ok}
use Rattle.naga_compact.proofs.OperandsPrecedeLemmas.{OperandsPrecede-entry_points, OperandsPrecede-functions}
use Rattle.naga_compact.proofs.module.functions.compact_functions.Goals as goal

pub compact_each-requires : goal.compact_each-requires
compact_each-requires c = OperandsPrecede-functions c.args.module.now c.requires.valid

pub compact_entry_points-requires : goal.compact_entry_points-requires
compact_entry_points-requires c =
    subst (All (λ (entry : EntryPoint). OperandsPrecede entry.function.expressions)) (sym c.deref_mut.ensures.value) (OperandsPrecede-entry_points c.args.module.now c.requires.valid)

pub returns : goal.returns
returns c =
    record { compacted = on_ok c.compact_entry_points.result (CompactsFunctions-from c.args.module.now c.compact_each.new.functions c.deref_mut.result.now c.compact_entry_points.new.entry_points c.in_ok-compact_each.ensures c.deref_mut.ensures.value) c.compact_entry_points.ensures }
