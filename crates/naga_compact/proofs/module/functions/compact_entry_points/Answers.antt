use Rattle.std.proofs.Common.{refl, sym, subst, get_or, arith}
use Rattle.naga_ir.specs.declared.module.EntryPoint.{EntryPoint}
use Rattle.naga_compact.specs.Module.Compaction.{HasCompactedFunction}
use Rattle.naga_compact.specs.Operands.{OperandsPrecede}
use Rattle.naga_compact.proofs.AllZipLemmas.{ReplacedTo-All, ReplacedTo-end, ReplacedTo-length, ReplacedTo-next}
use Rattle.naga_compact.proofs.module.functions.compact_entry_points.Goals as goal

pub compact_function-requires : goal.compact_function-requires
compact_function-requires c =
    let long = ReplacedTo-length HasCompactedFunction c.entry_points.entry_point-index c.args.entry_points.now c.entry_points.entry_points c.entry_points.invariant in
    let here = ReplacedTo-All HasCompactedFunction (λ entry. OperandsPrecede entry.function.expressions) c.entry_points.entry_point-index c.args.entry_points.now c.entry_points.entry_points c.entry_point-item.result c.requires c.entry_points.invariant (omega arith) c.entry_point-item.is in
    record { precede = subst (λ (entry : EntryPoint). OperandsPrecede entry.function.expressions) c.entry_point-item.is here }

pub entry_points-preserved : goal.entry_points-preserved
entry_points-preserved c =
    let long = ReplacedTo-length HasCompactedFunction c.entry_points.entry_point-index c.args.entry_points.now c.entry_points.entry_points c.entry_points.invariant in
    let held : EntryPoint = get_or c.entry_points.entry_points c.entry_points.entry_point-index c.entry_point-item.result in
    let written : EntryPoint = record held { function = c.compact_function.new.function } in
    ReplacedTo-next HasCompactedFunction c.entry_points.entry_point-index c.args.entry_points.now c.entry_points.entry_points c.entry_point-item.result written c.entry_points.invariant (omega arith) c.entry_point-item.is
    (subst (λ (entry : EntryPoint). HasCompactedFunction entry written) (sym c.entry_point-item.is) (refl, (c.in_ok-compact_function.field-0, c.in_ok-compact_function.ensures.compacted)))

pub returns : goal.returns
returns c =
    let long = ReplacedTo-length HasCompactedFunction c.entry_points.entry_point-index c.args.entry_points.now c.entry_points.entry_points c.entry_points.invariant in
    ReplacedTo-end HasCompactedFunction c.entry_points.entry_point-index c.args.entry_points.now c.entry_points.entry_points (omega arith) c.entry_points.invariant
