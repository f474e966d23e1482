use Rattle.std.proofs.Common.{refl, arith}
use Rattle.naga_compact.specs.Operands.{OperandsPrecede}
use Rattle.naga_compact.proofs.AllZipLemmas.{ReplacedTo-All_value, ReplacedTo-end, ReplacedTo-length, ReplacedTo-with_value}
use Rattle.naga_compact.proofs.CompactsFunctionsLemmas.{IsCompactedEntry}
use Rattle.naga_compact.proofs.module.functions.compact_each.Goals as goal

pub get_mut-function-requires : goal.get_mut-function-requires
get_mut-function-requires c =
    omega (arith, c.at.ensures, c.len-index-end.ensures.value, ReplacedTo-length IsCompactedEntry c.functions.index c.args.functions.now c.functions.functions c.functions.invariant)

pub compact_function-requires : goal.compact_function-requires
compact_function-requires c =
    record { precede = ReplacedTo-All_value IsCompactedEntry c.functions.index c.at.result c.args.functions.now c.functions.functions c.get_mut-function.result.now c.at.ensures c.functions.invariant (omega (arith, c.len-index-end.ensures.value)) c.get_mut-function.ensures.value (λ entry. OperandsPrecede entry.0.expressions) c.requires }

pub functions-preserved : goal.functions-preserved
functions-preserved c =
    ReplacedTo-with_value IsCompactedEntry c.functions.index c.at.result c.args.functions.now c.functions.functions c.get_mut-function.result.now c.at.ensures c.functions.invariant (omega (arith, c.len-index-end.ensures.value)) c.get_mut-function.ensures.value c.compact_function.new.function ((_, c.in_ok-compact_function.ensures.compacted), refl)

pub returns : goal.returns
returns c =
    ReplacedTo-end IsCompactedEntry c.functions.index c.args.functions.now c.functions.functions (omega (arith, c.len-index-end.ensures.value)) c.functions.invariant
