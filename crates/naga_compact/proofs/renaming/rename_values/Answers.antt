use Rattle.std.proofs.Common.{arith}
use Rattle.naga_compact.proofs.MapValuesLemmas.{with_value-mapped}
use Rattle.naga_compact.proofs.renaming.rename_values.Goals as goal

pub values-preserved : goal.values-preserved
values-preserved g c =
    with_value-mapped (g.T.Rename.renamed (g.N.NewHandles.renaming c.args.new.now)) c.values.index c.at.result c.args.arena.now c.values.arena c.get_mut-value.result.now c.rename.new.self c.at.ensures c.values.invariant (omega (arith, c.len-index-end.ensures.value)) c.get_mut-value.ensures.value c.rename.ensures
