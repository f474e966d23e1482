use Rattle.std.proofs.Common.{sym, arith}
use Rattle.naga_compact.proofs.MapValuesLemmas.{with_value_at-mapped}
use Rattle.naga_compact.proofs.renaming.types.rename_predeclared.Goals as goal

pub types-preserved : goal.types-preserved
types-preserved g c =
    with_value_at-mapped (g.N.NewHandles.renaming c.args.new.now) c.args.types.now c.types.types c.types.index c.in-Some.ty.now c.rename.new.self c.types.invariant (omega (arith, c.len-index-end.ensures.len)) (sym c.in-Some.ensures.value) c.rename.ensures
