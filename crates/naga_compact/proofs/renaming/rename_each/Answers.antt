use Rattle.std.proofs.Common.{◌∙◌, sym, ap, arith}
use Rattle.naga_compact.proofs.MappedListLemmas.{mapped_none, mapped_more, mapped_all}
use Rattle.naga_compact.proofs.renaming.rename_each.Goals as goal

pub parts-init : goal.parts-init
parts-init g c = mapped_none (g.T.Rename.renamed (g.N.NewHandles.renaming c.args.new.now)) c.args.parts.now

pub parts-preserved : goal.parts-preserved
parts-preserved g c =
    mapped_more (g.T.Rename.renamed (g.N.NewHandles.renaming c.args.new.now)) c.parts.part-index c.args.parts.now c.parts.parts c.part-item.result c.rename.new.self c.parts.invariant (omega arith) c.part-item.is (c.rename.ensures ∙ ap (g.T.Rename.renamed (g.N.NewHandles.renaming c.args.new.now)) (sym c.part-item.is))

pub returns : goal.returns
returns g c =
    c.parts.invariant ∙ mapped_all (g.T.Rename.renamed (g.N.NewHandles.renaming c.args.new.now)) c.parts.part-index c.args.parts.now c.parts-test.false
