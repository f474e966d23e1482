use Rattle.std.proofs.Common.{refl, sym, subst, arith}
use Rattle.naga_compact.specs.Renaming.Functions.{IsRenamedEntryPoint}
use Rattle.naga_compact.specs.Renaming.Renumbering.{renaming_of}
use Rattle.naga_compact.proofs.ZippedListLemmas.{AllZip-past, AllZipTo-more}
use Rattle.naga_compact.proofs.module.renumbering.arenas.rename_entry_points.Goals as goal

pub entry_points-init : goal.entry_points-init
entry_points-init c = refl

pub entry_points-preserved : goal.entry_points-preserved
entry_points-preserved c =
    AllZipTo-more (IsRenamedEntryPoint (renaming_of c.args.renumbering.now)) c.entry_points.entry_point-index c.args.entry_points.now c.entry_points.entry_points c.entry_point-item.result c.rename_entry_point.new.entry_point c.entry_points.invariant (omega arith) c.entry_point-item.is (subst (λ before. IsRenamedEntryPoint (renaming_of c.args.renumbering.now) before c.rename_entry_point.new.entry_point) (sym c.entry_point-item.is) c.rename_entry_point.ensures)

pub returns : goal.returns
returns c =
    AllZip-past (IsRenamedEntryPoint (renaming_of c.args.renumbering.now)) c.entry_points.entry_point-index c.args.entry_points.now c.entry_points.entry_points c.entry_points-test.false c.entry_points.invariant
