use Rattle.std.proofs.Common.{sym, subst}
use Rattle.std.specs.List.{All}
use Rattle.naga_ir.specs.declared.module.EntryPoint.{EntryPoint}
use Rattle.naga_proc.specs.Closing.{ClosedBy}
use Rattle.naga_proc.specs.Bodies.{HasRoomInBody}
use Rattle.naga_proc.proofs.Bodies.ChangesBodiesLemmas.{ChangesBodies-from}
use Rattle.naga_proc.proofs.terminator.module.close_bodies.Goals as goal

pub close_entry_points-requires : goal.close_entry_points-requires
close_entry_points-requires c =
    subst (All (λ (entry : EntryPoint). HasRoomInBody c.args.rule entry.function)) (sym c.deref_mut.ensures.value) c.requires.entry_points

pub returns : goal.returns
returns c =
    ChangesBodies-from (ClosedBy c.args.rule) c.args.module.now c.close_functions.new.functions c.deref_mut.result.now c.close_entry_points.new.entry_points c.close_functions.ensures c.deref_mut.ensures.value c.close_entry_points.ensures
