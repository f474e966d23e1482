use Rattle.std.proofs.Common.{refl, sym, subst, get_or, arith}
use Rattle.naga_ir.specs.declared.module.EntryPoint.{EntryPoint}
use Rattle.naga_compact.proofs.AllZipLemmas.{ReplacedTo-All, ReplacedTo-end, ReplacedTo-length, ReplacedTo-next}
use Rattle.naga_proc.specs.Closing.{ClosedBy}
use Rattle.naga_proc.specs.Bodies.{ChangesEntryBody, HasRoomInBody}
use Rattle.naga_proc.proofs.terminator.bodies.close_entry_points.Goals as goal

pub close_function-requires : goal.close_function-requires
close_function-requires c =
    let long = ReplacedTo-length (ChangesEntryBody (ClosedBy c.args.rule)) c.entry_points.entry_point-index c.args.entry_points.now c.entry_points.entry_points c.entry_points.invariant in
    let here = ReplacedTo-All (ChangesEntryBody (ClosedBy c.args.rule)) (λ entry. HasRoomInBody c.args.rule entry.function) c.entry_points.entry_point-index c.args.entry_points.now c.entry_points.entry_points c.entry_point-item.result c.requires c.entry_points.invariant (omega arith) c.entry_point-item.is in
    subst (λ (entry : EntryPoint). HasRoomInBody c.args.rule entry.function) c.entry_point-item.is here

pub entry_points-preserved : goal.entry_points-preserved
entry_points-preserved c =
    let long = ReplacedTo-length (ChangesEntryBody (ClosedBy c.args.rule)) c.entry_points.entry_point-index c.args.entry_points.now c.entry_points.entry_points c.entry_points.invariant in
    let held : EntryPoint = get_or c.entry_points.entry_points c.entry_points.entry_point-index c.entry_point-item.result in
    let written : EntryPoint = record held { function = c.close_function.new.function } in
    ReplacedTo-next (ChangesEntryBody (ClosedBy c.args.rule)) c.entry_points.entry_point-index c.args.entry_points.now c.entry_points.entry_points c.entry_point-item.result written c.entry_points.invariant (omega arith) c.entry_point-item.is
    (subst (λ (entry : EntryPoint). ChangesEntryBody (ClosedBy c.args.rule) entry written) (sym c.entry_point-item.is) (refl, c.close_function.ensures))

pub returns : goal.returns
returns c =
    let long = ReplacedTo-length (ChangesEntryBody (ClosedBy c.args.rule)) c.entry_points.entry_point-index c.args.entry_points.now c.entry_points.entry_points c.entry_points.invariant in
    ReplacedTo-end (ChangesEntryBody (ClosedBy c.args.rule)) c.entry_points.entry_point-index c.args.entry_points.now c.entry_points.entry_points (omega arith) c.entry_points.invariant
