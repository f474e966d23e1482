use Rattle.std.proofs.Common.{refl, true≢false, sym, subst, get_or, ◌+◌, arith}
use Rattle.naga_ir.specs.declared.module.EntryPoint.{EntryPoint}
use Rattle.naga_compact.proofs.AllZipLemmas.{ReplacedTo-All, ReplacedTo-end, ReplacedTo-length, ReplacedTo-next}
use Rattle.naga_proc.specs.Bodies.{ChangesEntryBody, HasRoomInBody, IsSame}
use Rattle.naga_proc.proofs.Bodies.AllZipLemmas.{AllZip-All, AllZip-weaker, ReplacedTo-rest, ReplacedTo-weaker}
use Rattle.naga_proc.proofs.Bodies.ChangesBodiesLemmas.{ChangesEntryBody-itself, IsReservedEntryPoint}
use Rattle.naga_proc.proofs.terminator.bodies.reserve_in_entry_points.Goals as goal

pub entry_points-preserved : goal.entry_points-preserved
entry_points-preserved c =
    let long = ReplacedTo-length (IsReservedEntryPoint c.args.rule) c.entry_points.entry_point-index c.args.entry_points.now c.entry_points.entry_points c.entry_points.invariant in
    let held : EntryPoint = get_or c.entry_points.entry_points c.entry_points.entry_point-index c.entry_point-item.result in
    let written : EntryPoint = record held { function = c.reserve_in_function.new.function } in
    ReplacedTo-next (IsReservedEntryPoint c.args.rule) c.entry_points.entry_point-index c.args.entry_points.now c.entry_points.entry_points c.entry_point-item.result written c.entry_points.invariant (omega arith) c.entry_point-item.is
    (subst (λ (entry : EntryPoint). IsReservedEntryPoint c.args.rule entry written) (sym c.entry_point-item.is) ((refl, c.reserve_in_function.ensures.unchanged), c.in_ok-reserve_in_function.ensures.room))

pub returns-clause-unchanged : goal.returns-clause-unchanged
returns-clause-unchanged c =
    let long = ReplacedTo-length (IsReservedEntryPoint c.args.rule) c.entry_points.entry_point-index c.args.entry_points.now c.entry_points.entry_points c.entry_points.invariant in
    AllZip-weaker (IsReservedEntryPoint c.args.rule) (ChangesEntryBody IsSame) (λ before after is. is.0) c.args.entry_points.now c.entry_points.entry_points
    (ReplacedTo-end (IsReservedEntryPoint c.args.rule) c.entry_points.entry_point-index c.args.entry_points.now c.entry_points.entry_points (omega arith) c.entry_points.invariant)

pub returns-clause-room : goal.returns-clause-room
returns-clause-room c =
    let long = ReplacedTo-length (IsReservedEntryPoint c.args.rule) c.entry_points.entry_point-index c.args.entry_points.now c.entry_points.entry_points c.entry_points.invariant in
    AllZip-All (IsReservedEntryPoint c.args.rule) (λ entry. HasRoomInBody c.args.rule entry.function) (λ before after is. is.1) c.args.entry_points.now c.entry_points.entry_points
    (ReplacedTo-end (IsReservedEntryPoint c.args.rule) c.entry_points.entry_point-index c.args.entry_points.now c.entry_points.entry_points (omega arith) c.entry_points.invariant)

pub returns-in_err-reserve_in_function-clause-unchanged : goal.returns-in_err-reserve_in_function-clause-unchanged
returns-in_err-reserve_in_function-clause-unchanged c =
    let so = ReplacedTo-weaker (IsReservedEntryPoint c.args.rule) (ChangesEntryBody IsSame) (λ before after is. is.0) c.entry_points.entry_point-index c.args.entry_points.now c.entry_points.entry_points c.entry_points.invariant in
    let long = ReplacedTo-length (ChangesEntryBody IsSame) c.entry_points.entry_point-index c.args.entry_points.now c.entry_points.entry_points so in
    let held : EntryPoint = get_or c.entry_points.entry_points c.entry_points.entry_point-index c.entry_point-item.result in
    let written : EntryPoint = record held { function = c.reserve_in_function.new.function } in
    ReplacedTo-rest (ChangesEntryBody IsSame) ChangesEntryBody-itself (c.entry_points.entry_point-index + 1) c.args.entry_points.now _
    (ReplacedTo-next (ChangesEntryBody IsSame) c.entry_points.entry_point-index c.args.entry_points.now c.entry_points.entry_points c.entry_point-item.result written so (omega arith) c.entry_point-item.is
    (subst (λ (entry : EntryPoint). ChangesEntryBody IsSame entry written) (sym c.entry_point-item.is) (refl, c.reserve_in_function.ensures.unchanged)))

pub returns-in_err-reserve_in_function-clause-succeeds : goal.returns-in_err-reserve_in_function-clause-succeeds
returns-in_err-reserve_in_function-clause-succeeds c = λ all.
    let long = ReplacedTo-length (IsReservedEntryPoint c.args.rule) c.entry_points.entry_point-index c.args.entry_points.now c.entry_points.entry_points c.entry_points.invariant in
    let here = ReplacedTo-All (IsReservedEntryPoint c.args.rule) (λ entry. HasRoomInBody c.args.rule entry.function) c.entry_points.entry_point-index c.args.entry_points.now c.entry_points.entry_points c.entry_point-item.result all c.entry_points.invariant (omega arith) c.entry_point-item.is in
    absurd (true≢false (sym (c.in_err-reserve_in_function.ensures.succeeds (subst (λ (entry : EntryPoint). HasRoomInBody c.args.rule entry.function) c.entry_point-item.is here))))
