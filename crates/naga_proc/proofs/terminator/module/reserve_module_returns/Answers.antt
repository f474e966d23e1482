use Rattle.std.proofs.Common.{sym, subst, true≢false}
use Rattle.std.proofs.lemmas.Slice.Zip.{AllZip-long}
use Rattle.std.specs.List.{All}
use Rattle.naga_ir.specs.declared.module.EntryPoint.{EntryPoint}
use Rattle.naga_compact.proofs.OnOkLemmas.{on_ok}
use Rattle.naga_proc.specs.Bodies.{ChangesEntryBody, HasRoomInBody, IsSame}
use Rattle.naga_proc.proofs.Bodies.ChangesBodiesLemmas.{ChangesBodies-from, HasRoomInBodies-from, HasSameStatements-functions}
use Rattle.naga_proc.proofs.terminator.module.reserve_module_returns.Goals as goal

pub returns-clause-unchanged : goal.returns-clause-unchanged
returns-clause-unchanged c =
    ChangesBodies-from IsSame c.args.module.now c.reserve_in_functions.new.functions c.deref_mut.result.now c.reserve_in_entry_points.new.entry_points c.reserve_in_functions.ensures.unchanged c.deref_mut.ensures.value c.reserve_in_entry_points.ensures.unchanged

pub returns-clause-room : goal.returns-clause-room
returns-clause-room c =
    let long = AllZip-long (ChangesEntryBody IsSame) c.deref_mut.result.now c.reserve_in_entry_points.new.entry_points c.reserve_in_entry_points.ensures.unchanged in
    on_ok c.reserve_in_entry_points.result (HasRoomInBodies-from c.args.rule c.args.module.now c.reserve_in_functions.new.functions c.deref_mut.result.now c.reserve_in_entry_points.new.entry_points c.in_ok-reserve_in_functions.ensures.room c.deref_mut.ensures.value long) c.reserve_in_entry_points.ensures.room

pub returns-clause-succeeds : goal.returns-clause-succeeds
returns-clause-succeeds c = λ room.
    c.reserve_in_entry_points.ensures.succeeds (subst (All (λ (entry : EntryPoint). HasRoomInBody c.args.rule entry.function)) (sym c.deref_mut.ensures.value) room.entry_points)

pub returns-in_err-reserve_in_functions-clause-unchanged : goal.returns-in_err-reserve_in_functions-clause-unchanged
returns-in_err-reserve_in_functions-clause-unchanged c =
    HasSameStatements-functions c.args.module.now c.reserve_in_functions.new.functions c.reserve_in_functions.ensures.unchanged

pub returns-in_err-reserve_in_functions-clause-succeeds : goal.returns-in_err-reserve_in_functions-clause-succeeds
returns-in_err-reserve_in_functions-clause-succeeds c = λ room.
    absurd (true≢false (sym (c.in_err-reserve_in_functions.ensures.succeeds room.functions)))
