use Rattle.std.proofs.Common.{refl, sym, true≢false, ◌+◌, arith}
use Rattle.naga_compact.proofs.AllZipLemmas.{ReplacedTo-All_value, ReplacedTo-end, ReplacedTo-length, ReplacedTo-with_value}
use Rattle.naga_proc.specs.Bodies.{HasRoomInBody, IsSame}
use Rattle.naga_proc.proofs.Bodies.AllZipLemmas.{AllZip-All, AllZip-weaker, ReplacedTo-rest, ReplacedTo-weaker}
use Rattle.naga_proc.proofs.Bodies.ChangesBodiesLemmas.{ChangesEntry, ChangesEntry-itself, IsReservedEntry}
use Rattle.naga_proc.proofs.terminator.bodies.reserve_in_functions.Goals as goal

pub get_mut-function-requires : goal.get_mut-function-requires
get_mut-function-requires c =
    omega (arith, c.at.ensures, c.len-index-end.ensures.value, ReplacedTo-length (IsReservedEntry c.args.rule) c.functions.index c.args.functions.now c.functions.functions c.functions.invariant)

pub functions-preserved : goal.functions-preserved
functions-preserved c =
    ReplacedTo-with_value (IsReservedEntry c.args.rule) c.functions.index c.at.result c.args.functions.now c.functions.functions c.get_mut-function.result.now c.at.ensures c.functions.invariant (omega (arith, c.len-index-end.ensures.value)) c.get_mut-function.ensures.value c.reserve_in_function.new.function
    ((c.reserve_in_function.ensures.unchanged, refl), c.in_ok-reserve_in_function.ensures.room)

pub returns-clause-unchanged : goal.returns-clause-unchanged
returns-clause-unchanged c =
    AllZip-weaker (IsReservedEntry c.args.rule) (ChangesEntry IsSame) (λ before after is. is.0) c.args.functions.now c.functions.functions
    (ReplacedTo-end (IsReservedEntry c.args.rule) c.functions.index c.args.functions.now c.functions.functions (omega (arith, c.len-index-end.ensures.value)) c.functions.invariant)

pub returns-clause-room : goal.returns-clause-room
returns-clause-room c =
    AllZip-All (IsReservedEntry c.args.rule) (λ entry. HasRoomInBody c.args.rule entry.0) (λ before after is. is.1) c.args.functions.now c.functions.functions
    (ReplacedTo-end (IsReservedEntry c.args.rule) c.functions.index c.args.functions.now c.functions.functions (omega (arith, c.len-index-end.ensures.value)) c.functions.invariant)

pub returns-in_err-reserve_in_function-clause-unchanged : goal.returns-in_err-reserve_in_function-clause-unchanged
returns-in_err-reserve_in_function-clause-unchanged c =
    ReplacedTo-rest (ChangesEntry IsSame) ChangesEntry-itself (c.functions.index + 1) c.args.functions.now _
    (ReplacedTo-with_value (ChangesEntry IsSame) c.functions.index c.at.result c.args.functions.now c.functions.functions c.get_mut-function.result.now c.at.ensures (ReplacedTo-weaker (IsReservedEntry c.args.rule) (ChangesEntry IsSame) (λ before after is. is.0) c.functions.index c.args.functions.now c.functions.functions c.functions.invariant) (omega (arith, c.len-index-end.ensures.value)) c.get_mut-function.ensures.value c.reserve_in_function.new.function (c.reserve_in_function.ensures.unchanged, refl))

pub returns-in_err-reserve_in_function-clause-succeeds : goal.returns-in_err-reserve_in_function-clause-succeeds
returns-in_err-reserve_in_function-clause-succeeds c = λ all.
    absurd (true≢false (sym (c.in_err-reserve_in_function.ensures.succeeds
    (ReplacedTo-All_value (IsReservedEntry c.args.rule) c.functions.index c.at.result c.args.functions.now c.functions.functions c.get_mut-function.result.now c.at.ensures c.functions.invariant (omega (arith, c.len-index-end.ensures.value)) c.get_mut-function.ensures.value (λ entry. HasRoomInBody c.args.rule entry.0) all))))
