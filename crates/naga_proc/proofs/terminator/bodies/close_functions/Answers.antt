use Rattle.std.proofs.Common.{refl, arith}
use Rattle.naga_compact.proofs.AllZipLemmas.{ReplacedTo-All_value, ReplacedTo-end, ReplacedTo-length, ReplacedTo-with_value}
use Rattle.naga_proc.specs.Closing.{ClosedBy}
use Rattle.naga_proc.specs.Bodies.{HasRoomInBody}
use Rattle.naga_proc.proofs.Bodies.ChangesBodiesLemmas.{ChangesEntry}
use Rattle.naga_proc.proofs.terminator.bodies.close_functions.Goals as goal

pub get_mut-function-requires : goal.get_mut-function-requires
get_mut-function-requires c =
    omega (arith, c.at.ensures, c.len-index-end.ensures.value, ReplacedTo-length (ChangesEntry (ClosedBy c.args.rule)) c.functions.index c.args.functions.now c.functions.functions c.functions.invariant)

pub close_function-requires : goal.close_function-requires
close_function-requires c =
    ReplacedTo-All_value (ChangesEntry (ClosedBy c.args.rule)) c.functions.index c.at.result c.args.functions.now c.functions.functions c.get_mut-function.result.now c.at.ensures c.functions.invariant (omega (arith, c.len-index-end.ensures.value)) c.get_mut-function.ensures.value (λ entry. HasRoomInBody c.args.rule entry.0) c.requires

pub functions-preserved : goal.functions-preserved
functions-preserved c =
    ReplacedTo-with_value (ChangesEntry (ClosedBy c.args.rule)) c.functions.index c.at.result c.args.functions.now c.functions.functions c.get_mut-function.result.now c.at.ensures c.functions.invariant (omega (arith, c.len-index-end.ensures.value)) c.get_mut-function.ensures.value c.close_function.new.function (c.close_function.ensures, refl)

pub returns : goal.returns
returns c =
    ReplacedTo-end (ChangesEntry (ClosedBy c.args.rule)) c.functions.index c.args.functions.now c.functions.functions (omega (arith, c.len-index-end.ensures.value)) c.functions.invariant
