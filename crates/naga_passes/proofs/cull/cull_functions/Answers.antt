use Rattle.std.proofs.Common.{refl, arith}
use Rattle.naga_compact.proofs.AllZipLemmas.{ReplacedTo-end, ReplacedTo-length, ReplacedTo-with_value}
use Rattle.naga_proc.proofs.Bodies.ChangesBodiesLemmas.{ChangesEntry}
use Rattle.naga_passes.specs.Culling.{Culled}
use Rattle.naga_passes.proofs.cull.cull_functions.Goals as goal

pub get_mut-function-requires : goal.get_mut-function-requires
get_mut-function-requires c =
    omega (arith, c.at.ensures, c.len-index-end.ensures.value, ReplacedTo-length (ChangesEntry Culled) c.functions.index c.args.functions.now c.functions.functions c.functions.invariant)

pub functions-preserved : goal.functions-preserved
functions-preserved c =
    ReplacedTo-with_value (ChangesEntry Culled) c.functions.index c.at.result c.args.functions.now c.functions.functions c.get_mut-function.result.now c.at.ensures c.functions.invariant (omega (arith, c.len-index-end.ensures.value)) c.get_mut-function.ensures.value c.cull_function.new.function (c.cull_function.ensures, refl)

pub returns : goal.returns
returns c =
    ReplacedTo-end (ChangesEntry Culled) c.functions.index c.args.functions.now c.functions.functions (omega (arith, c.len-index-end.ensures.value)) c.functions.invariant
