use Rattle.std.proofs.Common.{refl, arith}
use Rattle.naga_compact.specs.Renaming.Functions.{IsRenamedFunction}
use Rattle.naga_compact.specs.Renaming.Renumbering.{renaming_of}
use Rattle.naga_compact.proofs.ZippedListLemmas.{AllZip-past, AllZipTo-length, AllZipTo-with_value, OnValues}
use Rattle.naga_compact.proofs.module.renumbering.arenas.rename_functions.Goals as goal

pub functions-init : goal.functions-init
functions-init c = refl

pub get_mut-function-requires : goal.get_mut-function-requires
get_mut-function-requires c =
    omega (arith, c.at.ensures, c.len-index-end.ensures.value, AllZipTo-length (OnValues (IsRenamedFunction (renaming_of c.args.renumbering.now))) c.functions.index c.args.functions.now c.functions.functions c.functions.invariant)

pub functions-preserved : goal.functions-preserved
functions-preserved c =
    AllZipTo-with_value (IsRenamedFunction (renaming_of c.args.renumbering.now)) c.functions.index c.at.result c.args.functions.now c.functions.functions c.get_mut-function.result.now c.rename_function.new.function c.at.ensures c.functions.invariant (omega (arith, c.len-index-end.ensures.value)) c.get_mut-function.ensures.value c.rename_function.ensures

pub returns : goal.returns
returns c =
    AllZip-past (OnValues (IsRenamedFunction (renaming_of c.args.renumbering.now))) c.functions.index c.args.functions.now c.functions.functions (omega (arith, c.len-index-end.ensures.value)) c.functions.invariant
