use Rattle.std.proofs.Common.{◌≡◌, ◌≤◌, ◌∙◌, Some, ap, arith, length, subst, sym, take}
use Rattle.std.proofs.lemmas.List.{length-map}
use Rattle.std.specs.Prelude.{All, slice_get}
use Rattle.naga_flow.specs.Bodies.{functions_of}
use Rattle.naga_flow.proofs.BodiesLemmas.{All-take_all, All-take_next}
use Rattle.naga_typing.specs.TypedModules.{FunctionIsTyped}
use Rattle.naga_typing.proofs.TypedModulesLemmas.{IsInvalid-function}
use Rattle.naga_typing.proofs.check.check_functions.Goals as goal

pub returns-in-Err : goal.returns-in-Err
returns-in-Err c =
    let whole = c.args.«module».now in
    IsInvalid-function whole c.index.result.now c.requires c.at-handle.result c.in-Err.invalid c.in-Err.ensures c.index.ensures
    (subst (λ i. All (FunctionIsTyped whole) (take i (functions_of whole))) (sym c.at-handle.ensures) c.functions.invariant)

pub functions-preserved : goal.functions-preserved
functions-preserved c =
    let whole = c.args.«module».now in
    let at : slice_get (functions_of whole) c.functions.index ≡ Some c.index.result.now =
    ap (slice_get (functions_of whole)) (sym c.at-handle.ensures) ∙ c.index.ensures in
    All-take_next (FunctionIsTyped whole) (functions_of whole) c.functions.index c.index.result.now at
    c.functions.invariant c.in_default.ensures

pub returns : goal.returns
returns c =
    let whole = c.args.«module».now in
    let len : length (functions_of whole) ≡ length whole.functions = length-map whole.functions _ in
    let past : length (functions_of whole) ≤ c.functions.index =
    omega (arith, len, c.len-index-end.ensures.value, c.functions-test.false) in
    All-take_all (FunctionIsTyped whole) (functions_of whole) c.functions.index past c.functions.invariant
