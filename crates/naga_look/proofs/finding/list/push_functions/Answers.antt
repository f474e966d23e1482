use Rattle.std.proofs.Common.{◌≡◌, ◌≤◌, ◌∙◌, Some, ap, arith, length, subst, sym}
use Rattle.std.proofs.lemmas.List.{length-map}
use Rattle.std.specs.Prelude.{slice_get}
use Rattle.naga_arena.specs.Arena.{values}
use Rattle.naga_typing.specs.Joined.{Adds}
use Rattle.naga_typing.proofs.JoinedLemmas.{AddsJoined-next, AddsJoined-none}
use Rattle.naga_look.specs.Findings.{AreFindingsInside, inside_function, inside_functions}
use Rattle.naga_look.proofs.FindingsLemmas.{inside_functions-at}
use Rattle.naga_look.proofs.ReportLemmas.{AddsJoined-numbered}
use Rattle.naga_look.proofs.finding.list.push_functions.Goals as goal

pub functions-init : goal.functions-init
functions-init c = AddsJoined-none (AreFindingsInside c.args.module.now c.args.limit) (inside_functions (values c.args.module.now.functions)) c.args.found.now.items

pub functions-preserved : goal.functions-preserved
functions-preserved c =
    let functions = values c.args.module.now.functions in
    let whole = c.index-function.result.now in
    let Inside = AreFindingsInside c.args.module.now c.args.limit in
    let at : slice_get functions c.functions.index ≡ Some whole =
    ap (slice_get functions) (sym c.at-handle.ensures) ∙ c.index-function.ensures in
    AddsJoined-next Inside (inside_functions functions) c.functions.index (inside_function (c.functions.index, whole))
    c.args.found.now.items c.functions.found.items c.push_function.new.found.items
    (inside_functions-at functions c.functions.index whole at) c.functions.invariant
    (subst (λ handle. Adds Inside (inside_function (handle, whole)) c.functions.found.items c.push_function.new.found.items) c.at-handle.ensures c.in_ok-push_function.ensures)

pub returns : goal.returns
returns c =
    let functions = values c.args.module.now.functions in
    let len : length functions ≡ length c.args.module.now.functions = length-map c.args.module.now.functions _ in
    let past : length functions ≤ c.functions.index = omega (arith, len, c.len-index-end.ensures.value, c.functions-test.false) in
    AddsJoined-numbered inside_function (AreFindingsInside c.args.module.now c.args.limit) functions c.functions.index c.args.found.now.items c.functions.found.items past c.functions.invariant
