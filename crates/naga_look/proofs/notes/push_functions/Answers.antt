use Rattle.std.proofs.Common.{◌≡◌, ◌≤◌, ◌∙◌, Some, ap, arith, length, sym}
use Rattle.std.proofs.lemmas.List.{length-map}
use Rattle.std.specs.Prelude.{slice_get}
use Rattle.naga_arena.specs.Arena.{values}
use Rattle.naga_look.specs.Report.{headed_function, headed_functions, notes_on}
use Rattle.naga_look.proofs.ReportLemmas.{headed_functions-at, headed_functions-length}
use Rattle.naga_look.proofs.StatsLemmas.{appended-all, appended-next, appended-none}
use Rattle.naga_look.proofs.notes.push_functions.Goals as goal

pub functions-init : goal.functions-init
functions-init c = appended-none (notes_on c.args.module.now c.args.limit) (headed_functions (values c.args.module.now.functions)) c.args.text.now

pub functions-preserved : goal.functions-preserved
functions-preserved c =
    let functions = values c.args.module.now.functions in
    let at : slice_get functions c.functions.index ≡ Some c.index-function.result.now =
    ap (slice_get functions) (sym c.at.ensures) ∙ c.index-function.ensures in
    appended-next (notes_on c.args.module.now c.args.limit) (headed_functions functions) c.functions.index (headed_function (c.functions.index, c.index-function.result.now))
    c.args.text.now c.functions.text c.push_function.new.text
    (headed_functions-at functions c.functions.index c.index-function.result.now at) c.functions.invariant c.in_ok-push_function.ensures

pub returns : goal.returns
returns c =
    let functions = values c.args.module.now.functions in
    let len : length functions ≡ length c.args.module.now.functions = length-map c.args.module.now.functions _ in
    let headed : length (headed_functions functions) ≡ length functions = headed_functions-length functions in
    let past : length (headed_functions functions) ≤ c.functions.index = omega (arith, headed, len, c.len-index-end.ensures.value, c.functions-test.false) in
    appended-all (notes_on c.args.module.now c.args.limit) (headed_functions functions) c.functions.index c.args.text.now c.functions.text past c.functions.invariant
