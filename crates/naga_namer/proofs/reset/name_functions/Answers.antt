use Rattle.std.proofs.Common.{◌≡◌, ◌≤◌, ℕ, List, Some, ap, arith, length, subst}
use Rattle.std.specs.List.{slice_get}
use Rattle.std.specs.Prelude.{codes}
use Rattle.naga_namer.specs.Names.{label_or}
use Rattle.naga_arena.specs.Arena.{values}
use Rattle.naga_namer.specs.Namers.{naming}
use Rattle.naga_namer.specs.ModuleNames.{AddsNames}
use Rattle.naga_namer.specs.declared.name_key.BodyKey.{BodyKey}
use Rattle.naga_namer.specs.declared.name_key.BodyKey.TheVariants as body
use Rattle.naga_namer.specs.Declarations.{body_declarations}
use Rattle.naga_namer.proofs.AddsNamesLemmas.{adds-more}
use Rattle.naga_namer.proofs.AddsValuesLemmas.{adds-all-values}
use Rattle.naga_ir.specs.declared.module.Function as function
use Rattle.naga_namer.proofs.reset.name_functions.Goals as goal

pub each-preserved : goal.each-preserved
each-preserved c =
    let whole = c.index-function.result.now in
    let here : slice_get (values c.args.functions.now) c.each.index ≡ Some whole = rw c.at-handle.ensures at c.index-function.ensures in
    let P : BodyKey → Type 0 = λ owner. AddsNames (naming c.each.namer) c.each.entries.items (body_declarations owner c.label_or-label.result.now whole) (naming c.name_body.new.namer) c.name_body.new.entries.items in
    let Q : List ℕ → Type 0 = λ label. AddsNames (naming c.each.namer) c.each.entries.items (body_declarations (body.Function c.each.index) label whole) (naming c.name_body.new.namer) c.name_body.new.entries.items in
    let named : Q (label_or (codes "function") whole.name) =
    subst Q c.label_or-label.ensures (subst P (ap body.Function c.at-handle.ensures) c.in_ok-name_body.ensures) in
    adds-more (λ i (it : function.Function). body_declarations (body.Function i) (label_or (codes "function") it.name) it)
    (values c.args.functions.now) c.each.index whole (naming c.args.namer.now) (naming c.each.namer) (naming c.name_body.new.namer)
    c.args.entries.now.items c.each.entries.items c.name_body.new.entries.items
    here c.each.invariant named

pub returns : goal.returns
returns c =
    let past : length c.args.functions.now ≤ c.each.index = omega (arith, c.len-index-end.ensures.value, c.each-test.false) in
    adds-all-values (λ i (it : function.Function). body_declarations (body.Function i) (label_or (codes "function") it.name) it)
    c.args.functions.now c.each.index (naming c.args.namer.now) (naming c.each.namer) c.args.entries.now.items c.each.entries.items
    past c.each.invariant
