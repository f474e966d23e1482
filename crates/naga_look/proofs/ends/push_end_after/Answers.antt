use Rattle.std.proofs.Common.{[], ◌∷◌, ap, sym, ◌∙◌}
use Rattle.naga_ir.specs.View.{cases_of}
use Rattle.naga_proc.specs.Closing.{follows_switch}
use Rattle.naga_proc.specs.declared.terminator.rule.Rule.TheVariants.{New}
use Rattle.naga_look.specs.OpenEnds.{end_if}
use Rattle.naga_look.proofs.OpenEndsLemmas.{AddsEnds-named, IfOk-AddsEnds}
use Rattle.naga_look.proofs.ends.push_end_after.Goals as goal

pub returns-then-has_exit : goal.returns-then-has_exit
returns-then-has_exit c =
    let cases = cases_of c.args.cases.now in
    IfOk-AddsEnds c.push_end.result c.args.before.now c.args.limit c.args.paths.now.items c.push_end.new.paths.items
    ([] ∷ []) (end_if (follows_switch New cases)) (ap end_if (sym c.if-has_exit.true ∙ c.has_exit.ensures)) c.push_end.ensures

pub returns-else-has_exit : goal.returns-else-has_exit
returns-else-has_exit c =
    let cases = cases_of c.args.cases.now in
    AddsEnds-named c.args.before.now c.args.limit c.args.paths.now.items (end_if (follows_switch New cases))
    (ap end_if (sym c.if-has_exit.false ∙ c.has_exit.ensures))
