use Rattle.std.proofs.Common.{◌≡◌, rules, subst, sym}
use Rattle.naga_text.specs.Readable.{IsPlain}
use Rattle.naga_look.specs.Report.{headed_function}
use Rattle.naga_look.proofs.ReportLemmas.{headed_function-plain}
use Rattle.naga_look.proofs.heads.function_head.Goals as goal

pub returns-clause-plain : goal.returns-clause-plain
returns-clause-plain c =
    let same : c.push_declared.new.text ≡ (headed_function (c.args.index, c.args.function.now)).head = search rules in
    subst IsPlain (sym same) (headed_function-plain (c.args.index, c.args.function.now))
