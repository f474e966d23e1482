use Rattle.std.proofs.Common.{◌≡◌, rules, subst, sym}
use Rattle.naga_text.specs.Readable.{IsPlain}
use Rattle.naga_look.specs.Report.{headed_entry_point}
use Rattle.naga_look.proofs.ReportLemmas.{headed_entry_point-plain}
use Rattle.naga_look.proofs.heads.entry_point_head.Goals as goal

pub returns-clause-plain : goal.returns-clause-plain
returns-clause-plain c =
    let same : c.push_entry_point_name.new.text ≡ (headed_entry_point (c.args.position, c.args.entry_point.now)).head = search rules in
    subst IsPlain (sym same) (headed_entry_point-plain (c.args.position, c.args.entry_point.now))
