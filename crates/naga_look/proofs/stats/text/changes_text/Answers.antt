use Rattle.std.proofs.Common.{◌∙◌, sym}
use Rattle.naga_look.proofs.StatsTextLemmas.{changes_text-joined}
use Rattle.naga_look.proofs.stats.text.changes_text.Goals as goal

pub returns : goal.returns
returns c = changes_text-joined c.join.result c.args.phrases.now (sym c.is_empty.ensures ∙ c.if-is_empty.false) c.join.ensures.ok
