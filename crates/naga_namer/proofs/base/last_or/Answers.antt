use Rattle.std.proofs.Common.{ap, sym, ◌∙◌}
use Rattle.naga_namer.specs.Bases.{last_or}
use Rattle.naga_namer.proofs.LastOrLemmas.{last-at, more-than-none}
use Rattle.naga_namer.proofs.base.last_or.Goals as goal

pub returns-else-is_empty : goal.returns-else-is_empty
returns-else-is_empty c =
    let bytes = c.as_bytes-bytes.result.now in
    let more = more-than-none bytes c.is_empty.result c.is_empty.ensures c.if-is_empty.false in
    sym (last-at c.args.default bytes 0 more) ∙ ap (last_or c.args.default) c.as_bytes-bytes.ensures.value
