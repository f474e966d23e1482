use Rattle.std.proofs.Common.{ap, arith, string_bytes, sym, ◌∙◌}
use Rattle.std.specs.String.{string_len}
use Rattle.naga_namer.specs.Bases.{last_or}
use Rattle.naga_namer.proofs.LastOrLemmas.{trim-last}
use Rattle.naga_namer.proofs.base.trim.Goals as goal

pub returns-then-last_or-eq-UNDERSCORE : goal.returns-then-last_or-eq-UNDERSCORE
returns-then-last_or-eq-UNDERSCORE c =
    trim-last (string_bytes c.args.base.now) (string_bytes c.pop.new.self) (string_len c.args.base.now)
    (ap (last_or 0) (sym c.as_str.ensures.value) ∙ sym c.last_or.ensures ∙ c.if-last_or-eq-UNDERSCORE.true)
    (omega arith) c.pop.ensures.ascii_bytes
