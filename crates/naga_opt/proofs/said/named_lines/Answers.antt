use Rattle.std.proofs.Common.{◌∙◌, List, ℕ, Bor, ap, map}
use Rattle.std.proofs.lemmas.Iterator.{items_from_drains}
use Rattle.std.proofs.lemmas.Iterator.Splits.{YieldsList-from_lines}
use Rattle.naga_opt.proofs.SaidLemmas.{named_lines-joined}
use Rattle.naga_opt.proofs.said.named_lines.Goals as goal

pub returns : goal.returns
returns c =
    let drained = c.in_ok-lines.ensures.ran in
    let these = items_from_drains drained.0 drained.1 (YieldsList-from_lines c.args.text.now c.lines.ensures.rest) in
    named_lines-joined c.joined.result c.as_slice.result.now c.args.text.now
    (ap (map (λ (line : Bor (List ℕ)). line.now)) (c.as_slice.ensures.value ∙ drained.2.0) ∙ these) c.joined.ensures
