use Rattle.std.proofs.Common.{◌≡◌, ◌++◌, subst}
use Rattle.std.specs.Prelude.{OnOk, codes}
use Rattle.naga_look.specs.SummaryText.{count_line}
use Rattle.naga_look.proofs.accesses.push_accesses.Goals as goal

pub returns : goal.returns
returns c =
    subst (
    λ count.
    OnOk c.push_count.result (c.push_count.new.text ≡ c.args.text.now ++ count_line (codes "accesses that may be out of bounds") count)
    ) c.in_ok-count.ensures c.push_count.ensures
