use Rattle.std.proofs.Common.{◌∙◌, ◌++◌, ap}
use Rattle.std.specs.Fmt.{decimal}
use Rattle.std.specs.Prelude.{codes}
use Rattle.naga_look.proofs.OpenEndsLemmas.{case-path}
use Rattle.naga_look.proofs.ends.case_path.Goals as goal

pub returns : goal.returns
returns c =
    c.in_ok-push.ensures ∙ ap (λ t. t ++ codes "].body") (c.in_ok-push_number.ensures ∙ ap (λ t. t ++ decimal c.args.number) c.in_ok-path.ensures)
    ∙ case-path c.args.before.now c.args.position c.args.number
