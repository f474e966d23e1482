use Rattle.std.proofs.Common.{◌≡◌, ◌∙◌, [], ◌∷◌, ◌++◌}
use Rattle.naga_look.specs.Findings.{Inside, finding_in, inside_of}
use Rattle.naga_look.proofs.FindingsLemmas.{finding_of}
use Rattle.naga_look.proofs.finding.body.push_finding.Goals as goal

pub returns : goal.returns
returns c =
    c.in_ok-push.ensures.items
    ∙ (λ i. c.args.found.now.items
    ++ finding_of c.args.kind c.args.body.now.owner (c.in_ok-name.ensures i) c.args.path c.args.expression (c.in_ok-message.ensures i) ∷ [])
