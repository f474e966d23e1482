use Rattle.std.proofs.Common.{◌∙◌, ◌++◌, ap}
use Rattle.std.specs.Prelude.{codes}
use Rattle.naga_look.proofs.OpenEndsLemmas.{missing_returns-added}
use Rattle.naga_look.proofs.ends.missing_returns.Goals as goal

pub returns : goal.returns
returns c =
    missing_returns-added c.args.limit _ c.args.function.now c.push.new.self c.new-paths.result.items c.push_ends.new.paths.items
    (c.in_ok-push.ensures ∙ ap (λ text. text ++ codes "body") c.new-body.ensures) c.new-paths.ensures.items c.in_ok-push_ends.ensures
