use Rattle.std.proofs.Common.{◌≡◌, [], subst}
use Rattle.std.specs.FinSet.{contains}
use Rattle.naga_ir.specs.View.{tree_of}
use Rattle.naga_flow.specs.Misuses.{BlockMisuse, Judged}
use Rattle.naga_flow.specs.Readings.{emitted_in, expressions_by}
use Rattle.naga_flow.specs.Scopes.{BlockPasses}
use Rattle.naga_flow.proofs.uses.check_emitted.Goals as goal

pub returns-in-Ok : goal.returns-in-Ok
returns-in-Ok c =
    let arena = c.args.function.now.expressions in
    let body = tree_of c.args.function.now.body in
    let same : expressions_by (contains c.in-Ok.chains.members) arena ≡ emitted_in (contains c.args.at_use.now.members) arena =
    λ i. expressions_by (λ handle. c.in-Ok.ensures handle i) arena in
    subst (λ expressions. Judged c.check.result (λ _. BlockPasses expressions [] [] body)
    (λ misuse. BlockMisuse expressions 0 [] [] body misuse × ¬ BlockPasses expressions [] [] body)) same c.check.ensures
