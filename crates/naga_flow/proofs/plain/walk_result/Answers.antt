use Rattle.std.proofs.Common.{◌≡◌, ◌∙◌, ◌∷◌, [], Some, subst, sym}
use Rattle.naga_flow.specs.Readings.{read_in}
use Rattle.naga_flow.specs.Results.{evaluation_by, result_of}
use Rattle.naga_flow.specs.Uses.{AreEvaluatedBy}
use Rattle.naga_flow.proofs.EmitLemmas.{result-judged}
use Rattle.naga_flow.proofs.plain.walk_result.Goals as goal

pub returns : goal.returns
returns c =
    let expressions = read_in c.args.reading.now in
    let is : result_of c.args.statement.now ≡ Some c.in-Some.handle = sym c.result_of.ensures ∙ c.in-Some.is in
    let fit : AreEvaluatedBy expressions (evaluation_by c.args.statement.now) (c.in-Some.handle ∷ []) =
    subst (λ way. AreEvaluatedBy expressions way (c.in-Some.handle ∷ [])) c.by_statement-way.ensures c.in_default-require_fit.ensures in
    result-judged expressions c.args.number c.args.span c.args.known.now c.learn.new.known (evaluation_by c.args.statement.now) (result_of c.args.statement.now) c.in-Some.handle is fit c.learn.result c.learn.ensures
