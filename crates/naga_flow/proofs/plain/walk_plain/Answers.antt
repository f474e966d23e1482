use Rattle.std.proofs.Common.{inr, subst}
use Rattle.naga_valid.specs.Operands.{expressions_of}
use Rattle.naga_valid.specs.Statements.{references_of_statement}
use Rattle.naga_flow.specs.Readings.{read_in}
use Rattle.naga_flow.specs.Results.{emitted_by, used_by, without}
use Rattle.naga_flow.specs.Tracking.{known_of}
use Rattle.naga_flow.specs.Uses.{MayUseEach}
use Rattle.naga_flow.proofs.EmitLemmas.{PlainUsesKnown-walked, evaluated-new, result-misuse}
use Rattle.naga_flow.proofs.MisusesLemmas.{Judged-mapped}
use Rattle.naga_flow.proofs.SeenLemmas.{all_known-after}
use Rattle.naga_flow.proofs.plain.walk_plain.Goals as goal

pub returns : goal.returns
returns c =
    let expressions = read_in c.args.reading.now in
    let old = c.args.known.now in
    let what = c.args.statement.now in
    let used : MayUseEach expressions (known_of old) (used_by what) =
    subst (λ outcome. MayUseEach expressions (known_of old) (without outcome (expressions_of (references_of_statement what)))) c.result_of-outcome.ensures c.in_default.ensures in
    let emitted = c.in_default-walk_emit.ensures in
    Judged-mapped c.walk_result.result _ _ _ _
    (λ x h. (
      PlainUsesKnown-walked expressions (known_of old) what used emitted.0 emitted.1 h.0,
      evaluated-new expressions old c.walk_emit.new.known what emitted.3 emitted.2 h.1,
      all_known-after old c.walk_emit.new.known (emitted_by what) emitted.3 c.walk_result.new.known _ h.2,
    ))
    (λ misuse h. (h.0, inr (used, inr (result-misuse expressions old c.walk_emit.new.known what emitted.3 misuse h.1)))) c.walk_result.ensures
