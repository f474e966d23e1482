use Rattle.std.proofs.Common.{◌≡◌, Bool, true, false, Some, refl, sym, ◌∙◌, true≢false, rules}
use Rattle.std.specs.Bool.{Decides}
use Rattle.std.specs.Prelude.{Result}
use Rattle.naga_arena.specs.declared.span.Span.{Span}
use Rattle.naga_kinds.specs.FilterMap.{Answers}
use Rattle.naga_kinds.specs.contracts.diagnostic_filter.SeverityPartialEq.TheImpl as severity_eq
use Rattle.naga_kinds.specs.declared.diagnostic_filter.AddFilterError.{AddFilterError}
use Rattle.naga_kinds.specs.declared.diagnostic_filter.Severity.{Severity}
use Rattle.naga_kinds.specs.declared.diagnostic_filter.ShouldConflictOnFullDuplicate.{ShouldConflictOnFullDuplicate}
use Rattle.naga_kinds.specs.declared.diagnostic_filter.ShouldConflictOnFullDuplicate.TheVariants.{Yes, No}
use Rattle.naga_kinds.proofs.laws.reports.known_rule_has_one_answer.Goals as goal

severities : (a b : Severity) → Decides (severity_eq.ghosts.eq a b) (a ≡ b)
severities a b = search rules

one_answer : (known added : Severity × Span) (duplicate : ShouldConflictOnFullDuplicate) (first second : Result (Unit {0}) AddFilterError) → Answers (Some known) added duplicate first → Answers (Some known) added duplicate second → first ≡ second
one_answer known added Yes first second p q = p ∙ sym q
one_answer known added No first second p q = by (severity_eq.ghosts.eq known.0 added.0) (severities known.0 added.0)
  where
    by : (same : Bool) → Decides same (known.0 ≡ added.0) → first ≡ second
    by true decides = p.0 (decides.0 refl) ∙ sym (q.0 (decides.0 refl))
    by false decides =
        let differ : ¬ (known.0 ≡ added.0) = λ e. true≢false (sym (decides.1 e)) in
        p.1 differ ∙ sym (q.1 differ)

pub returns : goal.returns
returns c = one_answer
