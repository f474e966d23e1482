use Rattle.std.proofs.Common.{◌≡◌, sym, ◌∙◌}
use Rattle.std.specs.Prelude.{Result}
use Rattle.naga_kinds.specs.Filter.{Reports}
use Rattle.naga_kinds.specs.declared.diagnostic_filter.Severity.{Severity}
use Rattle.naga_kinds.specs.declared.diagnostic_filter.Severity.TheVariants.{Off, Info, Warning, Error}
use Rattle.log.specs.declared.level.Level.{Level}
use Rattle.naga_kinds.proofs.laws.reports.severity_has_one_report.Goals as goal

same_report : {E : Type 0} (handled : Level) (severity : Severity) (error : E) (first second : Result (Unit {0}) E) → Reports (λ level. level ≡ handled) severity error first → Reports (λ level. level ≡ handled) severity error second → first ≡ second
same_report handled Off error first second p q = p ∙ sym q
same_report handled Info error first second p q = p.0 ∙ sym q.0
same_report handled Warning error first second p q = p.0 ∙ sym q.0
same_report handled Error error first second p q = p ∙ sym q

pub returns-clause-one : goal.returns-clause-one
returns-clause-one g c = same_report

pub returns-clause-information : goal.returns-clause-information
returns-clause-information g c = λ handled error result is. sym is.1

pub returns-clause-warning : goal.returns-clause-warning
returns-clause-warning g c = λ handled error result is. sym is.1
