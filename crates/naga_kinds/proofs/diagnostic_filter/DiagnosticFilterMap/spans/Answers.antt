use Rattle.std.proofs.Common.{◌∙◌, ap}
use Rattle.std.proofs.lemmas.Simd.{map-map}
use Rattle.std.specs.Prelude.{map}
use Rattle.naga_arena.specs.declared.span.Span.{Span}
use Rattle.naga_kinds.specs.declared.diagnostic_filter.FilterableTriggeringRule.{FilterableTriggeringRule}
use Rattle.naga_kinds.specs.declared.diagnostic_filter.Severity.{Severity}
use Rattle.naga_kinds.proofs.diagnostic_filter.DiagnosticFilterMap.spans.Goals as goal

pub returns : goal.returns
returns c =
    let place = λ (said : Severity × Span). said.1 in
    let said = λ (filter : FilterableTriggeringRule × (Severity × Span)). filter.1 in
    ap (map place) c.values.ensures.rest ∙ map-map place said c.self.inside.0.entries ∙ ap (map (λ filter. place (said filter))) c.self.view_is
