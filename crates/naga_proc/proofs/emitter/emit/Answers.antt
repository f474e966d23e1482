use Rattle.std.proofs.Common.{◌∙◌, ap, sym, length, rules}
use Rattle.std.proofs.lemmas.List.{map-id}
use Rattle.std.proofs.lemmas.Iterator.{YieldsList-from_map}
use Rattle.std.proofs.lemmas.Iterator.Consumers.{YieldsList-at, YieldsList-from_shown}
use Rattle.naga_arena.specs.Arena.{span_at}
use Rattle.naga_arena.specs.Range.{handles_of, TakesFirst}
use Rattle.naga_proc.proofs.Building.EmissionLemmas.{items-from_run, emission-filled}
use Rattle.naga_proc.proofs.emitter.emit.Goals as goal

pub returns : goal.returns
returns c =
    let arena = c.args.arena.now in
    let range = c.args.range in
    let run = c.total_span.ensures in
    let gave = items-from_run run.0 run.1 run.2
    (YieldsList-from_map _ (λ i. span_at arena i)
    (YieldsList-at (c.map-spans.ensures.source ∙ c.from_index_range-handles.ensures ∙ ap (λ inner. (inner.start, inner.«end»)) c.index_range.ensures)
    (YieldsList-from_shown TakesFirst (λ x. x) handles_of (λ s t h. ap length h.0) (λ s x t h. h.0) (range.0, range.1)))
    c.map-spans.ensures.closure
    (λ x r q k. search rules))
    in
    emission-filled arena range _ run.0.items c.requires.filled c.requires.within run.3 (sym (map-id run.0.items) ∙ gave)
