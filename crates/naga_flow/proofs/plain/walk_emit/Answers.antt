use Rattle.std.proofs.Common.{◌∙◌, ◌+◌, ◌-◌, ◌∷◌, ap, sym}
use Rattle.std.specs.List.{range_with_len}
use Rattle.naga_flow.specs.Readings.{read_in}
use Rattle.naga_flow.proofs.EmitLemmas.{IsEmitted-fails, IsEmitted-next, range-next}
use Rattle.naga_flow.proofs.MisusesLemmas.{IfMisuse-passed_on}
use Rattle.naga_flow.proofs.plain.walk_emit.Goals as goal

pub returns-in-Err : goal.returns-in-Err
returns-in-Err c =
    let past = c.index_range-bounds.result.«end» in
    let is = range-next c.emitted.index past c.emitted-test.true ∙ ap (λ handle. handle ∷ range_with_len (c.emitted.index + 1) (past - (c.emitted.index + 1))) (sym c.at-handle.ensures) in
    IfMisuse-passed_on c.in-Err.error c.in-Err.ensures
    (λ misuse h. (h.0, IsEmitted-fails (read_in c.args.reading.now) c.args.known.now c.emitted.known _ _ _ c.at-handle.result is c.emitted.invariant misuse h.1))

pub emitted-preserved : goal.emitted-preserved
emitted-preserved c =
    let past = c.index_range-bounds.result.«end» in
    let is = range-next c.emitted.index past c.emitted-test.true ∙ ap (λ handle. handle ∷ range_with_len (c.emitted.index + 1) (past - (c.emitted.index + 1))) (sym c.at-handle.ensures) in
    IsEmitted-next (read_in c.args.reading.now) c.args.known.now c.emitted.known _ _ _ c.at-handle.result is c.emitted.invariant c.emit.new.known
    c.in-Ok.ensures.0 c.in-Ok.ensures.1 c.in-Ok.ensures.2 c.in-Ok.ensures.3
