use Rattle.std.proofs.Common.{◌≤◌, ◌<◌, arith}
use Rattle.naga_arena.proofs.IsLineStartLemmas.{IsLineStart-no_newline}
use Rattle.naga_arena.proofs.laws.locations.location_has_no_newline_in_line.Goals as goal

pub returns : goal.returns
returns c = λ text span place located i low high newline.
    let start = located.line_position.0 in
    let line = located.line_position.1 in
    let after : start ≤ i = omega (arith, line.before, located.offset, located.line_position.2) in
    let before : i < span.start = omega (arith, located.offset) in
    IsLineStart-no_newline text span.start start i line after before newline
