use Rattle.std.proofs.Common.{◌≡◌, ◌+◌, ◌∙◌, ap, refl, rules}
use Rattle.std.specs.Str.{IsCharBoundary}
use Rattle.naga_arena.specs.Location.{IsLineStart, newlines_before}
use Rattle.naga_arena.proofs.IsLineStartLemmas.{newlines_before-line}
use Rattle.naga_arena.proofs.span.Span.location.Goals as goal

pub returns-clause-value : goal.returns-clause-value
returns-clause-value c =
    let text = c.args.source.now in
    let offset = c.args.self.now.start in
    let start = c.line_start-line_start.result in
    let boundary : IsCharBoundary text offset = c.is_char_boundary.ensures.test.0 (search rules) in
    let line : IsLineStart text offset start = rw c.as_bytes-text.ensures.value at c.line_start-line_start.ensures in
    let counted : c.count_newlines-newlines.result ≡ newlines_before text start = rw c.as_bytes-text.ensures.value at c.count_newlines-newlines.ensures.value in
    record {
      line_number = ap (λ n. n + 1) (counted ∙ newlines_before-line text offset start boundary.0 line);
      line_position = (start, line, refl);
      offset = refl;
      length = refl;
    }
