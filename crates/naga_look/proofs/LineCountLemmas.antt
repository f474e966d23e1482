-- The number of lines: lemmas on `line_count` of specs/Report.antt.
use Rattle.std.proofs.Common.{◌≡◌, ◌∙◌, ap, ℕ, ◌+◌, List, ◌++◌, length, arith}
use Rattle.std.proofs.lemmas.List.{length-append}
use Rattle.std.proofs.lemmas.List.Elements.{filter-append}
use Rattle.std.specs.Prelude.{◌==◌, codes}
use Rattle.std.specs.List.{filter}
use Rattle.naga_text.specs.Readable.{IsLine}
use Rattle.naga_look.specs.Report.{line_count}

pub line_count-append : (first second : List ℕ) → line_count (first ++ second) ≡ line_count first + line_count second
line_count-append first second =
    ap length (filter-append (λ byte. byte == 10) first second)
    ∙ length-append (filter (λ byte. byte == 10) first) (filter (λ byte. byte == 10) second)

-- a line counts
pub line_count-line : (line rest : List ℕ) → IsLine line → ¬ (line_count (line ++ rest) ≡ 0)
line_count-line line rest is none =
    let split = line_count-append line rest in
    let ended : line_count line ≡ line_count is.0 + 1 = ap line_count is.2 ∙ line_count-append is.0 (codes "\n") in
    omega (arith, split, ended, none)
