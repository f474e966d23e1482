-- The newlines before the start of a line.
use Rattle.std.proofs.Common.{◌≡◌, ◌≢◌, ℕ, zero, suc, ◌+◌, ◌-◌, ◌<◌, ◌≤◌, ◌==◌, false, List, length, get_or, Some, ap, sym, ◌∙◌, arith}
use Rattle.std.proofs.lemmas.Grind.{common_steps}
use Rattle.std.proofs.lemmas.Option.{slice_get-get_or}
use Rattle.std.proofs.lemmas.List.Sums.{count_by_more_no}
use Rattle.std.specs.List.{slice_get}
use Rattle.naga_arena.specs.Location.{IsLineStart, newlines_before}

-- there is no newline between the start of the line and the offset
pub IsLineStart-no_newline : (text : List ℕ) (offset start i : ℕ) → IsLineStart text offset start → start ≤ i → i < offset → slice_get text i ≢ Some 10
IsLineStart-no_newline text offset start i line low high newline =
    let within : suc i ≤ start = line.greatest (suc i) newline (omega arith) in
    absurd (omega arith)

-- a part of a text without newlines has as many newlines before its start as before its end
pub newlines_before-more : (text : List ℕ) (start n : ℕ) → start + n ≤ length text → ((i : ℕ) → start ≤ i → i < start + n → slice_get text i ≢ Some 10) → newlines_before text (start + n) ≡ newlines_before text start
newlines_before-more text start zero h none =
    let here : start + 0 ≡ start = omega arith in
    ap (newlines_before text) here
newlines_before-more text start (suc n) h none =
    let last = start + n in
    let one_more : start + suc n ≡ last + 1 = omega arith in
    let inside : last < length text = omega arith in
    let other : get_or text last 0 ≢ 10 = λ e. none last (omega arith) (omega arith) (slice_get-get_or text last 0 inside ∙ ap Some e) in
    let fails : (get_or text last 0 == 10) ≡ false = grind (arith, common_steps) in
    ap (newlines_before text) one_more ∙ (count_by_more_no (λ byte. byte == 10) text last 0 inside fails ∙ newlines_before-more text start n (omega arith) (λ i low high. none i low (omega arith)))

-- an offset has as many newlines before it as the start of its line
pub newlines_before-line : (text : List ℕ) (offset start : ℕ) → offset ≤ length text → IsLineStart text offset start → newlines_before text start ≡ newlines_before text offset
newlines_before-line text offset start h line =
    let way : start + (offset - start) ≡ offset = omega (arith, line.before) in
    sym (newlines_before-more text start (offset - start) (omega (arith, line.before)) (λ i low high. IsLineStart-no_newline text offset start i line low (omega arith))) ∙ ap (newlines_before text) way
