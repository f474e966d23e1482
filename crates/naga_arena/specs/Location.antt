-- The lines of a text, and the location in the text where a span begins.
use Rattle.std.specs.Prelude.{◌≡◌, ℕ, zero, suc, ◌+◌, ◌-◌, ◌<◌, ◌≤◌, ◌==◌, List, Some, slice_get, take, count_by, ⊤}
use Rattle.std.specs.Str.{IsCharBoundary}
use Rattle.naga_arena.specs.Limits.{max_position}
use Rattle.naga_arena.specs.declared.span.Span.{Span}
use Rattle.naga_arena.specs.declared.span.SourceLocation.{SourceLocation}

-- the byte that ends a line
abbrev pub newline : ℕ
newline = 10

-- a line of the text begins at position 0 and after each newline
abbrev pub BeginsLine : List ℕ → ℕ → Type 0
BeginsLine text zero = ⊤
BeginsLine text (suc i) = slice_get text i ≡ Some newline

-- `start` is the greatest position at or before `offset` where a line begins
pub record IsLineStart (text : List ℕ) (offset start : ℕ) : Type 0 where
  pub begins : BeginsLine text start
  pub before : start ≤ offset
  pub greatest : (i : ℕ) → BeginsLine text i → i ≤ offset → i ≤ start

-- the number of newlines before `offset`
abbrev pub newlines_before : List ℕ → ℕ → ℕ
newlines_before text offset = count_by (λ byte. byte == newline) (take offset text)

-- the span has a location in the text: its start is at most its end, is a UTF-8 boundary, and is below `u32::MAX`, so
-- that the line number and the position in the line, both starting at 1, fit into 32 bits
pub record HasLocation (text : List ℕ) (span : Span) : Type 0 where
  pub ordered : span.start ≤ span.end
  pub boundary : IsCharBoundary text span.start
  pub counted : span.start < max_position

-- the span can be sliced out of the text: its start is at most its end, and both are UTF-8 boundaries
pub record HasSlice (text : List ℕ) (span : Span) : Type 0 where
  pub ordered : span.start ≤ span.end
  pub start_boundary : IsCharBoundary text span.start
  pub end_boundary : IsCharBoundary text span.end

-- the location of the span in the text: its line and the position in that line, both starting at 1, its offset and
-- length
pub record IsLocation (text : List ℕ) (span : Span) (location : SourceLocation) : Type 0 where
  pub line_number : location.line_number ≡ newlines_before text span.start + 1
  pub line_position :
      (start : ℕ) × IsLineStart text span.start start × (location.line_position ≡ span.start - start + 1)
  pub offset : location.offset ≡ span.start
  pub length : location.length ≡ span.end - span.start
