-- The place of a byte of a text: its number, its line and its column.
use Rattle.std.specs.Prelude.{◌≡◌, ℕ, ◌+◌, ◌-◌, ◌^◌, ◌==◌, Bool, not, List, min, reverse, take}
use Rattle.std.specs.Fmt.{is_char_start}
use Rattle.std.specs.List.{count_by, take_while}
use Rattle.naga_explain.specs.declared.position.Position.{Position}

abbrev pub is_newline : ℕ → Bool
is_newline byte = byte == 10

-- the bytes after the last newline, from the last byte back
abbrev pub since_newline : List ℕ → List ℕ
since_newline front = take_while (λ byte. not (is_newline byte)) (reverse front)

-- the line of what follows these bytes: one more than the number of newlines among them
abbrev pub line_after : List ℕ → ℕ
line_after front = count_by is_newline front + 1

-- the column of what follows these bytes: one more than the number of characters after the last newline among them
abbrev pub column_after : List ℕ → ℕ
column_after front = count_by is_char_start (since_newline front) + 1

-- a number, at most `usize::MAX`
abbrev pub in_usize : ℕ → ℕ
in_usize number = min number (2 ^ 64 - 1)

-- The place of the byte that has this many bytes of the text before it, in a file that has this many bytes before the text.
pub record IsPosition (text : List ℕ) (skipped offset : ℕ) (position : Position) : Type 0 where
  pub byte : position.byte ≡ in_usize (skipped + offset)
  pub line : position.line ≡ in_usize (line_after (take offset text))
  pub column : position.column ≡ in_usize (column_after (take offset text))
