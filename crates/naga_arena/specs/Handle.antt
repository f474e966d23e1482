-- The texts of handles and ranges.
use Rattle.std.specs.Prelude.{ℕ, List, ◌++◌, codes}
use Rattle.std.specs.Fmt.{decimal}

-- the text of a handle: its index, in brackets
abbrev pub handle_text : ℕ → List ℕ
handle_text index = codes "[" ++ decimal index ++ codes "]"

-- the text of a range: its two bounds with two dots between them, in brackets
abbrev pub range_text : ℕ × ℕ → List ℕ
range_text range = codes "[" ++ decimal range.0 ++ codes ".." ++ decimal range.1 ++ codes "]"
