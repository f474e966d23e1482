-- The limits on the texts and blocks that can be read.
use Rattle.std.specs.Prelude.{ℕ}

-- the greatest number of bytes that a text may have
abbrev pub most_bytes : ℕ
most_bytes = 65536

-- the greatest depth that a block may have
abbrev pub greatest_depth : ℕ
greatest_depth = 100
