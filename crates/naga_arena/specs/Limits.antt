-- The limits of handles, arenas and spans.
use Rattle.std.specs.Prelude.{ℕ}

-- the greatest index of a handle, `u32::MAX - 1`
abbrev pub max_index : ℕ
max_index = 4294967294

-- the greatest number of elements of an arena, `u32::MAX`: one for each index
abbrev pub max_len : ℕ
max_len = 4294967295

-- the greatest position in a span, which is also `u32::MAX`
abbrev pub max_position : ℕ
max_position = max_len
