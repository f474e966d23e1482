-- A vector indexed by handles is a list. A handle is the position of its value.
use Rattle.std.specs.Prelude.{ℕ, ◌-◌, List, ◌++◌, length, take, replicate}

-- the list truncated to `len` values, or with copies of `fill` appended until it has `len` values
abbrev pub resized : {U : Type 0} → List U → ℕ → U → List U
resized values len fill = take len values ++ replicate (len - length values) fill
