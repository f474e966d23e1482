-- The depth of a text, and which texts are rejected with which error.
--
-- The depth of a text is the number of blocks that are open at its end: each `{` and `[` adds 1, and each `}` and `]`
-- subtracts 1, but not below 0. The outermost block has depth 0.
use Rattle.std.specs.Prelude.{◌≡◌, ℕ, ◌+◌, ◌-◌, ◌≤◌, ◌<◌, ◌==◌, List, [], ◌∷◌, ◌++◌, length, take, codes, if◌then◌else◌}
use Rattle.std.specs.List.{list_any}
use Rattle.naga_ir.specs.Tree.{Tree}
use Rattle.naga_notation.specs.declared.error.ShapeError.{ShapeError}
use Rattle.naga_notation.specs.declared.error.ShapeError.TheVariants.{BadText, TooDeep, TooLong, Memory}
use Rattle.naga_notation.specs.Limits.{most_bytes, greatest_depth}
use Rattle.naga_notation.specs.Outline.{Notation}

-- the text can be continued to a notation
abbrev pub Begins : List ℕ → Type 0
Begins text = (rest : List ℕ) × (block : Tree) × Notation (text ++ rest) block

-- `len` is the length of the longest prefix of the text that can be continued to a notation
pub record IsLongest (text : List ℕ) (len : ℕ) : Type 0 where
  pub within : len ≤ length text
  pub begins : Begins (take len text)
  pub longest : (k : ℕ) → k ≤ length text → Begins (take k text) → k ≤ len

-- the depth after one more byte: a bracket that opens a block increases it by 1, one that closes a block decreases it
-- by 1
abbrev pub depth_after : ℕ → ℕ → ℕ
depth_after depth byte =
    if list_any (λ bracket. byte == bracket) (codes "{[") then depth + 1
    else (if list_any (λ bracket. byte == bracket) (codes "}]") then depth - 1 else depth)

abbrev pub depth_from : ℕ → List ℕ → ℕ
depth_from depth [] = depth
depth_from depth (byte ∷ rest) = depth_from (depth_after depth byte) rest

-- the number of brackets that are open at the end of the text
abbrev pub depth_of : List ℕ → ℕ
depth_of text = depth_from 0 text

-- no prefix of at most this length is too deep
abbrev pub IsShallowTo : List ℕ → ℕ → Type 0
IsShallowTo text len = (k : ℕ) → k ≤ len → depth_of (take k text) ≤ greatest_depth

-- the byte at this position is the first bracket that is too deep
pub record IsFirstDeep (text : List ℕ) (at : ℕ) : Type 0 where
  pub within : at < length text
  pub deep : depth_of (take (at + 1) text) ≡ greatest_depth + 1
  pub first : IsShallowTo text at

-- the text is neither too long nor too deep
pub record IsWithinLimits (text : List ℕ) : Type 0 where
  pub short : length text ≤ most_bytes
  pub shallow : IsShallowTo text (length text)

-- The text is not a notation. Its longest prefix that can be continued to a notation has this length, and no bracket in
-- that prefix is too deep.
pub record IsBadAt (text : List ℕ) (at : ℕ) : Type 0 where
  pub short : length text ≤ most_bytes
  pub bad : (block : Tree) → Notation text block → ⊥
  pub place : IsLongest text at
  pub shallow : IsShallowTo text at

-- the first bracket that is too deep is at this position, within the longest prefix that can be continued to a notation
pub record IsDeepAt (text : List ℕ) (at : ℕ) : Type 0 where
  pub short : length text ≤ most_bytes
  pub deep : IsFirstDeep text at
  pub inside : (len : ℕ) × IsLongest text len × (at < len)

-- the text is rejected with this error; allocation can fail for any text that is not too long
abbrev pub Refused : List ℕ → ShapeError → Type 0
Refused text (BadText at) = IsBadAt text at
Refused text (TooDeep at) = IsDeepAt text at
Refused text TooLong = most_bytes < length text
Refused text Memory = length text ≤ most_bytes
