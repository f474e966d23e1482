-- What is written into the buffers of a caller.
use Rattle.std.specs.Prelude.{◌≡◌, ◌++◌, ℕ, ◌≤◌, ◌<◌, List, drop, take, length, nat_le, if◌then◌else◌}
use Rattle.std.specs.Str.{IsCharBoundary}

-- the text, and then the bytes of the buffer behind it, or the whole buffer if the text is longer
abbrev pub written : List ℕ → List ℕ → List ℕ
written text buffer = if nat_le (length text) (length buffer) then text ++ drop (length text) buffer else buffer

-- the longest prefix of whole characters of the text that has at most this many bytes
pub record IsCut (limit : ℕ) (text prefix : List ℕ) : Type 0 where
  pub end : ℕ
  pub is_prefix : prefix ≡ take end text
  pub whole : IsCharBoundary text end
  pub within : end ≤ limit
  pub longest : (other : ℕ) → end < other → other ≤ limit → ¬ IsCharBoundary text other

-- the text was written into the first bytes of the buffer, cut after the last whole character that fits
abbrev pub WritesCut : (text old new : List ℕ) → Type 0
WritesCut text old new = (prefix : List ℕ) × IsCut (length old) text prefix × (new ≡ written prefix old)
