-- Sets of numbers, stored as the bits of 64-bit words.
use Rattle.std.specs.Prelude.{◌≡◌, ℕ, ◌+◌, ◌-◌, ◌*◌, ◌/◌, ◌%◌, ◌<◌, ◌≤◌, Bool, true, List, length, slice_index, nat_eq}
use Rattle.std.specs.FinSet as set
use Rattle.std.specs.Int.{bit_at}
use Rattle.std.specs.List.{filter, range_with_len}
use Rattle.std.specs.Ordering.{nat_cmp}
use Rattle.naga_arena.specs.Limits.{max_len}

-- `true` if bit `i` is set. Bits are numbered from the lowest bit of the first word on, 64 for each word. No bit past
-- the last word is set.
unfoldable pub has_bit : List ℕ → ℕ → Bool
has_bit words i = nat_eq (bit_at (slice_index words (i / 64)) (i % 64)) 1

-- the numbers of the set bits, in ascending order, if the number of the first bit is `first`
unfoldable pub bits_from : ℕ → List ℕ → List ℕ
bits_from first words = filter (λ n. has_bit words (n - first)) (range_with_len first (64 * length words))

-- the set that the words represent: it contains `i` if and only if bit `i` is set
abbrev pub bit_set : List ℕ → set.FinSet nat_cmp
bit_set words = set.from_list (bits_from 0 words)

-- the number of words that contain all bits below a bound
abbrev pub words_for : ℕ → ℕ
words_for bound = (bound + 63) / 64

-- The words are valid for a set with this bound, in a vector with this capacity. There may be fewer words than the
-- bound requires.
pub record AreWordsFor (bound : ℕ) (words : List ℕ) (capacity : ℕ) : Type 0 where
  pub small : bound ≤ max_len
  pub few : length words ≤ words_for bound
  -- no bit at or above the bound is set
  pub below : (i : ℕ) → has_bit words i ≡ true → i < bound
  -- the capacity is large enough for all words that the bound requires
  pub room : words_for bound ≤ capacity
