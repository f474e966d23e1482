use Rattle.std.proofs.Common.{◌≡◌, ◌≤◌, length}
use Rattle.std.specs.Prelude.{vec_capacity}
use Rattle.naga_sets.specs.Words.{bit_set}
use Rattle.naga_sets.proofs.handle_set.words.last_bit.Given as goal

-- only words without bits were removed
abbrev pub invariant-words : goal.invariant-words
invariant-words l = record {
  same : bit_set l.words.items ≡ bit_set l.initial.words.items;
  len : length l.words.items ≤ length l.initial.words.items;
  capacity : vec_capacity l.words ≡ vec_capacity l.initial.words;
}

abbrev pub decreases-words : goal.decreases-words
decreases-words l = length l.words.items
