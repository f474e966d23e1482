use Rattle.std.proofs.Common.{◌≡◌, ◌∷◌, ◌+◌, ◌*◌, ◌^◌, ◌<◌, ◌≤◌, length}
use Rattle.naga_sets.specs.Words.{bits_from}
use Rattle.naga_sets.proofs.handle_set.iter.HandleSetIterIterator.next.Given as goal

-- only words without bits were skipped
abbrev pub invariant-words : goal.invariant-words
invariant-words g l = record {
  same : bits_from l.self-inside.first (l.self-inside.word ∷ l.self-inside.rest.now) ≡ l.fn.self;
  ends : l.self-inside.first + 64 * length l.self-inside.rest.now ≤ 4294967296;
  word : l.self-inside.word < 2 ^ 64;
}

abbrev pub decreases-words : goal.decreases-words
decreases-words g l = length l.self-inside.rest.now
