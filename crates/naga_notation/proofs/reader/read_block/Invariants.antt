use Rattle.std.proofs.Common.{take}
use Rattle.naga_notation.specs.Refusal.{IsShallowTo}
use Rattle.naga_notation.proofs.ReachedOfLemmas.{IsAt}
use Rattle.naga_notation.proofs.reader.read_block.Given as goal

abbrev pub invariant-loop-at : goal.invariant-loop-at
invariant-loop-at l = record {
  read : IsAt l.reader (take l.at l.text);
  shallow : IsShallowTo l.text l.at;
}
