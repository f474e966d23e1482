use Rattle.std.proofs.Common.{◌≡◌, length}
use Rattle.naga_wgsl.specs.Choices.{AreChosen, AreDepths}
use Rattle.naga_wgsl.proofs.choices.choose.Given as goal

-- the expressions before this one are chosen, and their depths are known
abbrev pub invariant-expressions : goal.invariant-expressions
invariant-expressions l = record {
  count : length l.depths.items ≡ l.index;
  depths : AreDepths l.fn.choices l.depths.items;
  chosen : AreChosen l.fn.choices l.index l.written;
}
