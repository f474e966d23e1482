use Rattle.std.proofs.Common.{arith}
use Rattle.std.proofs.lemmas.List.{length-reverse}
use Rattle.json_fault.proofs.StepsLemmas
use Rattle.json_fault.proofs.values.open_list.Goals as goal

pub returns-then-frames-lt-MAX_DEPTH : goal.returns-then-frames-lt-MAX_DEPTH
returns-then-frames-lt-MAX_DEPTH c = let size = length-reverse c.args.frames.now in StepsLemmas.opens-list _ _ c.requires (omega arith)

pub returns : goal.returns
returns c = let size = length-reverse c.args.frames.now in StepsLemmas.opens-no_list _ _ c.requires (omega arith)
