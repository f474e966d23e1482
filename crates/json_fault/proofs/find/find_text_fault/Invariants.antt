use Rattle.std.proofs.Common.{reverse}
use Rattle.json_fault.specs.Rest.{IsRead}
use Rattle.json_fault.proofs.find.find_text_fault.Given as goal

abbrev pub invariant-bytes : goal.invariant-bytes
invariant-bytes l = IsRead l.bytes l.offset l.mode (reverse l.frames.items)
