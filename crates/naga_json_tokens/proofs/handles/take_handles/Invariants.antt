use Rattle.std.proofs.Common.{length}
use Rattle.naga_json.specs.Codec.{handle_codec}
use Rattle.naga_json_tokens.proofs.TakesItems.{TakesItems}
use Rattle.naga_json_tokens.proofs.handles.take_handles.Given as goal

abbrev pub invariant-items : goal.invariant-items
invariant-items g l = TakesItems handle_codec.decode l.found.items l.initial.reader l.reader

abbrev pub decreases-items : goal.decreases-items
decreases-items g l = length l.reader
