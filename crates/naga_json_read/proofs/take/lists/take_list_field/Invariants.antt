use Rattle.std.proofs.Common.{length, map}
use Rattle.naga_json_tokens.proofs.TakesItems.{TakesItems}
use Rattle.naga_json_read.proofs.take.lists.take_list_field.Given as goal

abbrev pub invariant-items : goal.invariant-items
invariant-items g l = TakesItems g.T.FromJson.meaning (map g.T.FromJson.value_of l.found.items) l.initial.reader l.reader

abbrev pub decreases-items : goal.decreases-items
decreases-items g l = length l.reader
