use Rattle.std.proofs.Common.{rules}
use Rattle.naga_json.specs.Codec.{handle_codec}
use Rattle.naga_json_tokens.proofs.TakesListsLemmas.{takes_list}
use Rattle.naga_json_tokens.proofs.handles.take_handles.Goals as goal

pub returns : goal.returns
returns g c =
    takes_list handle_codec.decode c.items.found.items c.args.reader.now c.take_begin_list.new.reader c.items.reader c.take_end_array.new.self
    c.in_ok-take_begin_list.ensures c.items.invariant (search rules)
