use Rattle.std.proofs.Common.{sym}
use Rattle.json.specs.Value.{value_view}
use Rattle.naga_json.proofs.ParsesLemmas.{natural_in_reads}
use Rattle.naga_json.proofs.numbers.natural.Goals as goal

pub returns : goal.returns
returns c = sym (natural_in_reads (value_view c.args.value.now) c.as_u64.result c.as_u64.ensures)
