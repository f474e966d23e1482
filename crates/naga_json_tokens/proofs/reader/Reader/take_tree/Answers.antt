use Rattle.std.proofs.Common.{◌∙◌, rules, sym}
use Rattle.json.specs.Value.{value_view}
use Rattle.naga_json_tokens.proofs.TakesLemmas.{shallow_value}
use Rattle.naga_json_tokens.proofs.reader.Reader.take_tree.Goals as goal

pub returns : goal.returns
returns c =
    sym c.self.view_is
    ∙ shallow_value c.self.inside.levels c.self.inside.inner c.read.new.reader (value_view c.in-Ok.value) (search rules) (search rules)
