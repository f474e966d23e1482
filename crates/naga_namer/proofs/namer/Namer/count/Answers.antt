use Rattle.std.proofs.Common.{Some, ap, string_bytes, ◌∙◌}
use Rattle.std.specs.HashMap.{get_by_text}
use Rattle.std.specs.Prelude.{unwrap_or}
use Rattle.std.specs.Str.{bytes_eq}
use Rattle.std.proofs.lemmas.Map.Text.{hash_map_updates_text}
use Rattle.naga_namer.proofs.CountLemmas.{counted-or}
use Rattle.naga_namer.proofs.namer.Namer.count.Goals as goal

pub returns-clause-counted : goal.returns-clause-counted
returns-clause-counted c = λ other.
    let before = get_by_text c.args.self.now.counts other in
    ap (λ o. unwrap_or o 0) (hash_map_updates_text (string_bytes c.args.base) c.args.self.now.counts c.insert.new.self (Some c.args.start) c.in_ok-insert.ensures.updates other)
    ∙ counted-or (bytes_eq (string_bytes c.args.base) other) c.args.start before
