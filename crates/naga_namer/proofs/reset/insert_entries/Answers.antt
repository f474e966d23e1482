use Rattle.std.proofs.Common.{◌≡◌, ◌∙◌, ap}
use Rattle.indexmap.specs.IndexMap.{insert_all}
use Rattle.indexmap.proofs.CallerLemmas.{Drains-YieldsInOrder}
use Rattle.naga_namer.specs.contracts.name_key.NameKeyPartialEq.TheImpl as name_key_eq
use Rattle.naga_namer.proofs.reset.insert_entries.Goals as goal

pub returns : goal.returns
returns c =
    let ran = c.in_ok-extend.ensures.ran in
    let all : ran.1 ≡ c.args.entries.items = Drains-YieldsInOrder _ _ ran.0 ran.1 ran.2.3 ran.4 ∙ ran.2.0 in
    ran.3.0 ∙ ap (insert_all name_key_eq.ghosts.eq c.args.names.now.entries) all
