use Rattle.std.proofs.Common.{rules, arith, ◌≡◌, ◌∷◌, [], ◌++◌}
use Rattle.std.proofs.lemmas.Grind.{common_steps}
use Rattle.json.specs.Token.{begin_array}
use Rattle.naga_json_write.proofs.ArenasLemmas.{arena_written, arena_refused}
use Rattle.naga_json_write.proofs.write.arenas.ArenaTryToJson.try_write.Goals as goal

pub returns-clause-written : goal.returns-clause-written
returns-clause-written g c =
    let begun : c.begin_array.new.self.tokens ≡ c.args.out.now.tokens ++ begin_array ∷ [] = first_of (search rules, grind (arith, common_steps)) in
    arena_written g.T.TryToJson.writing.Writes g.T.TryToJson.writing.value_of c.args.self.now _ _ _ _ _ c.iter.ensures.rest begun (c.try_write_entries.ensures).written

pub returns-clause-refused : goal.returns-clause-refused
returns-clause-refused g c =
    arena_refused g.T.TryToJson.writing.Writes g.T.TryToJson.writing.value_of c.args.self.now _ _ c.iter.ensures.rest (c.try_write_entries.ensures).refused
