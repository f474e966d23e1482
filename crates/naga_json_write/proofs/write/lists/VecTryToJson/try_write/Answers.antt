use Rattle.std.proofs.Common.{rules, arith, ◌≡◌, ◌∷◌, [], ◌++◌, map}
use Rattle.std.proofs.lemmas.Grind.{common_steps}
use Rattle.json.specs.Token.{begin_array}
use Rattle.naga_json_write.proofs.ListsLemmas.{array_written}
use Rattle.naga_json_write.proofs.write.lists.VecTryToJson.try_write.Goals as goal

pub returns-clause-written : goal.returns-clause-written
returns-clause-written g c =
    let begun : c.begin_array.new.self.tokens ≡ c.args.out.now.tokens ++ begin_array ∷ [] = first_of (search rules, grind (arith, common_steps)) in
    let same : c.as_slice.result.now ≡ c.args.self.now.items = first_of (search rules, grind (arith, common_steps)) in
    let written = rw same at (c.try_write_items.ensures).written in
    array_written g.T.TryToJson.writing.Writes (map g.T.TryToJson.writing.value_of c.args.self.now.items) _ _ _ _ begun written
