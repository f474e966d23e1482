use Rattle.std.proofs.Common.{arith, ◌≡◌, ◌∙◌, ◌+◌, ◌∷◌, ap, drop, map}
use Rattle.std.proofs.lemmas.Grind.{common_steps}
use Rattle.naga_json_write.proofs.ListsLemmas.{appends_more, none_later}
use Rattle.naga_json_write.proofs.write.lists.try_write_items.Goals as goal

pub loop-value-preserved : goal.loop-value-preserved
loop-value-preserved g c =
    let first : drop c.loop-value.value-index c.args.values.now ≡ c.value-item.result ∷ drop (c.loop-value.value-index + 1) c.args.values.now = grind (arith, common_steps) in
    let values = ap (map g.T.TryToJson.writing.value_of) first in
    let done = (c.in_ok-try_write.ensures).written in
    record {
      before = (c.try_write.ensures).before ∙ c.loop-value.invariant.before;
      written = λ end later. c.loop-value.invariant.written end (appends_more g.T.TryToJson.writing.Writes (g.T.TryToJson.writing.value_of c.value-item.result) _ _ done.0 _ _ end values done.1 done.2 later);
      refused = λ none. c.loop-value.invariant.refused (none_later g.T.TryToJson.writing.Writes (g.T.TryToJson.writing.value_of c.value-item.result) _ _ values none);
    }
