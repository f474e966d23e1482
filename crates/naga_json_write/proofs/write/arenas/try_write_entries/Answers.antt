use Rattle.std.proofs.Common.{◌≡◌, ◌∙◌, ◌∷◌, ℕ, ap, map}
use Rattle.naga_json_write.proofs.ListsLemmas.{appends_more, none_later}
use Rattle.naga_json_write.proofs.write.arenas.try_write_entries.Goals as goal

pub loop-value-preserved : goal.loop-value-preserved
loop-value-preserved g c =
    let first : map {A = ℕ × g.row.T.Denot} {B = g.row.T.Denot} (λ entry. entry.1) c.loop-value.value-iterator ≡ c.in-Some.value.now ∷ map {A = ℕ × g.row.T.Denot} {B = g.row.T.Denot} (λ entry. entry.1) c.next.new.self = rw c.in-Some.ensures.steps in
    let values = ap (map g.T.TryToJson.writing.value_of) first in
    let done = (c.in_ok-try_write.ensures).written in
    record {
      before = (c.try_write.ensures).before ∙ c.loop-value.invariant.before;
      written = λ end later. c.loop-value.invariant.written end (appends_more g.T.TryToJson.writing.Writes (g.T.TryToJson.writing.value_of c.in-Some.value.now) _ _ done.0 _ _ end values done.1 done.2 later);
      refused = λ none. c.loop-value.invariant.refused (none_later g.T.TryToJson.writing.Writes (g.T.TryToJson.writing.value_of c.in-Some.value.now) _ _ values none);
    }
