use Rattle.std.proofs.Common.{◌∙◌, ◌++◌, ◌∷◌, [], ap, map, sym}
use Rattle.std.specs.Prelude.{string_bytes}
use Rattle.naga_look.proofs.StatsTextLemmas.{removed_phrases-joined}
use Rattle.naga_look.proofs.stats.text.one_phrase.Goals as goal

pub returns : goal.returns
returns c =
    ap (map string_bytes) (c.in_ok-push.ensures.items ∙ ap (λ none. none ++ c.in_ok-format.field-0 ∷ []) c.new-whole.ensures.items)
    ∙ removed_phrases-joined c.args.phrases.now (string_bytes c.in_ok-listed.listed) (string_bytes c.in_ok-format.field-0)
    (sym c.is_empty.ensures ∙ c.if-is_empty.false) c.in_ok-listed.ensures.ok c.in_ok-format.ensures.ok
