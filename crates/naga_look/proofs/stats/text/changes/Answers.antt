use Rattle.std.proofs.Common.{◌≡◌, ◌∙◌, ◌++◌, ap, append_assoc, map, subst}
use Rattle.std.specs.Prelude.{IfOk, codes, string_bytes}
use Rattle.naga_look.specs.StatsText.{body_phrases, change_phrases, changes_text, declaration_phrases, phrase, removed_phrases}
use Rattle.naga_look.proofs.stats.text.changes.Goals as goal

pub returns : goal.returns
returns c =
    let counts = c.args.counts.now in
    let removed = removed_phrases (declaration_phrases counts.removed ++ body_phrases counts.removed) in
    let returned = phrase counts.returns_inserted (codes "return inserted") (codes "returns inserted") in
    let clamped = phrase counts.expressions_inserted (codes "expression inserted") (codes "expressions inserted") in
    let listed : map string_bytes c.as_slice.result.now ≡ change_phrases counts =
    ap (map string_bytes) c.as_slice.ensures.value ∙ c.in_ok-push_phrase-2.ensures
    ∙ ap (λ front. front ++ clamped) (c.in_ok-push_phrase.ensures ∙ ap (λ front. front ++ returned) c.in_ok-phrases.ensures)
    ∙ append_assoc removed returned clamped in
    subst (λ phrases. IfOk c.changes_text.result (λ text. string_bytes text ≡ changes_text phrases)) listed c.changes_text.ensures
