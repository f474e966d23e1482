use mathlib.Core.Path.{◌∙◌}
use Rattle.std.proofs.Common.{◌++◌, [], ◌∷◌}
use Rattle.std.proofs.lemmas.Fmt.{contents_after_writes}
use Rattle.std.proofs.lemmas.List.{append_assoc}
use Rattle.naga_json.specs.Flags.{bar_after}
use Rattle.naga_json_write.proofs.write.flags.text_of_flags.Goals as goal

pub returns-in-Ok : goal.returns-in-Ok
returns-in-Ok c =
    contents_after_writes _ (λ text. text.bytes) (λ _ _ _ appended. appended) _ _ _ (rw c.in_radix.ensures at c.in-Ok.ensures.writes)
    ∙ rw (c.push_str-3.ensures.bytes, c.push_str-2.ensures.bytes, c.push_str.ensures.bytes, c.bar_after_names.ensures.text, c.new-text.ensures)
    (append_assoc (c.args.names.now ++ bar_after c.args.names.now) (48 ∷ 120 ∷ []) _)
