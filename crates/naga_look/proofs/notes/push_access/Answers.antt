use Rattle.std.proofs.Common.{◌≡◌, ◌++◌, ◌∙◌, subst}
use Rattle.std.specs.Prelude.{OnOk}
use Rattle.naga_look.specs.Notes.{note_line}
use Rattle.naga_look.proofs.notes.push_access.Goals as goal

pub returns : goal.returns
returns c =
    subst (λ said. OnOk c.push_note.result (c.push_note.new.text ≡ c.args.text.now ++ note_line c.args.head.now said))
    (c.as_str.ensures.value ∙ c.in_ok-said.ensures) c.push_note.ensures
