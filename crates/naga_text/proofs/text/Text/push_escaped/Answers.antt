use Rattle.std.proofs.Common.{◌++◌, ◌∙◌, ap, sym, map-id}
use Rattle.std.specs.Prelude.{flat_map}
use Rattle.std.proofs.lemmas.Iterator.{YieldsList-from_chars}
use Rattle.std.proofs.lemmas.Iterator.Consumers.{YieldsList-end}
use Rattle.naga_text.specs.Escapes.{escaped_character}
use Rattle.naga_text.proofs.text.Text.push_escaped.Goals as goal

pub returns : goal.returns
returns c =
    let done = YieldsList-end (YieldsList-from_chars c.args.name.now c.utf8.name cc) c.loop-c.yielded _ c.loop-c.yielded_by _ _ c.in-None.is c.next.ensures.steps in
    c.loop-c.invariant ∙ ap (λ cs. c.args.self.now ++ flat_map escaped_character cs) (sym (map-id c.loop-c.yielded) ∙ done.0)
