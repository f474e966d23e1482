use Rattle.std.proofs.Common.{◌∙◌, ap, sym, map-id, fold, string_bytes}
use Rattle.std.proofs.lemmas.Iterator.{YieldsList-from_chars}
use Rattle.std.proofs.lemmas.Iterator.Consumers.{YieldsList-end}
use Rattle.naga_namer.specs.Bases.{appended}
use Rattle.naga_namer.proofs.FoldLemmas.{fold-snoc}
use Rattle.naga_namer.proofs.base.push_characters.Goals as goal

pub loop-c-preserved : goal.loop-c-preserved
loop-c-preserved c =
    fold-snoc appended (string_bytes c.args.base.now) c.loop-c.yielded c.in-Some.c (string_bytes c.loop-c.base) _
    c.loop-c.invariant c.in_ok-push_character.ensures

pub returns : goal.returns
returns c =
    let done = YieldsList-end (YieldsList-from_chars c.args.label.now c.utf8.label cc) c.loop-c.yielded _ c.loop-c.yielded_by _ _ c.in-None.is c.next.ensures.steps in
    c.loop-c.invariant ∙ ap (fold appended (string_bytes c.args.base.now)) (sym (map-id c.loop-c.yielded) ∙ done.0)
