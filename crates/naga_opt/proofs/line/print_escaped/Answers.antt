use Rattle.std.proofs.Common.{◌≡◌, ◌∙◌, [], rules, subst, sym, map-id}
use Rattle.std.specs.Io.KnownBytes.{Appends}
use Rattle.std.specs.Prelude.{flat_map}
use Rattle.std.proofs.lemmas.Iterator.{YieldsList-from_chars}
use Rattle.std.proofs.lemmas.Iterator.Consumers.{YieldsList-end}
use Rattle.std.proofs.lemmas.List.{flat_map_more}
use Rattle.naga_streams.specs.Counted.{failed_calls, stream_of}
use Rattle.naga_text.specs.Escapes.{escaped_character}
use Rattle.naga_opt.proofs.AppendsLemmas.{Appends-join}
use Rattle.naga_opt.proofs.line.print_escaped.Goals as goal

pub characters-preserved : goal.characters-preserved
characters-preserved g c =
    let before = g.W.Write.contents (stream_of c.args.errors.now) in
    let now = g.W.Write.contents (stream_of c.characters.errors) in
    let after = g.W.Write.contents (stream_of c.print_text.new.errors) in
    let kept : failed_calls c.print_text.new.errors ≡ failed_calls c.characters.errors = search rules in
    let written : Appends now after c.as_str.result.now = search rules in
    let one = subst (λ text. Appends now after text) (c.as_str.ensures.value ∙ c.escaped_character.ensures) written in (
      kept ∙ c.characters.invariant.0,
      subst (λ text. Appends before after text) (flat_map_more escaped_character [] c.characters.yielded c.in-Some.c)
          (Appends-join before now after (flat_map escaped_character c.characters.yielded) (escaped_character c.in-Some.c) c.characters.invariant.1 one),
    )

pub returns-clause-said : goal.returns-clause-said
returns-clause-said g c is =
    let done = YieldsList-end (YieldsList-from_chars c.args.name.now c.utf8.name cc) c.characters.yielded _ c.characters.yielded_by _ _ c.in-None.is c.next.ensures.steps in
    subst
    (λ cs. Appends (g.W.Write.contents (stream_of c.args.errors.now)) (g.W.Write.contents (stream_of c.characters.errors)) (flat_map escaped_character cs))
    (sym (map-id c.characters.yielded) ∙ done.0) c.characters.invariant.1
