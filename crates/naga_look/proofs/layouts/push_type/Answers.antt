use Rattle.std.proofs.Common.{◌∙◌, ◌++◌, ap, sym}
use Rattle.naga_text.specs.Words.{number}
use Rattle.std.specs.Prelude.{option_copied}
use Rattle.naga_look.proofs.LayoutsLemmas.{type_head-named, type_head-unnamed}
use Rattle.naga_look.proofs.layouts.push_type.Goals as goal

pub returns-in-Some : goal.returns-in-Some
returns-in-Some c =
    type_head-named c.push_quoted.result c.args.module.now c.args.ty c.in-Some.name.now c.args.text.now c.push.new.self c.push_index.new.self c.push_quoted.new.self
    c.in_ok-push.ensures (c.in_ok-push_index.ensures ∙ ap (λ n. c.push.new.self ++ number n) c.index.ensures.value) (sym (ap option_copied c.in-Some.is) ∙ c.name.ensures) c.push_quoted.ensures

pub returns-in-None : goal.returns-in-None
returns-in-None c =
    type_head-unnamed c.args.module.now c.args.ty c.args.text.now c.push.new.self c.push_index.new.self
    c.in_ok-push.ensures (c.in_ok-push_index.ensures ∙ ap (λ n. c.push.new.self ++ number n) c.index.ensures.value) (sym (ap option_copied c.in-None.is) ∙ c.name.ensures)
