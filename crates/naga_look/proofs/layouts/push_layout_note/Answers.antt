use Rattle.std.proofs.Common.{◌≡◌, ◌++◌, subst}
use Rattle.std.specs.Prelude.{MatchOption, OnOk, Option, codes}
use Rattle.naga_text.specs.Escapes.{visible}
use Rattle.naga_look.specs.Layouts.{HasNoLayoutFault, SaysOfLayouts}
use Rattle.naga_look.specs.declared.layouts.SaidOfType.{SaidOfType}
use Rattle.naga_look.proofs.LayoutsLemmas.{AddsLayoutNote-found, AddsLayoutNote-none}
use Rattle.naga_look.proofs.layouts.push_layout_note.Goals as goal

pub returns : goal.returns
returns c =
    let whole = c.args.module.now in
    let said = subst (λ (said : Option SaidOfType). MatchOption said (HasNoLayoutFault whole) (λ said. SaysOfLayouts whole said.ty said.message)) c.in-Some.is c.in_ok-said.ensures in
    let pushed = subst (λ message. OnOk c.push_message.result (c.push_message.new.text ≡ c.push_type.new.text ++ (codes ": " ++ (visible message ++ codes "\n")))) c.as_str.ensures c.push_message.ensures in
    AddsLayoutNote-found c.push_message.result whole c.in-Some.said.ty c.in-Some.said.message c.args.text.now c.push_type.new.text c.push_message.new.text said c.in_ok-push_type.ensures pushed

pub returns-in_default : goal.returns-in_default
returns-in_default c =
    let whole = c.args.module.now in
    AddsLayoutNote-none whole c.args.text.now
    (subst (λ (said : Option SaidOfType). MatchOption said (HasNoLayoutFault whole) (λ said. SaysOfLayouts whole said.ty said.message)) c.in_default.is c.in_ok-said.ensures)
