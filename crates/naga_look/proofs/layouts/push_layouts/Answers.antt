use Rattle.std.proofs.Common.{subst}
use Rattle.std.specs.Prelude.{MatchOption, Option}
use Rattle.naga_look.specs.Layouts.{HasNoLayoutFault, SaysOfLayouts}
use Rattle.naga_look.specs.declared.layouts.SaidOfType.{SaidOfType}
use Rattle.naga_look.proofs.LayoutsLemmas.{AddsLayoutFindings-found, AddsLayoutFindings-none}
use Rattle.naga_look.proofs.layouts.push_layouts.Goals as goal

pub returns : goal.returns
returns c =
    let whole = c.args.module.now in
    let said = subst (λ (said : Option SaidOfType). MatchOption said (HasNoLayoutFault whole) (λ said. SaysOfLayouts whole said.ty said.message)) c.in-Some.is c.in_ok-said.ensures in
    AddsLayoutFindings-found c.push_layout.result whole c.in-Some.said.ty c.in-Some.said.message c.args.found.now.items c.push_layout.new.found.items said c.push_layout.ensures

pub returns-in_default : goal.returns-in_default
returns-in_default c =
    let whole = c.args.module.now in
    AddsLayoutFindings-none whole c.args.found.now.items
    (subst (λ (said : Option SaidOfType). MatchOption said (HasNoLayoutFault whole) (λ said. SaysOfLayouts whole said.ty said.message)) c.in_default.is c.in_ok-said.ensures)
