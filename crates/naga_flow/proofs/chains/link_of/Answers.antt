use Rattle.std.proofs.Common.{◌≡◌, ◌∙◌, None, Some, false, subst, sym, true}
use Rattle.naga_arena.specs.Arena.{value_at}
use Rattle.naga_flow.specs.Chains.{IsLink}
use Rattle.naga_flow.specs.Places.{base_before, ready_in}
use Rattle.naga_flow.specs.declared.chains.Link.TheVariants.{Place, Value}
use Rattle.naga_flow.proofs.ChainsLemmas.{AreLinks-base, EndsReady-next, IsLink-other, IsLink-ready, IsLink-value}
use Rattle.naga_flow.proofs.chains.link_of.Goals as goal

pub returns-in-Place : goal.returns-in-Place
returns-in-Place c =
    let arena = c.args.expressions.now in
    let is : base_before arena c.args.handle ≡ Some c.in-Some.base = sym c.base_before.ensures.value ∙ c.in-Some.is in
    let link : IsLink arena c.in-Some.base (Place c.in-Place.rest) =
    subst (IsLink arena c.in-Some.base) c.in-Place.is (AreLinks-base arena c.args.links.now c.args.handle c.in-Some.base c.requires.links c.requires.within is c.link_at.result c.link_at.ensures) in
    (EndsReady-next arena c.args.handle c.in-Some.base is link.0, c.first_index.ensures)

pub returns-in-Value : goal.returns-in-Value
returns-in-Value c =
    let arena = c.args.expressions.now in
    let is : base_before arena c.args.handle ≡ Some c.in-Some.base = sym c.base_before.ensures.value ∙ c.in-Some.is in
    let link : IsLink arena c.in-Some.base Value =
    subst (IsLink arena c.in-Some.base) c.in-Value.is (AreLinks-base arena c.args.links.now c.args.handle c.in-Some.base c.requires.links c.requires.within is c.link_at.result c.link_at.ensures) in
    IsLink-value arena c.args.handle c.in-Some.base is link

pub returns-then-is_ready : goal.returns-then-is_ready
returns-then-is_ready c =
    let arena = c.args.expressions.now in
    let last : base_before arena c.args.handle ≡ None = sym c.base_before.ensures.value ∙ c.in_default.is in
    let ready : ready_in (value_at arena c.args.handle) ≡ true = sym c.is_ready.ensures ∙ c.if-is_ready.true in
    IsLink-ready arena c.args.handle last ready

pub returns-else-is_ready : goal.returns-else-is_ready
returns-else-is_ready c =
    let arena = c.args.expressions.now in
    let last : base_before arena c.args.handle ≡ None = sym c.base_before.ensures.value ∙ c.in_default.is in
    let other : ready_in (value_at arena c.args.handle) ≡ false = sym c.is_ready.ensures ∙ c.if-is_ready.false in
    IsLink-other arena c.args.handle last other
