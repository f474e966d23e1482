use Rattle.std.proofs.Common.{◌≡◌, ◌≤◌, ◌+◌, ap, arith, length, subst, sym}
use Rattle.naga_flow.specs.ConstantChains.{AreChainsBefore}
use Rattle.naga_flow.proofs.ConstantChainsLemmas.{AreChainsBefore-none, AreChainsBefore-push, AreConstantChains-all}
use Rattle.naga_bounds.specs.Reach.{Typed, is_fixed_access}
use Rattle.naga_bounds.proofs.places.places.Goals as goal

pub expressions-init : goal.expressions-init
expressions-init c =
    let code = c.args.typed.now in
    subst (AreChainsBefore (is_fixed_access code) code.arena 0) (sym c.in_ok-places.ensures)
    (AreChainsBefore-none (is_fixed_access code) code.arena _)

pub expressions-preserved : goal.expressions-preserved
expressions-preserved c =
    let code = c.args.typed.now in
    let chosen = is_fixed_access code in
    let before = c.expressions.places in
    let handle = c.at-handle.result in
    let is : handle ≡ c.expressions.index = c.at-handle.ensures in
    let earlier : AreChainsBefore chosen code.arena handle before =
    subst (λ count. AreChainsBefore chosen code.arena count before) (sym is) c.expressions.invariant in
    subst (λ count. AreChainsBefore chosen code.arena (count + 1) c.add.new.places) is
    (subst (AreChainsBefore chosen code.arena (handle + 1)) (sym c.in_ok-add.ensures)
    (AreChainsBefore-push chosen code.arena handle before c.is_place-is_place.result earlier c.is_place-is_place.ensures))

pub returns : goal.returns
returns c =
    let code = c.args.typed.now in
    let same = ap (λ (view : Typed). length view.arena) c.typed.view_is in
    let all : length code.arena ≤ c.expressions.index = omega (arith, same, c.len-index-end.ensures.value, c.expressions-test.false) in
    AreConstantChains-all (is_fixed_access code) code.arena c.expressions.index c.expressions.places all c.expressions.invariant
