use Rattle.std.proofs.Common.{◌≡◌, ◌≤◌, ◌+◌, arith, length, subst, sym}
use Rattle.naga_meaning.specs.Readings.{chains_in}
use Rattle.naga_wgsl.specs.Choices.{HasFirst}
use Rattle.naga_wgsl.proofs.ChainsInLemmas.{chains_in-past}
use Rattle.naga_wgsl.proofs.HasFirstLemmas.{HasFirst-all, HasFirst-none, HasFirst-push}
use Rattle.naga_wgsl.proofs.chains.access_chains.Goals as goal

pub expressions-init : goal.expressions-init
expressions-init c =
    let test = chains_in c.args.expressions.now in
    subst (HasFirst test 0) (sym c.in_ok-chains.ensures) (HasFirst-none test _)

pub expressions-preserved : goal.expressions-preserved
expressions-preserved c =
    let test = chains_in c.args.expressions.now in
    let handle = c.at-handle.result in
    let is : handle ≡ c.expressions.index = c.at-handle.ensures in
    let earlier : HasFirst test handle c.expressions.chains = subst (λ count. HasFirst test count c.expressions.chains) (sym is) c.expressions.invariant in
    subst (λ count. HasFirst test (count + 1) c.insert_if.new.members) is
    (subst (HasFirst test (handle + 1)) (sym c.in_ok-insert_if.ensures)
    (HasFirst-push test handle c.expressions.chains c.is_chain-is_chain.result earlier c.is_chain-is_chain.ensures))

pub returns : goal.returns
returns c =
    let arena = c.args.expressions.now in
    let all : length arena ≤ c.expressions.index = omega (arith, c.len-index-end.ensures.value, c.expressions-test.false) in
    HasFirst-all (chains_in arena) c.expressions.index c.expressions.chains c.expressions.invariant (λ handle past. chains_in-past arena handle (omega (arith, all, past)))
