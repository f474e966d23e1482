use Rattle.std.proofs.Common.{◌≡◌, ◌≤◌, ◌+◌, arith, length, subst, sym}
use Rattle.std.specs.FinSet.{contains}
use Rattle.naga_flow.specs.ConstantChains.{AreChainsBefore}
use Rattle.naga_flow.proofs.ConstantChainsLemmas.{AreChainsBefore-none, AreChainsBefore-push, AreConstantChains-all}
use Rattle.naga_flow.proofs.constant_chains.constant_chains.Goals as goal

pub expressions-init : goal.expressions-init
expressions-init c =
    let chosen = contains c.args.chosen.now.members in
    let arena = c.args.expressions.now in
    record {
      chains = subst (AreChainsBefore chosen arena 0) (sym c.in_ok-chains.ensures) (AreChainsBefore-none chosen arena _);
      precede = λ known handle within. absurd (omega (arith, within));
    }

pub expressions-preserved : goal.expressions-preserved
expressions-preserved c =
    let chosen = contains c.args.chosen.now.members in
    let arena = c.args.expressions.now in
    let before = c.expressions.chains in
    let handle = c.at-handle.result in
    let is : handle ≡ c.expressions.index = c.at-handle.ensures in
    let earlier : AreChainsBefore chosen arena handle before = subst (λ count. AreChainsBefore chosen arena count before) (sym is) c.expressions.invariant.chains in
    record {
      chains =
          subst (λ count. AreChainsBefore chosen arena (count + 1) c.add.new.chains) is
          (subst (AreChainsBefore chosen arena (handle + 1)) (sym c.in_ok-add.ensures)
          (AreChainsBefore-push chosen arena handle before c.is_chain-is_chain.result earlier c.is_chain-is_chain.ensures));
      precede = λ known earlier_one within. c.still_precede-precede.ensures known earlier_one (omega (arith, within, is));
    }

pub returns : goal.returns
returns c =
    let chosen = contains c.args.chosen.now.members in
    let arena = c.args.expressions.now in
    let all : length arena ≤ c.expressions.index = omega (arith, c.len-index-end.ensures.value, c.expressions-test.false) in
    AreConstantChains-all chosen arena c.expressions.index c.expressions.chains all c.expressions.invariant.chains
