use Rattle.std.proofs.Common.{◌≡◌, ◌∙◌, Some, false, sym, true}
use Rattle.std.specs.Prelude.{option_and_then}
use Rattle.naga_arena.specs.Arena.{value_at}
use Rattle.naga_flow.specs.Places.{index_of, ready_in}
use Rattle.naga_flow.proofs.ChainsLemmas.{IsPlace-constant, IsPlace-index, IsPlace-ready}
use Rattle.naga_flow.proofs.chains.first_index.Goals as goal

pub returns-in_default : goal.returns-in_default
returns-in_default c =
    IsPlace-constant c.args.expressions.now c.args.handle c.args.base c.requires.base (sym c.index_at.ensures ∙ c.in_default.is) c.args.rest c.requires.rest

pub returns-then-is_ready : goal.returns-then-is_ready
returns-then-is_ready c =
    let arena = c.args.expressions.now in
    let index_is : option_and_then index_of (value_at arena c.args.handle) ≡ Some c.in-Some.index = sym c.index_at.ensures ∙ c.in-Some.is in
    let ready : ready_in (value_at arena c.in-Some.index) ≡ true = sym c.is_ready.ensures ∙ c.if-is_ready.true in
    IsPlace-ready arena c.args.handle c.args.base c.requires.base c.in-Some.index index_is ready c.args.rest c.requires.rest

pub returns : goal.returns
returns c =
    let arena = c.args.expressions.now in
    let index_is : option_and_then index_of (value_at arena c.args.handle) ≡ Some c.in-Some.index = sym c.index_at.ensures ∙ c.in-Some.is in
    let ready : ready_in (value_at arena c.in-Some.index) ≡ false = sym c.is_ready.ensures ∙ c.if-is_ready.false in
    IsPlace-index arena c.args.handle c.args.base c.requires.base c.in-Some.index index_is ready c.requires.place
