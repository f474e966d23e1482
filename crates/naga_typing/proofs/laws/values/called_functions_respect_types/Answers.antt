use Rattle.naga_meaning.specs.Calls.{called}
use Rattle.naga_typing.proofs.CalledRespectsTypesLemmas.{called-respects}
use Rattle.naga_typing.proofs.ExecutionHasTypesLemmas.{execution-types}
use Rattle.naga_typing.proofs.laws.values.called_functions_respect_types.Goals as goal

pub returns-clause-respected : goal.returns-clause-respected
returns-clause-respected g c whole look find finds by respects calls calls_respect turns depth inside is =
    called-respects g.T.ValueTyping.has_type g.T.ValueTyping.accepts g.T.ValueTyping.invariant whole look find finds by
    respects calls calls_respect turns depth inside is

pub returns-clause-values : goal.returns-clause-values
returns-clause-values g c whole look find finds by respects calls calls_respect inside is chosen checked turns depth start at =
    execution-types look (called look find calls by turns depth) g.T.ValueTyping.has_type whole inside
    (g.T.ValueTyping.accepts inside) chosen checked (g.T.ValueTyping.invariant inside)
    (called-respects g.T.ValueTyping.has_type g.T.ValueTyping.accepts g.T.ValueTyping.invariant whole look find finds by
    respects calls calls_respect turns depth inside is) turns start at
