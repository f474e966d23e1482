use Rattle.naga_meaning.specs.Readings.{chains_in}
use Rattle.naga_wgsl.specs.Choices.{HasFirst}
use Rattle.naga_wgsl.proofs.chains.access_chains.Given as goal

-- the set has the chains before this expression
abbrev pub invariant-expressions : goal.invariant-expressions
invariant-expressions l = HasFirst (chains_in l.fn.expressions) l.index l.chains
