use Rattle.naga_typing.proofs.CompactsFunctionLemmas.{HasTypes-compacted, context_in-inside, typing-compacted}
use Rattle.naga_typing.proofs.laws.compacting.compacting_a_function_keeps_types.Goals as goal

pub returns-clause-context : goal.returns-clause-context
returns-clause-context c = λ whole old new kept compacts. context_in-inside old new kept compacts whole

pub returns-clause-types : goal.returns-clause-types
returns-clause-types c = λ whole old new kept compacts precede types after of_old of_new. HasTypes-compacted old new kept compacts precede whole types after of_old of_new

pub returns-clause-typing : goal.returns-clause-typing
returns-clause-typing c = λ whole old new kept compacts precede found is. typing-compacted old new kept compacts precede whole found is
