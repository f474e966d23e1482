use Rattle.naga_typing.proofs.ContextLemmas.{context_of-function}
use Rattle.naga_typing.proofs.laws.arenas.contexts_are_of_functions.Goals as goal

pub returns : goal.returns
returns c = context_of-function
