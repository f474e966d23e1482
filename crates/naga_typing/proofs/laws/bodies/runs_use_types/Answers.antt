use Rattle.naga_typing.proofs.EventIsTypedLemmas.{block-typed}
use Rattle.naga_typing.proofs.laws.bodies.runs_use_types.Goals as goal

pub returns : goal.returns
returns c = λ ctx known signature body typed turns answers run of_body. block-typed ctx known signature of_body typed
