use Rattle.naga_typing.proofs.BodyIsTypedRenamedLemmas.{BodyIsTyped-renamed, ExpressionFits-renamed}
use Rattle.naga_typing.proofs.laws.requirements.renaming_keeps_typed_bodies.Goals as goal

pub returns-clause-expressions : goal.returns-clause-expressions
returns-clause-expressions c = ExpressionFits-renamed

pub returns-clause-bodies : goal.returns-clause-bodies
returns-clause-bodies c = BodyIsTyped-renamed
