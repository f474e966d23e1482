use Rattle.naga_typing.proofs.AreTypesLemmas.{Precede-of}
use Rattle.naga_typing.proofs.TypingLemmas.{typing-begins, typing-length, typing-stops, typing-types}
use Rattle.naga_typing.proofs.laws.arenas.typifiers_find_the_types.Goals as goal

pub returns-clause-found : goal.returns-clause-found
returns-clause-found c = λ ctx arena precede. typing-begins ctx arena (Precede-of arena precede)

pub returns-clause-stopped : goal.returns-clause-stopped
returns-clause-stopped c = λ ctx arena precede. typing-stops ctx arena (Precede-of arena precede)

pub returns-clause-all : goal.returns-clause-all
returns-clause-all c = λ ctx arena precede found is.
    (typing-types ctx arena (Precede-of arena precede) found is, typing-length ctx arena (Precede-of arena precede) found is)
