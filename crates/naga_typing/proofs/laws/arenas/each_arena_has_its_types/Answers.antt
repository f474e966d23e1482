use Rattle.naga_arena.specs.Arena.{value_at}
use Rattle.naga_typing.proofs.AreTypesLemmas.{AreTypes-exist, AreTypes-unique, Precede-of, types_of}
use Rattle.naga_typing.proofs.laws.arenas.each_arena_has_its_types.Goals as goal

pub returns-clause-exist : goal.returns-clause-exist
returns-clause-exist c = λ ctx arena precede.
    (types_of ctx (value_at arena) (Precede-of arena precede), AreTypes-exist ctx (value_at arena) (Precede-of arena precede))

pub returns-clause-unique : goal.returns-clause-unique
returns-clause-unique c = λ ctx arena precede. AreTypes-unique ctx (value_at arena) (Precede-of arena precede)
