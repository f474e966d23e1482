use Rattle.naga_typing.proofs.laws.bodies.types_do_not_depend_on_bodies.Goals as goal

pub returns : goal.returns
returns c = λ whole inside body types have. have
