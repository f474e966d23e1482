use Rattle.naga_typing.proofs.stage.check_body.Goals as goal

pub returns-in-Ok : goal.returns-in-Ok
returns-in-Ok c = (c.requires, c.in-Ok.ensures)

pub returns-in-Err : goal.returns-in-Err
returns-in-Err c = (c.requires, c.in-Err.ensures, c.found-found.ensures)
