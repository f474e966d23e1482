use Rattle.std.proofs.Common.{◌∙◌, ap, sym, None}
use Rattle.std.specs.Prelude.{Some}
use Rattle.naga_text.specs.Counterparts.{is_return}
use Rattle.naga_text.proofs.CounterpartsLemmas.{node-found}
use Rattle.naga_text.proofs.counterpart.is_return_at.Goals as goal

pub returns-in-Some : goal.returns-in-Some
returns-in-Some c =
    c.is_return.ensures
    ∙ sym (ap is_return (node-found c.args.block.now c.args.position (Some c.in-Some.statement.now) c.in-Some.ensures))

pub returns-in-None : goal.returns-in-None
returns-in-None c = sym (ap is_return (node-found c.args.block.now c.args.position None c.in-None.ensures))
