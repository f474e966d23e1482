use Rattle.std.proofs.Common.{◌∙◌, ap, sym, None}
use Rattle.std.specs.Prelude.{Some}
use Rattle.naga_text.specs.Counterparts.{block_at}
use Rattle.naga_text.proofs.CounterpartsLemmas.{node-found}
use Rattle.naga_text.proofs.counterpart.block_at.Goals as goal

pub returns-in-Some : goal.returns-in-Some
returns-in-Some c =
    c.block_of.ensures
    ∙ sym (ap (λ node. block_at node c.args.index) (node-found c.args.block.now c.args.position (Some c.in-Some.statement.now) c.in-Some.ensures))

pub returns-in-None : goal.returns-in-None
returns-in-None c =
    sym (ap (λ node. block_at node c.args.index) (node-found c.args.block.now c.args.position None c.in-None.ensures))
