use Rattle.std.proofs.Common.{◌∙◌, sym}
use Rattle.naga_proc.proofs.Closing.TakesBackTreeOfLemmas.{ends_in_return-last, ends_in_return-no_last}
use Rattle.naga_proc.proofs.terminator.one_walk.ends_in_return.Goals as goal

pub returns-in-Some : goal.returns-in-Some
returns-in-Some c =
    c.is_return.ensures ∙ ends_in_return-last c.args.block.now c.in-Some.last.now (sym c.in-Some.ensures)

pub returns-in-None : goal.returns-in-None
returns-in-None c = ends_in_return-no_last c.args.block.now (sym c.in-None.ensures)
