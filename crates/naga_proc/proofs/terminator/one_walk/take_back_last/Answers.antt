use Rattle.std.proofs.Common.{◌∙◌, sym, ◌-◌, [], arith}
use Rattle.std.proofs.lemmas.List.{append-nil}
use Rattle.std.specs.Prelude.{option_to_list}
use Rattle.naga_ir.specs.Block.{pairs}
use Rattle.naga_ir.specs.View.{tree_of}
use Rattle.naga_proc.proofs.Closing.TakesBackLemmas.{TakesBack-shut}
use Rattle.naga_proc.proofs.Closing.TakesBackTreeOfLemmas.{TakesBack-pop}
use Rattle.naga_proc.proofs.terminator.one_walk.take_back_last.Goals as goal

pub returns-then-ends_in_return-clause-takes : goal.returns-then-ends_in_return-clause-takes
returns-then-ends_in_return-clause-takes c = λ d rest h.
    TakesBack-pop c.args.left.now (c.args.left.now - 1) c.args.block.now c.pop.new.self c.pop.result d rest (omega (arith, c.requires)) (sym c.ends_in_return.ensures ∙ c.if-ends_in_return.true) c.pop.ensures.some.1 c.pop.ensures.pairs h

pub returns-then-ends_in_return-clause-front : goal.returns-then-ends_in_return-clause-front
returns-then-ends_in_return-clause-front c = (option_to_list c.pop.result, c.pop.ensures.pairs)

pub returns-else-ends_in_return-clause-takes : goal.returns-else-ends_in_return-clause-takes
returns-else-ends_in_return-clause-takes c = λ d rest h.
    TakesBack-shut c.args.left.now (tree_of c.args.block.now) d rest (sym c.ends_in_return.ensures ∙ c.if-ends_in_return.false) h

pub returns-else-ends_in_return-clause-front : goal.returns-else-ends_in_return-clause-front
returns-else-ends_in_return-clause-front c = ([], sym (append-nil (pairs c.args.block.now)))
