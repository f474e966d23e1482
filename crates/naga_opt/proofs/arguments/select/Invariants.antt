use Rattle.std.proofs.Common.{length}
use Rattle.naga_opt.specs.Arguments.{MeansTheSame, texts_of}
use Rattle.naga_opt.specs.Task.{chosen_of, nothing_chosen}
use Rattle.naga_opt.proofs.arguments.select.Given as goal

-- what is left means the same after the choices that were made
abbrev pub invariant-left : goal.invariant-left
invariant-left l = MeansTheSame nothing_chosen (texts_of l.fn.arguments) (chosen_of l.task) (texts_of l.left)

abbrev pub decreases-left : goal.decreases-left
decreases-left l = length l.left
