use Rattle.std.proofs.Common.{◌≡◌, ◌∷◌, None, false, refl, rules}
use Rattle.naga_opt.specs.Arguments.{alone, flag_text, has_value, texts_of}
use Rattle.naga_opt.specs.Task.{chosen_of}
use Rattle.naga_opt.proofs.ChoicesLemmas.{option-fault}
use Rattle.naga_opt.proofs.MeansLemmas.{same-option}
use Rattle.naga_opt.proofs.choices.choose_flag.Goals as goal

pub returns-in-Ok-clause-chosen : goal.returns-in-Ok-clause-chosen
returns-in-Ok-clause-chosen c =
    let none : has_value c.args.flag ≡ false = search rules in
    let rest = texts_of c.args.rest.now in
    same-option c.args.flag None (chosen_of c.args.task.now) (chosen_of c.set_alone.new.task) (flag_text c.args.flag ∷ rest) rest (alone refl none) c.in-Ok.ensures.set

pub returns-in-Err-clause-fault : goal.returns-in-Err-clause-fault
returns-in-Err-clause-fault c =
    let none : has_value c.args.flag ≡ false = search rules in
    let rest = texts_of c.args.rest.now in
    option-fault c.args.flag None (chosen_of c.args.task.now) (flag_text c.args.flag ∷ rest) rest (alone refl none) c.in-Err.fault c.in-Err.ensures.fault
