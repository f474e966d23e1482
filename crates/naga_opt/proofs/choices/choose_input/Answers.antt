use Rattle.std.proofs.Common.{◌≡◌, ◌∷◌, ◌∙◌, [], Some, false, inl, inr, rules, subst, sym, true}
use Rattle.std.specs.Prelude.{is_some}
use Rattle.naga_opt.specs.Arguments.{MeansTheSame, is_name}
use Rattle.naga_opt.specs.Task.{chosen_of}
use Rattle.naga_opt.proofs.ChoicesLemmas.{IsUnexpected-front, bytes_of-none, bytes_of-some, no-takes, unexpected-fault}
use Rattle.naga_opt.proofs.MeansLemmas.{same-input}
use Rattle.naga_opt.proofs.choices.choose_input.Goals.{then-is_some-via-then-is_some, then-is_some-via-else-is_some+then-not-is_name}
use Rattle.naga_opt.proofs.choices.choose_input.Goals as goal

pub returns-then-is_some-clause-fault : goal.returns-then-is_some-clause-fault
returns-then-is_some-clause-fault c rest =
    let before = chosen_of c.args.task.now in
    let argument = c.args.argument.now in
    unexpected-fault before [] argument rest c.unexpected.result c.unexpected.ensures
    (IsUnexpected-front before argument c.requires.no_flag c.requires.not_joined c.requires.help c.requires.version c.requires.not_end
    (elim c.then-is_some.branch [
      | then-is_some-via-then-is_some w ↦ inr (bytes_of-some c.args.task.now.input (sym c.is_some.ensures ∙ w.if-is_some.true))
      | then-is_some-via-else-is_some+then-not-is_name w ↦ inl (sym w.is_name.ensures ∙ w.if-not-is_name.true)
    ]))

pub returns-in-Ok-clause-chosen : goal.returns-in-Ok-clause-chosen
returns-in-Ok-clause-chosen c rest =
    let before = chosen_of c.args.task.now in
    let argument = c.args.argument.now in
    let none : is_some c.args.task.now.input ≡ false = search rules in
    let name : is_name argument ≡ true = search rules in
    subst (λ text. MeansTheSame before (argument ∷ rest) (record before { input = Some text }) rest) (sym c.in-Ok.ensures.ok)
    (same-input before argument c.requires.help c.requires.version c.requires.not_end rest
    (λ f value left. no-takes f value argument rest left c.requires.no_flag c.requires.not_joined) name (bytes_of-none c.args.task.now.input none))
