use Rattle.std.proofs.Common.{◌≡◌, ◌∷◌, ◌-◌, [], drop, false, length, rules, subst, sym, take, true}
use Rattle.std.specs.Prelude.{is_some, string_bytes}
use Rattle.naga_opt.specs.Arguments.{MayFailToChoose, NamesFault, end_of_options, texts_of}
use Rattle.naga_opt.specs.Task.{chosen_of}
use Rattle.naga_opt.specs.declared.report.ArgumentFault.TheVariants.{Unexpected}
use Rattle.naga_opt.proofs.ChoicesLemmas.{IsUnexpected-first, IsUnexpected-second, bytes_of-none, bytes_of-some, texts_of-first, unexpected-fault}
use Rattle.naga_opt.proofs.choices.choose_names.Goals as goal

pub returns-then-is_some-clause-fault : goal.returns-then-is_some-clause-fault
returns-then-is_some-clause-fault c =
    let before = chosen_of c.args.task.now in
    let left = texts_of (take (length c.args.names.now - 1) (drop 1 c.args.names.now)) in
    let name = string_bytes c.name-item.result in
    let some : is_some c.args.task.now.input ≡ true = search rules in
    let first = texts_of-first c.args.names.now c.name-item.result c.in-len1-up.len_at_least c.name-item.is in
    let named = subst (λ text. NamesFault Unexpected text c.unexpected.result) c.as_str.ensures.value c.unexpected.ensures in
    subst (λ names. MayFailToChoose before (end_of_options ∷ names) c.unexpected.result) (sym first)
    (unexpected-fault before (end_of_options ∷ []) name left c.unexpected.result named (IsUnexpected-first before name (bytes_of-some c.args.task.now.input some)))

pub returns-in-len1-up-others-clause-fault : goal.returns-in-len1-up-others-clause-fault
returns-in-len1-up-others-clause-fault c =
    let before = chosen_of c.args.task.now in
    let others = take (length c.args.names.now - 1) (drop 1 c.args.names.now) in
    let left = texts_of (take (length others - 1) (drop 1 others)) in
    let name = string_bytes c.name-item.result in
    let another = string_bytes c.another-item.result in
    let none : is_some c.args.task.now.input ≡ false = search rules in
    let first = texts_of-first c.args.names.now c.name-item.result c.in-len1-up.len_at_least c.name-item.is in
    let second = texts_of-first others c.another-item.result c.in-len1-up-others.len_at_least c.another-item.is in
    let fault = c.unexpected-in-len1-up-others.result in
    let named = subst (λ text. NamesFault Unexpected text fault) c.as_str-in-len1-up-others.ensures.value c.unexpected-in-len1-up-others.ensures in
    subst (λ names. MayFailToChoose before (end_of_options ∷ names) fault) (sym first)
    (subst (λ names. MayFailToChoose before (end_of_options ∷ name ∷ names) fault) (sym second)
    (unexpected-fault before (end_of_options ∷ name ∷ []) another left fault named
    (IsUnexpected-second before name another (bytes_of-none c.args.task.now.input none))))
