use Rattle.std.proofs.Common.{◌∷◌, ◌-◌, Some, drop, length, refl, subst, sym, take}
use Rattle.std.specs.Prelude.{string_bytes}
use Rattle.naga_opt.specs.Arguments.{MayFailToChoose, MeansTheSame, MayFailToSet, Sets, apart, flag_text, texts_of}
use Rattle.naga_opt.specs.Task.{chosen_of}
use Rattle.naga_opt.proofs.ChoicesLemmas.{no-value-fault, option-fault, texts_of-first}
use Rattle.naga_opt.proofs.MeansLemmas.{same-option}
use Rattle.naga_opt.proofs.choices.choose_valued.Goals as goal

pub returns-in_default-clause-fault : goal.returns-in_default-clause-fault
returns-in_default-clause-fault c =
    no-value-fault c.args.flag (chosen_of c.args.task.now) c.args.rest.now c.in_default.len_below c.requires

pub returns-in-Ok-clause-chosen : goal.returns-in-Ok-clause-chosen
returns-in-Ok-clause-chosen c =
    let now = chosen_of c.set_value.new.task in
    let before = chosen_of c.args.task.now in
    let left = texts_of (take (length c.args.rest.now - 1) (drop 1 c.args.rest.now)) in
    let value = string_bytes c.value-item.result in
    let first = texts_of-first c.args.rest.now c.value-item.result c.in-len1-up.len_at_least c.value-item.is in
    subst (λ rest. MeansTheSame before (flag_text c.args.flag ∷ rest) now left) (sym first)
    (same-option c.args.flag (Some value) before now (flag_text c.args.flag ∷ value ∷ left) left (apart refl c.requires)
    (subst (λ text. Sets c.args.flag (Some text) before now) c.as_str.ensures.value c.in-Ok.ensures.set))

pub returns-in-Err-clause-fault : goal.returns-in-Err-clause-fault
returns-in-Err-clause-fault c =
    let before = chosen_of c.args.task.now in
    let left = texts_of (take (length c.args.rest.now - 1) (drop 1 c.args.rest.now)) in
    let value = string_bytes c.value-item.result in
    let first = texts_of-first c.args.rest.now c.value-item.result c.in-len1-up.len_at_least c.value-item.is in
    subst (λ rest. MayFailToChoose before (flag_text c.args.flag ∷ rest) c.in-Err.fault) (sym first)
    (option-fault c.args.flag (Some value) before (flag_text c.args.flag ∷ value ∷ left) left (apart refl c.requires) c.in-Err.fault
    (subst (λ text. MayFailToSet c.args.flag (Some text) before c.in-Err.fault) c.as_str.ensures.value c.in-Err.ensures.fault))
