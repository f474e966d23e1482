use Rattle.std.proofs.Common.{◌≡◌, ◌∙◌, inl, inr, rules, subst, sym}
use Rattle.std.specs.Prelude.{codes}
use Rattle.naga_opt.specs.Arguments.{Means, by_end, by_help, by_version, choice, help, nothing_more, version}
use Rattle.naga_opt.specs.Task.{chosen_of}
use Rattle.naga_opt.proofs.ChoicesLemmas.{texts_of-first, texts_of-none}
use Rattle.naga_opt.proofs.arguments.select.Goals as goal

pub returns-in-text-clause-some : goal.returns-in-text-clause-some
returns-in-text-clause-some c =
    let is : c.as_str.result.now ≡ codes "--help" = search rules in
    let first = texts_of-first c.left.left.now c.argument-item.result c.in-len1-up.len_at_least c.argument-item.is in
    (c.left.invariant help).1 (subst (λ left. Means (chosen_of c.left.task) left help) (sym first) (by_help (inl (sym c.as_str.ensures.value ∙ is))))

pub returns-in-text-2-clause-some : goal.returns-in-text-2-clause-some
returns-in-text-2-clause-some c =
    let is : c.as_str.result.now ≡ codes "-h" = search rules in
    let first = texts_of-first c.left.left.now c.argument-item.result c.in-len1-up.len_at_least c.argument-item.is in
    (c.left.invariant help).1 (subst (λ left. Means (chosen_of c.left.task) left help) (sym first) (by_help (inr (sym c.as_str.ensures.value ∙ is))))

pub returns-in-text-3-clause-some : goal.returns-in-text-3-clause-some
returns-in-text-3-clause-some c =
    let is : c.as_str.result.now ≡ codes "--version" = search rules in
    let first = texts_of-first c.left.left.now c.argument-item.result c.in-len1-up.len_at_least c.argument-item.is in
    (c.left.invariant version).1 (subst (λ left. Means (chosen_of c.left.task) left version) (sym first) (by_version (inl (sym c.as_str.ensures.value ∙ is))))

pub returns-in-text-4-clause-some : goal.returns-in-text-4-clause-some
returns-in-text-4-clause-some c =
    let is : c.as_str.result.now ≡ codes "-V" = search rules in
    let first = texts_of-first c.left.left.now c.argument-item.result c.in-len1-up.len_at_least c.argument-item.is in
    (c.left.invariant version).1 (subst (λ left. Means (chosen_of c.left.task) left version) (sym first) (by_version (inr (sym c.as_str.ensures.value ∙ is))))

pub returns-in-Ok-clause-some : goal.returns-in-Ok-clause-some
returns-in-Ok-clause-some c =
    let is : c.as_str.result.now ≡ codes "--" = search rules in
    let first = texts_of-first c.left.left.now c.argument-item.result c.in-len1-up.len_at_least c.argument-item.is in
    let meant = choice (chosen_of c.choose_names.new.task) in
    (c.left.invariant meant).1
    (subst (λ left. Means (chosen_of c.left.task) left meant) (sym first) (by_end (sym c.as_str.ensures.value ∙ is) c.in-Ok.ensures.chosen))

pub returns-clause-some : goal.returns-clause-some
returns-clause-some c =
    let meant = choice (chosen_of c.left.task) in
    (c.left.invariant meant).1 (subst (λ left. Means (chosen_of c.left.task) left meant) (sym (texts_of-none c.left.left.now c.in_default.len_below)) nothing_more)
