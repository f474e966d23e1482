-- Arguments mean at most one thing: lemmas on `Means` of specs/Arguments.antt.
use Rattle.std.proofs.Common.{◌≡◌, ◌≢◌, ◌∙◌, inl, inr, refl, sym, ap, ℕ, List, [], ◌∷◌, length, get_or, Option, Some, arith}
use Rattle.std.specs.Prelude.{false, true}
use Rattle.naga_opt.specs.Arguments.{IsHelp, IsVersion, Meaning, Means, NamesInput, by_end, by_help, by_name, by_option, by_version, choice, end_of_options, help, is_name, nothing_more, version}
use Rattle.naga_opt.specs.Task.{Chosen}
use Rattle.naga_opt.proofs.MeansLemmas.{no-help-end, no-version-end, same-option}
use Rattle.naga_opt.proofs.OptionLemmas.{takes-end, takes-help, takes-name, takes-some, takes-version}

-- ---- arguments that are no names

help-name : (argument : List ℕ) → IsHelp argument → is_name argument ≢ true
help-name argument (inl is) name = let bad : false ≡ true = sym (ap is_name is) ∙ name in cc
help-name argument (inr is) name = let bad : false ≡ true = sym (ap is_name is) ∙ name in cc

version-name : (argument : List ℕ) → IsVersion argument → is_name argument ≢ true
version-name argument (inl is) name = let bad : false ≡ true = sym (ap is_name is) ∙ name in cc
version-name argument (inr is) name = let bad : false ≡ true = sym (ap is_name is) ∙ name in cc

end-name : (argument : List ℕ) → argument ≡ end_of_options → is_name argument ≢ true
end-name argument is name = let bad : false ≡ true = sym (ap is_name is) ∙ name in cc

-- their lengths differ, or a byte
help-version : (argument : List ℕ) → IsHelp argument → ¬ IsVersion argument
help-version argument (inl is) (inl other) = let n : 6 ≡ 9 = ap length (sym is ∙ other) in omega (arith, n)
help-version argument (inl is) (inr other) = let n : 6 ≡ 2 = ap length (sym is ∙ other) in omega (arith, n)
help-version argument (inr is) (inl other) = let n : 2 ≡ 9 = ap length (sym is ∙ other) in omega (arith, n)
help-version argument (inr is) (inr other) = let n : 104 ≡ 86 = ap (λ text. get_or text 1 0) (sym is ∙ other) in omega (arith, n)

end-help : (argument : List ℕ) → argument ≡ end_of_options → ¬ IsHelp argument
end-help argument is (inl same) = no-help-end (inl (sym is ∙ same))
end-help argument is (inr same) = no-help-end (inr (sym is ∙ same))

end-version : (argument : List ℕ) → argument ≡ end_of_options → ¬ IsVersion argument
end-version argument is (inl same) = no-version-end (inl (sym is ∙ same))
end-version argument is (inr same) = no-version-end (inr (sym is ∙ same))

-- ---- the names behind `--`

NamesInput-once : (names : List (List ℕ)) (before after other : Chosen) → NamesInput names before after → NamesInput names before other → after ≡ other
NamesInput-once [] before after other is also = is ∙ sym also
NamesInput-once (name ∷ []) before after other is also = is.1 ∙ sym also.1
NamesInput-once (name ∷ another ∷ names) before after other is also = absurd is

-- ---- what arguments mean, by their first one

by-nothing : (before : Chosen) (meant : Meaning) → Means before [] meant → choice before ≡ meant
by-nothing before meant nothing_more = refl
by-nothing before meant (by_option takes sets means) = absurd (takes-some takes refl)

module _ (before : Chosen) (argument : List ℕ) where
  by-name : (rest : List (List ℕ)) (meant : Meaning) → is_name argument ≡ true → Means before (argument ∷ rest) meant → Means (record before { input = Some argument }) rest meant
  by-name rest meant name (by_option {f = f} {value = value} {rest = left} takes sets means) =
      let bad : false ≡ true = sym (takes-name f value argument rest left takes) ∙ name in absurd (cc)
  by-name rest meant name (by_name also free means) = means
  by-name rest meant name (by_end is names) = absurd (end-name argument is name)
  by-name rest meant name (by_help is) = absurd (help-name argument is name)
  by-name rest meant name (by_version is) = absurd (version-name argument is name)

  by-end : (rest : List (List ℕ)) (meant : Meaning) → argument ≡ end_of_options → Means before (argument ∷ rest) meant → (after : Chosen) × NamesInput rest before after × (choice after ≡ meant)
  by-end rest meant is (by_option {f = f} {value = value} {rest = left} takes sets means) = absurd (takes-end f value argument rest left takes is)
  by-end rest meant is (by_name name free means) = absurd (end-name argument is name)
  by-end rest meant is (by_end {after = after} also names) = (after, names, refl)
  by-end rest meant is (by_help asks) = absurd (end-help argument is asks)
  by-end rest meant is (by_version asks) = absurd (end-version argument is asks)

  by-help : (rest : List (List ℕ)) (meant : Meaning) → IsHelp argument → Means before (argument ∷ rest) meant → help ≡ meant
  by-help rest meant asks (by_option {f = f} {value = value} {rest = left} takes sets means) = absurd (takes-help f value argument rest left takes asks)
  by-help rest meant asks (by_name name free means) = absurd (help-name argument asks name)
  by-help rest meant asks (by_end is names) = absurd (end-help argument is asks)
  by-help rest meant asks (by_help also) = refl
  by-help rest meant asks (by_version also) = absurd (help-version argument asks also)

  by-version : (rest : List (List ℕ)) (meant : Meaning) → IsVersion argument → Means before (argument ∷ rest) meant → version ≡ meant
  by-version rest meant asks (by_option {f = f} {value = value} {rest = left} takes sets means) = absurd (takes-version f value argument rest left takes asks)
  by-version rest meant asks (by_name name free means) = absurd (version-name argument asks name)
  by-version rest meant asks (by_end is names) = absurd (end-version argument is asks)
  by-version rest meant asks (by_help also) = absurd (help-version argument also asks)
  by-version rest meant asks (by_version also) = refl

-- ---- what arguments mean

pub Means-once : {before : Chosen} {arguments : List (List ℕ)} {meant other : Meaning}
    → Means before arguments meant → Means before arguments other → meant ≡ other
Means-once {before = before} {other = other} nothing_more also = by-nothing before other also
Means-once {before = before} {other = other} (by_option {f = f} {value = value} {after = after} {arguments = arguments} {rest = rest} takes sets means) also =
    Means-once means ((same-option f value before after arguments rest takes sets other).0 also)
Means-once {before = before} {other = other} (by_name {argument = argument} {rest = rest} name free means) also =
    Means-once means (by-name before argument rest other name also)
Means-once {before = before} {other = other} (by_end {after = after} {argument = argument} {names = names} is given) also =
    let then = by-end before argument names other is also in
    ap choice (NamesInput-once names before after then.0 given then.1) ∙ then.2
Means-once {before = before} {other = other} (by_help {argument = argument} {rest = rest} asks) also = by-help before argument rest other asks also
Means-once {before = before} {other = other} (by_version {argument = argument} {rest = rest} asks) also = by-version before argument rest other asks also
