-- What arguments mean, one option after another: lemmas on `Means` of specs/Arguments.antt.
use Rattle.std.proofs.Common.{◌≡◌, ◌≢◌, ◌∙◌, ◌⊎◌, inl, inr, refl, sym, ap, subst, ℕ, List, ◌∷◌, length, get_or, Option, Some, None, arith}
use Rattle.std.specs.Prelude.{false, true}
use Rattle.naga_opt.specs.Arguments.{IsHelp, IsVersion, Meaning, Means, MeansTheSame, NamesInput, Sets, Takes, by_end, by_help, by_name, by_option, by_version, end_of_options, is_name, nothing_more}
use Rattle.naga_opt.specs.Task.{Chosen}
use Rattle.naga_opt.specs.declared.flag.Flag.{Flag}
use Rattle.naga_opt.proofs.OptionLemmas.{sets-once, takes-end, takes-help, takes-name, takes-once, takes-some, takes-version}

-- ---- an option at the front

-- the option at the front makes a choice, and the rest of the arguments means this after it
pub record AfterOption (f : Flag) (value : Option (List ℕ)) (before : Chosen) (rest : List (List ℕ)) (meant : Meaning) : Type 0 where
  pub after : Chosen
  pub sets : Sets f value before after
  pub means : Means after rest meant

-- the same for what is taken from the same arguments
moved : (f g : Flag) (value other : Option (List ℕ)) (rest left : List (List ℕ)) (before : Chosen) (meant : Meaning)
    → f ≡ g → value ≡ other → rest ≡ left → AfterOption g other before left meant → AfterOption f value before rest meant
moved f g value other rest left before meant same equal across after =
    subst (λ h. AfterOption h value before rest meant) (sym same)
    (subst (λ v. AfterOption g v before rest meant) (sym equal)
    (subst (λ r. AfterOption g other before r meant) (sym across) after))

after_option : (f : Flag) (value : Option (List ℕ)) (before : Chosen) (arguments rest : List (List ℕ)) (meant : Meaning)
    → Takes f value arguments rest → Means before arguments meant → AfterOption f value before rest meant
after_option f value before arguments rest meant takes nothing_more = absurd (takes-some takes refl)
after_option f value before arguments rest meant takes (by_option {f = g} {value = other} {after = after} {rest = left} also sets means) =
    let same = takes-once takes also in
    moved f g value other rest left before meant same.0 same.1 same.2 (record { after = after; sets = sets; means = means })
after_option f value before arguments rest meant takes (by_name {argument = argument} {rest = others} name none means) =
    let other = takes-name f value argument others rest takes in
    let bad : true ≡ false = sym name ∙ other in
    absurd (cc)
after_option f value before arguments rest meant takes (by_end {argument = argument} {names = names} is names-input) =
    absurd (takes-end f value argument names rest takes is)
after_option f value before arguments rest meant takes (by_help {argument = argument} {rest = others} help) =
    absurd (takes-help f value argument others rest takes help)
after_option f value before arguments rest meant takes (by_version {argument = argument} {rest = others} version) =
    absurd (takes-version f value argument others rest takes version)

-- after the choice of the option at the front, the rest of the arguments means the same
pub same-option : (f : Flag) (value : Option (List ℕ)) (before after : Chosen) (arguments rest : List (List ℕ))
    → Takes f value arguments rest → Sets f value before after → MeansTheSame before arguments after rest
same-option f value before after arguments rest takes sets meant = (
  λ means. (
      let then-means = after_option f value before arguments rest meant takes means in
      subst (λ chosen. Means chosen rest meant) (sets-once f value before then-means.after after then-means.sets sets) then-means.means
      ),
  λ means. by_option takes sets means,
)

-- arguments mean nothing if the option at their front makes no choice
pub nothing-option : (f : Flag) (value : Option (List ℕ)) (before : Chosen) (arguments rest : List (List ℕ)) (meant : Meaning)
    → Takes f value arguments rest → ((after : Chosen) → ¬ Sets f value before after) → ¬ Means before arguments meant
nothing-option f value before arguments rest meant takes none means =
    let then-means = after_option f value before arguments rest meant takes means in
    none then-means.after then-means.sets

-- ---- an argument that is no option

-- what arguments mean that begin with an argument that is neither an option nor one with a meaning of its own
module _ (before : Chosen) (argument : List ℕ)
    (no_help : ¬ IsHelp argument) (no_version : ¬ IsVersion argument) (no_end : argument ≢ end_of_options) where
  by_no_option : (rest : List (List ℕ)) (meant : Meaning)
      → ((f : Flag) (value : Option (List ℕ)) (left : List (List ℕ)) → ¬ Takes f value (argument ∷ rest) left)
      → Means before (argument ∷ rest) meant
      → (is_name argument ≡ true) × (before.input ≡ None) × Means (record before { input = Some argument }) rest meant
  by_no_option rest meant none (by_option {f = f} {value = value} {rest = left} takes sets means) = absurd (none f value left takes)
  by_no_option rest meant none (by_name name free means) = (name, free, means)
  by_no_option rest meant none (by_end is names) = absurd (no_end is)
  by_no_option rest meant none (by_help help) = absurd (no_help help)
  by_no_option rest meant none (by_version version) = absurd (no_version version)

  pub same-input : (rest : List (List ℕ))
      → ((f : Flag) (value : Option (List ℕ)) (left : List (List ℕ)) → ¬ Takes f value (argument ∷ rest) left)
      → is_name argument ≡ true → before.input ≡ None
      → MeansTheSame before (argument ∷ rest) (record before { input = Some argument }) rest
  same-input rest none name free meant = (
    λ means. (by_no_option rest meant none means).2,
    λ means. by_name name free means,
  )

  pub nothing-input : (rest : List (List ℕ)) (meant : Meaning)
      → ((f : Flag) (value : Option (List ℕ)) (left : List (List ℕ)) → ¬ Takes f value (argument ∷ rest) left)
      → (is_name argument ≡ false) ⊎ (before.input ≢ None)
      → ¬ Means before (argument ∷ rest) meant
  nothing-input rest meant none (inl other) means =
      let name = (by_no_option rest meant none means).0 in
      let bad : true ≡ false = sym name ∙ other in
      cc
  nothing-input rest meant none (inr some) means = some (by_no_option rest meant none means).1

-- ---- arguments after the end of options

-- no option begins with `--` alone
pub takes-no-end : (f : Flag) (value : Option (List ℕ)) (others rest : List (List ℕ)) → ¬ Takes f value (end_of_options ∷ others) rest
takes-no-end f value others rest takes = takes-end f value end_of_options others rest takes refl

-- what `--` and names mean
end-names : (before : Chosen) (argument : List ℕ) (names : List (List ℕ)) (meant : Meaning) → argument ≡ end_of_options
    → ¬ IsHelp argument → ¬ IsVersion argument → is_name argument ≡ false
    → Means before (argument ∷ names) meant → (after : Chosen) × NamesInput names before after
end-names before argument names meant is no_help no_version no_name (by_option {f = f} {value = value} {rest = left} takes sets means) =
    absurd (takes-end f value argument names left takes is)
end-names before argument names meant is no_help no_version no_name (by_name name free means) =
    let bad : true ≡ false = sym name ∙ no_name in
    absurd (cc)
end-names before argument names meant is no_help no_version no_name (by_end {after = after} at given) = (after, given)
end-names before argument names meant is no_help no_version no_name (by_help help) = absurd (no_help help)
end-names before argument names meant is no_help no_version no_name (by_version version) = absurd (no_version version)

pub no-help-end : ¬ IsHelp end_of_options
no-help-end (inl same) =
    let n : 2 ≡ 6 = ap length same in
    omega (arith, n)
no-help-end (inr same) =
    let n : 45 ≡ 104 = ap (λ text. get_or text 1 0) same in
    omega (arith, n)

pub no-version-end : ¬ IsVersion end_of_options
no-version-end (inl same) =
    let n : 2 ≡ 9 = ap length same in
    omega (arith, n)
no-version-end (inr same) =
    let n : 45 ≡ 86 = ap (λ text. get_or text 1 0) same in
    omega (arith, n)

module _ (before : Chosen) (names : List (List ℕ)) (meant : Meaning) where
  -- names that can't be given mean nothing
  pub nothing-names : ((after : Chosen) → ¬ NamesInput names before after) → ¬ Means before (end_of_options ∷ names) meant
  nothing-names none means =
      let given = end-names before end_of_options names meant refl no-help-end no-version-end refl means in
      none given.0 given.1
