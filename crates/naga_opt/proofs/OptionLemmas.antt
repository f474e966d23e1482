-- What an option at the front of the arguments is, and what it chooses: lemmas on `Takes` and `Sets` of
-- specs/Arguments.antt.
use Rattle.std.proofs.Common.{◌≡◌, ◌≢◌, ◌∙◌, refl, sym, ap, subst, ℕ, List, [], ◌∷◌, Option, Some, None}
use Rattle.std.specs.Prelude.{false, true}
use Rattle.naga_passes.proofs.ListsLemmas.{Lists-one}
use Rattle.naga_passes.specs.declared.pass.Pass.{Pass}
use Rattle.naga_look.specs.declared.shown.Extent.{Extent}
use Rattle.naga_look.specs.declared.shown.Extent.TheVariants.{Full, Short}
use Rattle.naga_look.specs.declared.shown.Format.{Format}
use Rattle.naga_look.specs.declared.shown.Format.TheVariants.{Lines, Json}
use Rattle.naga_look.specs.declared.shown.View.{View}
use Rattle.naga_look.specs.declared.shown.View.TheVariants as view
use Rattle.naga_opt.specs.Arguments.{IsHelp, IsVersion, Sets, Takes, alone, apart, end_of_options, flag_text, has_value, is_name, joined}
use Rattle.naga_opt.specs.Task.{Chosen, listed}
use Rattle.naga_opt.specs.declared.flag.Flag.{Flag}
use Rattle.naga_opt.specs.declared.flag.Flag.TheVariants as flag
use Rattle.naga_opt.proofs.FlagLemmas.{flag_text-end, flag_text-help, flag_text-injective, flag_text-version, is_name-flag, is_name-joined, joined-end, joined-flag, joined-help, joined-once, joined-version}

-- ---- the option at the front

-- what is taken from the arguments
abbrev pub Taken : Type 0
Taken = Flag × Option (List ℕ) × List (List ℕ)

two-flags : (f g : Flag) (argument : List ℕ) → argument ≡ flag_text f → argument ≡ flag_text g → f ≡ g
two-flags f g argument first second = flag_text-injective f g (sym first ∙ second)

-- one option has a value and another one has none
valued-apart : (f g : Flag) → f ≡ g → has_value f ≡ false → has_value g ≡ true → ⊥
valued-apart f g same none some =
    let across : has_value f ≡ has_value g = ap has_value same in
    cc

-- the arguments begin with one option
pub takes-once : {f g : Flag} {value other : Option (List ℕ)} {arguments rest left : List (List ℕ)}
    → Takes f value arguments rest → Takes g other arguments left
    → (f ≡ g) × (value ≡ other) × (rest ≡ left)
takes-once {f = f} {g = g} (alone {argument = argument} is none) (alone also none2) = (two-flags f g argument is also, refl, refl)
takes-once {f = f} {g = g} (alone {argument = argument} is none) (apart also some) =
    absurd (valued-apart f g (two-flags f g argument is also) none some)
takes-once {f = f} {g = g} (alone {argument = argument} is none) (joined {value = v} also) = absurd (joined-flag g f argument v also is)
takes-once {f = f} {g = g} (apart {argument = argument} is some) (alone also none) =
    absurd (valued-apart g f (two-flags g f argument also is) none some)
takes-once {f = f} {g = g} (apart {argument = argument} is some) (apart also some2) = (two-flags f g argument is also, refl, refl)
takes-once {f = f} {g = g} (apart {argument = argument} is some) (joined {value = v} also) = absurd (joined-flag g f argument v also is)
takes-once {f = f} {g = g} (joined {argument = argument} {value = v} is) (alone also none) = absurd (joined-flag f g argument v is also)
takes-once {f = f} {g = g} (joined {argument = argument} {value = v} is) (apart also some) = absurd (joined-flag f g argument v is also)
takes-once {f = f} {g = g} (joined {argument = argument} {value = v} is) (joined {value = w} also) =
    let same = joined-once f g argument v w is also in
    (same.0, ap (λ value. Some value) same.1, refl)

-- the arguments are not empty
pub takes-some : {f : Flag} {value : Option (List ℕ)} {arguments rest : List (List ℕ)} → Takes f value arguments rest → arguments ≢ []
takes-some (alone is none) same = cc
takes-some (apart is some) same = cc
takes-some (joined is) same = cc

-- the first argument is neither the name of a file nor one of those with another meaning
pub takes-name : (f : Flag) (value : Option (List ℕ)) (argument : List ℕ) (others rest : List (List ℕ)) → Takes f value (argument ∷ others) rest → is_name argument ≡ false
takes-name f value argument others rest (alone is none) = ap is_name is ∙ is_name-flag f
takes-name f value argument others rest (apart is some) = ap is_name is ∙ is_name-flag f
takes-name f value argument others rest (joined {value = v} is) = is_name-joined f argument v is

pub takes-help : (f : Flag) (value : Option (List ℕ)) (argument : List ℕ) (others rest : List (List ℕ)) → Takes f value (argument ∷ others) rest → ¬ IsHelp argument
takes-help f value argument others rest (alone is none) help = flag_text-help f (subst IsHelp is help)
takes-help f value argument others rest (apart is some) help = flag_text-help f (subst IsHelp is help)
takes-help f value argument others rest (joined {value = v} is) help = joined-help f argument v is help

pub takes-version : (f : Flag) (value : Option (List ℕ)) (argument : List ℕ) (others rest : List (List ℕ)) → Takes f value (argument ∷ others) rest → ¬ IsVersion argument
takes-version f value argument others rest (alone is none) version = flag_text-version f (subst IsVersion is version)
takes-version f value argument others rest (apart is some) version = flag_text-version f (subst IsVersion is version)
takes-version f value argument others rest (joined {value = v} is) version = joined-version f argument v is version

pub takes-end : (f : Flag) (value : Option (List ℕ)) (argument : List ℕ) (others rest : List (List ℕ)) → Takes f value (argument ∷ others) rest → argument ≢ end_of_options
takes-end f value argument others rest (alone is none) same = flag_text-end f (sym is ∙ same)
takes-end f value argument others rest (apart is some) same = flag_text-end f (sym is ∙ same)
takes-end f value argument others rest (joined {value = v} is) same = joined-end f argument v is same

-- ---- what an option chooses

-- the format and the extent of a report
abbrev report_format : Option View → Format
report_format (Some (view.Report extent format)) = format
report_format shown = Lines

abbrev report_extent : Option View → Extent
report_extent (Some (view.Report extent format)) = extent
report_extent shown = Short

-- an option with a value makes one choice
pub sets-once : (f : Flag) (value : Option (List ℕ)) (before after other : Chosen) → Sets f value before after → Sets f value before other → after ≡ other
sets-once flag.Passes (Some list) before after other first second =
    first.1.2 ∙ (ap (λ (passes : List Pass). record before { passes = Some (listed passes) }) (Lists-one second.1.0 first.1.0 list second.1.1 first.1.1) ∙ sym second.1.2)
sets-once flag.Passes None before after other first second = absurd first
sets-once flag.Old None before after other first second = first.1 ∙ sym second.1
sets-once flag.Old (Some value) before after other first second = absurd first
sets-once flag.Output (Some name) before after other first second = first.1 ∙ sym second.1
sets-once flag.Output None before after other first second = absurd first
sets-once flag.ShortOutput (Some name) before after other first second = first.1 ∙ sym second.1
sets-once flag.ShortOutput None before after other first second = absurd first
sets-once flag.Check None before after other first second = first.1 ∙ sym second.1
sets-once flag.All None before after other first second =
    let same : first.0 ≡ second.0 = ap report_format (sym first.1 ∙ second.1) in
    first.2 ∙ (ap (λ (format : Format). record before { view = Some (view.Report Full format) }) same ∙ sym second.2)
sets-once flag.Json None before after other first second =
    let same : first.0 ≡ second.0 = ap report_extent (sym first.1 ∙ second.1) in
    first.2 ∙ (ap (λ (extent : Extent). record before { view = Some (view.Report extent Json) }) same ∙ sym second.2)
sets-once flag.Check (Some value) before after other first second = absurd first
sets-once flag.All (Some value) before after other first second = absurd first
sets-once flag.Json (Some value) before after other first second = absurd first
sets-once flag.Text None before after other first second = first.1 ∙ sym second.1
sets-once flag.Text (Some value) before after other first second = absurd first
sets-once flag.Dot None before after other first second = first.1 ∙ sym second.1
sets-once flag.Dot (Some value) before after other first second = absurd first
sets-once flag.Stats None before after other first second = first.1 ∙ sym second.1
sets-once flag.Stats (Some value) before after other first second = absurd first
