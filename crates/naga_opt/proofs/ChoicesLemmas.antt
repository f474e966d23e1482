-- The choices of options, in terms of what the code sees: lemmas on specs/Arguments.antt.
use Rattle.std.proofs.Common.{◌≡◌, ◌≢◌, ◌⊎◌, ◌∙◌, inl, inr, refl, sym, ap, subst, ℕ, ◌-◌, ◌<◌, ◌≤◌, List, [], ◌∷◌, ◌++◌, length, take, drop, slice_index_or, Option, Some, None, arith}
use Rattle.std.proofs.lemmas.List.{take_all}
use Rattle.std.specs.Prelude.{false, true, is_some, String, string_bytes}
use Rattle.std.specs.declared.alloc.Global.{Global}
use Rattle.naga_passes.proofs.ListsLemmas.{Lists-known}
use Rattle.naga_look.specs.declared.shown.Extent.TheVariants.{Full, Short}
use Rattle.naga_look.specs.declared.shown.Format.TheVariants.{Lines, Json}
use Rattle.naga_look.specs.declared.shown.View.{View}
use Rattle.naga_look.specs.declared.shown.View.TheVariants as view
use Rattle.naga_opt.specs.Arguments.{ChooseSame, HasNoReport, IsHelp, IsJoined, IsMisused, IsOfPasses, IsOfReport, IsOfView, IsUnexpected, IsVersion, Made, MayFailToChoose, MayFailToSelect, MayFailToSet, Meaning, Means, MeansTheSame, NamesFault, NamesInput, Sets, Takes, alone, apart, by_end, choice, end_of_options, flag_of, flag_text, has_value, is_name, joined, meaning_of, nothing_more, texts_of}
use Rattle.naga_opt.specs.Task.{Chosen, bytes_of, nothing_chosen}
use Rattle.naga_opt.specs.declared.flag.Flag.{Flag}
use Rattle.naga_opt.specs.declared.flag.Flag.TheVariants as flag
use Rattle.naga_opt.specs.declared.report.ArgumentFault.TheVariants as wrong
use Rattle.naga_opt.specs.declared.report.ProgramFault.{ProgramFault}
use Rattle.naga_opt.specs.declared.report.ProgramFault.TheVariants.{Arguments, NotUtf8, Input, Output, Unread, Unrestricted, Unwritten, Memory}
use Rattle.naga_opt.proofs.FlagLemmas.{flag_text-end, flag_text-help, flag_text-injective, flag_text-version, is_name-flag, joined-flag}
use Rattle.naga_opt.proofs.MeansLemmas.{nothing-input, nothing-names, nothing-option, takes-no-end}

-- ---- arguments as texts

-- the first argument, and what follows it
pub texts_of-first : (arguments : List (String Global)) (first : String Global) → 1 ≤ length arguments → first ≡ slice_index_or arguments 0 first
    → texts_of arguments ≡ string_bytes first ∷ texts_of (take (length arguments - 1) (drop 1 arguments))
texts_of-first [] first some is = absurd (omega arith)
texts_of-first (argument ∷ arguments) first some is =
    let all : take (length (argument ∷ arguments) - 1) arguments ≡ arguments =
    take_all (length (argument ∷ arguments) - 1) arguments (omega arith) in
    λ i. string_bytes (sym is i) ∷ texts_of (sym all i)

-- no arguments
pub texts_of-none : (arguments : List (String Global)) → length arguments < 1 → texts_of arguments ≡ []
texts_of-none [] none = refl
texts_of-none (argument ∷ arguments) none = absurd (omega arith)

-- ---- what is chosen already

pub bytes_of-some : (name : Option (String Global)) → is_some name ≡ true → bytes_of name ≢ None
bytes_of-some (Some text) some same = cc
bytes_of-some None some same = cc

pub bytes_of-none : (name : Option (String Global)) → is_some name ≡ false → bytes_of name ≡ None
bytes_of-none (Some text) none = cc
bytes_of-none None none = refl

-- what is shown was chosen by its option
Made-view : (shown : View) (chosen : Chosen) → chosen.view ≡ Some shown → Made (flag_of shown) chosen
Made-view (view.Report extent format) chosen is = (extent, format, is)
Made-view view.Text chosen is = is
Made-view view.Dot chosen is = is

pub view-fault : (shown other : View) (before : Chosen) (first second : Flag) (fault : ProgramFault)
    → first ≡ flag_of shown → second ≡ flag_of other → before.view ≡ Some shown
    → ((value : Option (List ℕ)) (chosen : Chosen) → Made first chosen → MayFailToSet second value chosen fault)
    → MayFailToSet (flag_of other) None before fault
view-fault shown other before first second fault is also made fails =
    subst (λ f. MayFailToSet f None before fault) also
    (fails None before (subst (λ f. Made f before) (sym is) (Made-view shown before made)))

-- ---- an option that is wrong makes no choice

-- what passes or a view were chosen by is there
made-passes : (f : Flag) (before : Chosen) → IsOfPasses f → Made f before → before.passes ≢ None
made-passes f before (inl is) made same =
    let both = subst (λ g. Made g before) is made in
    let bad = sym both.1 ∙ same in cc
made-passes f before (inr is) made same =
    let both = subst (λ g. Made g before) is made in
    let bad = sym both ∙ same in cc

shown-view : (shown : View) (before : Chosen) → Made (flag_of shown) before → before.view ≢ None
shown-view (view.Report extent format) before made same = let bad = sym made.2 ∙ same in cc
shown-view view.Text before made same = let bad = sym made ∙ same in cc
shown-view view.Dot before made same = let bad = sym made ∙ same in cc

made-view : (f : Flag) (before : Chosen) → IsOfView f → Made f before → before.view ≢ None
made-view f before (shown, is) made same = shown-view shown before (subst (λ g. Made g before) is made) same

-- an option that makes a choice finds none made
free-passes : (value : Option (List ℕ)) (before after : Chosen) → Sets flag.Passes value before after → before.passes ≡ None
free-passes (Some list) before after sets = sets.0
free-passes None before after sets = absurd sets

free-old : (value : Option (List ℕ)) (before after : Chosen) → Sets flag.Old value before after → before.passes ≡ None
free-old (Some list) before after sets = absurd sets
free-old None before after sets = sets.0

free-view : (shown : View) (value : Option (List ℕ)) (before after : Chosen) → Sets (flag_of shown) value before after → before.view ≡ None
free-view (view.Report extent format) (Some name) before after sets = absurd sets
free-view (view.Report extent format) None before after sets = sets.0
free-view view.Text (Some name) before after sets = absurd sets
free-view view.Text None before after sets = sets.0
free-view view.Dot (Some name) before after sets = absurd sets
free-view view.Dot None before after sets = sets.0

free-output : (value : Option (List ℕ)) (before after : Chosen) → Sets flag.Output value before after → before.output ≡ None
free-output (Some name) before after sets = sets.0
free-output None before after sets = absurd sets

free-short : (value : Option (List ℕ)) (before after : Chosen) → Sets flag.ShortOutput value before after → before.output ≡ None
free-short (Some name) before after sets = sets.0
free-short None before after sets = absurd sets

free-stats : (value : Option (List ℕ)) (before after : Chosen) → Sets flag.Stats value before after → before.stats ≡ false
free-stats (Some name) before after sets = absurd sets
free-stats None before after sets = sets.0

module _ (value : Option (List ℕ)) (before after : Chosen) where
  set-passes : (f : Flag) → IsOfPasses f → Sets f value before after → before.passes ≡ None
  set-passes f (inl is) sets = free-passes value before after (subst (λ g. Sets g value before after) is sets)
  set-passes f (inr is) sets = free-old value before after (subst (λ g. Sets g value before after) is sets)

  set-view : (f : Flag) → IsOfView f → Sets f value before after → before.view ≡ None
  set-view f (shown, is) sets = free-view shown value before after (subst (λ g. Sets g value before after) is sets)

excluded-sets : (first f : Flag) (value : Option (List ℕ)) (before after : Chosen) → ChooseSame first f → Made first before → ¬ Sets f value before after
excluded-sets first f value before after (inl (of_first, of_f)) made sets = made-passes first before of_first made (set-passes value before after f of_f sets)
excluded-sets first f value before after (inr (of_first, of_f)) made sets = made-view first before of_first made (set-view value before after f of_f sets)

repeated-sets : (f : Flag) (value : Option (List ℕ)) (before after : Chosen) → Made f before → ¬ Sets f value before after
repeated-sets flag.Passes value before after made sets = made-passes flag.Passes before (inl refl) made (free-passes value before after sets)
repeated-sets flag.Old value before after made sets = made-passes flag.Old before (inr refl) made (free-old value before after sets)
repeated-sets flag.Output value before after made sets = made (free-output value before after sets)
repeated-sets flag.ShortOutput value before after made sets = made (free-short value before after sets)
repeated-sets flag.Check value before after made sets =
    made-view flag.Check before (view.Report Short Lines, refl) made (free-view (view.Report Short Lines) value before after sets)
repeated-sets flag.All (Some name) before after made sets = absurd sets
repeated-sets flag.All None before after made sets =
    let bad : Some (view.Report Full made.0) ≡ Some (view.Report Short sets.0) = sym made.1 ∙ sets.1 in
    cc
repeated-sets flag.Json (Some name) before after made sets = absurd sets
repeated-sets flag.Json None before after made sets =
    let bad : Some (view.Report made.0 Json) ≡ Some (view.Report sets.0 Lines) = sym made.1 ∙ sets.1 in
    cc
repeated-sets flag.Text value before after made sets = made-view flag.Text before (view.Text, refl) made (free-view view.Text value before after sets)
repeated-sets flag.Dot value before after made sets = made-view flag.Dot before (view.Dot, refl) made (free-view view.Dot value before after sets)
repeated-sets flag.Stats value before after made sets =
    let bad : true ≡ false = sym made ∙ free-stats value before after sets in
    cc

unknown-sets : (f : Flag) (value : Option (List ℕ)) (before after : Chosen) (name : String Global) → IsMisused f value before (wrong.UnknownPass name) → ¬ Sets f value before after
unknown-sets flag.Passes (Some list) before after name misused sets = Lists-known sets.1.0 list (string_bytes name) sets.1.1 misused.1
unknown-sets flag.Passes None before after name misused sets = absurd sets
unknown-sets flag.Old value before after name misused sets = absurd misused
unknown-sets flag.Output value before after name misused sets = absurd misused
unknown-sets flag.ShortOutput value before after name misused sets = absurd misused
unknown-sets flag.Check value before after name misused sets = absurd misused
unknown-sets flag.All value before after name misused sets = absurd misused
unknown-sets flag.Json value before after name misused sets = absurd misused
unknown-sets flag.Text value before after name misused sets = absurd misused
unknown-sets flag.Dot value before after name misused sets = absurd misused
unknown-sets flag.Stats value before after name misused sets = absurd misused

-- no report is chosen that the option could change
no-all : (value : Option (List ℕ)) (before after : Chosen) → HasNoReport before → ¬ Sets flag.All value before after
no-all (Some list) before after none sets = absurd sets
no-all None before after none sets = none Short sets.0 sets.1

no-json : (value : Option (List ℕ)) (before after : Chosen) → HasNoReport before → ¬ Sets flag.Json value before after
no-json (Some list) before after none sets = absurd sets
no-json None before after none sets = none sets.0 Lines sets.1

no-report-sets : (f : Flag) (value : Option (List ℕ)) (before after : Chosen) → IsOfReport f → HasNoReport before → ¬ Sets f value before after
no-report-sets f value before after (inl is) none sets = no-all value before after none (subst (λ g. Sets g value before after) is sets)
no-report-sets f value before after (inr is) none sets = no-json value before after none (subst (λ g. Sets g value before after) is sets)

-- ---- errors of an option at the front

module _ (f : Flag) (value : Option (List ℕ)) (before : Chosen) (arguments rest : List (List ℕ)) (takes : Takes f value arguments rest) where
  pub option-fault : (fault : ProgramFault) → MayFailToSet f value before fault → MayFailToChoose before arguments fault
  option-fault (Unwritten error) fails = absurd fails
  option-fault Memory fails = tt
  option-fault (Arguments wrong.NotUtf8) fails = absurd fails
  option-fault (Arguments (wrong.Unexpected named)) fails = absurd fails
  option-fault (Arguments (wrong.NoValue g)) fails = absurd fails
  option-fault (Arguments (wrong.Twice g)) fails =
      ((f, value, rest, takes, fails), λ meant. nothing-option f value before arguments rest meant takes (λ after. repeated-sets f value before after fails.1))
  option-fault (Arguments (wrong.Exclude first second)) fails =
      ((f, value, rest, takes, fails), λ meant. nothing-option f value before arguments rest meant takes (λ after. excluded-sets first f value before after fails.1.0 fails.2))
  option-fault (Arguments (wrong.UnknownPass name)) fails =
      ((f, value, rest, takes, fails), λ meant. nothing-option f value before arguments rest meant takes (λ after. unknown-sets f value before after name fails))
  option-fault (Arguments (wrong.NoCheck g)) fails =
      ((f, value, rest, takes, fails), λ meant. nothing-option f value before arguments rest meant takes (λ after. no-report-sets f value before after fails.1 fails.2))
  option-fault NotUtf8 fails = absurd fails
  option-fault (Input error) fails = absurd fails
  option-fault (Output error) fails = absurd fails
  option-fault (Unread message) fails = absurd fails
  option-fault (Unrestricted message) fails = absurd fails

-- an option that has a value, without it
takes-two : (f g : Flag) (value : Option (List ℕ)) (rest : List (List ℕ)) (argument : List ℕ) → argument ≡ flag_text f → has_value f ≡ true → ¬ Takes g value (argument ∷ []) rest
takes-two f g value rest argument at some (alone is none) =
    let same = flag_text-injective f g (sym at ∙ is) in
    let across : has_value f ≡ has_value g = ap has_value same in
    cc
takes-two f g value rest argument at some (joined {value = v} is) = joined-flag g f argument v is at

nothing-alone : (f : Flag) (before : Chosen) (argument : List ℕ) (meant : Meaning) → argument ≡ flag_text f → has_value f ≡ true → ¬ Means before (argument ∷ []) meant
nothing-alone f before argument meant at some =
    nothing-input before argument (λ help. flag_text-help f (subst IsHelp at help)) (λ version. flag_text-version f (subst IsVersion at version))
    (λ same. flag_text-end f (sym at ∙ same)) [] meant (λ g value left. takes-two f g value left argument at some) (inl (ap is_name at ∙ is_name-flag f))

pub no-value-fault : (f : Flag) (before : Chosen) (rest : List (String Global)) → length rest < 1 → has_value f ≡ true
    → MayFailToChoose before (flag_text f ∷ texts_of rest) (Arguments (wrong.NoValue f))
no-value-fault f before rest empty some =
    let none = texts_of-none rest empty in (
      (ap (λ others. flag_text f ∷ others) none, some),
      λ meant. subst (λ others. ¬ Means before (flag_text f ∷ others) meant) (sym none) (nothing-alone f before (flag_text f) meant refl some),
    )

-- ---- errors that name an argument

pub unexpected-fault : (before : Chosen) (fine : List (List ℕ)) (argument : List ℕ) (rest : List (List ℕ)) (fault : ProgramFault)
    → NamesFault wrong.Unexpected argument fault → IsUnexpected before fine argument → MayFailToChoose before (fine ++ argument ∷ rest) fault
unexpected-fault before fine argument rest fault (inl memory) is = subst (MayFailToChoose before (fine ++ argument ∷ rest)) (sym memory) tt
unexpected-fault before fine argument rest fault (inr (named, same, text)) is =
    subst (MayFailToChoose before (fine ++ argument ∷ rest)) (sym same)
    ((fine, rest, ap (λ t. fine ++ t ∷ rest) (sym text), subst (IsUnexpected before fine) (sym text) is), λ meant. is.nothing rest meant)

-- an argument that is written neither like an option nor like one with a value
pub no-takes : (f : Flag) (value : Option (List ℕ)) (argument : List ℕ) (others rest : List (List ℕ))
    → ((g : Flag) → ¬ (flag_text g ≡ argument)) → ((g : Flag) (v : List ℕ) → ¬ IsJoined g argument v)
    → ¬ Takes f value (argument ∷ others) rest
no-takes f value argument others rest no_flag not_joined (alone is none) = no_flag f (sym is)
no-takes f value argument others rest no_flag not_joined (apart is some) = no_flag f (sym is)
no-takes f value argument others rest no_flag not_joined (joined {value = v} is) = not_joined f v is

pub IsUnexpected-front : (before : Chosen) (argument : List ℕ)
    → ((g : Flag) → ¬ (flag_text g ≡ argument)) → ((g : Flag) (v : List ℕ) → ¬ IsJoined g argument v)
    → ¬ IsHelp argument → ¬ IsVersion argument → argument ≢ end_of_options
    → (is_name argument ≡ false) ⊎ (before.input ≢ None) → IsUnexpected before [] argument
IsUnexpected-front before argument no_flag not_joined no_help no_version no_end which = record {
  meaning = choice before;
  means = nothing_more;
  no_option = λ f value others rest. no-takes f value argument others rest no_flag not_joined;
  nothing = λ others meant. nothing-input before argument no_help no_version no_end others meant
      (λ f value left. no-takes f value argument others left no_flag not_joined) which;
}

-- a name after `--`, where one was given before
none-given : (name : List ℕ) (others : List (List ℕ)) (before after : Chosen) → before.input ≢ None → ¬ NamesInput (name ∷ others) before after
none-given name [] before after some given = some given.0
none-given name (another ∷ others) before after some given = absurd given

pub IsUnexpected-first : (before : Chosen) (name : List ℕ) → before.input ≢ None → IsUnexpected before (end_of_options ∷ []) name
IsUnexpected-first before name some = record {
  meaning = choice before;
  means = by_end refl refl;
  no_option = λ f value others rest. takes-no-end f value (name ∷ others) rest;
  nothing = λ others meant. nothing-names before (name ∷ others) meant (λ after. none-given name others before after some);
}

pub IsUnexpected-second : (before : Chosen) (name another : List ℕ) → before.input ≡ None → IsUnexpected before (end_of_options ∷ name ∷ []) another
IsUnexpected-second before name another none = record {
  meaning = choice (record before { input = Some name });
  means = by_end refl (none, refl);
  no_option = λ f value others rest. takes-no-end f value (name ∷ another ∷ others) rest;
  nothing = λ others meant. nothing-names before (name ∷ another ∷ others) meant (λ after given. absurd given);
}

-- ---- errors of all arguments

-- an error of the arguments that are left is one of all arguments
pub MayFailToSelect-left : (arguments left : List (List ℕ)) (before : Chosen) (fault : ProgramFault)
    → MeansTheSame nothing_chosen arguments before left → MayFailToChoose before left fault → MayFailToSelect arguments fault
MayFailToSelect-left arguments left before (Unread message) same fails = absurd fails
MayFailToSelect-left arguments left before (Unrestricted message) same fails = absurd fails
MayFailToSelect-left arguments left before Memory same fails = tt
MayFailToSelect-left arguments left before (Unwritten error) same fails = absurd fails
MayFailToSelect-left arguments left before (Arguments wrong) same fails =
    (before, left, same, fails.0, λ selected means. fails.1 (meaning_of selected) ((same (meaning_of selected)).0 means))
MayFailToSelect-left arguments left before NotUtf8 same fails = absurd fails
MayFailToSelect-left arguments left before (Input error) same fails = absurd fails
MayFailToSelect-left arguments left before (Output error) same fails = absurd fails
