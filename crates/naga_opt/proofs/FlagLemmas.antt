-- How options are written tells them apart: lemmas on `flag_text`, `IsJoined` and `is_name` of specs/Arguments.antt.
use Rattle.std.proofs.Common.{◌≡◌, ◌≢◌, ◌∙◌, ◌⊎◌, inl, inr, refl, sym, ap, ℕ, ◌+◌, ◌*◌, List, length, get_or, drop, Option, Some, None, arith}
use Rattle.std.specs.Prelude.{◌==◌, false, codes, if◌then◌else◌}
use Rattle.naga_opt.specs.Arguments.{IsHelp, IsJoined, IsVersion, end_of_options, flag_text, is_name}
use Rattle.naga_opt.specs.declared.flag.Flag.{Flag}
use Rattle.naga_opt.specs.declared.flag.Flag.TheVariants as flag

-- the length, the second and the third byte of a text, which differ for all options
abbrev pub key : List ℕ → ℕ
key text = length text * 65536 + get_or text 1 0 * 256 + get_or text 2 0

-- the option with this key
abbrev pub flag_at : ℕ → Option Flag
flag_at k =
    if k == 535920 then Some flag.Passes else
    (if k == 339311 then Some flag.Old else
    (if k == 535919 then Some flag.Output else
    (if k == 159488 then Some flag.ShortOutput else
    (if k == 470371 then Some flag.Check else
    (if k == 339297 then Some flag.All else
    (if k == 404842 then Some flag.Json else
    (if k == 404852 then Some flag.Text else
    (if k == 339300 then Some flag.Dot else
    (if k == 470387 then Some flag.Stats else None)))))))))

flag_at-key : (f : Flag) → flag_at (key (flag_text f)) ≡ Some f
flag_at-key flag.Passes = refl
flag_at-key flag.Old = refl
flag_at-key flag.Output = refl
flag_at-key flag.ShortOutput = refl
flag_at-key flag.Check = refl
flag_at-key flag.All = refl
flag_at-key flag.Json = refl
flag_at-key flag.Text = refl
flag_at-key flag.Dot = refl
flag_at-key flag.Stats = refl

-- two options are not written the same
pub flag_text-injective : (f g : Flag) → flag_text f ≡ flag_text g → f ≡ g
flag_text-injective f g same =
    let first = flag_at-key f in
    let across : flag_at (key (flag_text f)) ≡ flag_at (key (flag_text g)) = ap (λ text. flag_at (key text)) same in
    let second = flag_at-key g in
    cc

-- no option is written like a text with another key
other-key : (f : Flag) (text : List ℕ) → flag_at (key text) ≡ None → flag_text f ≢ text
other-key f text none same =
    let first = flag_at-key f in
    let across : flag_at (key (flag_text f)) ≡ flag_at (key text) = ap (λ t. flag_at (key t)) same in
    cc

-- no option is written like an argument for the help or the version, or the end of options
pub flag_text-help : (f : Flag) → ¬ IsHelp (flag_text f)
flag_text-help f (inl same) = other-key f (codes "--help") refl same
flag_text-help f (inr same) = other-key f (codes "-h") refl same

pub flag_text-version : (f : Flag) → ¬ IsVersion (flag_text f)
flag_text-version f (inl same) = other-key f (codes "--version") refl same
flag_text-version f (inr same) = other-key f (codes "-V") refl same

pub flag_text-end : (f : Flag) → flag_text f ≢ end_of_options
flag_text-end f same = other-key f end_of_options refl same

-- no option is the name of a file
pub is_name-flag : (f : Flag) → is_name (flag_text f) ≡ false
is_name-flag flag.Passes = refl
is_name-flag flag.Old = refl
is_name-flag flag.Output = refl
is_name-flag flag.ShortOutput = refl
is_name-flag flag.Check = refl
is_name-flag flag.All = refl
is_name-flag flag.Json = refl
is_name-flag flag.Text = refl
is_name-flag flag.Dot = refl
is_name-flag flag.Stats = refl

-- ---- options with a value in the same argument

-- the byte after the eight of `--passes` or `--output`
abbrev ninth : List ℕ → ℕ
ninth text = get_or text 8 0

ninth-flag : (f : Flag) → ninth (flag_text f) ≡ 0
ninth-flag flag.Passes = refl
ninth-flag flag.Old = refl
ninth-flag flag.Output = refl
ninth-flag flag.ShortOutput = refl
ninth-flag flag.Check = refl
ninth-flag flag.All = refl
ninth-flag flag.Json = refl
ninth-flag flag.Text = refl
ninth-flag flag.Dot = refl
ninth-flag flag.Stats = refl

ninth-joined : (f : Flag) (argument value : List ℕ) → IsJoined f argument value → ninth argument ≡ 61
ninth-joined flag.Passes argument value is = ap ninth is
ninth-joined flag.Old argument value is = absurd is
ninth-joined flag.Output argument value is = ap ninth is
ninth-joined flag.ShortOutput argument value is = absurd is
ninth-joined flag.Check argument value is = absurd is
ninth-joined flag.All argument value is = absurd is
ninth-joined flag.Json argument value is = absurd is
ninth-joined flag.Text argument value is = absurd is
ninth-joined flag.Dot argument value is = absurd is
ninth-joined flag.Stats argument value is = absurd is

-- an argument with an option and its value is no text with another ninth byte
other-ninth : (f : Flag) (argument value text : List ℕ) → IsJoined f argument value → ninth text ≢ 61 → argument ≢ text
other-ninth f argument value text is other same = other (ap ninth (sym same) ∙ ninth-joined f argument value is)

pub joined-flag : (f g : Flag) (argument value : List ℕ) → IsJoined f argument value → argument ≢ flag_text g
joined-flag f g argument value is same =
    other-ninth f argument value (flag_text g) is (λ at. let n : 0 ≡ 61 = sym (ninth-flag g) ∙ at in absurd (omega (arith, n))) same

pub joined-help : (f : Flag) (argument value : List ℕ) → IsJoined f argument value → ¬ IsHelp argument
joined-help f argument value is (inl same) = other-ninth f argument value (codes "--help") is (λ at. let n : 0 ≡ 61 = at in absurd (omega (arith, n))) same
joined-help f argument value is (inr same) = other-ninth f argument value (codes "-h") is (λ at. let n : 0 ≡ 61 = at in absurd (omega (arith, n))) same

pub joined-version : (f : Flag) (argument value : List ℕ) → IsJoined f argument value → ¬ IsVersion argument
joined-version f argument value is (inl same) = other-ninth f argument value (codes "--version") is (λ at. let n : 110 ≡ 61 = at in absurd (omega (arith, n))) same
joined-version f argument value is (inr same) = other-ninth f argument value (codes "-V") is (λ at. let n : 0 ≡ 61 = at in absurd (omega (arith, n))) same

pub joined-end : (f : Flag) (argument value : List ℕ) → IsJoined f argument value → argument ≢ end_of_options
joined-end f argument value is same = other-ninth f argument value end_of_options is (λ at. let n : 0 ≡ 61 = at in absurd (omega (arith, n))) same

pub is_name-joined : (f : Flag) (argument value : List ℕ) → IsJoined f argument value → is_name argument ≡ false
is_name-joined flag.Passes argument value is = ap is_name is
is_name-joined flag.Old argument value is = absurd is
is_name-joined flag.Output argument value is = ap is_name is
is_name-joined flag.ShortOutput argument value is = absurd is
is_name-joined flag.Check argument value is = absurd is
is_name-joined flag.All argument value is = absurd is
is_name-joined flag.Json argument value is = absurd is
is_name-joined flag.Text argument value is = absurd is
is_name-joined flag.Dot argument value is = absurd is
is_name-joined flag.Stats argument value is = absurd is

-- the option of an argument with a value, by its fourth byte
joined-at : (f : Flag) (argument value : List ℕ) → IsJoined f argument value
    → ((f ≡ flag.Passes) × (get_or argument 2 0 ≡ 112)) ⊎ ((f ≡ flag.Output) × (get_or argument 2 0 ≡ 111))
joined-at flag.Passes argument value is = inl (refl, ap (λ t. get_or t 2 0) is)
joined-at flag.Old argument value is = absurd is
joined-at flag.Output argument value is = inr (refl, ap (λ t. get_or t 2 0) is)
joined-at flag.ShortOutput argument value is = absurd is
joined-at flag.Check argument value is = absurd is
joined-at flag.All argument value is = absurd is
joined-at flag.Json argument value is = absurd is
joined-at flag.Text argument value is = absurd is
joined-at flag.Dot argument value is = absurd is
joined-at flag.Stats argument value is = absurd is

-- the value of such an argument
joined-value : (f : Flag) (argument value : List ℕ) → IsJoined f argument value → drop 9 argument ≡ value
joined-value flag.Passes argument value is = ap (drop 9) is
joined-value flag.Old argument value is = absurd is
joined-value flag.Output argument value is = ap (drop 9) is
joined-value flag.ShortOutput argument value is = absurd is
joined-value flag.Check argument value is = absurd is
joined-value flag.All argument value is = absurd is
joined-value flag.Json argument value is = absurd is
joined-value flag.Text argument value is = absurd is
joined-value flag.Dot argument value is = absurd is
joined-value flag.Stats argument value is = absurd is

same-joined : (f g : Flag) (byte : ℕ)
    → ((f ≡ flag.Passes) × (byte ≡ 112)) ⊎ ((f ≡ flag.Output) × (byte ≡ 111))
    → ((g ≡ flag.Passes) × (byte ≡ 112)) ⊎ ((g ≡ flag.Output) × (byte ≡ 111)) → f ≡ g
same-joined f g byte (inl (is, at)) (inl (also, there)) = is ∙ sym also
same-joined f g byte (inl (is, at)) (inr (also, there)) =
    let n : 112 ≡ 111 = sym at ∙ there in
    absurd (omega (arith, n))
same-joined f g byte (inr (is, at)) (inl (also, there)) =
    let n : 111 ≡ 112 = sym at ∙ there in
    absurd (omega (arith, n))
same-joined f g byte (inr (is, at)) (inr (also, there)) = is ∙ sym also

-- an argument has one option and one value
pub joined-once : (f g : Flag) (argument value other : List ℕ) → IsJoined f argument value → IsJoined g argument other → (f ≡ g) × (value ≡ other)
joined-once f g argument value other first second = (
  same-joined f g (get_or argument 2 0) (joined-at f argument value first) (joined-at g argument other second),
  sym (joined-value f argument value first) ∙ joined-value g argument other second,
)
