-- The cases that have the number of a selector.
use Rattle.std.proofs.Common.{◌≡◌, ◌≢◌, ◌∙◌, sym, ap, subst, refl, ℕ, zero, suc, ◌+◌, ◌<◌, ◌≤◌, Bool, true, false, cond, ltb, List, [], ◌∷◌, ◌++◌, length, arith}
use Rattle.std.proofs.lemmas.List.{append-nil, length-append}
use Rattle.std.proofs.lemmas.List.Elements.{Contains-append_left, Contains-append_right, Contains-push}
use Rattle.std.proofs.lemmas.Bool.{ltb-true, ltb-false}
use Rattle.std.proofs.lemmas.Bool.Decides.{Decides-int_eq, Decides-eqb}
use Rattle.std.specs.List.{Contains}
use Rattle.std.specs.Prelude.{if◌then◌else◌}
use Rattle.naga_kinds.specs.declared.switch.SwitchValue.{SwitchValue}
use Rattle.naga_kinds.specs.declared.switch.SwitchValue.TheVariants.{Default, I32, U32}
use Rattle.naga_ir.specs.Tree.{Cases, Tree, case, switch}
use Rattle.naga_runs.specs.Runs.{entered, first_default, values}
use Rattle.naga_runs.specs.declared.run.Ending.{Ending}
use Rattle.naga_runs.specs.declared.run.Ending.TheVariants.{Break}
use Rattle.naga_meaning.specs.Machine.{Done, Machine, by_way, cases_do, does, in_case, node_does, then_by}
use Rattle.naga_meaning.specs.Switches.{EntersByNumber, case_of, is_case_of}
use Rattle.naga_meaning.specs.Values.{Code, Interpretation, Parts, World, machine, value}

-- ---- the number of a case

-- the case of a number has this value
is_case_of-same : (number value : SwitchValue) → is_case_of number value ≡ true → number ≡ value
is_case_of-same (I32 m) (I32 n) is = ap I32 ((Decides-int_eq m n).0 is)
is_case_of-same (U32 m) (U32 n) is = ap U32 ((Decides-eqb m n).0 is)
is_case_of-same (I32 m) (U32 n) is = absurd (let e : false ≡ true = is in cc)
is_case_of-same (I32 m) Default is = absurd (let e : false ≡ true = is in cc)
is_case_of-same (U32 m) (I32 n) is = absurd (let e : false ≡ true = is in cc)
is_case_of-same (U32 m) Default is = absurd (let e : false ≡ true = is in cc)
is_case_of-same Default value is = absurd (let e : false ≡ true = is in cc)

is_case_of-itself : (number : SwitchValue) → number ≢ Default → is_case_of number number ≡ true
is_case_of-itself (I32 m) h = (Decides-int_eq m m).1 refl
is_case_of-itself (U32 m) h = (Decides-eqb m m).1 refl
is_case_of-itself Default h = absurd (h refl)

-- ---- positions

-- no case before has the number, so the case of the number comes after all of them
case_of-later : (number : SwitchValue) (before rest : List SwitchValue) → ¬ Contains before number → case_of number (before ++ rest) ≡ length before + case_of number rest
case_of-later number [] rest none = let plain : case_of number rest ≡ 0 + case_of number rest = omega arith in plain
case_of-later number (first ∷ before) rest none =
    let more : suc (length before + case_of number rest) ≡ suc (length before) + case_of number rest = omega arith in
    by_test (is_case_of number first) refl (case_of-later number before rest (λ c. none (Contains-append_right (first ∷ []) before number c))) ∙ more
  where
    by_test : (b : Bool) → is_case_of number first ≡ b → case_of number (before ++ rest) ≡ length before + case_of number rest →
        (if b then 0 else suc (case_of number (before ++ rest))) ≡ suc (length before + case_of number rest)
    by_test true is later =
        absurd (none (subst (Contains (first ∷ before)) (sym (is_case_of-same number first is)) (Contains-append_left (first ∷ []) before first (Contains-push [] first))))
    by_test false is later = ap suc later

case_of-first : (number : SwitchValue) (rest : List SwitchValue) → number ≢ Default → case_of number (number ∷ rest) ≡ 0
case_of-first number rest h = ap (λ b. if b then 0 else suc (case_of number rest)) (is_case_of-itself number h)

-- a position is that of the case that is entered
entered-position : (cases : List SwitchValue) (k : ℕ) → k < length cases → entered cases k ≡ k
unfolding entered
entered-position cases k less = by_test (ltb k (length cases)) refl
  where
    by_test : (b : Bool) → ltb k (length cases) ≡ b → cond b k (first_default cases) ≡ k
    by_test true is = refl
    by_test false is = absurd (omega (arith, less, ltb-false k (length cases) is))

-- and a number that is none enters the first default
entered-past : (cases : List SwitchValue) (k : ℕ) → length cases ≤ k → entered cases k ≡ first_default cases
unfolding entered
entered-past cases k past = by_test (ltb k (length cases)) refl
  where
    by_test : (b : Bool) → ltb k (length cases) ≡ b → cond b k (first_default cases) ≡ first_default cases
    by_test true is = absurd (omega (arith, past, ltb-true k (length cases) is))
    by_test false is = refl

pub case_of-found : (number : SwitchValue) (before after : List SwitchValue) → number ≢ Default → ¬ Contains before number →
    entered (before ++ number ∷ after) (case_of number (before ++ number ∷ after)) ≡ length before
case_of-found number before after h none =
    ap (entered (before ++ number ∷ after)) at
    ∙ entered-position (before ++ number ∷ after) (length before) within
  where
    plain : length before + 0 ≡ length before
    plain = omega arith

    at : case_of number (before ++ number ∷ after) ≡ length before
    at = case_of-later number before (number ∷ after) none ∙ ap (λ k. length before + k) (case_of-first number after h) ∙ plain

    long : length (before ++ number ∷ after) ≡ length before + suc (length after)
    long = length-append before (number ∷ after)

    within : length before < length (before ++ number ∷ after)
    within = omega (arith, long)

pub case_of-other : (number : SwitchValue) (cases : List SwitchValue) → ¬ Contains cases number → entered cases (case_of number cases) ≡ first_default cases
case_of-other number cases none =
    let past : case_of number cases ≡ length cases + 0 = sym (ap (case_of number) (append-nil cases)) ∙ case_of-later number cases [] none in
    entered-past cases (case_of number cases) (omega (arith, past))

-- ---- what a switch does

pub switch-by_number : {Shape Action Value State : Type 0} (parts : Parts Action) (by : Interpretation Shape Action Value State) (code : Code Shape) (number_of : Value → SwitchValue) → EntersByNumber number_of by →
    (turns selector : ℕ) (cases : Cases) (world : World Value State) →
    node_does (machine parts by code) turns (switch selector cases) world
    ≡ cases_do (machine parts by code) turns cases (entered (values cases) (case_of (number_of (value by code world selector)) (values cases))) world
switch-by_number parts by code number_of h turns selector cases world =
    ap (λ k. cases_do (machine parts by code) turns cases k world) (h (value by code world selector) (values cases))

-- ---- two cases that change places

-- where two cases at the front change places, this is the new position of the case at a position
abbrev exchanged : ℕ → ℕ
exchanged zero = 1
exchanged (suc zero) = 0
exchanged (suc (suc position)) = suc (suc position)

first_default-exchanged : (first second : SwitchValue) (rest : List SwitchValue) → first ≢ second → first_default (second ∷ first ∷ rest) ≡ exchanged (first_default (first ∷ second ∷ rest))
first_default-exchanged Default Default rest differ = absurd (differ refl)
first_default-exchanged Default (I32 n) rest differ = refl
first_default-exchanged Default (U32 n) rest differ = refl
first_default-exchanged (I32 m) Default rest differ = refl
first_default-exchanged (U32 m) Default rest differ = refl
first_default-exchanged (I32 m) (I32 n) rest differ = refl
first_default-exchanged (I32 m) (U32 n) rest differ = refl
first_default-exchanged (U32 m) (I32 n) rest differ = refl
first_default-exchanged (U32 m) (U32 n) rest differ = refl

entered-exchanged : (number first second : SwitchValue) (rest : List SwitchValue) → first ≢ second →
    entered (second ∷ first ∷ rest) (case_of number (second ∷ first ∷ rest)) ≡ exchanged (entered (first ∷ second ∷ rest) (case_of number (first ∷ second ∷ rest)))
entered-exchanged number first second rest differ = by_tests (is_case_of number first) (is_case_of number second) refl refl
  where
    k : ℕ
    k = case_of number rest

    at : Bool → Bool → ℕ
    at a b = if a then 0 else suc (if b then 0 else suc k)

    by_place : (b : Bool) → ltb k (length rest) ≡ b → entered (second ∷ first ∷ rest) (suc (suc k)) ≡ exchanged (entered (first ∷ second ∷ rest) (suc (suc k)))
    by_place true is =
        let less : suc (suc k) < suc (suc (length rest)) = omega (arith, ltb-true k (length rest) is) in
        entered-position (second ∷ first ∷ rest) (suc (suc k)) less ∙ ap exchanged (sym (entered-position (first ∷ second ∷ rest) (suc (suc k)) less))
    by_place false is =
        let past : suc (suc (length rest)) ≤ suc (suc k) = omega (arith, ltb-false k (length rest) is) in
        entered-past (second ∷ first ∷ rest) (suc (suc k)) past ∙ first_default-exchanged first second rest differ
        ∙ ap exchanged (sym (entered-past (first ∷ second ∷ rest) (suc (suc k)) past))

    at_0 : 0 < suc (suc (length rest))
    at_0 = omega arith

    at_1 : 1 < suc (suc (length rest))
    at_1 = omega arith

    by_tests : (a b : Bool) → is_case_of number first ≡ a → is_case_of number second ≡ b → entered (second ∷ first ∷ rest) (at b a) ≡ exchanged (entered (first ∷ second ∷ rest) (at a b))
    by_tests true true p q = absurd (differ (sym (is_case_of-same number first p) ∙ is_case_of-same number second q))
    by_tests true false p q = entered-position (second ∷ first ∷ rest) 1 at_1 ∙ ap exchanged (sym (entered-position (first ∷ second ∷ rest) 0 at_0))
    by_tests false true p q = entered-position (second ∷ first ∷ rest) 0 at_0 ∙ ap exchanged (sym (entered-position (first ∷ second ∷ rest) 1 at_1))
    by_tests false false p q = by_place (ltb k (length rest)) refl

module _ {State : Type 0} (machine : Machine State) where
  -- nothing follows a case that doesn't fall through
  case-alone : (one : Done State) (next next' : State → Done State) → then_by (in_case false) one next ≡ then_by (in_case false) one next'
  case-alone one next next' = by_ending one.ending
    where
      by_ending : (e : Ending) → by_way (in_case false e) one next ≡ by_way (in_case false e) one next'
      by_ending Break = refl
      by_ending _ = refl

  cases-exchanged : (turns : ℕ) (first second : SwitchValue) (body body' : Tree) (others : Cases) (position : ℕ) (s : State) →
      cases_do machine turns (case second body' false (case first body false others)) (exchanged position) s ≡ cases_do machine turns (case first body false (case second body' false others)) position s
  cases-exchanged turns first second body body' others zero s = case-alone (does machine turns body s) (cases_do machine turns others 0) (cases_do machine turns (case second body' false others) 0)
  cases-exchanged turns first second body body' others (suc zero) s = case-alone (does machine turns body' s) (cases_do machine turns (case first body false others) 0) (cases_do machine turns others 0)
  cases-exchanged turns first second body body' others (suc (suc position)) s = refl

pub switch-exchanged : {Shape Action Value State : Type 0} (parts : Parts Action) (by : Interpretation Shape Action Value State) (code : Code Shape) (number_of : Value → SwitchValue) → EntersByNumber number_of by →
    (turns selector : ℕ) (first second : SwitchValue) → first ≢ second → (body body' : Tree) (others : Cases) (world : World Value State) →
    node_does (machine parts by code) turns (switch selector (case second body' false (case first body false others))) world
    ≡ node_does (machine parts by code) turns (switch selector (case first body false (case second body' false others))) world
switch-exchanged parts by code number_of h turns selector first second differ body body' others world =
    let number : SwitchValue = number_of (value by code world selector) in
    let rest : List SwitchValue = values others in
    switch-by_number parts by code number_of h turns selector (case second body' false (case first body false others)) world
    ∙ ap (λ k. cases_do (machine parts by code) turns (case second body' false (case first body false others)) k world) (entered-exchanged number first second rest differ)
    ∙ cases-exchanged (machine parts by code) turns first second body body' others (entered (first ∷ second ∷ rest) (case_of number (first ∷ second ∷ rest))) world
    ∙ sym (switch-by_number parts by code number_of h turns selector (case first body false (case second body' false others)) world)
