-- The tests that derives generate for `==`: they decide whether two values, or their views, are identical.
use Rattle.std.proofs.Common.{◌≡◌, ◌∙◌, Bool, true, false, ◌&&◌, List, [], ◌∷◌, map, refl, sym, ap, subst, ◌⊎◌, inl, inr, Option, Some, None}
use mathlib.Core.Bool.{true≢false}
use denote.Struct.Field.{Field}
use denote.Struct.Values.{Values}
use denote.Enum.Declared.{Choice}
use denote.Enum.Compared.{Each, by}
use lib.Pointwise.{pointwise}
use Rattle.std.specs.Bool.{Decides}
use Rattle.std.specs.Cmp.{first_so, second_so}
use Rattle.std.specs.Option.{option_eq, option_map}

-- a test that decides a proposition also decides every equivalent one
pub decides_along : {P Q : Type 0} {s : Bool} → (P → Q) → (Q → P) → Decides s P → Decides s Q
decides_along there back d = (λ e. there (d.0 e), λ q. d.1 (back q))

never : {P : Type 0} → (P → ⊥) → Decides false P
never f = (λ e. absurd (true≢false (sym e)), λ p. absurd (f p))

-- ---- fields, options and lists

pub conjunction_decides : {P Q : Type 0} (s t : Bool) → Decides s P → Decides t Q → Decides (s && t) (P × Q)
conjunction_decides true t p q = (λ e. (p.0 refl, q.0 e), λ h. q.1 h.1)
conjunction_decides false t p q = never (λ h. true≢false (sym (p.1 h.0)))

pub last_decides : {A : Type 0} {test : A → A → Bool} → ((x y : A) → Decides (test x y) (x ≡ y)) → (x y : A × Unit {0}) → Decides (test x.0 y.0) (x ≡ y)
last_decides d x y = decides_along (λ e i. (e i, tt)) (λ e. ap (λ z. z.0) e) (d x.0 y.0)

pub next_decides : {A B : Type 0} {test : A → A → Bool} {later : B → B → Bool} → ((x y : A) → Decides (test x y) (x ≡ y)) → ((x y : B) → Decides (later x y) (x ≡ y)) → (x y : A × B) → Decides (test x.0 y.0 && later x.1 y.1) (x ≡ y)
next_decides {A} {B} {test} {later} d e x y =
    decides_along (λ h i. (h.0 i, h.1 i)) (λ h. (ap (λ z. z.0) h, ap (λ z. z.1) h)) (conjunction_decides (test x.0 y.0) (later x.1 y.1) (d x.0 y.0) (e x.1 y.1))

abbrev some_or : {A : Type 0} → A → Option A → A
some_or d None = d
some_or d (Some x) = x

abbrev IsSomething : {A : Type 0} → Option A → Type 0
IsSomething None = ⊥
IsSomething (Some x) = Unit {0}

-- the test of two options decides whether their views are equal, if the test of the items does
pub options_decide : {A V : Type 0} {test : A → A → Bool} (view : A → V) → ((x y : A) → Decides (test x y) (view x ≡ view y)) → (x y : Option A) → Decides (option_eq test x y) (option_map view x ≡ option_map view y)
options_decide view d None None = (λ e. refl, λ e. refl)
options_decide view d None (Some y) = never (λ e. subst IsSomething (sym e) tt)
options_decide view d (Some x) None = never (λ e. subst IsSomething e tt)
options_decide view d (Some x) (Some y) = decides_along (λ e. ap Some e) (λ e. ap (some_or (view x)) e) (d x y)

option_map-id : {A : Type 0} (x : Option A) → option_map (λ (a : A). a) x ≡ x
option_map-id None = refl
option_map-id (Some x) = refl

pub equal_options_decide : {A : Type 0} {test : A → A → Bool} → ((x y : A) → Decides (test x y) (x ≡ y)) → (x y : Option A) → Decides (option_eq test x y) (x ≡ y)
equal_options_decide d x y =
    decides_along (λ e. sym (option_map-id x) ∙ e ∙ option_map-id y) (λ e. option_map-id x ∙ e ∙ sym (option_map-id y)) (options_decide (λ a. a) d x y)

abbrev first_or : {A : Type 0} → A → List A → A
first_or d [] = d
first_or d (x ∷ xs) = x

abbrev others : {A : Type 0} → List A → List A
others [] = []
others (x ∷ xs) = xs

abbrev HasFirst : {A : Type 0} → List A → Type 0
HasFirst [] = ⊥
HasFirst (x ∷ xs) = Unit {0}

-- the test of two lists, item by item, decides whether their views are equal, if the test of the items does
pub lists_decide : {A V : Type 0} {test : A → A → Bool} (view : A → V) → ((x y : A) → Decides (test x y) (view x ≡ view y)) → (xs ys : List A) → Decides (pointwise test xs ys) (map view xs ≡ map view ys)
lists_decide view d [] [] = (λ e. refl, λ e. refl)
lists_decide view d [] (y ∷ ys) = never (λ e. subst HasFirst (sym e) tt)
lists_decide view d (x ∷ xs) [] = never (λ e. subst HasFirst e tt)
lists_decide {A} {V} {test} view d (x ∷ xs) (y ∷ ys) =
    decides_along (λ h i. h.0 i ∷ h.1 i) (λ e. (ap (first_or (view x)) e, ap others e)) (conjunction_decides (test x y) (pointwise test xs ys) (d x y) (lists_decide view d xs ys))

-- ---- enums

abbrev IsLeft : {A B : Type 0} → A ⊎ B → Type 0
IsLeft (inl x) = Unit {0}
IsLeft (inr y) = ⊥

abbrev left_or : {A B : Type 0} → A → A ⊎ B → A
left_or a (inl x) = x
left_or a (inr y) = a

abbrev right_or : {A B : Type 0} → B → A ⊎ B → B
right_or b (inl x) = b
right_or b (inr y) = y

-- the tests of each variant's fields
abbrev pub own_tests : (Fss : List (List Field)) → (Choice Fss → Choice Fss → Bool) → Each Bool Fss
own_tests [] test = tt
own_tests (Fs ∷ Fss) test = ((λ x y. test (inl x) (inl y)), own_tests Fss (λ c d. test (inr c) (inr d)))

-- a view of the fields, for each variant that has fields
abbrev pub Views : List (List Field) → Type 1
Views [] = Unit {1}
Views ([] ∷ Fss) = Views Fss
Views ((F ∷ Fs) ∷ Fss) = ((V : Type 0) × (Values (F ∷ Fs) → V)) × Views Fss

-- a variant, with the view of its fields
abbrev pub Viewed : (Fss : List (List Field)) → Views Fss → Type 0
Viewed [] views = ⊥
Viewed ([] ∷ Fss) views = Unit {0} ⊎ Viewed Fss views
Viewed ((F ∷ Fs) ∷ Fss) views = views.0.0 ⊎ Viewed Fss views.1

abbrev pub viewed : (Fss : List (List Field)) (views : Views Fss) → Choice Fss → Viewed Fss views
viewed [] views c = absurd c
viewed ([] ∷ Fss) views (inl x) = inl x
viewed ([] ∷ Fss) views (inr c) = inr (viewed Fss views c)
viewed ((F ∷ Fs) ∷ Fss) views (inl x) = inl (views.0.1 x)
viewed ((F ∷ Fs) ∷ Fss) views (inr c) = inr (viewed Fss views.1 c)

-- `true` if each variant without fields is equal to itself
abbrev pub holds_of_points : (Fss : List (List Field)) → Each Bool Fss → Bool
holds_of_points [] tests = true
holds_of_points ([] ∷ Fss) tests = tests.0 tt tt && holds_of_points Fss tests.1
holds_of_points ((F ∷ Fs) ∷ Fss) tests = holds_of_points Fss tests.1

-- for each variant that has fields, the test of the fields decides whether their views are equal
abbrev pub FieldsDecide : (Fss : List (List Field)) → Views Fss → Each Bool Fss → Type 0
FieldsDecide [] views tests = Unit {0}
FieldsDecide ([] ∷ Fss) views tests = FieldsDecide Fss views tests.1
FieldsDecide ((F ∷ Fs) ∷ Fss) views tests = ((x y : Values (F ∷ Fs)) → Decides (tests.0 x y) (views.0.1 x ≡ views.0.1 y)) × FieldsDecide Fss views.1 tests.1

pub variants_decide : (Fss : List (List Field)) (views : Views Fss) (tests : Each Bool Fss) → holds_of_points Fss tests ≡ true → FieldsDecide Fss views tests → (c d : Choice Fss) → Decides (by false false Fss tests c d) (viewed Fss views c ≡ viewed Fss views d)
variants_decide [] views tests points fields c d = absurd c
variants_decide ([] ∷ Fss) views tests points fields (inl x) (inl y) = (λ e. refl, λ e. first_so (tests.0 tt tt) (holds_of_points Fss tests.1) points)
variants_decide ([] ∷ Fss) views tests points fields (inl x) (inr d) = never (λ e. subst IsLeft e tt)
variants_decide ([] ∷ Fss) views tests points fields (inr c) (inl y) = never (λ e. subst IsLeft (sym e) tt)
variants_decide ([] ∷ Fss) views tests points fields (inr c) (inr d) =
    decides_along (λ e. ap inr e) (λ e. ap (right_or (viewed Fss views c)) e) (variants_decide Fss views tests.1 (second_so (tests.0 tt tt) (holds_of_points Fss tests.1) points) fields c d)
variants_decide ((F ∷ Fs) ∷ Fss) views tests points fields (inl x) (inl y) =
    decides_along (λ e. ap inl e) (λ e. ap (left_or (views.0.1 x)) e) (fields.0 x y)
variants_decide ((F ∷ Fs) ∷ Fss) views tests points fields (inl x) (inr d) = never (λ e. subst IsLeft e tt)
variants_decide ((F ∷ Fs) ∷ Fss) views tests points fields (inr c) (inl y) = never (λ e. subst IsLeft (sym e) tt)
variants_decide ((F ∷ Fs) ∷ Fss) views tests points fields (inr c) (inr d) =
    decides_along (λ e. ap inr e) (λ e. ap (right_or (viewed Fss views.1 c)) e) (variants_decide Fss views.1 tests.1 points fields.1 c d)

-- ---- enums in which each view of fields is the identity

abbrev pub themselves : (Fss : List (List Field)) → Views Fss
themselves [] = tt
themselves ([] ∷ Fss) = themselves Fss
themselves ((F ∷ Fs) ∷ Fss) = ((Values (F ∷ Fs), λ x. x), themselves Fss)

unviewed : (Fss : List (List Field)) → Viewed Fss (themselves Fss) → Choice Fss
unviewed [] c = absurd c
unviewed ([] ∷ Fss) (inl x) = inl x
unviewed ([] ∷ Fss) (inr c) = inr (unviewed Fss c)
unviewed ((F ∷ Fs) ∷ Fss) (inl x) = inl x
unviewed ((F ∷ Fs) ∷ Fss) (inr c) = inr (unviewed Fss c)

unviewed-viewed : (Fss : List (List Field)) (c : Choice Fss) → unviewed Fss (viewed Fss (themselves Fss) c) ≡ c
unfolding unviewed
unviewed-viewed [] c = absurd c
unviewed-viewed ([] ∷ Fss) (inl x) = refl
unviewed-viewed ([] ∷ Fss) (inr c) = ap inr (unviewed-viewed Fss c)
unviewed-viewed ((F ∷ Fs) ∷ Fss) (inl x) = refl
unviewed-viewed ((F ∷ Fs) ∷ Fss) (inr c) = ap inr (unviewed-viewed Fss c)

module _ {D : Type 0} (Fss : List (List Field)) (as_values : D → Choice Fss) (make : Choice Fss → D) (eta : (d : D) → make (as_values d) ≡ d) (test : D → D → Bool) where
  abbrev pub enum_tests : Each Bool Fss
  enum_tests = own_tests Fss (λ c d. test (make c) (make d))

  -- the derived test of an enum decides `≡` if the tests of its fields do
  pub enum_decides : ((a b : D) → test a b ≡ by false false Fss enum_tests (as_values a) (as_values b)) → holds_of_points Fss enum_tests ≡ true → FieldsDecide Fss (themselves Fss) enum_tests → (a b : D) → Decides (test a b) (a ≡ b)
  enum_decides derived points fields a b =
      let told = variants_decide Fss (themselves Fss) enum_tests points fields (as_values a) (as_values b) in
      let back : viewed Fss (themselves Fss) (as_values a) ≡ viewed Fss (themselves Fss) (as_values b) → a ≡ b =
      λ e. sym (eta a) ∙ ap make (sym (unviewed-viewed Fss (as_values a)) ∙ ap (unviewed Fss) e ∙ unviewed-viewed Fss (as_values b)) ∙ eta b
      in
      (λ e. back (told.0 (sym (derived a b) ∙ e)), λ e. derived a b ∙ told.1 (ap (λ d. viewed Fss (themselves Fss) (as_values d)) e))
