-- Entries of a map with renamed keys.
use Rattle.std.proofs.Common.{◌≡◌, ◌∙◌, sym, ap, refl, subst, inl, inr, zero, suc, List, [], ◌∷◌, ◌++◌, map, Bool, true, false, true≢false, Some, None, append_assoc, arith}
use Rattle.std.specs.List.{AllByRecursion, Contains, IsDistinct}
use Rattle.std.specs.Map.{keys_of, lookup}
use Rattle.std.specs.Prelude.{◌↔◌, IsTrue, if◌then◌else◌}
use Rattle.std.proofs.lemmas.Bool.{cases_Bool, false_from_ne_true}
use Rattle.std.proofs.lemmas.Map.Keys.{IsDistinct-cons, IsDistinct-head, IsDistinct-tail}
use Rattle.std.proofs.lemmas.Option.{same_Some}
use Rattle.naga_compact.specs.Functions.{rename_keys}

module _ {K X : Type 0} (test : K → Bool) (f : K → K) where
  pub rename_keys-passes : (k : K) (v : X) (rest : List (K × X)) → test k ≡ true → rename_keys test f ((k, v) ∷ rest) ≡ (f k, v) ∷ rename_keys test f rest
  rename_keys-passes k v rest so = rw so refl

  pub rename_keys-fails : (k : K) (v : X) (rest : List (K × X)) → test k ≡ false → rename_keys test f ((k, v) ∷ rest) ≡ rename_keys test f rest
  rename_keys-fails k v rest so = rw so refl

  pub rename_keys-Contains : (entries : List (K × X)) (k : K) → test k ≡ true → Contains (keys_of entries) k → Contains (keys_of (rename_keys test f entries)) (f k)
  rename_keys-Contains [] k passes (i, inside, is) = absurd (omega arith)
  rename_keys-Contains ((j, v) ∷ rest) k passes (zero, inside, is) =
      let here : test j ≡ true = ap test is ∙ passes in
      subst (λ es. Contains (keys_of es) (f k)) (sym (rename_keys-passes j v rest here)) (zero, omega arith, ap f is)
  rename_keys-Contains ((j, v) ∷ rest) k passes (suc i, inside, is) =
      let later = rename_keys-Contains rest k passes (i, omega arith, is) in
      elim (cases_Bool (test j)) [
        | inl so ↦ subst (λ es. Contains (keys_of es) (f k)) (sym (rename_keys-passes j v rest so)) (suc later.0, omega (arith, later.1), later.2)
        | inr so ↦ subst (λ es. Contains (keys_of es) (f k)) (sym (rename_keys-fails j v rest so)) later
      ]

module _ {K : Type 0} (test : K → Bool) (f : K → K) where
  renamed-kept : (b : Bool) (k y : K) → Some k ≡ (if b then Some y else None) → (b ≡ true) × (k ≡ y)
  renamed-kept true k y is = (refl, same_Some k y is)
  renamed-kept false k y is = absurd (cc)

  renamed-removed : (b : Bool) (y : K) → None ≡ (if b then Some y else None) → b ≡ false
  renamed-removed true y is = absurd (cc)
  renamed-removed false y is = refl

  -- ---- a map, from which some entries have been taken, and one to which they were appended with renamed keys

  pub rename_keys-appended : {X : Type 0} (whole before after left : List (K × X)) (k k' : K) (v : X) (rest : List (K × X)) → before ++ rename_keys test f left ≡ rename_keys test f whole → left ≡ (k, v) ∷ rest → Some k' ≡ (if test k then Some (f k) else None) → after ≡ before ++ (k', v) ∷ [] → after ++ rename_keys test f rest ≡ rename_keys test f whole
  rename_keys-appended whole before after left k k' v rest all here renamed appended =
      let kept = renamed-kept (test k) k' (f k) renamed in
      rw (appended, append_assoc, kept.1)
      (ap (λ es. before ++ es) (sym (ap (rename_keys test f) here ∙ rename_keys-passes test f k v rest kept.0)) ∙ all)

  pub rename_keys-removed : {X : Type 0} (whole before after left : List (K × X)) (k : K) (v : X) (rest : List (K × X)) → before ++ rename_keys test f left ≡ rename_keys test f whole → left ≡ (k, v) ∷ rest → None ≡ (if test k then Some (f k) else None) → after ≡ before → after ++ rename_keys test f rest ≡ rename_keys test f whole
  rename_keys-removed whole before after left k v rest all here removed same =
      let fails = rename_keys-fails test f k v rest (renamed-removed (test k) (f k) removed) in
      rw same (ap (λ es. before ++ es) (sym (ap (rename_keys test f) here ∙ fails)) ∙ all)

-- tests that agree on each key keep the same entries
pub rename_keys-agree : {K X : Type 0} (test test' : K → Bool) (f : K → K) (entries : List (K × X)) → ((k : K) → Contains (keys_of entries) k → test k ≡ test' k) → rename_keys test f entries ≡ rename_keys test' f entries
rename_keys-agree test test' f [] agree = refl
rename_keys-agree test test' f ((k, v) ∷ rest) agree =
    let here : test k ≡ test' k = agree k (0, omega arith, refl) in
    let later = rename_keys-agree test test' f rest (λ j is. agree j (suc is.0, omega (arith, is.1), is.2)) in
    elim (cases_Bool (test' k)) [
      | inl so ↦ rename_keys-passes test f k v rest (here ∙ so) ∙ ap (λ es. (f k, v) ∷ es) later ∙ sym (rename_keys-passes test' f k v rest so)
      | inr so ↦ rename_keys-fails test f k v rest (here ∙ so) ∙ later ∙ sym (rename_keys-fails test' f k v rest so)
    ]

-- the keys if all pass the test
pub keys_of-rename_keys : {K X : Type 0} (test : K → Bool) (f : K → K) (entries : List (K × X)) → ((k : K) → Contains (keys_of entries) k → test k ≡ true) → keys_of (rename_keys test f entries) ≡ map f (keys_of entries)
keys_of-rename_keys test f [] passes = refl
keys_of-rename_keys test f ((k, v) ∷ rest) passes =
    ap keys_of (rename_keys-passes test f k v rest (passes k (0, omega arith, refl)))
    ∙ ap (λ ks. f k ∷ ks) (keys_of-rename_keys test f rest (λ j is. passes j (suc is.0, omega (arith, is.1), is.2)))

-- ---- keys that are compared by a test that decides whether they are the same

module _ {K : Type 0} (eq : K → K → Bool) (decides : (a b : K) → IsTrue (eq a b) ↔ (a ≡ b)) where
  differ : (a b : K) → (a ≡ b → ⊥) → eq a b ≡ false
  differ a b apart = false_from_ne_true (eq a b) (λ equal. apart ((decides a b).0 equal))

  apart : (a b : K) → eq a b ≡ false → a ≡ b → ⊥
  apart a b no' same = true≢false (sym ((decides a b).1 same) ∙ no')

  differs_from_key : {X : Type 0} (before : List (K × X)) (k : K) (v : X) (rest : List (K × X)) (j : K) → AllByRecursion (λ y. eq j y ≡ false) (keys_of (before ++ (k, v) ∷ rest)) → eq j k ≡ false
  differs_from_key [] k v rest j all = all.0
  differs_from_key (x ∷ before) k v rest j all = differs_from_key before k v rest j all.1

  -- a key before which there are distinct entries is not among them
  lookup-before : {X : Type 0} (before : List (K × X)) (k : K) (v : X) (rest : List (K × X)) → IsDistinct eq (keys_of (before ++ (k, v) ∷ rest)) → lookup (eq k) before ≡ None
  lookup-before [] k v rest distinct = refl
  lookup-before ((j, w) ∷ before) k v rest distinct =
      let earlier = differs_from_key before k v rest j (IsDistinct-head eq j (keys_of (before ++ (k, v) ∷ rest)) distinct) in
      let no' : eq k j ≡ false = differ k j (λ same. apart j k earlier (sym same)) in
      rw no' (lookup-before before k v rest (IsDistinct-tail eq j (keys_of (before ++ (k, v) ∷ rest)) distinct))

  module _ (test : K → Bool) (f : K → K) (injective : (a b : K) → test a ≡ true → test b ≡ true → f a ≡ f b → a ≡ b) where
    apart_from_all : {X : Type 0} (k : K) → test k ≡ true → (entries : List (K × X)) → AllByRecursion (λ y. eq k y ≡ false) (keys_of entries) → AllByRecursion (λ y. eq (f k) y ≡ false) (keys_of (rename_keys test f entries))
    apart_from_all k passes [] all = tt
    apart_from_all k passes ((j, v) ∷ rest) all = elim (cases_Bool (test j)) [
      | inl so ↦
          subst (λ es. AllByRecursion (λ y. eq (f k) y ≡ false) (keys_of es)) (sym (rename_keys-passes test f j v rest so))
          (differ (f k) (f j) (λ same. apart k j all.0 (injective k j passes so same)), apart_from_all k passes rest all.1)
      | inr so ↦ subst (λ es. AllByRecursion (λ y. eq (f k) y ≡ false) (keys_of es)) (sym (rename_keys-fails test f j v rest so)) (apart_from_all k passes rest all.1)
    ]

    rename_keys-IsDistinct : {X : Type 0} (entries : List (K × X)) → IsDistinct eq (keys_of entries) → IsDistinct eq (keys_of (rename_keys test f entries))
    rename_keys-IsDistinct [] distinct = distinct
    rename_keys-IsDistinct ((k, v) ∷ rest) distinct =
        let later = rename_keys-IsDistinct rest (IsDistinct-tail eq k (keys_of rest) distinct) in
        elim (cases_Bool (test k)) [
          | inl so ↦
              subst (λ es. IsDistinct eq (keys_of es)) (sym (rename_keys-passes test f k v rest so))
              (IsDistinct-cons eq (f k) (keys_of (rename_keys test f rest)) (apart_from_all k so rest (IsDistinct-head eq k (keys_of rest) distinct)) later)
          | inr so ↦ subst (λ es. IsDistinct eq (keys_of es)) (sym (rename_keys-fails test f k v rest so)) later
        ]

    -- the key of the next entry is not among the renamed ones
    pub rename_keys-absent : {X : Type 0} (whole before left : List (K × X)) (k k' : K) (v : X) (rest : List (K × X)) → IsDistinct eq (keys_of whole) → before ++ rename_keys test f left ≡ rename_keys test f whole → left ≡ (k, v) ∷ rest → Some k' ≡ (if test k then Some (f k) else None) → lookup (eq k') before ≡ None
    rename_keys-absent whole before left k k' v rest distinct all here renamed =
        let split : (before ++ (k', v) ∷ []) ++ rename_keys test f rest ≡ rename_keys test f whole =
        rename_keys-appended test f whole before (before ++ (k', v) ∷ []) left k k' v rest all here renamed refl
        in
        lookup-before before k' v (rename_keys test f rest) (subst (λ es. IsDistinct eq (keys_of es)) (sym (rw append_assoc at split)) (rename_keys-IsDistinct whole distinct))
