-- Lists of expressions in scope, each of them known or not.
use Rattle.std.proofs.Common.{◌≡◌, ◌∙◌, ◌≤◌, ℕ, Bool, true, false, List, [], ◌∷◌, ◌++◌, append-nil, append_assoc, length, take, drop, refl, sym, ap, subst, arith, length-append}
use Rattle.std.proofs.Math.Seq.{take-append_seam}
use Rattle.std.proofs.lemmas.List.{take-append-drop}
use Rattle.std.specs.Prelude.{if◌then◌else◌}
use Rattle.naga_flow.specs.Tracking.{AreSame, Seen, all_known, known_of, none_known, scope_of}
use Rattle.naga_flow.proofs.IncludesLemmas.{Includes-both, Includes-itself, Includes-left, Includes-right}

pub scope_of-append : (xs ys : List Seen) → scope_of (xs ++ ys) ≡ scope_of xs ++ scope_of ys
scope_of-append [] ys = refl
scope_of-append (x ∷ xs) ys = ap (λ rest. x.handle ∷ rest) (scope_of-append xs ys)

pub known_of-append : (xs ys : List Seen) → known_of (xs ++ ys) ≡ known_of xs ++ known_of ys
known_of-append [] ys = refl
known_of-append (x ∷ xs) ys = go x.is_known (known_of-append xs ys)
  where
    go : (t : Bool) → known_of (xs ++ ys) ≡ known_of xs ++ known_of ys →
        (if t then x.handle ∷ known_of (xs ++ ys) else known_of (xs ++ ys)) ≡ (if t then x.handle ∷ known_of xs else known_of xs) ++ known_of ys
    go true later = ap (λ rest. x.handle ∷ rest) later
    go false later = later

scope_of-all_known : (xs : List ℕ) → scope_of (all_known xs) ≡ xs
scope_of-all_known [] = refl
scope_of-all_known (x ∷ xs) = ap (λ rest. x ∷ rest) (scope_of-all_known xs)

known_of-all_known : (xs : List ℕ) → known_of (all_known xs) ≡ xs
known_of-all_known [] = refl
known_of-all_known (x ∷ xs) = ap (λ rest. x ∷ rest) (known_of-all_known xs)

pub all_known-append : (xs ys : List ℕ) → all_known (xs ++ ys) ≡ all_known xs ++ all_known ys
all_known-append [] ys = refl
all_known-append (x ∷ xs) ys = ap (λ rest. record { handle = x; is_known = true } ∷ rest) (all_known-append xs ys)

scope_of-none_known : (all : List Seen) → scope_of (none_known all) ≡ scope_of all
scope_of-none_known [] = refl
scope_of-none_known (x ∷ xs) = ap (λ rest. x.handle ∷ rest) (scope_of-none_known xs)

known_of-none_known : (all : List Seen) → known_of (none_known all) ≡ []
known_of-none_known [] = refl
known_of-none_known (x ∷ xs) = known_of-none_known xs

AreSame-swapped : (xs ys : List ℕ) → AreSame (ys ++ xs) (xs ++ ys)
AreSame-swapped xs ys = record {
  there = Includes-both xs ys (Includes-right ys xs Includes-itself) (Includes-left ys xs Includes-itself);
  back = Includes-both ys xs (Includes-right xs ys Includes-itself) (Includes-left xs ys Includes-itself);
}

-- ---- after more expressions

module _ (old now : List Seen) (xs : List ℕ) (is : now ≡ old ++ all_known xs) where
  known-is : known_of now ≡ known_of old ++ xs
  known-is = ap known_of is ∙ (known_of-append old (all_known xs) ∙ ap (λ ys. known_of old ++ ys) (known_of-all_known xs))

  scope-is : scope_of now ≡ scope_of old ++ xs
  scope-is = ap scope_of is ∙ (scope_of-append old (all_known xs) ∙ ap (λ ys. scope_of old ++ ys) (scope_of-all_known xs))

  pub known-after : AreSame (known_of now) (xs ++ known_of old)
  known-after = subst (λ ys. AreSame ys (xs ++ known_of old)) (sym known-is) (AreSame-swapped xs (known_of old))

  pub scope-after : AreSame (scope_of now) (xs ++ scope_of old)
  scope-after = subst (λ ys. AreSame ys (xs ++ scope_of old)) (sym scope-is) (AreSame-swapped xs (scope_of old))

  pub length-after : length old ≤ length now
  length-after = let e = ap length is in let k = length-append old (all_known xs) in omega (arith, e, k)

  pub starts-after : take (length old) now ≡ old
  starts-after = ap (take (length old)) is ∙ take-append_seam old (all_known xs)

  pub all_known-after : (newer : List Seen) (ys : List ℕ) → newer ≡ now ++ all_known ys → newer ≡ old ++ all_known (xs ++ ys)
  all_known-after newer ys more =
      more ∙ (ap (λ front. front ++ all_known ys) is ∙ (append_assoc old (all_known xs) (all_known ys) ∙ ap (λ rest. old ++ rest) (sym (all_known-append xs ys))))

pub all_known-nothing : (old : List Seen) → old ≡ old ++ all_known []
all_known-nothing old = sym (append-nil old)

-- ---- where only the first ones stay known

module _ (old now kept : List Seen) (cut : ℕ) (xs ys : List ℕ) (is : now ≡ old ++ all_known xs) (cut_is : take cut now ≡ old ++ all_known ys)
    (kept_is : kept ≡ take cut now ++ none_known (drop cut now)) where
  pub known-kept : AreSame (known_of kept) (ys ++ known_of old)
  known-kept =
      let e : known_of kept ≡ known_of (take cut now) =
      ap known_of kept_is ∙ (known_of-append (take cut now) (none_known (drop cut now)) ∙ (ap (λ zs. known_of (take cut now) ++ zs) (known_of-none_known (drop cut now)) ∙ append-nil (known_of (take cut now)))) in
      subst (λ zs. AreSame zs (ys ++ known_of old)) (sym e) (known-after old (take cut now) ys cut_is)

  pub scope-kept : AreSame (scope_of kept) (xs ++ scope_of old)
  scope-kept =
      let e : scope_of kept ≡ scope_of now =
      ap scope_of kept_is
      ∙ (scope_of-append (take cut now) (none_known (drop cut now))
      ∙ (ap (λ zs. scope_of (take cut now) ++ zs) (scope_of-none_known (drop cut now))
      ∙ (sym (scope_of-append (take cut now) (drop cut now)) ∙ ap scope_of (take-append-drop cut now)))) in
      subst (λ zs. AreSame zs (xs ++ scope_of old)) (sym e) (scope-after old now xs is)

  all_is : kept ≡ old ++ (all_known ys ++ none_known (drop cut now))
  all_is = kept_is ∙ (ap (λ front. front ++ none_known (drop cut now)) cut_is ∙ append_assoc old (all_known ys) (none_known (drop cut now)))

  pub starts-kept : take (length old) kept ≡ old
  starts-kept = ap (take (length old)) all_is ∙ take-append_seam old (all_known ys ++ none_known (drop cut now))

  pub length-kept : length old ≤ length kept
  length-kept = let e = ap length all_is in let k = length-append old (all_known ys ++ none_known (drop cut now)) in omega (arith, e, k)
