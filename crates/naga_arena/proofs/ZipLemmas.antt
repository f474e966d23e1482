-- The values and the spans of an arena as one list of pairs.
use Rattle.std.proofs.Common.{◌≡◌, ℕ, suc, ◌+◌, ◌<◌, ◌≤◌, List, [], ◌∷◌, ◌++◌, length, get_or, take, drop, refl, ap, arith}
use Rattle.std.proofs.Math.ListN.{set}
use Rattle.std.proofs.lemmas.List.{length-drop}
use Rattle.std.proofs.lemmas.Slice.Zip.{firsts-zip, length-zip, seconds-zip}
use Rattle.std.specs.List.{zip}
use Rattle.naga_arena.specs.Arena.{values, spans}
use Rattle.naga_arena.specs.declared.span.Span.{Span}
use Rattle.naga_arena.proofs.ValueAtLemmas.{slice_get-here}

pub length-zip_equal : {A B : Type 0} → (ks : List A) (vs : List B) → length vs ≡ length ks → length (zip ks vs) ≡ length ks
length-zip_equal ks vs e = omega (arith, length-zip ks vs)

pub zip-push : {A B : Type 0} → (ks : List A) (vs : List B) (k : A) (v : B) → length vs ≡ length ks → zip (ks ++ k ∷ []) (vs ++ v ∷ []) ≡ zip ks vs ++ (k, v) ∷ []
zip-push [] [] k v e = refl
zip-push [] (w ∷ vs) k v e = absurd (omega arith)
zip-push (l ∷ ks) [] k v e = absurd (omega arith)
zip-push (l ∷ ks) (w ∷ vs) k v e = ap (λ t. (l, w) ∷ t) (zip-push ks vs k v (omega arith))

pub values-zip : {T : Type 0} → (ks : List T) (vs : List Span) → length vs ≡ length ks → values (zip ks vs) ≡ ks
values-zip = firsts-zip

pub spans-zip : {T : Type 0} → (ks : List T) (vs : List Span) → length vs ≡ length ks → spans (zip ks vs) ≡ vs
spans-zip = seconds-zip

-- zipping the values and spans of a list of pairs returns that list
pub zip-values_spans : {T : Type 0} (pairs : List (T × Span)) → zip (values pairs) (spans pairs) ≡ pairs
zip-values_spans [] = refl
zip-values_spans (pair ∷ rest) = ap (λ t. pair ∷ t) (zip-values_spans rest)

-- ---- more spans than values

pub length-zip_longer : {A B : Type 0} → (ks : List A) (vs : List B) → length ks ≤ length vs → length (zip ks vs) ≡ length ks
length-zip_longer [] vs h = refl
length-zip_longer (k ∷ ks) [] h = absurd (omega arith)
length-zip_longer (k ∷ ks) (v ∷ vs) h = ap suc (length-zip_longer ks vs (omega arith))

pub zip-push_longer : {A B : Type 0} → (ks : List A) (vs : List B) (k : A) (d : B) → length ks < length vs → zip (ks ++ k ∷ []) vs ≡ zip ks vs ++ (k, get_or vs (length ks) d) ∷ []
zip-push_longer [] [] k d h = absurd (omega arith)
zip-push_longer [] (v ∷ vs) k d h = refl
zip-push_longer (l ∷ ks) [] k d h = absurd (omega arith)
zip-push_longer (l ∷ ks) (v ∷ vs) k d h = ap (λ t. (l, v) ∷ t) (zip-push_longer ks vs k d (omega arith))

-- writing the span after those of the values sets the span of the next value
pub zip-set_longer : {A B : Type 0} → (ks : List A) (vs : List B) (k : A) (v : B) → length ks < length vs → zip (ks ++ k ∷ []) (set vs (length ks) v) ≡ zip ks vs ++ (k, v) ∷ []
zip-set_longer [] [] k v h = absurd (omega arith)
zip-set_longer [] (w ∷ vs) k v h = refl
zip-set_longer (l ∷ ks) [] k v h = absurd (omega arith)
zip-set_longer (l ∷ ks) (w ∷ vs) k v h = ap (λ t. (l, w) ∷ t) (zip-set_longer ks vs k v (omega arith))

pub zip-take : {A B : Type 0} → (ks : List A) (vs : List B) → zip ks (take (length ks) vs) ≡ zip ks vs
zip-take [] vs = refl
zip-take (k ∷ ks) [] = refl
zip-take (k ∷ ks) (v ∷ vs) = ap (λ t. (k, v) ∷ t) (zip-take ks vs)

-- as many entries remain as values, if the first spans belong to values that were already taken
pub length-zip_drop : {A B : Type 0} → (first : ℕ) (ks : List A) (vs : List B) → first + length ks ≤ length vs → length (zip ks (drop first vs)) ≡ length ks
length-zip_drop first ks vs h = length-zip_longer ks (drop first vs) (omega (arith, length-drop first vs))

pub ruleset pairs = (length-zip_equal, zip-push, values-zip, spans-zip, slice_get-here)
