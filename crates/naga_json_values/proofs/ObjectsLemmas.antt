-- An object has given fields and no others exactly if the number of its members is that of the fields that it has.
use Rattle.std.proofs.Common.{◌≡◌, ◌≢◌, ℕ, suc, ◌+◌, ◌==◌, List, [], ◌∷◌, length, get_or, map, Some, None, is_some, count_by, cond, refl, ap, arith, add-one, ◌∙◌, sym}
use Rattle.std.specs.List.{fold}
use Rattle.std.specs.Borrow.{Bor}
use Rattle.std.proofs.lemmas.Bool.Decides.{nat_tests}
use Rattle.json.specs.Json.{Json, Members}
use Rattle.json.specs.Find.{get, as_object}
use Rattle.json.specs.Value.{members_of}
use Rattle.naga_json.specs.Objects.{count_fields, member_count, fields_in, only_member}
use Rattle.naga_json.proofs.BindLemmas.{at_some}

count_from : (count : ℕ) (names : List (Bor (List ℕ))) (j : Json) → fold (λ a x. a + cond (is_some (get x j)) 1 0) count (map (λ n. n.now) names) ≡ fold (λ a x. a + cond (is_some (get x.now j)) 1 0) count names
count_from count [] j = refl
count_from count (n ∷ ns) j = count_from (count + cond (is_some (get n.now j)) 1 0) ns j

count_fields_of_names : (names : List (Bor (List ℕ))) (j : Json) → count_fields (map (λ n. n.now) names) j ≡ count_by (λ n. is_some (get n.now j)) names
count_fields_of_names names j = count_from 0 names j

pub member_count-length : {A : Type 0} (view : A → Json) (ms : List (Bor (List ℕ) × A)) → member_count (members_of (map (λ m. (m.0, view m.1)) ms)) ≡ length ms
member_count-length view [] = refl
member_count-length view (m ∷ ms) = add-one (member_count (members_of (map (λ m. (m.0, view m.1)) ms))) ∙ ap suc (member_count-length view ms)

pub chosen : (count size : ℕ) (j : Json) → count ≡ size → cond (count == size) (Some j) None ≡ Some j
chosen count size j e = grind (arith, nat_tests)

pub refused : (count size : ℕ) (j : Json) → count ≢ size → cond (count == size) (Some j) None ≡ None
refused count size j e = grind (arith, nat_tests)

pub fields_in-object : (names : List (Bor (List ℕ))) (j : Json) (ms : Members) (count size : ℕ) → Some ms ≡ as_object j
    → count ≡ count_by (λ n. is_some (get n.now j)) names → member_count ms ≡ size → count ≡ size
    → Some j ≡ fields_in (map (λ n. n.now) names) j
fields_in-object names j ms count size found counted sized same = sym (at_some _ ms _ (sym found) ∙ chosen _ _ j (count_fields_of_names names j ∙ sym counted ∙ same ∙ sym sized))

pub fields_in-others : (names : List (Bor (List ℕ))) (j : Json) (ms : Members) (count size : ℕ) → Some ms ≡ as_object j
    → count ≡ count_by (λ n. is_some (get n.now j)) names → member_count ms ≡ size → count ≢ size
    → None ≡ fields_in (map (λ n. n.now) names) j
fields_in-others names j ms count size found counted sized other = sym (at_some _ ms _ (sym found) ∙ refused _ _ j (λ e. other (counted ∙ sym (count_fields_of_names names j) ∙ e ∙ sized)))

pub only_member-other : {A : Type 0} (view : A → Json) (ms : List (Bor (List ℕ) × A)) → length ms ≢ 1 → only_member (members_of (map (λ m. (m.0, view m.1)) ms)) ≡ None
only_member-other view [] h = refl
only_member-other view (m ∷ []) h = absurd (h refl)
only_member-other view (m ∷ n ∷ ms) h = refl

pub only_member-first : {A : Type 0} (view : A → Json) (ms : List (Bor (List ℕ) × A)) (first : Bor (List ℕ) × A) → length ms ≡ 1 → first ≡ get_or ms 0 first → only_member (members_of (map (λ m. (m.0, view m.1)) ms)) ≡ Some (first.0.now, view first.1)
only_member-first view [] first h e = absurd (omega (arith, h))
only_member-first view (m ∷ []) first h e = rw e refl
only_member-first view (m ∷ n ∷ ms) first h e = absurd (omega (arith, h))
