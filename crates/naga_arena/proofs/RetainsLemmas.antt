-- The steps of `retain_mut`, whatever the calls of the predicate do.
use Rattle.std.proofs.Common.{◌≡◌, ℕ, ◌+◌, ◌<◌, ◌≤◌, List, [], ◌∷◌, ◌++◌, length, get_or, drop, Bool, true, false, cond, filter, Option, Some, None, refl, ap, ◌∙◌, arith, append_assoc, append-nil}
use Rattle.std.proofs.Math.ListN.{set}
use Rattle.std.proofs.lemmas.List.{drop_more, drop-set-lt}
use Rattle.std.specs.List.{cons_option, enumerate_from, filter_map, zip}
use Rattle.std.specs.Prelude.{option_map, if◌then◌else◌}
use Rattle.naga_arena.specs.Arena.{Retains, kept_entry}
use Rattle.naga_arena.specs.Span.{undefined}
use Rattle.naga_arena.specs.declared.span.Span.{Span}
use Rattle.naga_arena.proofs.ZipLemmas.{zip-set_longer}

module _ {T P : Type 0} (step : P → ℕ → T → Option T → P → Type 0) where
  -- if the calls for the remaining entries retain `later`, then all calls together retain `kept ++ later`
  abbrev pub Completes : P → List (ℕ × (T × Span)) → P → List (ℕ × (T × Span)) → List (T × Span) → Type 0
  Completes first all predicate entries kept =
      (later : List (T × Span)) → Retains step predicate entries later → Retains step first all (kept ++ later)

  -- `Completes` still holds after a call that removes its entry
  pub Completes-dropped : (first : P) (all : List (ℕ × (T × Span))) (predicate next : P) (values rest : List T) (spans : List Span) (index : ℕ) (value : T) (answer : Option T) (kept : List (T × Span)) → values ≡ value ∷ rest → index < length spans → answer ≡ None → step predicate index value answer next → Completes first all predicate (enumerate_from index (zip values (drop index spans))) kept → Completes first all next (enumerate_from (index + 1) (zip rest (drop (index + 1) spans))) kept
  Completes-dropped first all predicate next values rest spans index value answer kept taken within gave called completes later more =
      let span = get_or spans index undefined in
      let longer : Retains step predicate ((index, (value, span)) ∷ enumerate_from (index + 1) (zip rest (drop (index + 1) spans))) later = (answer, next, called, later, rw gave refl, more) in
      completes later (rw (taken, drop_more spans index undefined within) longer)

  -- `Completes` still holds after a call whose value is retained, with its span after those of the earlier values
  pub Completes-kept : (first : P) (all : List (ℕ × (T × Span))) (predicate next : P) (values rest : List T) (spans : List Span) (index : ℕ) (value given : T) (span : Span) (answer : Option T) (kept : List T) → values ≡ value ∷ rest → span ≡ get_or spans index span → index < length spans → length kept ≤ index → answer ≡ Some given → step predicate index value answer next → Completes first all predicate (enumerate_from index (zip values (drop index spans))) (zip kept spans) → Completes first all next (enumerate_from (index + 1) (zip rest (drop (index + 1) (set spans (length kept) span)))) (zip (kept ++ given ∷ []) (set spans (length kept) span))
  Completes-kept first all predicate next values rest spans index value given span answer kept taken read within behind gave called completes later =
      rw (drop-set-lt (index + 1) spans (length kept) span (omega arith), zip-set_longer kept spans given span (omega arith), append_assoc)
      (λ more.
      let longer : Retains step predicate ((index, (value, get_or spans index span)) ∷ enumerate_from (index + 1) (zip rest (drop (index + 1) spans))) ((given, span) ∷ later) = (answer, next, called, later, rw (gave, ← read) refl, more) in
      completes ((given, span) ∷ later) (rw (taken, drop_more spans index span within) longer))

  pub Completes-done : (first : P) (all : List (ℕ × (T × Span))) (predicate : P) (entries : List (ℕ × (T × Span))) (kept : List (T × Span)) → entries ≡ [] → Completes first all predicate entries kept → Retains step first all kept
  Completes-done first all predicate entries kept none completes =
      let nothing : Retains step predicate entries [] = rw none refl in
      rw append-nil at (completes [] nothing)

module _ {T : Type 0} where
  returned_entry : (answer : Option T) (span : Span) (rest : List (T × Span)) → kept_entry answer span ++ rest ≡ cons_option (option_map (λ value. (value, span)) answer) rest
  returned_entry None span rest = refl
  returned_entry (Some value) span rest = refl

  accepted_entry : (accepted : Bool) (entry : T × Span) (rest : List (T × Span)) → kept_entry (if accepted then Some entry.0 else None) entry.1 ++ rest ≡ cond accepted (entry ∷ rest) rest
  accepted_entry true entry rest = refl
  accepted_entry false entry rest = refl

-- what a predicate retains whose answers are a function of the handle and the value
module _ {T P : Type 0} where
  pub Retains-filter_map : (answers : ℕ → T → Option T) (predicate : P) (entries : List (ℕ × (T × Span))) (kept : List (T × Span))
      → Retains (λ before handle value answer after. answer ≡ answers handle value) predicate entries kept
      → kept ≡ filter_map (λ entry. option_map (λ value. (value, entry.1.1)) (answers entry.0 entry.1.0)) entries
  Retains-filter_map answers predicate [] kept none = none
  Retains-filter_map answers predicate (entry ∷ rest) kept (answer, next, called, later, is, more) =
      is
      ∙ ap (λ given. kept_entry given entry.1.1 ++ later) called
      ∙ returned_entry (answers entry.0 entry.1.0) entry.1.1 later
      ∙ ap (cons_option (option_map (λ value. (value, entry.1.1)) (answers entry.0 entry.1.0))) (Retains-filter_map answers next rest later more)

  pub Retains-filter : (accepts : T → Bool) (predicate : P) (first : ℕ) (arena kept : List (T × Span))
      → Retains (λ before handle value answer after. answer ≡ (if accepts value then Some value else None)) predicate (enumerate_from first arena) kept
      → kept ≡ filter (λ entry. accepts entry.0) arena
  Retains-filter accepts predicate first [] kept none = none
  Retains-filter accepts predicate first (entry ∷ rest) kept (answer, next, called, later, is, more) =
      is
      ∙ ap (λ given. kept_entry given entry.1 ++ later) called
      ∙ accepted_entry (accepts entry.0) entry later
      ∙ ap (λ left. cond (accepts entry.0) (entry ∷ left) left) (Retains-filter accepts next (first + 1) rest later more)
