-- Clones that are inserted into a unique arena, one after another.
use Rattle.std.proofs.Common.{◌≡◌, ℕ, ◌+◌, ◌<◌, ◌≤◌, Bool, true, false, not, List, [], ◌∷◌, ◌++◌, length, take, get_or, refl, ap, sym, ◌∙◌, arith, if◌then◌else◌}
use Rattle.std.proofs.lemmas.List.{length-take-le, take_more, take_all}
use Rattle.std.proofs.lemmas.List.Elements.{all_zip_more, length_all_zip}
use Rattle.std.proofs.lemmas.List.Sums.{fold-append}
use Rattle.std.specs.List.{AllZip, list_any, zip}
use Rattle.indexmap.specs.IndexSet.{insert_key}
use Rattle.naga_arena.specs.Arena.{spans}
use Rattle.naga_arena.specs.UniqueArena.{with_pair, without_repeats, IsUniqueCloneOf}
use Rattle.naga_arena.specs.declared.span.Span.{Span}
use Rattle.naga_arena.proofs.ZipLemmas.{spans-zip, values-zip, zip-push}

module _ {T : Type 0} (eq : T → T → Bool) where
  -- appending a value and its span, unless the value is present, appends their pair to the list of pairs
  with_pair-zip : (keys new_keys : List T) (spans new_spans : List Span) (value : T) (span : Span) (present : Bool)
      → length spans ≡ length keys → list_any (eq value) keys ≡ present
      → new_keys ≡ (if present then keys else keys ++ value ∷ [])
      → new_spans ≡ (if not present then spans ++ span ∷ [] else spans)
      → zip new_keys new_spans ≡ (if present then zip keys spans else zip keys spans ++ (value, span) ∷ [])
  with_pair-zip keys new_keys spans new_spans value span true aligned has keys_are spans_are = rw (keys_are, spans_are) refl
  with_pair-zip keys new_keys spans new_spans value span false aligned has keys_are spans_are =
      rw (keys_are, spans_are) (zip-push keys spans value span aligned)

  -- inserting one more clone keeps the arena equal to all clones without repeats
  pub without_repeats-push : (keys new_keys : List T) (spans new_spans : List Span) (clones : List T) (sources : List Span) (value : T) (span : Span) (added : Bool)
      → length spans ≡ length keys → length sources ≡ length clones
      → zip keys spans ≡ without_repeats eq (zip clones sources)
      → new_keys ≡ insert_key eq keys value → added ≡ not (list_any (eq value) keys)
      → new_spans ≡ (if added then spans ++ span ∷ [] else spans)
      → zip new_keys new_spans ≡ without_repeats eq (zip (clones ++ value ∷ []) (sources ++ span ∷ []))
  without_repeats-push keys new_keys spans new_spans clones sources value span added aligned in_step so_far keys_are added_is spans_are =
      with_pair-zip keys new_keys spans new_spans value span (list_any (eq value) keys) aligned refl keys_are (rw added_is at spans_are)
      ∙ sym (ap (λ ks. if list_any (eq value) ks then zip keys spans else zip keys spans ++ (value, span) ∷ []) (values-zip keys spans aligned))
      ∙ ap (λ arena. with_pair eq arena (value, span)) so_far
      ∙ sym (fold-append (with_pair eq) [] (zip clones sources) ((value, span) ∷ []))
      ∙ ap (without_repeats eq) (sym (zip-push clones sources value span in_step))

module _ {T : Type 0} (eq : T → T → Bool) (clones_to : T → T → Type 0) (sources : List T) (origins : List Span) where
  -- the first `i` values were cloned, and the arena has their clones without repeats
  abbrev pub Cloned : ℕ → List T → List Span → Type 0
  Cloned i keys spans =
      (clones : List T) × AllZip clones_to (take i sources) clones × (zip keys spans ≡ without_repeats eq (zip clones (take i origins)))

  pub Cloned-more : (i : ℕ) (keys new_keys : List T) (spans new_spans : List Span) (source value : T) (span d : Span) (added : Bool)
      → length origins ≡ length sources → i < length sources → length spans ≡ length keys → source ≡ get_or sources i source → clones_to source value → span ≡ get_or origins i d
      → new_keys ≡ insert_key eq keys value → added ≡ not (list_any (eq value) keys)
      → new_spans ≡ (if added then spans ++ span ∷ [] else spans)
      → Cloned i keys spans → Cloned (i + 1) new_keys new_spans
  Cloned-more i keys new_keys spans new_spans source value span d added aligned within in_step is clone here keys_are added_is spans_are so_far =
      let told : length (take i sources) ≡ i = length-take-le i sources (omega arith) in
      let taken : length (take i origins) ≡ i = length-take-le i origins (omega arith) in
      let many : length (take i sources) ≡ length so_far.0 = length_all_zip clones_to (take i sources) so_far.0 so_far.1 in
      let more : take (i + 1) origins ≡ take i origins ++ span ∷ [] =
      take_more origins i d (omega arith) ∙ ap (λ s. take i origins ++ s ∷ []) (sym here) in (
        so_far.0 ++ value ∷ [],
        all_zip_more clones_to sources so_far.0 i source value within is so_far.1 clone,
        without_repeats-push eq keys new_keys spans new_spans so_far.0 (take i origins) value span added in_step (omega arith) so_far.2 keys_are added_is spans_are
            ∙ ap (λ s. without_repeats eq (zip (so_far.0 ++ value ∷ []) s)) (sym more),
      )

  pub Cloned-all : (i : ℕ) (keys : List T) (kept : List Span) → length origins ≡ length sources → length sources ≤ i → Cloned i keys kept → IsUniqueCloneOf eq clones_to (zip sources origins) (zip keys kept)
  Cloned-all i keys kept aligned past so_far =
      let told = values-zip sources origins aligned in
      let all : take i origins ≡ spans (zip sources origins) = take_all i origins (omega arith) ∙ sym (spans-zip sources origins aligned) in (
        so_far.0,
        rw told (rw (take_all i sources past) at so_far.1),
        so_far.2 ∙ ap (λ s. without_repeats eq (zip so_far.0 s)) all,
      )
