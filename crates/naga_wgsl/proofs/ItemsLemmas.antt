-- The texts of items, one more at a time.
use Rattle.std.proofs.Common.{◌≡◌, ◌∙◌, ap, sym, ℕ, ◌+◌, ◌≤◌, List, ◌++◌, Some, Result, Ok, Err, append_assoc, append-nil, drop, length}
use Rattle.std.specs.List.{slice_get}
use Rattle.naga_layouter.proofs.LayingLemmas.{drop-found, drop-past}
use Rattle.naga_wgsl.specs.Operations.{followed, items_text}
use Rattle.naga_wgsl.specs.WriteError.{Attempts}
use Rattle.naga_wgsl.specs.declared.write_error.Cause.{Cause}
use Rattle.naga_wgsl.specs.declared.write_error.WriteError.{WriteError}
use Rattle.naga_wgsl.proofs.AttemptsLemmas.{attempts-stopped}
use Rattle.naga_wgsl.proofs.OperationsLemmas.{followed-assoc}

-- the first part of a text has been appended, and this is the rest
pub record Begins (whole : Result (List ℕ) Cause) (old now : List ℕ) (rest : Result (List ℕ) Cause) : Type 0 where
  pub done : List ℕ
  pub appended : now ≡ old ++ done
  pub split : whole ≡ followed (Ok done) rest

module _ {X : Type 0} (text_of : ℕ → X → Result (List ℕ) Cause) (items : List X) (whole : Result (List ℕ) Cause) (old now new : List ℕ) (i : ℕ) where
  abbrev Behind : List ℕ → ℕ → Type 0
  Behind text k = Begins whole old text (items_text text_of k (drop k items))

  next-first : (item : X) → slice_get items i ≡ Some item
      → items_text text_of i (drop i items) ≡ followed (text_of i item) (items_text text_of (i + 1) (drop (i + 1) items))
  next-first item here = ap (items_text text_of i) (drop-found items i item here)

  -- the next item has been appended
  pub items-more : {A : Type 0} (item : X) (x : A) → slice_get items i ≡ Some item → Behind now i
      → Attempts (text_of i item) now new (Ok x) → Behind new (i + 1)
  items-more item x here before next =
      let rest : Result (List ℕ) Cause = items_text text_of (i + 1) (drop (i + 1) items) in
      let text : List ℕ = next.written.0 in
      record {
        done = before.done ++ text;
        appended = next.written.2 ∙ ap (λ front. front ++ text) before.appended ∙ append_assoc old before.done text;
        split = before.split
            ∙ ap (followed (Ok before.done)) (next-first item here)
            ∙ ap (λ (t : Result (List ℕ) Cause). followed (Ok before.done) (followed t rest)) next.written.1
            ∙ sym (followed-assoc (Ok before.done) (Ok text) rest);
      }

  -- the next item could not be written
  pub items-stopped : {A B : Type 0} (item : X) (error : WriteError) → slice_get items i ≡ Some item → Behind now i
      → Attempts {A = A} (text_of i item) now new (Err error) → Attempts {A = B} whole old new (Err error)
  items-stopped item error here before next =
      let rest : Result (List ℕ) Cause = items_text text_of (i + 1) (drop (i + 1) items) in
      attempts-stopped whole (text_of i item) old new now new error
      (λ cause lacks. before.split ∙ ap (followed (Ok before.done)) (next-first item here)
      ∙ ap (λ (t : Result (List ℕ) Cause). followed (Ok before.done) (followed t rest)) lacks)
      next

  -- no item is left
  pub items-end : {A : Type 0} (x : A) → length items ≤ i → Behind now i → Attempts {A = A} whole old now (Ok x)
  items-end x past before = record {
    written = (
      before.done,
      before.split ∙ ap (λ list. followed (Ok before.done) (items_text text_of i list)) (drop-past items i past) ∙ ap Ok (append-nil before.done),
      before.appended,
    );
    stopped = tt;
  }
