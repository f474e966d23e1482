-- Writing one value of an arena, or replacing it by a value that is appended and then moved to its position.
use Rattle.std.proofs.Common.{◌≡◌, ℕ, zero, suc, ◌-◌, ◌<◌, Bool, List, [], ◌∷◌, ◌++◌, length, take, position, Option, None, Some, refl, ap, sym, ◌∙◌, arith, length-append}
use Rattle.std.specs.List.{swap_remove, slice_index_or, slice_get, zip}
use Rattle.std.specs.Prelude.{IfSome}
use Rattle.indexmap.specs.IndexSet.{insert_key}
use Rattle.naga_arena.specs.Arena.{handle_of, values, with_value}
use Rattle.naga_arena.specs.declared.span.Span.{Span}
use Rattle.naga_arena.proofs.PositionLemmas.{list_any-absent}
use Rattle.naga_arena.proofs.ZipLemmas.{length-zip_equal, values-zip}
use Rattle.std.proofs.Math.Seq.{get_or-append_seam, take-append_seam}
use Rattle.std.proofs.Math.ListN.{set, length-set}
use Rattle.std.proofs.lemmas.List.{set-append_left}
use Rattle.std.proofs.lemmas.Option.{slice_get-get_or}

pub with_value-zip : {T : Type 0} → (ks : List T) (vs : List Span) (i : ℕ) (value : T) → length vs ≡ length ks → with_value (zip ks vs) i value ≡ zip (set ks i value) vs
with_value-zip [] vs i value e = refl
with_value-zip (k ∷ ks) [] i value e = absurd (omega arith)
with_value-zip (k ∷ ks) (v ∷ vs) zero value e = refl
with_value-zip (k ∷ ks) (v ∷ vs) (suc i) value e = ap (λ t. (k, v) ∷ t) (with_value-zip ks vs i value (omega arith))

-- removing a value by `swap_remove` moves the appended value to its position
pub swap_remove-push : {T : Type 0} → (xs : List T) (x : T) (i : ℕ) (d : T) → i < length xs → swap_remove (xs ++ x ∷ []) i d ≡ set xs i x
swap_remove-push xs x i d inside =
    let long : length (xs ++ x ∷ []) - 1 ≡ length (set xs i x) = omega (arith, length-append xs (x ∷ []), length-set xs i x) in
    let same : length (xs ++ x ∷ []) - 1 ≡ length xs = omega (arith, length-append xs (x ∷ [])) in
    ap (λ n. take (length (xs ++ x ∷ []) - 1) (set (xs ++ x ∷ []) i (slice_index_or (xs ++ x ∷ []) n d))) same
    ∙ ap (λ y. take (length (xs ++ x ∷ []) - 1) (set (xs ++ x ∷ []) i y)) (get_or-append_seam xs x [] d)
    ∙ ap (take (length (xs ++ x ∷ []) - 1)) (set-append_left xs (x ∷ []) i x inside)
    ∙ ap (λ n. take n (set xs i x ++ x ∷ [])) long
    ∙ take-append_seam (set xs i x) (x ∷ [])

-- a value that is not present is appended, and then moved to the position of the removed one
pub replaced_keys : {T : Type 0} (eq : T → T → Bool) → (xs inserted left : List T) (x : T) (i : ℕ) (taken : Option T)
    → position (eq x) xs ≡ None → inserted ≡ insert_key eq xs x → i < length xs → taken ≡ slice_get inserted i
    → IfSome taken (λ d. left ≡ swap_remove inserted i d) → left ≡ set xs i x
replaced_keys {T} eq xs inserted left x i taken absent adds inside takes moves = by taken takes moves
  where
    last : inserted ≡ xs ++ x ∷ []
    last = rw (list_any-absent (eq x) xs absent) at adds

    by : (o : Option T) → o ≡ slice_get inserted i → IfSome o (λ d. left ≡ swap_remove inserted i d) → left ≡ set xs i x
    by None none _ =
        let within : i < length inserted = omega (arith, ap length last, length-append xs (x ∷ [])) in
        let some = none ∙ slice_get-get_or inserted i x within in cc
    by (Some d) _ says = says ∙ ap (λ l. swap_remove l i d) last ∙ swap_remove-push xs x i d inside

-- the same for the values of an arena
pub replaced_values : {T : Type 0} (eq : T → T → Bool) → (xs inserted left : List T) (spans : List Span) (arena : List (T × Span)) (x : T) (handle i : ℕ) (taken : Option T)
    → zip xs spans ≡ arena → length spans ≡ length xs → handle_of eq arena x ≡ None → inserted ≡ insert_key eq xs x → handle < length arena → i ≡ handle
    → taken ≡ slice_get inserted i → IfSome taken (λ d. left ≡ swap_remove inserted i d) → left ≡ set xs handle x
replaced_values eq xs inserted left spans arena x handle i taken pairs aligned absent adds inside at takes moves =
    let same : values arena ≡ xs = ap values (sym pairs) ∙ values-zip xs spans aligned in
    let long : length arena ≡ length xs = ap length (sym pairs) ∙ length-zip_equal xs spans aligned in
    replaced_keys eq xs inserted left x i taken (ap (position (eq x)) (sym same) ∙ absent) adds (omega arith) takes moves
    ∙ ap (λ k. set xs k x) at
