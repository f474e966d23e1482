-- Entries with different keys, inserted one after another, are all there, in order.
use Rattle.std.proofs.Common.{◌≡◌, ◌≢◌, Bool, true, false, cond, List, [], ◌∷◌, ◌++◌, All, map, refl, ap, sym, ◌∙◌, append_assoc, append-nil}
use Rattle.std.proofs.lemmas.List.Elements.{All-append, All-cons, All-head, All-nil, All-tail, All-weaker}
use Rattle.indexmap.specs.IndexMap.{insert_all, insert_entry}
use Rattle.naga_namer.specs.Scopes.{AllDiffer}

pub all-unmap : {A B : Type 0} (P : B → Type 0) (f : A → B) (xs : List A) → All P (map f xs) → All (λ x. P (f x)) xs
all-unmap P f [] all = All-nil (λ x. P (f x))
all-unmap P f (x ∷ xs) all =
    All-cons (λ y. P (f y)) x xs (All-head P (f x) (map f xs) all) (all-unmap P f xs (All-tail P (f x) (map f xs) all))

pub all-both : {A : Type 0} (P Q : A → Type 0) (xs : List A) → All P xs → All Q xs → All (λ x. P x × Q x) xs
all-both P Q [] first second = All-nil (λ x. P x × Q x)
all-both P Q (x ∷ xs) first second =
    All-cons (λ y. P y × Q y) x xs (All-head P x xs first, All-head Q x xs second) (all-both P Q xs (All-tail P x xs first) (All-tail Q x xs second))

module _ {K V : Type 0} (eq : K → K → Bool) (same : (a b : K) → eq a b ≡ true → a ≡ b) where
  -- the key is that of none of the entries
  abbrev NoKey : List (K × V) → K → Type 0
  NoKey entries key = All (λ entry. key ≢ entry.0) entries

  insert-past : (b : Bool) (e : K × V) (es : List (K × V)) (k : K) (v : V) → eq k e.0 ≡ b → (k ≡ e.0 → ⊥)
      → cond b ((e.0, v) ∷ es) (e ∷ insert_entry eq es k v) ≡ e ∷ insert_entry eq es k v
  insert-past true e es k v is other = absurd (other (same k e.0 is))
  insert-past false e es k v is other = refl

  insert-last : (es : List (K × V)) (k : K) (v : V) → NoKey es k → insert_entry eq es k v ≡ es ++ (k, v) ∷ []
  insert-last [] k v none = refl
  insert-last (e ∷ es) k v none =
      insert-past (eq k e.0) e es k v refl (All-head (λ (entry : K × V). k ≢ entry.0) e es none)
      ∙ ap (λ (rest : List (K × V)). e ∷ rest) (insert-last es k v (All-tail (λ (entry : K × V). k ≢ entry.0) e es none))

  insert-more : (done xs : List (K × V)) → AllDiffer (map (λ x. x.0) xs) → All (λ x. NoKey done x.0) xs → insert_all eq done xs ≡ done ++ xs
  insert-more done [] differ none = sym (append-nil done)
  insert-more done (x ∷ xs) differ none =
      let here : insert_entry eq done x.0 x.1 ≡ done ++ x ∷ [] = insert-last done x.0 x.1 (All-head (λ (y : K × V). NoKey done y.0) x xs none) in
      let new : All (λ (y : K × V). x.0 ≢ y.0) xs = all-unmap (λ (k : K). x.0 ≢ k) (λ (y : K × V). y.0) xs differ.0 in
      let step : (y : K × V) → NoKey done y.0 × (x.0 ≢ y.0) → NoKey (done ++ x ∷ []) y.0 =
      λ y both. All-append (λ (entry : K × V). y.0 ≢ entry.0) done (x ∷ []) both.0
      (All-cons (λ (entry : K × V). y.0 ≢ entry.0) x [] (λ (e : y.0 ≡ x.0). both.1 (sym e)) (All-nil (λ (entry : K × V). y.0 ≢ entry.0))) in
      let later : All (λ (y : K × V). NoKey (done ++ x ∷ []) y.0) xs =
      All-weaker (λ (y : K × V). NoKey done y.0 × (x.0 ≢ y.0)) (λ (y : K × V). NoKey (done ++ x ∷ []) y.0) step xs
      (all-both (λ (y : K × V). NoKey done y.0) (λ (y : K × V). x.0 ≢ y.0) xs (All-tail (λ (y : K × V). NoKey done y.0) x xs none) new) in
      ap (λ (es : List (K × V)). insert_all eq es xs) here
      ∙ insert-more (done ++ x ∷ []) xs differ.1 later
      ∙ append_assoc done (x ∷ []) xs

  pub inserts-all : (xs : List (K × V)) → AllDiffer (map (λ x. x.0) xs) → insert_all eq [] xs ≡ xs
  inserts-all xs differ = insert-more [] xs differ (none-before xs)
    where
      none-before : (ys : List (K × V)) → All (λ (y : K × V). NoKey [] y.0) ys
      none-before [] = All-nil (λ (y : K × V). NoKey [] y.0)
      none-before (y ∷ ys) = All-cons (λ (z : K × V). NoKey [] z.0) y ys (All-nil (λ (entry : K × V). y.0 ≢ entry.0)) (none-before ys)

  pub insert-append : (start xs ys : List (K × V)) → insert_all eq (insert_all eq start xs) ys ≡ insert_all eq start (xs ++ ys)
  insert-append start [] ys = refl
  insert-append start (x ∷ xs) ys = insert-append (insert_entry eq start x.0 x.1) xs ys
