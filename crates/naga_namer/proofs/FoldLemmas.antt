-- A fold over one more item.
use Rattle.std.proofs.Common.{◌≡◌, ◌∙◌, ap, sym, List, [], ◌∷◌, ◌++◌, fold, refl}

fold-push : {A B : Type 0} (f : B → A → B) (start : B) (xs : List A) (x : A) → fold f start (xs ++ x ∷ []) ≡ f (fold f start xs) x
fold-push f start [] x = refl
fold-push f start (y ∷ xs) x = fold-push f (f start y) xs x

-- the result after one more step
pub fold-snoc : {A B : Type 0} (f : B → A → B) (start : B) (xs : List A) (x : A) (so_far next : B)
    → so_far ≡ fold f start xs → next ≡ f so_far x → next ≡ fold f start (xs ++ x ∷ [])
fold-snoc f start xs x so_far next same step = step ∙ ap (λ b. f b x) same ∙ sym (fold-push f start xs x)
