-- Zipping two lists, of which the first may be longer.
use Rattle.std.proofs.Common.{◌≡◌, List, [], ◌∷◌, ◌++◌, length, refl, ap, arith}
use Rattle.std.specs.List.{zip}

module _ {A B : Type 0} where
  -- one more element at the end of the first of two lists of equal length does not change their zip
  pub zip-unpaired : (ks : List A) (vs : List B) (k : A) → length ks ≡ length vs → zip (ks ++ k ∷ []) vs ≡ zip ks vs
  zip-unpaired [] [] k e = refl
  zip-unpaired [] (v ∷ vs) k e = absurd (omega arith)
  zip-unpaired (l ∷ ks) [] k e = absurd (omega arith)
  zip-unpaired (l ∷ ks) (v ∷ vs) k e = ap (λ pairs. (l, v) ∷ pairs) (zip-unpaired ks vs k (omega arith))

  -- if two lists have equal length, the lists appended to them are zipped with each other
  pub zip-append : (ks ls : List A) (vs ws : List B) → length ks ≡ length vs → zip (ks ++ ls) (vs ++ ws) ≡ zip ks vs ++ zip ls ws
  zip-append [] ls [] ws e = refl
  zip-append [] ls (v ∷ vs) ws e = absurd (omega arith)
  zip-append (k ∷ ks) ls [] ws e = absurd (omega arith)
  zip-append (k ∷ ks) ls (v ∷ vs) ws e = ap (λ pairs. (k, v) ∷ pairs) (zip-append ks ls vs ws (omega arith))
