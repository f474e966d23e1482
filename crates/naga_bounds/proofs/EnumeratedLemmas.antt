-- One step over the entries of a list with their handles.
use Rattle.std.proofs.Common.{◌≡◌, ◌∙◌, ap, arith, refl, sym, ℕ, zero, suc, ◌+◌, ◌<◌, List, [], ◌∷◌, drop, get_or, length}
use Rattle.std.proofs.lemmas.List.{drop_more, length-drop}
use Rattle.std.specs.List.{enumerate_from}

module _ {X : Type 0} (old : List X) (position : ℕ) (item : ℕ × X) (rest : List (ℕ × X)) where
  -- the entry and what follows it
  pub record IsStep : Type 0 where
    pub here : drop position old ≡ item.1 ∷ drop (position + 1) old
    pub handle : item.0 ≡ position
    pub others : rest ≡ enumerate_from (position + 1) (drop (position + 1) old)
    pub within : position < length old

  pub enumerated-next : enumerate_from position (drop position old) ≡ item ∷ rest → IsStep
  enumerated-next is = go (drop position old) refl is
    where
      go : (xs : List X) → drop position old ≡ xs → enumerate_from position xs ≡ item ∷ rest → IsStep
      go [] at same = cc
      go (x ∷ xs) at same =
          let long : length (drop position old) ≡ suc (length xs) = ap length at in
          let inside : position < length old = omega (arith, long, length-drop position old) in
          let begins = drop_more old position x inside in
          let both : x ∷ xs ≡ get_or old position x ∷ drop (position + 1) old = sym at ∙ begins in
          let after : xs ≡ drop (position + 1) old = ap (drop 1) both in
          let first : (position, x) ≡ item = ap (λ some. get_or some 0 item) same in
          record {
            here = at ∙ (λ i. (first i).1 ∷ after i);
            handle = ap (λ some. some.0) (sym first);
            others = sym (ap (drop 1) same) ∙ ap (enumerate_from (position + 1)) after;
            within = inside;
          }
