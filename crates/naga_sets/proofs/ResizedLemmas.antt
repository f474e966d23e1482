-- The result of `Vec::resize`, if every clone of the value is identical to it.
use Rattle.std.proofs.Common.{◌≡◌, ℕ, ◌-◌, List, [], ◌∷◌, ◌++◌, length, take, refl, ap, ◌∙◌, inl, inr, arith, length-append}
use Rattle.std.proofs.Math.ListN.{replicate}
use Rattle.std.proofs.lemmas.List.{take_all, length-take}
use Rattle.std.specs.List.{AppendsClonesOf, AllClonesOf}
use Rattle.naga_sets.specs.HandleVec.{resized}

module _ {U : Type 0} (clones : U → U → Type 0) (fill : U) (same : (copy : U) → clones fill copy → copy ≡ fill) where
  copies-replicate : (ys : List U) → AllClonesOf clones fill ys → ys ≡ replicate (length ys) fill
  copies-replicate [] all = refl
  copies-replicate (y ∷ ys) all =
      elim all.0 [
        | inl e ↦ ap (λ z. z ∷ ys) e ∙ ap (λ zs. fill ∷ zs) (copies-replicate ys all.1)
        | inr copied ↦ ap (λ z. z ∷ ys) (same y copied) ∙ ap (λ zs. fill ∷ zs) (copies-replicate ys all.1)
      ]

  pub resized-copies : (old new : List U) (len : ℕ) → AppendsClonesOf clones (take len old) new fill → length new ≡ len → new ≡ resized old len fill
  resized-copies old new len appended long =
      let ys = appended.0 in
      let count : length ys ≡ len - length old = omega (arith, ap length appended.1, length-append (take len old) ys, length-take len old) in
      appended.1 ∙ ap (λ t. take len old ++ t) (copies-replicate ys appended.2 ∙ ap (λ n. replicate n fill) count)

-- resizing an empty vector
pub resized-nil : (items old : List ℕ) (n len word : ℕ) → old ≡ [] → len ≡ 0 → items ≡ take n old ++ replicate (n - len) word → items ≡ replicate n word
resized-nil items old n len word none no_len is =
    let left : n - len ≡ n = omega arith in
    is ∙ ap (λ xs. take n xs ++ replicate (n - len) word) none ∙ ap (λ xs. xs ++ replicate (n - len) word) (take_all n [] (omega arith)) ∙ ap (λ m. replicate m word) left
