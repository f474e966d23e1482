-- Depths, which depend only on what comes before, and the expressions that are chosen by them.
use Rattle.std.proofs.Common.{◌≡◌, ◌∙◌, ap, refl, ℕ, zero, suc, ◌<◌, ◌≤◌, max, Bool, true, false, List, [], ◌∷◌, map, arith}
use Rattle.std.proofs.lemmas.Bool.Decides.{nat_tests}
use Rattle.std.specs.List.{fold}
use Rattle.std.specs.Prelude.{◌||◌, ◌&&◌, nat_lt, if◌then◌else◌}
use Rattle.naga_meaning.specs.Renaming.{Each}
use Rattle.naga_meaning.proofs.EachLemmas.{map-each}
use Rattle.naga_wgsl.specs.Choices.{depth_by, depth_if}
use Rattle.naga_wgsl.specs.WrittenOut.{depth_within, greatest}

-- ---- the greatest number

greatest-from : (n acc : ℕ) (f : ℕ → ℕ) → acc ≤ n → ((x : ℕ) → f x ≤ n) → (xs : List ℕ) → fold max acc (map f xs) ≤ n
greatest-from n acc f h so [] = h
greatest-from n acc f h so (x ∷ xs) = let below : f x ≤ n = so x in greatest-from n (max acc (f x)) f (omega arith) so xs

pub greatest-below : (n : ℕ) (f : ℕ → ℕ) → ((x : ℕ) → f x ≤ n) → (xs : List ℕ) → greatest (map f xs) ≤ n
greatest-below n f so xs = greatest-from n 0 f (omega arith) so xs

-- ---- depths

depth_if-below : (must may : Bool) (d : ℕ) → depth_if must may d ≤ d
depth_if-below must may d = go (must || (nat_lt d 17 && may))
  where
    go : (t : Bool) → (if t then d else 0) ≤ d
    go true = omega arith
    go false = omega arith

module _ (must may : ℕ → Bool) (operands : ℕ → List ℕ) where
  pub depth_by-below : (steps x : ℕ) → depth_by must may operands steps x ≤ steps
  depth_by-below zero x = omega arith
  depth_by-below (suc steps) x =
      let inner : greatest (map (depth_by must may operands steps) (operands x)) ≤ steps = greatest-below steps (depth_by must may operands steps) (depth_by-below steps) (operands x) in
      let outer = depth_if-below (must x) (may x) (suc (greatest (map (depth_by must may operands steps) (operands x)))) in
      omega (arith, inner, outer)

  module _ (before : (x : ℕ) → Each (λ y. y < x) (operands x)) where
    -- so many steps are enough
    pub depth_by-enough : (steps more x : ℕ) → x < steps → x < more → depth_by must may operands steps x ≡ depth_by must may operands more x
    depth_by-enough zero more x h k = absurd (omega arith)
    depth_by-enough (suc steps) zero x h k = absurd (omega arith)
    depth_by-enough (suc steps) (suc more) x h k =
        ap (λ ds. depth_if (must x) (may x) (suc (greatest ds)))
        (map-each (λ y. y < x) (depth_by must may operands more) (depth_by must may operands steps)
        (λ y less. depth_by-enough steps more y (omega arith) (omega arith)) (operands x) (before x))

    -- the depth where the expression is written out
    abbrev pub depth_out : ℕ → ℕ
    depth_out x = suc (greatest (map (depth_by must may operands x) (operands x)))

    pub depth_by-out : (x : ℕ) → depth_by must may operands (suc x) x ≡ depth_if (must x) (may x) (depth_out x)
    depth_by-out x = refl

    -- the depths of operands are those where each expression is written out whose depth is above 0
    module _ (written : ℕ → Bool) (is : (x : ℕ) → written x ≡ nat_lt 0 (depth_by must may operands (suc x) x)) where
      written-if : (t : Bool) (d : ℕ) → (w : Bool) → w ≡ nat_lt 0 (if t then suc d else 0) → (if w then suc d else 0) ≡ (if t then suc d else 0)
      written-if true d w h = let above : nat_lt 0 (suc d) ≡ true = grind (arith, nat_tests) in ap (λ s. if s then suc d else 0) (h ∙ above)
      written-if false d w h = ap (λ s. if s then suc d else 0) h

      pub depth_within-same : (steps x : ℕ) → x < steps → depth_within written operands steps x ≡ depth_by must may operands steps x
      depth_within-same zero x h = absurd (omega arith)
      depth_within-same (suc steps) x h =
          let inner = map-each (λ y. y < x) (depth_by must may operands steps) (depth_within written operands steps)
          (λ y less. depth_within-same steps y (omega arith)) (operands x) (before x)
          in
          let d : ℕ = greatest (map (depth_by must may operands steps) (operands x)) in
          ap (λ ds. if written x then suc (greatest ds) else 0) inner
          ∙ written-if (must x || (nat_lt (suc d) 17 && may x)) d (written x)
          (is x ∙ ap (nat_lt 0) (depth_by-enough (suc x) (suc steps) x (omega arith) h))

      pub depth_out-same : (x : ℕ) → suc (greatest (map (depth_within written operands x) (operands x))) ≡ depth_out x
      depth_out-same x =
          ap (λ ds. suc (greatest ds))
          (map-each (λ y. y < x) (depth_by must may operands x) (depth_within written operands x)
          (λ y less. depth_within-same x y less) (operands x) (before x))
