-- The places to which paths lead, by recursion on the paths.
use Rattle.std.proofs.Common.{◌≡◌, ◌≢◌, ℕ, zero, suc, ◌+◌, ◌<◌, ◌≤◌, ◌⊎◌, inl, inr, List, [], ◌∷◌, Option, Some, None, refl, ap, subst, ◌∙◌, arith}
use Rattle.naga_layouter.specs.Paths.{Reaches, IsLeaf, AreDisjoint}

module _ {Node : Type 0} (size : Node → ℕ) (part : Node → ℕ → Option (ℕ × Node)) where
  -- each part lies inside the node
  abbrev pub HasPartsInside : Node → Type 0
  HasPartsInside node = (i : ℕ) (step : ℕ × Node) → part node i ≡ Some step → step.0 + size step.1 ≤ size node

  -- each part ends before the next ones begin
  abbrev pub HasPartsApart : Node → Type 0
  HasPartsApart node = (i j : ℕ) (step other : ℕ × Node) → part node i ≡ Some step → part node j ≡ Some other
      → i < j → step.0 + size step.1 ≤ other.0

  -- The nodes of a set have their parts in the set, inside and apart.
  pub record AreLaidOut (Among : Node → Type 0) : Type 0 where
    pub parts : (node : Node) (i : ℕ) (step : ℕ × Node) → Among node → part node i ≡ Some step → Among step.1
    pub inside : (node : Node) → Among node → HasPartsInside node
    pub apart : (node : Node) → Among node → HasPartsApart node

-- one number is below the other, or they are the same
below-same-above : (a b : ℕ) → (a < b) ⊎ ((a ≡ b) ⊎ (b < a))
below-same-above zero zero = inr (inl refl)
below-same-above zero (suc b) = inl (omega arith)
below-same-above (suc a) zero = inr (inr (omega arith))
below-same-above (suc a) (suc b) =
    elim (below-same-above a b) [
      | inl h ↦ inl (omega arith)
      | inr rest ↦ elim rest [ inl e ↦ inr (inl (ap suc e)) | inr h ↦ inr (inr (omega arith)) ]
    ]

-- ranges that lie apart in a part lie apart in the whole
moved : (start a b x y s t : ℕ) → a ≡ start + x → b ≡ start + y → (x + s ≤ y) ⊎ (y + t ≤ x)
    → (a + s ≤ b) ⊎ (b + t ≤ a)
moved start a b x y s t at also apart =
    elim apart [ inl h ↦ inl (omega arith) | inr h ↦ inr (omega arith) ]

module _ {Node : Type 0} (size : Node → ℕ) (part : Node → ℕ → Option (ℕ × Node)) (Among : Node → Type 0)
    (laid : AreLaidOut size part Among) where
  pub inside : (path : List ℕ) (node : Node) (offset : ℕ) (last : Node) → Among node
      → Reaches size part node path offset last → offset + size last ≤ size node
  inside [] node offset last among reached =
      let same : size node ≡ size last = ap size reached.1 in
      let start : offset ≡ 0 = reached.0 in
      omega arith
  inside (i ∷ path) node offset last among reached =
      let step = reached.0 in
      let rest : reached.2 + size last ≤ size step.1 =
      inside path step.1 reached.2 last (laid.parts node i step among reached.1) reached.4 in
      let whole : step.0 + size step.1 ≤ size node = laid.inside node among i step reached.1 in
      let at : offset ≡ step.0 + reached.2 = reached.3 in
      omega arith

  -- paths that part at once
  parting : (i j : ℕ) (path way : List ℕ) (node : Node) (offset other : ℕ) (last second : Node) → Among node
      → Reaches size part node (i ∷ path) offset last → Reaches size part node (j ∷ way) other second
      → i < j → offset + size last ≤ other
  parting i j path way node offset other last second among reached also less =
      let step = reached.0 in
      let rest : reached.2 + size last ≤ size step.1 =
      inside path step.1 reached.2 last (laid.parts node i step among reached.1) reached.4 in
      let before : step.0 + size step.1 ≤ also.0.0 = laid.apart node among i j step also.0 reached.1 also.1 less in
      let at : offset ≡ step.0 + reached.2 = reached.3 in
      let at-other : other ≡ also.0.0 + also.2 = also.3 in
      omega arith

  pub apart : (path way : List ℕ) (node : Node) (offset other : ℕ) (last second : Node) → Among node
      → Reaches size part node path offset last → Reaches size part node way other second
      → IsLeaf size part last → IsLeaf size part second → path ≢ way → AreDisjoint size part offset other last second
  apart [] [] node offset other last second among reached also leaf other-leaf differ = absurd (differ refl)
  apart [] (j ∷ way) node offset other last second among reached also leaf other-leaf differ =
      let none : part last j ≡ None = leaf j in
      let same : part node j ≡ part last j = ap (λ (n : Node). part n j) reached.1 in
      let some : part node j ≡ Some also.0 = also.1 in
      absurd (cc)
  apart (i ∷ path) [] node offset other last second among reached also leaf other-leaf differ =
      let none : part second i ≡ None = other-leaf i in
      let same : part node i ≡ part second i = ap (λ (n : Node). part n i) also.1 in
      let some : part node i ≡ Some reached.0 = reached.1 in
      absurd (cc)
  apart (i ∷ path) (j ∷ way) node offset other last second among reached also leaf other-leaf differ =
      elim (below-same-above i j) [
        | inl less ↦ inl (parting i j path way node offset other last second among reached also less)
        | inr rest ↦
            elim rest [
              | inl equal ↦
                  let some : part node i ≡ Some reached.0 = reached.1 in
                  let some-other : part node i ≡ Some also.0 = ap (part node) equal ∙ also.1 in
                  let step : also.0 ≡ reached.0 = cc in
                  let further : Reaches size part reached.0.1 way also.2 second =
                  subst (λ (s : ℕ × Node). Reaches size part s.1 way also.2 second) step also.4 in
                  let start : other ≡ reached.0.0 + also.2 =
                  also.3 ∙ ap (λ (s : ℕ × Node). s.0 + also.2) step in
                  let differ-rest : path ≢ way = λ (e : path ≡ way). differ (cc) in
                  moved reached.0.0 offset other reached.2 also.2 (size last) (size second) reached.3 start
                  (apart path way reached.0.1 reached.2 also.2 last second
                  (laid.parts node i reached.0 among reached.1) reached.4 further leaf other-leaf differ-rest)
              | inr more ↦ inr (parting j i way path node other offset second last among also reached more)
            ]
      ]
