-- The first element of a list for which a predicate does not hold.
use Rattle.std.proofs.Common.{◌≡◌, ◌∙◌, ◌⊎◌, inl, inr, List, [], ◌∷◌, ◌++◌, refl, sym, ap, subst, arith, append_assoc}
use Rattle.std.proofs.lemmas.List.Elements.{All-append, All-contains, All-head, All-nil, All-tail, All-weaker, Contains-append_right}
use Rattle.std.specs.Prelude.{All}
use Rattle.naga_flow.specs.Tracking.{IsFirstNot}

module _ {X : Type 0} (P : X → Type 0) where
  pub IsFirstNot-here : (x : X) (xs : List X) → ¬ P x → IsFirstNot P (x ∷ xs) x
  IsFirstNot-here x xs h = record { before = []; after = xs; split = refl; earlier = All-nil P; fails = h }

  pub IsFirstNot-after : (xs ys : List X) (x : X) → All P xs → IsFirstNot P ys x → IsFirstNot P (xs ++ ys) x
  IsFirstNot-after xs ys x all so = record {
    before = xs ++ so.before;
    after = so.after;
    split = ap (λ zs. xs ++ zs) so.split ∙ sym (append_assoc xs so.before (x ∷ so.after));
    earlier = All-append P xs so.before all so.earlier;
    fails = so.fails;
  }

  pub IsFirstNot-before : (xs ys : List X) (x : X) → IsFirstNot P xs x → IsFirstNot P (xs ++ ys) x
  IsFirstNot-before xs ys x so = record {
    before = so.before;
    after = so.after ++ ys;
    split = ap (λ zs. zs ++ ys) so.split ∙ append_assoc so.before (x ∷ so.after) ys;
    earlier = so.earlier;
    fails = so.fails;
  }

  -- it is the first element, or it is found after the first
  pub IsFirstNot-cases : (x : X) (xs : List X) (found : X) → IsFirstNot P (x ∷ xs) found → ((x ≡ found) × ¬ P found) ⊎ (P x × IsFirstNot P xs found)
  IsFirstNot-cases x xs found so = go so.before so.after so.split so.earlier
    where
      go : (before after : List X) → x ∷ xs ≡ before ++ found ∷ after → All P before → ((x ≡ found) × ¬ P found) ⊎ (P x × IsFirstNot P xs found)
      go [] after split earlier = let same : x ≡ found = cc in inl (same, so.fails)
      go (y ∷ before) after split earlier =
          let same : x ≡ y = cc in
          let rest : xs ≡ before ++ found ∷ after = cc in
          inr (subst P (sym same) (All-head P y before earlier), record { before = before; after = after; split = rest; earlier = All-tail P y before earlier; fails = so.fails })

  pub IsFirstNot-not_all : (xs : List X) (x : X) → IsFirstNot P xs x → ¬ All P xs
  IsFirstNot-not_all xs x so all =
      so.fails (All-contains P (so.before ++ x ∷ so.after) x (subst (All P) so.split all)
      (Contains-append_right so.before (x ∷ so.after) x (0, omega arith, refl)))

  -- what is left of a list, when `P` holds for the elements before
  pub record IsLeft (rest whole : List X) : Type 0 where
    pub all : All P rest → All P whole
    pub first : (x : X) → IsFirstNot P rest x → IsFirstNot P whole x

  pub IsLeft-itself : (xs : List X) → IsLeft xs xs
  IsLeft-itself xs = record { all = λ h. h; first = λ x h. h }

  pub IsLeft-end : (rest whole : List X) → rest ≡ [] → IsLeft rest whole → All P whole
  IsLeft-end rest whole is so = so.all (subst (All P) (sym is) (All-nil P))

  module _ (now xs rest whole : List X) (is : now ≡ xs ++ rest) (so : IsLeft now whole) where
    pub IsLeft-next : All P xs → IsLeft rest whole
    IsLeft-next h = record {
      all = λ k. so.all (subst (All P) (sym is) (All-append P xs rest h k));
      first = λ y k. so.first y (subst (λ zs. IsFirstNot P zs y) (sym is) (IsFirstNot-after xs rest y h k));
    }

    pub IsLeft-fails : (x : X) → IsFirstNot P xs x → IsFirstNot P whole x
    IsLeft-fails x h = so.first x (subst (λ zs. IsFirstNot P zs x) (sym is) (IsFirstNot-before xs rest x h))

-- predicates that hold for the same elements
pub IsFirstNot-same : {X : Type 0} (P Q : X → Type 0) → ((x : X) → P x → Q x) → ((x : X) → Q x → P x) → (xs : List X) (x : X) → IsFirstNot P xs x → IsFirstNot Q xs x
IsFirstNot-same P Q there back xs x so = record {
  before = so.before;
  after = so.after;
  split = so.split;
  earlier = All-weaker P Q there so.before so.earlier;
  fails = λ h. so.fails (back x h);
}
