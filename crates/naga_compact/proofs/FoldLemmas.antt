-- What is left to collect of a list, by the state after what was collected.
use Rattle.std.proofs.Common.{◌≡◌, ◌∙◌, sym, ap, refl, ℕ, ◌+◌, add-one, ◌<◌, ◌≤◌, List, [], ◌∷◌, ◌++◌, length, get_or, drop, map, Option, Some, None}
use Rattle.std.proofs.Math.Seq.{drop-cons}
use Rattle.std.proofs.lemmas.List.{drop_all}
use Rattle.std.proofs.lemmas.List.Sums.{fold-append}
use Rattle.std.proofs.lemmas.Option.{get_or_from_slice_get, slice_get_within}
use Rattle.std.specs.List.{cons_option, filter_map, flat_map, fold}
use Rattle.std.specs.Option.{option_map_or}
use Rattle.std.specs.Prelude.{option_to_list, slice_get}

pub drop-zero : {X : Type 0} (xs : List X) → drop 0 xs ≡ xs
drop-zero [] = refl
drop-zero (x ∷ xs) = refl

module _ {S R : Type 0} (step : S → R → S) where
  -- ---- lists one after another

  -- `u` is the state after the first list, and `w` that after both
  pub fold-then : (v u w : S) (xs ys : List R) → u ≡ fold step v xs → w ≡ fold step u ys → w ≡ fold step v (xs ++ ys)
  fold-then v u w xs ys first second = second ∙ (ap (λ t. fold step t ys) first ∙ sym (fold-append step v xs ys))

  -- the same for three lists, for four and for five
  pub fold-three : (v u w x : S) (ps qs rs : List R) → u ≡ fold step v ps → w ≡ fold step u qs → x ≡ fold step w rs → x ≡ fold step v (ps ++ (qs ++ rs))
  fold-three v u w x ps qs rs first second third = fold-then v u x ps (qs ++ rs) first (fold-then u w x qs rs second third)

  pub fold-four : (v u w x y : S) (ps qs rs ss : List R) → u ≡ fold step v ps → w ≡ fold step u qs → x ≡ fold step w rs → y ≡ fold step x ss → y ≡ fold step v (ps ++ (qs ++ (rs ++ ss)))
  fold-four v u w x y ps qs rs ss first second third fourth =
      fold-then v u y ps (qs ++ (rs ++ ss)) first (fold-three u w x y qs rs ss second third fourth)

  pub fold-five : (v u w x y z : S) (ps qs rs ss ts : List R) → u ≡ fold step v ps → w ≡ fold step u qs → x ≡ fold step w rs → y ≡ fold step x ss → z ≡ fold step y ts → z ≡ fold step v (ps ++ (qs ++ (rs ++ (ss ++ ts))))
  fold-five v u w x y z ps qs rs ss ts first second third fourth fifth =
      fold-then v u z ps (qs ++ (rs ++ (ss ++ ts))) first (fold-four u w x y z qs rs ss ts second third fourth fifth)

  -- ---- a list, element by element: `items` are still to be collected

  module _ {X : Type 0} (f : X → List R) where
    pub fold-next : (now new whole : S) (items rest : List X) (x : X) → items ≡ x ∷ rest → fold step now (flat_map f items) ≡ whole → new ≡ fold step now (f x) → fold step new (flat_map f rest) ≡ whole
    fold-next now new whole items rest x is so one =
        ap (λ t. fold step t (flat_map f rest)) one
        ∙ (sym (fold-append step now (f x) (flat_map f rest))
        ∙ (ap (λ xs. fold step now (flat_map f xs)) (sym is) ∙ so))

    pub fold-end : (now whole : S) (items : List X) → items ≡ [] → fold step now (flat_map f items) ≡ whole → now ≡ whole
    fold-end now whole items is so = ap (λ xs. fold step now (flat_map f xs)) (sym is) ∙ so

    -- the same, by the index of the first item that is still to be collected
    pub fold-at : (now new whole : S) (items : List X) (i : ℕ) (x : X) → i < length items → x ≡ get_or items i x → fold step now (flat_map f (drop i items)) ≡ whole → new ≡ fold step now (f x) → fold step new (flat_map f (drop (i + 1) items)) ≡ whole
    fold-at now new whole items i x inside is so one =
        let split : drop i items ≡ x ∷ drop (i + 1) items =
        drop-cons items i x inside ∙ ap (λ n. get_or items i x ∷ drop n items) (sym (add-one i)) ∙ ap (λ y. y ∷ drop (i + 1) items) (sym is)
        in
        fold-next now new whole (drop i items) (drop (i + 1) items) x split so one

    pub fold-found : (now new whole : S) (items : List X) (i : ℕ) (x : X) → slice_get items i ≡ Some x → fold step now (flat_map f (drop i items)) ≡ whole → new ≡ fold step now (f x) → fold step new (flat_map f (drop (i + 1) items)) ≡ whole
    fold-found now new whole items i x found =
        fold-at now new whole items i x (slice_get_within items i x found) (sym (get_or_from_slice_get items i x x found))

    pub fold-past : (now whole : S) (items : List X) (i : ℕ) → length items ≤ i → fold step now (flat_map f (drop i items)) ≡ whole → now ≡ whole
    fold-past now whole items i past so = fold-end now whole (drop i items) (drop_all i items past) so

  module _ {X : Type 0} (f : X → Option R) where
    cons-optional : (now : S) (first : Option R) (rest : List R) → fold step (fold step now (option_to_list first)) rest ≡ fold step now (cons_option first rest)
    cons-optional now None rest = refl
    cons-optional now (Some x) rest = refl

    pub fold-next_optional : (now new whole : S) (items rest : List X) (x : X) → items ≡ x ∷ rest → fold step now (filter_map f items) ≡ whole → new ≡ fold step now (option_to_list (f x)) → fold step new (filter_map f rest) ≡ whole
    fold-next_optional now new whole items rest x is so one =
        ap (λ t. fold step t (filter_map f rest)) one
        ∙ (cons-optional now (f x) (filter_map f rest)
        ∙ (ap (λ xs. fold step now (filter_map f xs)) (sym is) ∙ so))

    pub fold-end_optional : (now whole : S) (items : List X) → items ≡ [] → fold step now (filter_map f items) ≡ whole → now ≡ whole
    fold-end_optional now whole items is so = ap (λ xs. fold step now (filter_map f xs)) (sym is) ∙ so

    keeps-optional : (now : S) (first : Option R) (rest : List R) → fold step (option_map_or (step now) first now) rest ≡ fold step now (cons_option first rest)
    keeps-optional now None rest = refl
    keeps-optional now (Some x) rest = refl

    -- collecting from items, each of which may have something, is collecting what they have
    pub fold-filter_map : (now : S) (items : List X) → fold (λ s x. option_map_or (step s) (f x) s) now items ≡ fold step now (filter_map f items)
    fold-filter_map now [] = refl
    fold-filter_map now (x ∷ items) =
        fold-filter_map (option_map_or (step now) (f x) now) items ∙ keeps-optional now (f x) (filter_map f items)

  module _ {X : Type 0} (f : X → R) where
    pub fold-next_mapped : (now new whole : S) (items rest : List X) (x : X) → items ≡ x ∷ rest → fold step now (map f items) ≡ whole → new ≡ step now (f x) → fold step new (map f rest) ≡ whole
    fold-next_mapped now new whole items rest x is so one =
        ap (λ t. fold step t (map f rest)) one ∙ (ap (λ xs. fold step now (map f xs)) (sym is) ∙ so)

    pub fold-end_mapped : (now whole : S) (items : List X) → items ≡ [] → fold step now (map f items) ≡ whole → now ≡ whole
    fold-end_mapped now whole items is so = ap (λ xs. fold step now (map f xs)) (sym is) ∙ so
