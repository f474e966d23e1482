-- Lists that a relation gives the elements of another list, one after another: lemmas on specs/Joined.antt.
use Rattle.std.proofs.Common.{◌≡◌, ◌∙◌, refl, sym, ap, subst, ℕ, zero, suc, ◌+◌, ◌-◌, ◌≤◌, List, [], ◌∷◌, ◌++◌, length, take, Some, append_assoc, append-nil, arith, length-append}
use Rattle.std.proofs.Math.Seq.{take-nil}
use Rattle.std.proofs.lemmas.List.{flat_map_more, take_all, take_more}
use Rattle.std.proofs.lemmas.List.Concat.{flat_map-append}
use Rattle.std.proofs.lemmas.Option.{get_or_from_slice_get, slice_get_within}
use Rattle.std.specs.Prelude.{slice_get}
use Rattle.std.specs.List.{AllZip}
use Rattle.naga_typing.specs.Joined.{Adds, AddsJoined, AddsUpTo, AreJoined}

module _ {A B : Type 0} (R : A → B → Type 0) where
  AllZip-snoc : (xs : List A) (ys : List B) (x : A) (y : B) → AllZip R xs ys → R x y → AllZip R (xs ++ x ∷ []) (ys ++ y ∷ [])
  AllZip-snoc [] [] x y zip here = (here, tt)
  AllZip-snoc [] (b ∷ ys) x y zip here = absurd zip
  AllZip-snoc (a ∷ xs) [] x y zip here = absurd zip
  AllZip-snoc (a ∷ xs) (b ∷ ys) x y zip here = (zip.0, AllZip-snoc xs ys x y zip.1 here)

  AllZip-joined : (xs xs' : List A) (ys ys' : List B) → AllZip R xs ys → AllZip R xs' ys' → AllZip R (xs ++ xs') (ys ++ ys')
  AllZip-joined [] xs' [] ys' zip zip' = zip'
  AllZip-joined [] xs' (b ∷ ys) ys' zip zip' = absurd zip
  AllZip-joined (a ∷ xs) xs' [] ys' zip zip' = absurd zip
  AllZip-joined (a ∷ xs) xs' (b ∷ ys) ys' zip zip' = (zip.0, AllZip-joined xs xs' ys ys' zip.1 zip')

module _ {A B : Type 0} (Gives : A → List B → Type 0) where
  -- nothing
  pub AreJoined-none : AreJoined Gives [] []
  AreJoined-none = record { lists = []; each = tt; are = refl }

  -- one
  pub AreJoined-one : (one : A) (list : List B) → Gives one list → AreJoined Gives (one ∷ []) list
  AreJoined-one one list gives = record { lists = list ∷ []; each = (gives, tt); are = sym (append-nil list) }

  -- these, and then others
  pub AreJoined-both : (all others : List A) (joined more : List B) → AreJoined Gives all joined → AreJoined Gives others more
      → AreJoined Gives (all ++ others) (joined ++ more)
  AreJoined-both all others joined more first second = record {
    lists = first.lists ++ second.lists;
    each = AllZip-joined Gives all others first.lists second.lists first.each second.each;
    are = (λ j. first.are j ++ second.are j) ∙ sym (flat_map-append (λ (list : List B). list) first.lists second.lists);
  }

  -- nothing
  pub AddsJoined-none : (all : List A) (old : List B) → AddsJoined Gives (take 0 all) old old
  AddsJoined-none all old = ([], record { lists = []; each = tt; are = refl }, sym (append-nil old))

  -- one more
  pub AddsJoined-next : (all : List A) (i : ℕ) (one : A) (old middle new : List B)
      → slice_get all i ≡ Some one → AddsJoined Gives (take i all) old middle → Adds Gives one middle new
      → AddsJoined Gives (take (i + 1) all) old new
  AddsJoined-next all i one old middle new at before here =
      let lists = before.1.lists in
      let one_more : take (i + 1) all ≡ take i all ++ one ∷ [] =
      take_more all i one (slice_get_within all i one at)
      ∙ ap (λ h. take i all ++ h ∷ []) (get_or_from_slice_get all i one one at) in
      let joined : AreJoined Gives (take i all ++ one ∷ []) (before.0 ++ here.0) = record {
        lists = lists ++ here.0 ∷ [];
        each = AllZip-snoc Gives (take i all) lists one here.0 before.1.each here.1;
        are = ap (λ t. t ++ here.0) before.1.are ∙ flat_map_more (λ (list : List B). list) [] lists here.0;
      } in (
        before.0 ++ here.0,
        subst (λ those. AreJoined Gives those (before.0 ++ here.0)) (sym one_more) joined,
        here.2 ∙ ap (λ t. t ++ here.0) before.2 ∙ append_assoc old before.0 here.0,
      )

  -- all were gone over
  pub AddsJoined-all : (all : List A) (i : ℕ) (old new : List B) → length all ≤ i
      → AddsJoined Gives (take i all) old new → AddsJoined Gives all old new
  AddsJoined-all all i old new past adds = subst (λ those. AddsJoined Gives those old new) (take_all i all past) adds

  -- these, and then others
  pub AddsJoined-joined : (all others : List A) (old middle new : List B)
      → AddsJoined Gives all old middle → AddsJoined Gives others middle new → AddsJoined Gives (all ++ others) old new
  AddsJoined-joined all others old middle new first second = (
    first.0 ++ second.0,
    AreJoined-both all others first.0 second.0 first.1 second.1,
    second.2 ∙ ap (λ t. t ++ second.0) first.2 ∙ append_assoc old first.0 second.0,
  )

-- ---- as far as a list may grow

module _ {B : Type 0} where
  -- the beginning of two lists is the beginning of the first, and as much of the second as there is room for
  pub take-joined : (n : ℕ) (xs ys : List B) → take n (xs ++ ys) ≡ take n xs ++ take (n - length (take n xs)) ys
  take-joined zero xs ys = refl
  take-joined (suc n) [] ys = let room : suc n ≡ suc n - 0 = omega arith in ap (λ k. take k ys) room
  take-joined (suc n) (x ∷ xs) ys =
      let room : suc n - suc (length (take n xs)) ≡ n - length (take n xs) = omega arith in
      ap (λ rest. x ∷ rest) (take-joined n xs ys ∙ ap (λ k. take n xs ++ take k ys) (sym room))

module _ {A B : Type 0} (Gives : A → List B → Type 0) (limit : ℕ) where
  pub AddsUpTo-none : (old : List B) → AddsUpTo limit Gives [] old old
  AddsUpTo-none old = ([], AreJoined-none Gives, sym (ap (λ t. old ++ t) (take-nil (limit - length old)) ∙ append-nil old))

  pub AddsUpTo-one : (one : A) (list old new : List B) → Gives one list → new ≡ old ++ take (limit - length old) list
      → AddsUpTo limit Gives (one ∷ []) old new
  AddsUpTo-one one list old new gives is = (list, AreJoined-one Gives one list gives, is)

  room-left : (old : List B) (more : List B) → limit - length (old ++ more) ≡ (limit - length old) - length more
  room-left old more = let both = length-append old more in omega (arith, both)

  pub AddsUpTo-both : (all others : List A) (old middle new : List B)
      → AddsUpTo limit Gives all old middle → AddsUpTo limit Gives others middle new → AddsUpTo limit Gives (all ++ others) old new
  AddsUpTo-both all others old middle new first second =
      let n = limit - length old in
      let added = take n first.0 in
      let room : limit - length middle ≡ n - length added = ap (λ t. limit - length t) first.2 ∙ room-left old added in (
        first.0 ++ second.0,
        AreJoined-both Gives all others first.0 second.0 first.1 second.1,
        second.2
            ∙ (λ j. first.2 j ++ take (room j) second.0)
            ∙ append_assoc old added (take (n - length added) second.0)
            ∙ ap (λ t. old ++ t) (sym (take-joined n first.0 second.0)),
      )

  -- one more
  pub AddsUpTo-next : (all : List A) (i : ℕ) (one : A) (old middle new : List B)
      → slice_get all i ≡ Some one → AddsUpTo limit Gives (take i all) old middle → AddsUpTo limit Gives (one ∷ []) middle new
      → AddsUpTo limit Gives (take (i + 1) all) old new
  AddsUpTo-next all i one old middle new at before here =
      let one_more : take (i + 1) all ≡ take i all ++ one ∷ [] =
      take_more all i one (slice_get_within all i one at)
      ∙ ap (λ h. take i all ++ h ∷ []) (get_or_from_slice_get all i one one at) in
      subst (λ those. AddsUpTo limit Gives those old new) (sym one_more)
      (AddsUpTo-both (take i all) (one ∷ []) old middle new before here)

  -- what was appended to no elements
  pub AddsUpTo-first : (all : List A) (old new : List B) → old ≡ [] → AddsUpTo limit Gives all old new
      → (joined : List B) × AreJoined Gives all joined × (new ≡ take limit joined)
  AddsUpTo-first all old new none adds =
      let room : limit - length {A = B} [] ≡ limit = omega arith in
      (adds.0, adds.1, adds.2 ∙ ap (λ t. t ++ take (limit - length t) adds.0) none ∙ ap (λ n. take n adds.0) room)
