-- The states of expressions and the list that tracks them, when one is added and when the last one is taken off.
use Rattle.std.proofs.Common.{◌≡◌, ◌≢◌, ◌<◌, ◌≤◌, ◌+◌, ℕ, zero, suc, Bool, true, false, IsTrue, inl, inr, List, [], ◌∷◌, ◌++◌, append-nil, drop, get_or, length, take, refl, sym, ◌∙◌, ap, subst, arith, length-append}
use Rattle.std.proofs.lemmas.Bool.{eqb-true, eq-eqb}
use Rattle.std.proofs.lemmas.Bool.Decides.{nat_tests}
use Rattle.std.proofs.lemmas.List.{drop_all, get_or_past, take-append-le, take_all}
use Rattle.std.proofs.lemmas.List.Elements.{Contains-append_cases, Contains-append_left, Contains-append_right}
use Rattle.std.specs.List.{Contains}
use Rattle.std.specs.Prelude.{if◌then◌else◌, nat_eq, nat_lt}
use Rattle.naga_flow.specs.Tracking.{IsDistinct, Learns, Seen, Tracks, is_in_scope, is_known, known_of, none_known, scope_of, seen_by, state_at}
use Rattle.naga_flow.specs.declared.known.State.{State}
use Rattle.naga_flow.specs.declared.known.State.TheVariants.{Outside, Known, Doubtful}
use Rattle.naga_flow.proofs.IncludesLemmas.{Contains-one}

IsDistinct-push : (xs : List ℕ) (x : ℕ) → IsDistinct xs → (Contains xs x → ⊥) → IsDistinct (xs ++ x ∷ [])
IsDistinct-push [] x h k = (λ c. omega (arith, c.1), tt)
IsDistinct-push (y ∷ ys) x h k = (
  λ c. elim (Contains-append_cases ys (x ∷ []) y c) as (λ _. ⊥) [
    | inl a ↦ h.0 a
    | inr b ↦ k (subst (λ z. Contains (y ∷ ys) z) (sym (Contains-one x y b)) (0, omega arith, refl))
  ],
  IsDistinct-push ys x h.1 (λ c. k (Contains-append_right (y ∷ []) ys x c)),
)

IsDistinct-pop : (xs : List ℕ) (x : ℕ) → IsDistinct (xs ++ x ∷ []) → IsDistinct xs × (Contains xs x → ⊥)
IsDistinct-pop [] x h = (tt, λ c. omega (arith, c.1))
IsDistinct-pop (y ∷ ys) x h =
    let rest = IsDistinct-pop ys x h.1 in (
      (λ c. h.0 (Contains-append_left ys (x ∷ []) y c), rest.0),
      λ c. elim (Contains-append_cases (y ∷ []) ys x c) as (λ _. ⊥) [
        | inl a ↦ h.0 (subst (λ z. Contains (ys ++ x ∷ []) z) (sym (Contains-one y x a)) (Contains-append_right ys (x ∷ []) x (0, omega arith, refl)))
        | inr b ↦ rest.1 b
      ],
    )

-- an element is not one that the list does not have
unlike : (order : List ℕ) (x y : ℕ) → Contains order y → (Contains order x → ⊥) → y ≢ x
unlike order x y c absent same = absent (subst (λ z. Contains order z) same c)

pub shorter-within : (order shorter : List ℕ) (x len : ℕ) → order ≡ shorter ++ x ∷ [] → len < length order → len ≤ length shorter
shorter-within order shorter x len popped more =
    let e : length order ≡ length shorter + 1 = ap length popped ∙ length-append shorter (x ∷ []) in omega (arith, e, more)

-- ---- states

known-in_scope : (one : State) → is_known one ≡ true → is_in_scope one ≡ true
known-in_scope Outside h = absurd (let e : false ≡ true = h in cc)
known-in_scope Known h = refl
known-in_scope Doubtful h = absurd (let e : false ≡ true = h in cc)

-- what is in scope has a state
in_scope-within : (states : List State) (x : ℕ) → is_in_scope (state_at states x) ≡ true → x < length states
in_scope-within states x h = go (nat_lt x (length states)) refl
  where
    go : (t : Bool) → nat_lt x (length states) ≡ t → x < length states
    go true test = grind (arith, nat_tests)
    go false test =
        let past : length states ≤ x = grind (arith, nat_tests) in
        absurd (let e : false ≡ true = sym (ap is_in_scope (get_or_past states x Outside past)) ∙ h in cc)

-- ---- lists of expressions, each known or not

pub scope_of-seen_by : (states : List State) (order : List ℕ) → scope_of (seen_by states order) ≡ order
scope_of-seen_by states [] = refl
scope_of-seen_by states (x ∷ xs) = ap (λ rest. x ∷ rest) (scope_of-seen_by states xs)

pub length-seen_by : (states : List State) (order : List ℕ) → length (seen_by states order) ≡ length order
length-seen_by states [] = refl
length-seen_by states (x ∷ xs) = ap suc (length-seen_by states xs)

seen_by-append : (states : List State) (xs ys : List ℕ) → seen_by states (xs ++ ys) ≡ seen_by states xs ++ seen_by states ys
seen_by-append states [] ys = refl
seen_by-append states (x ∷ xs) ys = ap (λ rest. record { handle = x; is_known = is_known (state_at states x) } ∷ rest) (seen_by-append states xs ys)

-- states that agree on the elements of the list
seen_by-same : (a b : List State) (order : List ℕ) → ((x : ℕ) → Contains order x → state_at a x ≡ state_at b x) → seen_by a order ≡ seen_by b order
seen_by-same a b [] h = refl
seen_by-same a b (x ∷ xs) h =
    let rest : seen_by a xs ≡ seen_by b xs = seen_by-same a b xs (λ y c. h y (Contains-append_right (x ∷ []) xs y c)) in
    λ i. record { handle = x; is_known = is_known (h x (0, omega arith, refl) i) } ∷ rest i

known-there : (states : List State) (order : List ℕ) (x : ℕ) → is_known (state_at states x) ≡ true → Contains order x → Contains (known_of (seen_by states order)) x
known-there states [] x h c = absurd (omega (arith, c.1))
known-there states (y ∷ ys) x h c =
    let later : Contains ys x → Contains (known_of (seen_by states ys)) x = known-there states ys x h in
    elim (Contains-append_cases (y ∷ []) ys x c) as (λ _. Contains (known_of (seen_by states (y ∷ ys))) x) [
      | inl a ↦ let same : y ≡ x = Contains-one y x a in go (is_known (state_at states y)) (ap (λ z. is_known (state_at states z)) same ∙ h) same
      | inr b ↦ on (is_known (state_at states y)) (later b)
    ]
  where
    go : (t : Bool) → t ≡ true → y ≡ x → Contains (if t then y ∷ known_of (seen_by states ys) else known_of (seen_by states ys)) x
    go true q same = (0, omega arith, same)
    go false q same = absurd (let e : false ≡ true = q in cc)

    on : (t : Bool) → Contains (known_of (seen_by states ys)) x → Contains (if t then y ∷ known_of (seen_by states ys) else known_of (seen_by states ys)) x
    on true c = Contains-append_right (y ∷ []) (known_of (seen_by states ys)) x c
    on false c = c

known-back : (states : List State) (order : List ℕ) (x : ℕ) → Contains (known_of (seen_by states order)) x → is_known (state_at states x) ≡ true
known-back states [] x c = absurd (omega (arith, c.1))
known-back states (y ∷ ys) x c = go (is_known (state_at states y)) refl c (known-back states ys x)
  where
    go : (t : Bool) → is_known (state_at states y) ≡ t → Contains (if t then y ∷ known_of (seen_by states ys) else known_of (seen_by states ys)) x →
        (Contains (known_of (seen_by states ys)) x → is_known (state_at states x) ≡ true) → is_known (state_at states x) ≡ true
    go true q c later = elim (Contains-append_cases (y ∷ []) (known_of (seen_by states ys)) x c) as (λ _. is_known (state_at states x) ≡ true) [
      | inl a ↦ ap (λ z. is_known (state_at states z)) (sym (Contains-one y x a)) ∙ q
      | inr b ↦ later b
    ]
    go false q c later = later c

-- what the test for a known expression has found
pub Tracks-contains : (states : List State) (order : List ℕ) (x : ℕ) (found : Bool) → Tracks states order → found ≡ is_known (state_at states x) →
    (IsTrue found → Contains (known_of (seen_by states order)) x) × (Contains (known_of (seen_by states order)) x → IsTrue found)
Tracks-contains states order x found so is = (
  λ h. let there : is_known (state_at states x) ≡ true = sym is ∙ h in known-there states order x there (so.listed x (known-in_scope (state_at states x) there)),
  λ c. is ∙ known-back states order x c,
)

-- each element has a state
pub Tracks-within : (states : List State) (order : List ℕ) (x : ℕ) → Tracks states order → Contains order x → x < length states
Tracks-within states order x so c = in_scope-within states x (so.member x c)

-- ---- states that are the same

module _ (states states' : List State) (order : List ℕ) (same : (x : ℕ) → state_at states' x ≡ state_at states x) where
  pub Tracks-same : Tracks states order → Tracks states' order
  Tracks-same so = record {
    listed = λ x h. so.listed x (ap is_in_scope (sym (same x)) ∙ h);
    member = λ x c. ap is_in_scope (same x) ∙ so.member x c;
    distinct = so.distinct;
  }

  pub seen_by-unchanged : seen_by states' order ≡ seen_by states order
  seen_by-unchanged = seen_by-same states' states order (λ x c. same x)

-- ---- one more expression

module _ (states : List State) (order : List ℕ) (x : ℕ) (so : Tracks states order) where
  -- it was in scope
  pub Learns-old : is_in_scope (state_at states x) ≡ true → Learns (seen_by states order) x false (seen_by states order)
  Learns-old h = subst (λ xs. Contains xs x) (sym (scope_of-seen_by states order)) (so.listed x h)

  module _ (new : is_in_scope (state_at states x) ≡ false) (states' : List State) (here : state_at states' x ≡ Known) (others : (y : ℕ) → y ≢ x → state_at states' y ≡ state_at states y)
      (longer : List ℕ) (pushed : longer ≡ order ++ x ∷ []) where
    absent : Contains order x → ⊥
    absent c = let e : false ≡ true = sym new ∙ so.member x c in cc

    pub Tracks-learned : Tracks states' longer
    Tracks-learned =
        subst (Tracks states') (sym pushed) (record {
          listed = λ y h. by_test y h (nat_eq y x) refl;
          member = λ y c. elim (Contains-append_cases order (x ∷ []) y c) as (λ _. is_in_scope (state_at states' y) ≡ true) [
            | inl a ↦ ap is_in_scope (others y (unlike order x y a absent)) ∙ so.member y a
            | inr b ↦ ap (λ z. is_in_scope (state_at states' z)) (sym (Contains-one x y b)) ∙ ap is_in_scope here
          ];
          distinct = IsDistinct-push order x so.distinct absent;
        })
      where
        by_test : (y : ℕ) → is_in_scope (state_at states' y) ≡ true → (t : Bool) → nat_eq y x ≡ t → Contains (order ++ x ∷ []) y
        by_test y h true test = Contains-append_right order (x ∷ []) y (0, omega arith, sym (eqb-true y x test))
        by_test y h false test =
            let differs : y ≢ x = λ same. let e : false ≡ true = sym test ∙ eq-eqb y x same in cc in
            Contains-append_left order (x ∷ []) y (so.listed y (ap is_in_scope (sym (others y differs)) ∙ h))

    pub Learns-new : Learns (seen_by states order) x true (seen_by states' longer)
    Learns-new = (
      λ c. absent (subst (λ xs. Contains xs x) (scope_of-seen_by states order) c),
      ap (seen_by states') pushed
          ∙ (seen_by-append states' order (x ∷ [])
          ∙ (λ i. seen_by-same states' states order (λ y c. others y (unlike order x y c absent)) i ++ record { handle = x; is_known = is_known (here i) } ∷ [])),
    )

-- ---- the last one is taken off

module _ (states : List State) (order shorter : List ℕ) (x : ℕ) (so : Tracks states order) (popped : order ≡ shorter ++ x ∷ []) where
  pub Tracks-last : Contains order x
  Tracks-last = subst (λ xs. Contains xs x) (sym popped) (Contains-append_right shorter (x ∷ []) x (0, omega arith, refl))

  module _ (states' : List State) (here : state_at states' x ≡ Outside) (others : (y : ℕ) → y ≢ x → state_at states' y ≡ state_at states y) where
    parts : IsDistinct shorter × (Contains shorter x → ⊥)
    parts = IsDistinct-pop shorter x (subst IsDistinct popped so.distinct)

    kept : (y : ℕ) → Contains shorter y → state_at states' y ≡ state_at states y
    kept y c = others y (unlike shorter x y c parts.1)

    pub Tracks-forgot : Tracks states' shorter
    Tracks-forgot = record {
      listed = λ y h.
          let differs : y ≢ x = λ same. let e : true ≡ false = sym h ∙ (ap (λ z. is_in_scope (state_at states' z)) same ∙ ap is_in_scope here) in cc in
          elim (Contains-append_cases shorter (x ∷ []) y (subst (λ xs. Contains xs y) popped (so.listed y (ap is_in_scope (sym (others y differs)) ∙ h)))) as (λ _. Contains shorter y) [
            | inl a ↦ a
            | inr b ↦ absurd (differs (sym (Contains-one x y b)))
          ];
      member = λ y c. ap is_in_scope (kept y c) ∙ so.member y (subst (λ xs. Contains xs y) (sym popped) (Contains-append_left shorter (x ∷ []) y c));
      distinct = parts.0;
    }

    -- the first ones stay as they are
    pub seen_by-forgot : (len : ℕ) → len < length order → (start : List Seen) → take len (seen_by states order) ≡ take len start → take len (seen_by states' shorter) ≡ take len start
    seen_by-forgot len more start first =
        let enough : len ≤ length (seen_by states shorter) =
        (let e = length-seen_by states shorter in let k = shorter-within order shorter x len popped more in omega (arith, e, k)) in
        ap (take len) (seen_by-same states' states shorter kept)
        ∙ (sym (take-append-le len (seen_by states shorter) (seen_by states (x ∷ [])) enough)
        ∙ (ap (take len) (sym (seen_by-append states shorter (x ∷ [])) ∙ ap (seen_by states) (sym popped)) ∙ first))

-- ---- expressions that are no longer known

-- the list, where the expression at this position is not known
abbrev doubted_at : ℕ → List Seen → List Seen
doubted_at position [] = []
doubted_at zero (one ∷ rest) = record one { is_known = false } ∷ rest
doubted_at (suc position) (one ∷ rest) = one ∷ doubted_at position rest

doubted-next : (position : ℕ) (all : List Seen) → doubted_at position (take (suc position) all ++ none_known (drop (suc position) all)) ≡ take position all ++ none_known (drop position all)
doubted-next zero [] = refl
doubted-next (suc position) [] = refl
doubted-next zero (one ∷ rest) = refl
doubted-next (suc position) (one ∷ rest) = ap (λ xs. one ∷ xs) (doubted-next position rest)

-- the element at a position
pub Contains-at : (xs : List ℕ) (position x : ℕ) → position < length xs → x ≡ get_or xs position x → Contains xs x
Contains-at xs position x within is = (position, within, sym is)

module _ (states states' : List State) (x : ℕ) (here : state_at states' x ≡ Doubtful) (others : (y : ℕ) → y ≢ x → state_at states' y ≡ state_at states y) where
  seen_by-doubted : (order : List ℕ) (position : ℕ) → IsDistinct order → position < length order → x ≡ get_or order position x → seen_by states' order ≡ doubted_at position (seen_by states order)
  seen_by-doubted [] position distinct within is = absurd (omega (arith, within))
  seen_by-doubted (y ∷ ys) zero distinct within is =
      let kept : seen_by states' ys ≡ seen_by states ys =
      seen_by-same states' states ys (λ z c. others z (unlike ys x z c (λ d. distinct.0 (subst (λ w. Contains ys w) is d)))) in
      λ i. record { handle = y; is_known = (ap (λ z. is_known (state_at states' z)) (sym is) ∙ ap is_known here) i } ∷ kept i
  seen_by-doubted (y ∷ ys) (suc position) distinct within is =
      let later : seen_by states' ys ≡ doubted_at position (seen_by states ys) = seen_by-doubted ys position distinct.1 (omega (arith, within)) is in
      let there : Contains ys x = Contains-at ys position x (omega (arith, within)) is in
      let differs : y ≢ x = λ same. distinct.0 (subst (λ z. Contains ys z) (sym same) there) in
      λ i. record { handle = y; is_known = is_known (others y differs i) } ∷ later i

  module _ (order : List ℕ) (index next : ℕ) (so : Tracks states order) (before : next + 1 ≡ index) (within : index ≤ length order) (at : x ≡ get_or order next x) where
    there : Contains order x
    there = Contains-at order next x (omega (arith, before, within)) at

    in_scope-doubted : (y : ℕ) → is_in_scope (state_at states' y) ≡ is_in_scope (state_at states y)
    in_scope-doubted y = by_test (nat_eq y x) refl
      where
        by_test : (t : Bool) → nat_eq y x ≡ t → is_in_scope (state_at states' y) ≡ is_in_scope (state_at states y)
        by_test true test =
            let same : y ≡ x = eqb-true y x test in
            ap (λ z. is_in_scope (state_at states' z)) same ∙ (ap is_in_scope here ∙ (sym (so.member x there) ∙ ap (λ z. is_in_scope (state_at states z)) (sym same)))
        by_test false test = ap is_in_scope (others y (λ same. let e : false ≡ true = sym test ∙ eq-eqb y x same in cc))

    pub Tracks-doubted : Tracks states' order
    Tracks-doubted = record {
      listed = λ y h. so.listed y (sym (in_scope-doubted y) ∙ h);
      member = λ y c. in_scope-doubted y ∙ so.member y c;
      distinct = so.distinct;
    }

    pub seen_by-next_doubted : (start : List Seen) → seen_by states order ≡ take index start ++ none_known (drop index start) → seen_by states' order ≡ take next start ++ none_known (drop next start)
    seen_by-next_doubted start is =
        let one_more : index ≡ suc next = omega (arith, before) in
        seen_by-doubted order next so.distinct (omega (arith, before, within)) at
        ∙ (ap (doubted_at next) (is ∙ (λ i. take (one_more i) start ++ none_known (drop (one_more i) start))) ∙ doubted-next next start)

pub seen_by-none_doubted : (start : List Seen) (len : ℕ) → len ≡ length start → start ≡ take len start ++ none_known (drop len start)
seen_by-none_doubted start len is =
    let all : take len start ≡ start = take_all len start (omega (arith, is)) in
    let none : drop len start ≡ [] = drop_all len start (omega (arith, is)) in
    sym ((λ i. all i ++ none_known (none i)) ∙ append-nil start)

-- no states
pub Tracks-none : (states : List State) (order : List ℕ) → ((x : ℕ) → state_at states x ≡ Outside) → order ≡ [] → Tracks states order
Tracks-none states order outside order_is =
    subst (Tracks states) (sym order_is) (record {
      listed = λ x h. absurd (let e : false ≡ true = sym (ap is_in_scope (outside x)) ∙ h in cc);
      member = λ x c. absurd (omega (arith, c.1));
      distinct = tt;
    })
