-- The operands of what is inserted precede it, and those of what is moved still do.
use Rattle.std.proofs.Common.{◌≡◌, ◌∙◌, ◌+◌, ◌<◌, ◌≤◌, ap, arith, get_or, length, length-append, refl, subst, sym, inl, inr, ℕ, zero, suc, Bool, true, false, List, [], ◌∷◌, ◌++◌, map, Some}
use Rattle.std.proofs.lemmas.List.Elements.{All-cons, All-contains_itself, All-map, All-nil, All-same, All-weaker}
use Rattle.std.proofs.lemmas.List.Sums.{sum_by-take-le, sum_by_more}
use Rattle.std.proofs.lemmas.Option.{get_or_from_slice_get, slice_get_within}
use Rattle.std.specs.List.{Contains, enumerate_from, slice_get}
use Rattle.std.specs.Prelude.{⊤, All, if◌then◌else◌}
use Rattle.naga_arena.specs.Arena.{values}
use Rattle.naga_ir.specs.declared.expression.Expression.{Expression}
use Rattle.naga_ir.specs.declared.expression.Expression.TheVariants as expr
use Rattle.naga_valid.specs.Operands.{operands_of}
use Rattle.naga_compact.specs.Operands.{FollowsItsOperands, OperandsPrecede}
use Rattle.naga_compact.specs.Renaming.{Renaming}
use Rattle.naga_compact.specs.derived.Renaming.{rename_expression}
use Rattle.naga_compact.proofs.IsReachedLemmas.{operand_precedes}
use Rattle.naga_compact.proofs.RenamedOperandsLemmas.{operands_of-renamed}
use Rattle.naga_bounds.specs.Changes.{AreChanges, is_u32}
use Rattle.naga_bounds.specs.Reach.{Typed, contents_at, expression_at}
use Rattle.naga_bounds.specs.Restricted.{changed, conversion, front_count, front_of, front_of_index, front_of_length, last_index, limit, minimum, moving, new_of, operand, start_of}
use Rattle.naga_bounds.specs.declared.change.Change.{Change}
use Rattle.naga_bounds.specs.declared.change.Change.TheVariants.{Stays, Clamped}
use Rattle.naga_bounds.specs.declared.change.Clamp.{Clamp}
use Rattle.naga_bounds.specs.declared.change.ClampedIndex.{ClampedIndex}
use Rattle.naga_bounds.specs.declared.change.ClampedIndex.TheVariants.{Constant, Unsigned, Converted}
use Rattle.naga_bounds.specs.declared.length.Length.{Length}
use Rattle.naga_bounds.specs.declared.length.Length.TheVariants.{Fixed, Overridden, Counted}
use Rattle.naga_bounds.proofs.ClampOfLemmas.{IsClamped, changed-as, computed, constant}
use Rattle.naga_bounds.proofs.MadeLemmas.{made-is}
use Rattle.naga_bounds.proofs.NewHandlesLemmas.{front_at, made, new-next, start-rises}
use Rattle.naga_bounds.proofs.RestrictedFitsLemmas.{EachIs, each-joined}
use Rattle.naga_bounds.proofs.RestrictedLemmas.{in_group}

-- ---- lists of expressions

-- an expression of which each has the property
pub each-at : (P : Expression → Type 0) (xs : List Expression) (k : ℕ) (e : Expression) → EachIs P xs → slice_get xs k ≡ Some e → P e
each-at P [] k e each is = absurd (cc)
each-at P (x ∷ xs) zero e each is = subst P (let same : x ≡ e = cc in same) each.0
each-at P (x ∷ xs) (suc k) e each is = each-at P xs k e each.1 is

-- each expression has the property of its handle, where the first has this one
abbrev EachFrom : (P : ℕ → Expression → Type 0) → (here : ℕ) → List Expression → Type 0
EachFrom P here [] = ⊤
EachFrom P here (e ∷ es) = P here e × EachFrom P (suc here) es

EachFrom-joined : (P : ℕ → Expression → Type 0) (here : ℕ) (xs ys : List Expression) → EachFrom P here xs → EachFrom P (here + length xs) ys → EachFrom P here (xs ++ ys)
EachFrom-joined P here [] ys first second = subst (λ n. EachFrom P n ys) (let none : here + 0 ≡ here = omega arith in none) second
EachFrom-joined P here (x ∷ xs) ys first second =
    (first.0, EachFrom-joined P (suc here) xs ys first.1 (subst (λ n. EachFrom P n ys) (let next : here + suc (length xs) ≡ suc here + length xs = omega arith in next) second))

EachFrom-at : (P : ℕ → Expression → Type 0) (here : ℕ) (xs : List Expression) (k p : ℕ) (e : Expression) → p ≡ here + k → EachFrom P here xs → slice_get xs k ≡ Some e → P p e
EachFrom-at P here [] k p e place each is = absurd (cc)
EachFrom-at P here (x ∷ xs) zero p e place each is =
    let at : here ≡ p = omega (arith, place) in
    let same : x ≡ e = cc in
    subst (λ n. P n e) at (subst (P here) same each.0)
EachFrom-at P here (x ∷ xs) (suc k) p e place each is = EachFrom-at P (suc here) xs k p e (omega (arith, place)) each.1 is

precede-from : (first : ℕ) (xs : List Expression) → ((i : ℕ) (e : Expression) → slice_get xs i ≡ Some e → FollowsItsOperands (first + i, e))
    → All FollowsItsOperands (enumerate_from first xs)
precede-from first [] each = All-nil FollowsItsOperands
precede-from first (x ∷ xs) each =
    let none : first + 0 ≡ first = omega arith in
    All-cons FollowsItsOperands (first, x) (enumerate_from (first + 1) xs)
    (subst (λ n. FollowsItsOperands (n, x)) none (each 0 x refl))
    (precede-from (first + 1) xs
    (λ i e is. let next : first + suc i ≡ (first + 1) + i = omega arith in subst (λ n. FollowsItsOperands (n, e)) next (each (suc i) e is)))

-- ---- what is clamped

-- what holds of the expression that is an index
abbrev pub HoldsOfIndex : (Unconverted Other : ℕ → Type 0) → ClampedIndex → Type 0
HoldsOfIndex Unconverted Other (Constant number) = ⊤
HoldsOfIndex Unconverted Other (Unsigned index) = Unconverted index
HoldsOfIndex Unconverted Other (Converted index) = Other index

pub HoldsOfIndex-if : (Unconverted Other : ℕ → Type 0) (test : Bool) (index : ℕ) → (test ≡ true → Unconverted index) → Other index
    → HoldsOfIndex Unconverted Other (if test then Unsigned index else Converted index)
HoldsOfIndex-if Unconverted Other true index unsigned other = unsigned refl
HoldsOfIndex-if Unconverted Other false index unsigned other = other

-- the operands of the expression are before this handle
abbrev pub IsAfter : ℕ → Expression → Type 0
IsAfter p e = All (λ operand. operand < p) (operands_of e)

after-none : (p : ℕ) (e : Expression) → operands_of e ≡ [] → IsAfter p e
after-none p e none = All-same (λ operand. operand < p) (operands_of e) [] none (All-nil (λ operand. operand < p))

after-one : (p a : ℕ) → a < p → All (λ operand. operand < p) (a ∷ [])
after-one p a less = All-cons (λ operand. operand < p) a [] less (All-nil (λ operand. operand < p))

after-two : (p a b : ℕ) → a < p → b < p → All (λ operand. operand < p) (a ∷ b ∷ [])
after-two p a b less less' = All-cons (λ operand. operand < p) a (b ∷ []) less (after-one p b less')

front-of-none : (change : Change) → EachIs (λ e. operands_of e ≡ []) (front_of change)
front-of-none Stays = tt
front-of-none (Clamped clamp) =
    each-joined (λ e. operands_of e ≡ []) (front_of_index clamp.index) (front_of_length clamp.length) (of_index clamp.index) (of_length clamp.length)
  where
    of_index : (index : ClampedIndex) → EachIs (λ e. operands_of e ≡ []) (front_of_index index)
    of_index (Constant number) = (refl, tt)
    of_index (Unsigned index) = tt
    of_index (Converted index) = tt

    of_length : (long : Length) → EachIs (λ e. operands_of e ≡ []) (front_of_length long)
    of_length (Fixed count) = (refl, tt)
    of_length (Overridden handle) = (refl, (refl, tt))
    of_length Counted = (refl, tt)

-- ---- what is inserted for a clamp

module _ (r : Renaming) (front here : ℕ) (long : Length) (index : ClampedIndex) (base : ℕ)
    (fronts : front + (length (front_of_index index) + length (front_of_length long)) ≤ here) (base_before : r.expressions base < here)
    (index_before : HoldsOfIndex (λ x. r.expressions x < here) (λ x. r.expressions x < here) index) where
  abbrev F : ℕ
  F = front + length (front_of_index index)

  abbrev last : List Expression
  last = last_index r long base F here

  last-after : EachFrom IsAfter here last
  last-after = go long fronts
    where
      go : (long : Length) → front + (length (front_of_index index) + length (front_of_length long)) ≤ here → EachFrom IsAfter here (last_index r long base F here)
      go (Fixed count) some = tt
      go (Overridden handle) some = (after-two here (F + 1) F (omega (arith, some)) (omega (arith, some)), tt)
      go Counted some = (after-one here (r.expressions base) base_before, (after-two (suc here) here F (omega arith) (omega (arith, some)), tt))

  conversion-after : (p : ℕ) → here ≤ p → EachFrom IsAfter p (conversion r index)
  conversion-after p past = go index index_before
    where
      go : (index : ClampedIndex) → HoldsOfIndex (λ x. r.expressions x < here) (λ x. r.expressions x < here) index → EachFrom IsAfter p (conversion r index)
      go (Constant number) before = tt
      go (Unsigned x) before = tt
      go (Converted x) before = (after-one p (r.expressions x) (omega (arith, past, before)), tt)

  -- how many are before the minimum
  abbrev N : ℕ
  N = length (last ++ conversion r index)

  operand-after : operand r index front (here + length last) < here + N
  operand-after = go index fronts index_before (length-append last (conversion r index))
    where
      go : (index : ClampedIndex) → front + (length (front_of_index index) + length (front_of_length long)) ≤ here
          → HoldsOfIndex (λ x. r.expressions x < here) (λ x. r.expressions x < here) index
          → length (last ++ conversion r index) ≡ length last + length (conversion r index) → operand r index front (here + length last) < here + length (last ++ conversion r index)
      go (Constant number) some before is = omega (arith, some)
      go (Unsigned x) some before is = omega (arith, before)
      go (Converted x) some before is = omega (arith, is)

  limit-after : limit r long F here < here + N
  limit-after = go long fronts (λ front'. length-append (last_index r long base front' here) (conversion r index))
    where
      go : (long : Length) → front + (length (front_of_index index) + length (front_of_length long)) ≤ here
          → ((front' : ℕ) → length (last_index r long base front' here ++ conversion r index) ≡ length (last_index r long base front' here) + length (conversion r index))
          → limit r long F here < here + length (last_index r long base F here ++ conversion r index)
      go (Fixed count) some is = omega (arith, some)
      go (Overridden handle) some is = let whole = is F in omega (arith, whole)
      go Counted some is = let whole = is F in omega (arith, whole)

  abbrev clamp : Clamp
  clamp = record { length = long; base = base; index = index }

  pub clamped-after : (e : Expression) → EachFrom IsAfter here (in_group r (Clamped clamp) e front here)
  clamped-after e =
      let all : List Expression = last ++ conversion r index in
      let inserted_all : List Expression = all ++ minimum r clamp front here ∷ [] in
      let past : length inserted_all ≡ N + 1 = length-append all (minimum r clamp front here ∷ []) in
      EachFrom-joined IsAfter here inserted_all (changed r (Clamped clamp) e front here ∷ [])
      (EachFrom-joined IsAfter here all (minimum r clamp front here ∷ [])
      (EachFrom-joined IsAfter here last (conversion r index) last-after (conversion-after (here + length last) (omega arith)))
      (after-two (here + N) (operand r index front (here + length last)) (limit r long F here) operand-after limit-after, tt))
      (after-two (here + length inserted_all) (r.expressions base) (here + N) (omega (arith, base_before)) (omega (arith, past)), tt)

-- ---- the new arena

module _ (counts : ℕ → Bool) (code : Typed) (changes : List Change) (planned : AreChanges counts code changes) (precede : OperandsPrecede code.arena) where
  -- what was before an expression is before all that is in its place
  pub new-before : (y x : ℕ) → y < x → x < length changes → new_of changes y < start_of changes x
  new-before y x before within =
      let next = new-next changes y (omega (arith, before, within)) in
      let rises = start-rises changes (y + 1) x (omega (arith, before)) (omega (arith, within)) in
      omega (arith, next, rises)

  pub front-before : (x : ℕ) (change : Change) → slice_get changes x ≡ Some change → front_at changes code.arena planned.all x + front_count change ≤ start_of changes x
  front-before x change at =
      let within = slice_get_within changes x change at in
      let more = sum_by_more front_count changes x change within in
      let same : front_count (get_or changes x change) ≡ front_count change = ap front_count (get_or_from_slice_get changes x change change at) in
      let part = sum_by-take-le front_count changes (x + 1) in
      omega (arith, more, same, part)

  -- an operand of an expression is before it
  pub operand-before : (x y : ℕ) (e : Expression) → expression_at code x ≡ Some e → Contains (operands_of e) y → y < x
  operand-before x y e found inside = operand_precedes code.arena x y precede (record { expression = e; found = found; contained = inside })

  module _ (x : ℕ) (e : Expression) (found : expression_at code x ≡ Some e) (within : x < length changes) where
    -- the base and the index of an access come before it
    pub clamp-before : (clamp : Clamp) → IsClamped counts code e clamp
        → (new_of changes clamp.base < start_of changes x) × HoldsOfIndex (λ y. new_of changes y < start_of changes x) (λ y. new_of changes y < start_of changes x) clamp.index
    clamp-before clamp (computed base index is clamp_of) =
        let before : (y : ℕ) → Contains (base ∷ index ∷ []) y → new_of changes y < start_of changes x =
        λ y inside. new-before y x (operand-before x y (expr.Access base index) (found ∙ ap Some is) inside) within in
        let at_index : new_of changes index < start_of changes x = before index (1, omega arith, refl) in
        let Before : ℕ → Type 0 = λ y. new_of changes y < start_of changes x in (
          subst Before (sym clamp_of.at_base) (before base (0, omega arith, refl)),
          subst (HoldsOfIndex Before Before) (sym clamp_of.index) (HoldsOfIndex-if Before Before (is_u32 (contents_at code index)) index (λ unsigned. at_index) at_index),
        )
    clamp-before clamp (constant base number is clamp_of) =
        let Before : ℕ → Type 0 = λ y. new_of changes y < start_of changes x in
        let less : base < x = operand-before x base (expr.AccessIndex base number) (found ∙ ap Some is) (0, omega arith, refl) in (
          subst Before (sym clamp_of.at_base) (new-before base x less within),
          subst (HoldsOfIndex Before Before) (sym clamp_of.index) tt,
        )

    stays-after : (p : ℕ) → p ≡ start_of changes x → IsAfter p (rename_expression (moving changes) e)
    stays-after p place =
        All-same (λ operand. operand < p) (operands_of (rename_expression (moving changes) e)) (map (new_of changes) (operands_of e)) (operands_of-renamed (moving changes) e)
        (All-map (λ operand. operand < p) (new_of changes) (operands_of e)
        (All-weaker (Contains (operands_of e)) (λ operand. new_of changes operand < p)
        (λ y inside. let less = new-before y x (operand-before x y e found inside) within in omega (arith, less, place))
        (operands_of e) (All-contains_itself (operands_of e))))

  place-after : (p x place : ℕ) (change : Change) (old e : Expression) → slice_get changes x ≡ Some change → expression_at code x ≡ Some old → p ≡ start_of changes x + place
      → slice_get (in_group (moving changes) change old (front_at changes code.arena planned.all x) (start_of changes x)) place ≡ Some e → IsAfter p e
  place-after p x place change old e at found there is =
      let within = slice_get_within changes x change at in
      let front = front_at changes code.arena planned.all x in
      let here = start_of changes x in
      EachFrom-at IsAfter here (in_group (moving changes) change old front here) place p e there
      (elim (changed-as counts code changes planned x old found) [
        | inl stays ↦
            let same : Stays ≡ change = (let both : Some Stays ≡ Some change = sym stays.0 ∙ at in cc) in
            subst (λ c. EachFrom IsAfter here (in_group (moving changes) c old front here)) same (stays-after x old found within here refl, tt)
        | inr clamped ↦
            let clamp = clamped.0 in
            let same : Clamped clamp ≡ change = (let both : Some (Clamped clamp) ≡ Some change = sym clamped.1 ∙ at in cc) in
            let before = clamp-before x old found within clamp clamped.2 in
            let fronts = front-before x (Clamped clamp) clamped.1 in
            let parts = length-append (front_of_index clamp.index) (front_of_length clamp.length) in
            subst (λ c. EachFrom IsAfter here (in_group (moving changes) c old front here)) same
            (clamped-after (moving changes) front here clamp.length clamp.index clamp.base (omega (arith, fronts, parts)) before.0 before.1 old)
      ]) is

  pub made-precedes : OperandsPrecede (made changes code.arena planned.all)
  made-precedes = precede-from 0 (values (made changes code.arena planned.all)) (λ p e is.
      let none : p ≡ 0 + p = omega arith in
      subst (λ n. FollowsItsOperands (n, e)) none (elim (made-is changes code.arena planned.all p e is) [
        | inl front ↦ after-none p e (each-at (λ x. operands_of x ≡ []) (front_of front.change) front.place e (front-of-none front.change) front.is)
        | inr stands ↦ place-after p stands.handle stands.place stands.change stands.old e stands.at stands.found stands.there stands.is
      ]))
