-- Tokens after each list and object that is open.
use Rattle.std.proofs.Common.{◌≡◌, ℕ, zero, suc, ◌-◌, ◌<◌, ◌≤◌, List, [], ◌∷◌, length, Bool, false, Option, Some, None, refl, sym, ap, ◌∙◌, arith}
use Rattle.json.specs.Json.{Json, array, object, item, member, Parse, parse_map, after_end_array, read_key, items, members, value}
use Rattle.json.specs.Token.{Token}
use Rattle.json.proofs.Grammar.{left, Takes, items_end, items_fail, items_more, members_end, members_no_key, members_fail, members_more, value-begin_array, value-begin_object, value_is, skip_value-shorter, read_key-shorter}
use Rattle.json_fault.specs.Document.{max_depth}
use Rattle.json_fault.specs.Rest.{rest_is, depth_in, goes_on, begins}
use Rattle.json_fault.specs.declared.mode.Frame.{Frame}
use Rattle.json_fault.specs.declared.mode.Frame.TheVariants as frames

rest_is-parse_map : {A B : Type 0} (go : List Token → Bool) (f : A → B) (o : Option (A × List Token)) → rest_is go (parse_map f o) ≡ rest_is go o
rest_is-parse_map go f None = refl
rest_is-parse_map go f (Some p) = refl

module _ (p : Parse Json) (takes : Takes p) where
  at_nil : (o : Option (Json × List Token)) → p [] ≡ o → o ≡ None
  at_nil None e = refl
  at_nil (Some q) e = let short = takes [] q.1 (ap left e) in absurd (omega arith)

  -- ---- the count of turns plays no part once it is enough

  -- as many turns as there are tokens are enough
  abbrev Enough : {A : Type 0} → (ℕ → Parse A) → ℕ → Type 0
  Enough parts n = (m : ℕ) (ts : List Token) → length ts ≤ n → length ts ≤ m → parts n ts ≡ parts m ts

  module _ (n m : ℕ) (ts : List Token) (few : length ts ≤ suc n) (many : length ts ≤ m) where
    items-value : Enough (items p) n → (o : Option (Json × List Token)) → p ts ≡ o → after_end_array ts ≡ None → items p (suc n) ts ≡ items p m ts
    items-value again None is none = items_fail p (suc n) ts none is ∙ sym (items_fail p m ts none is)
    items-value again (Some q) is none =
        let less = takes ts q.1 (ap left is) in
        let one : suc n - 1 ≡ n = omega arith in
        items_more p (suc n) ts q.1 q.0 (omega arith) none is ∙ ap (λ k. parse_map (item q.0) (items p k q.1)) one ∙ ap (parse_map (item q.0)) (again (m - 1) q.1 (omega arith) (omega arith))
        ∙ sym (items_more p m ts q.1 q.0 (omega arith) none is)

    items-end : Enough (items p) n → (o : Option (List Token)) → after_end_array ts ≡ o → items p (suc n) ts ≡ items p m ts
    items-end again (Some r) is = items_end p (suc n) ts r few is ∙ sym (items_end p m ts r many is)
    items-end again None is = items-value again (p ts) refl is

    members-value : Enough (members p) n → (k : List ℕ) (s : List Token) (o : Option (Json × List Token)) → p s ≡ o → read_key ts ≡ Some (Some k, s) → members p (suc n) ts ≡ members p m ts
    members-value again k s None is found = members_fail p (suc n) k ts s found is ∙ sym (members_fail p m k ts s found is)
    members-value again k s (Some q) is found =
        let less = takes s q.1 (ap left is) in
        let lesser = read_key-shorter ts (Some k) s found in
        let one : suc n - 1 ≡ n = omega arith in
        members_more p (suc n) k ts s q.1 q.0 (omega arith) found is ∙ ap (λ j. parse_map (member k q.0) (members p j q.1)) one ∙ ap (parse_map (member k q.0)) (again (m - 1) q.1 (omega arith) (omega arith))
        ∙ sym (members_more p m k ts s q.1 q.0 (omega arith) found is)

    members-key : Enough (members p) n → (o : Option (Option (List ℕ) × List Token)) → read_key ts ≡ o → members p (suc n) ts ≡ members p m ts
    members-key again None is = members_no_key p (suc n) ts is ∙ sym (members_no_key p m ts is)
    members-key again (Some (None, r)) is = members_end p (suc n) ts r few is ∙ sym (members_end p m ts r many is)
    members-key again (Some (Some k, s)) is = members-value again k s (p s) refl is

  items-enough : (n : ℕ) → Enough (items p) n
  items-enough zero m [] few many = items_fail p zero [] refl (at_nil (p []) refl) ∙ sym (items_fail p m [] refl (at_nil (p []) refl))
  items-enough zero m (t ∷ ts) few many = let never : ⊥ = omega arith in absurd never
  items-enough (suc n) m ts few many = items-end n m ts few many (items-enough n) (after_end_array ts) refl

  members-enough : (n : ℕ) → Enough (members p) n
  members-enough zero m [] few many = members_no_key p zero [] refl ∙ sym (members_no_key p m [] refl)
  members-enough zero m (t ∷ ts) few many = let never : ⊥ = omega arith in absurd never
  members-enough (suc n) m ts few many = members-key n m ts few many (members-enough n) (read_key ts) refl

  -- ---- one turn of the innermost list or object
  module _ (go : List Token → Bool) where
    items-turn : (ts : List Token) → after_end_array ts ≡ None → rest_is go (items p (length ts) ts) ≡ rest_is (λ r. rest_is go (items p (length r) r)) (p ts)
    items-turn ts none = by_value (p ts) refl
      where
        by_value : (o : Option (Json × List Token)) → p ts ≡ o → rest_is go (items p (length ts) ts) ≡ rest_is (λ r. rest_is go (items p (length r) r)) o
        by_value None is = ap (rest_is go) (items_fail p (length ts) ts none is)
        by_value (Some q) is =
            let less = takes ts q.1 (ap left is) in
            ap (rest_is go) (items_more p (length ts) ts q.1 q.0 (omega arith) none is ∙ ap (parse_map (item q.0)) (items-enough (length ts - 1) (length q.1) q.1 (omega arith) (omega arith)))
            ∙ rest_is-parse_map go (item q.0) (items p (length q.1) q.1)

    members-turn : (k : List ℕ) (ts : List Token) → rest_is go (members p (length (Token.key k ∷ ts)) (Token.key k ∷ ts)) ≡ rest_is (λ r. rest_is go (members p (length r) r)) (p ts)
    members-turn k ts = by_value (p ts) refl
      where
        by_value : (o : Option (Json × List Token)) → p ts ≡ o → rest_is go (members p (length (Token.key k ∷ ts)) (Token.key k ∷ ts)) ≡ rest_is (λ r. rest_is go (members p (length r) r)) o
        by_value None is = ap (rest_is go) (members_fail p (length (Token.key k ∷ ts)) k (Token.key k ∷ ts) ts refl is)
        by_value (Some q) is =
            let less = takes ts q.1 (ap left is) in
            ap (rest_is go)
            (members_more p (length (Token.key k ∷ ts)) k (Token.key k ∷ ts) ts q.1 q.0 (omega arith) refl is ∙ ap (parse_map (member k q.0)) (members-enough (length (Token.key k ∷ ts) - 1) (length q.1) q.1 (omega arith) (omega arith)))
            ∙ rest_is-parse_map go (member k q.0) (members p (length q.1) q.1)

-- ---- the tokens of a list

pub on_item : (outer : List Frame) (ts : List Token) → after_end_array ts ≡ None → goes_on (frames.List ∷ outer) ts ≡ begins (frames.List ∷ outer) ts
on_item outer ts none = items-turn (value (depth_in (frames.List ∷ outer))) (skip_value-shorter _) (λ r. goes_on outer r) ts none

pub on_list_end : (outer : List Frame) (ts : List Token) → goes_on (frames.List ∷ outer) (Token.end_array ∷ ts) ≡ goes_on outer ts
on_list_end outer ts = ap (rest_is (λ r. goes_on outer r)) (items_end (value (depth_in (frames.List ∷ outer))) (length (Token.end_array ∷ ts)) (Token.end_array ∷ ts) ts (omega arith) refl)

-- ---- the tokens of an object

pub on_key : (outer : List Frame) (k : List ℕ) (ts : List Token) → goes_on (frames.Object ∷ outer) (Token.key k ∷ ts) ≡ begins (frames.Object ∷ outer) ts
on_key outer k ts = members-turn (value (depth_in (frames.Object ∷ outer))) (skip_value-shorter _) (λ r. goes_on outer r) k ts

pub on_object_end : (outer : List Frame) (ts : List Token) → goes_on (frames.Object ∷ outer) (Token.end_object ∷ ts) ≡ goes_on outer ts
on_object_end outer ts = ap (rest_is (λ r. goes_on outer r)) (members_end (value (depth_in (frames.Object ∷ outer))) (length (Token.end_object ∷ ts)) (Token.end_object ∷ ts) ts (omega arith) refl)

pub on_no_key : (outer : List Frame) (ts : List Token) → read_key ts ≡ None → goes_on (frames.Object ∷ outer) ts ≡ false
on_no_key outer ts none = ap (rest_is (λ r. goes_on outer r)) (members_no_key (value (depth_in (frames.Object ∷ outer))) (length ts) ts none)

-- ---- a value

pub on_list : (outer : List Frame) (ts : List Token) → length outer < max_depth → begins outer (Token.begin_array ∷ ts) ≡ goes_on (frames.List ∷ outer) ts
on_list outer ts shallow =
    let one : depth_in outer - 1 ≡ depth_in (frames.List ∷ outer) = omega arith in
    ap (rest_is (goes_on outer)) (value-begin_array (depth_in outer) ts (omega arith)) ∙ rest_is-parse_map (goes_on outer) array (items (value (depth_in outer - 1)) (length ts) ts)
    ∙ ap (λ d. rest_is (goes_on outer) (items (value d) (length ts) ts)) one

pub on_object : (outer : List Frame) (ts : List Token) → length outer < max_depth → begins outer (Token.begin_object ∷ ts) ≡ goes_on (frames.Object ∷ outer) ts
on_object outer ts shallow =
    let one : depth_in outer - 1 ≡ depth_in (frames.Object ∷ outer) = omega arith in
    ap (rest_is (goes_on outer)) (value-begin_object (depth_in outer) ts (omega arith)) ∙ rest_is-parse_map (goes_on outer) object (members (value (depth_in outer - 1)) (length ts) ts)
    ∙ ap (λ d. rest_is (goes_on outer) (members (value d) (length ts) ts)) one

pub on_deep_list : (outer : List Frame) (ts : List Token) → max_depth ≤ length outer → begins outer (Token.begin_array ∷ ts) ≡ false
unfolding value
on_deep_list outer ts deep = let none : depth_in outer ≡ 0 = omega arith in ap (λ d. rest_is (goes_on outer) (value d (Token.begin_array ∷ ts))) none

pub on_deep_object : (outer : List Frame) (ts : List Token) → max_depth ≤ length outer → begins outer (Token.begin_object ∷ ts) ≡ false
unfolding value
on_deep_object outer ts deep = let none : depth_in outer ≡ 0 = omega arith in ap (λ d. rest_is (goes_on outer) (value d (Token.begin_object ∷ ts))) none

pub on_string : (outer : List Frame) (s : List ℕ) (ts : List Token) → begins outer (Token.string s ∷ ts) ≡ goes_on outer ts
on_string outer s ts = ap (rest_is (goes_on outer)) (value_is (depth_in outer) (Token.string s ∷ ts))

pub on_number : (outer : List Frame) (s : List ℕ) (ts : List Token) → begins outer (Token.number s ∷ ts) ≡ goes_on outer ts
on_number outer s ts = ap (rest_is (goes_on outer)) (value_is (depth_in outer) (Token.number s ∷ ts))

pub on_boolean : (outer : List Frame) (b : Bool) (ts : List Token) → begins outer (Token.boolean b ∷ ts) ≡ goes_on outer ts
on_boolean outer b ts = ap (rest_is (goes_on outer)) (value_is (depth_in outer) (Token.boolean b ∷ ts))

pub on_null : (outer : List Frame) (ts : List Token) → begins outer (Token.null ∷ ts) ≡ goes_on outer ts
on_null outer ts = ap (rest_is (goes_on outer)) (value_is (depth_in outer) (Token.null ∷ ts))

pub on_nothing : (outer : List Frame) → begins outer [] ≡ false
on_nothing outer = ap (rest_is (goes_on outer)) (value_is (depth_in outer) [])

pub on_list_close : (outer : List Frame) (ts : List Token) → begins outer (Token.end_array ∷ ts) ≡ false
on_list_close outer ts = ap (rest_is (goes_on outer)) (value_is (depth_in outer) (Token.end_array ∷ ts))

pub on_object_close : (outer : List Frame) (ts : List Token) → begins outer (Token.end_object ∷ ts) ≡ false
on_object_close outer ts = ap (rest_is (goes_on outer)) (value_is (depth_in outer) (Token.end_object ∷ ts))

pub on_stray_key : (outer : List Frame) (k : List ℕ) (ts : List Token) → begins outer (Token.key k ∷ ts) ≡ false
on_stray_key outer k ts = ap (rest_is (goes_on outer)) (value_is (depth_in outer) (Token.key k ∷ ts))

pub on_bad_value : (outer : List Frame) (ts : List Token) → begins outer (Token.bad ∷ ts) ≡ false
on_bad_value outer ts = ap (rest_is (goes_on outer)) (value_is (depth_in outer) (Token.bad ∷ ts))

pub on_bad : (outer : List Frame) (ts : List Token) → goes_on outer (Token.bad ∷ ts) ≡ false
on_bad [] ts = refl
on_bad (frames.List ∷ outer) ts = on_item outer (Token.bad ∷ ts) refl ∙ on_bad_value (frames.List ∷ outer) ts
on_bad (frames.Object ∷ outer) ts = on_no_key outer (Token.bad ∷ ts) refl
