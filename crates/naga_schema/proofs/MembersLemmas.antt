-- An object has no fault as a struct exactly if it has the fields of the struct and no others, none of them twice, and
-- if the value of each field has no fault.
use Rattle.std.proofs.Common.{◌≡◌, ◌∙◌, ap, refl, sym, ℕ, ◌+◌, ◌==◌, ◌≤◌, List, [], ◌∷◌, ◌++◌, map, Bool, true, false, cond, not, ◌&&◌, ◌||◌, Option, Some, None, is_some, append_assoc, arith}
use Rattle.std.proofs.lemmas.Bool.Decides.{nat_tests}
use Rattle.std.specs.List.{fold}
use Rattle.std.specs.Str.{bytes_eq}
use Rattle.std.proofs.lemmas.Slice.Eq.{bytes_eq-Decides}
use Rattle.json.specs.Json.{Json, Members, no_members, member, object}
use Rattle.json.specs.Find.{get_member, later_or}
use Rattle.naga_json.specs.Objects.{count_fields, member_count}
use Rattle.naga_schema.specs.declared.schema.Presence.{Presence}
use Rattle.naga_schema.specs.declared.derived.type_name.TypeName.{TypeName}
use Rattle.naga_schema.specs.Fault.{fault, field_fault, find_field, has_name, inside, is_accepted, is_optional, member_fault, members_fault, missing_fault, missing_field}
use Rattle.naga_schema.specs.Path.{Found, here, or_later, within}
use Rattle.naga_schema.specs.Path as path
use Rattle.naga_schema.specs.Shape.{Field}
use Rattle.naga_schema.proofs.TestsLemmas.{accepted-not, accepted-or, accepted-within, and_assoc, and_same, and_true, has_name-append, same_either}

-- the names of members
abbrev pub names_of : Members → List (List ℕ)
names_of no_members = []
names_of (member name j ms) = name ∷ names_of ms

-- each field that must be there is among the names
abbrev pub complete : List Field → List (List ℕ) → Bool
complete [] names = true
complete (field ∷ fields) names = (is_optional field.1 || has_name names field.0) && complete fields names

complete-missing : (fields : List Field) (names : List (List ℕ)) → is_accepted (missing_fault (missing_field fields names)) ≡ complete fields names
complete-missing [] names = refl
complete-missing (field ∷ fields) names = by_cases (is_optional field.1 || has_name names field.0) (missing_field fields names) (complete fields names) field.0 (complete-missing fields names)
  where
    by_cases : (b : Bool) (rest : Option (List ℕ)) (c : Bool) (name : List ℕ) → is_accepted (missing_fault rest) ≡ c → is_accepted (missing_fault (cond b rest (Some name))) ≡ (b && c)
    by_cases true rest c name e = e
    by_cases false rest c name e = refl

module _ (depth : ℕ) where
  -- the value of a field has no fault
  abbrev pub value_ok : Presence × TypeName → Json → Bool
  value_ok field j = is_accepted (field_fault field.0 j (fault j depth field.1))

  -- the value of a field that is there has no fault
  abbrev pub present_ok : Presence × TypeName → Option Json → Bool
  present_ok field None = true
  present_ok field (Some j) = value_ok field j

  -- the value of a field that may be missing has no fault
  abbrev pub field_ok : Presence × TypeName → Option Json → Bool
  field_ok field None = is_optional field.0
  field_ok field (Some j) = value_ok field j

  -- a field has this name, and the value has no fault
  abbrev pub known_ok : Option (Presence × TypeName) → Json → Bool
  known_ok None j = false
  known_ok (Some field) j = value_ok field j

  -- the values of the fields that are there have no fault
  abbrev pub values_ok : List Field → Members → Bool
  values_ok [] ms = true
  values_ok (field ∷ fields) ms = present_ok (field.1, field.2) (get_member field.0 ms) && values_ok fields ms

  -- the fields have no fault
  abbrev pub fields_ok : List Field → Members → Bool
  fields_ok [] ms = true
  fields_ok (field ∷ fields) ms = field_ok (field.1, field.2) (get_member field.0 ms) && fields_ok fields ms

  module _ (fields : List Field) where
    -- the members are fields, none of them after one of the same name, and their values have no fault
    one_by_one : Members → List (List ℕ) → Bool
    one_by_one no_members seen = true
    one_by_one (member name j ms) seen =
        known_ok (find_field fields name) j && (not (has_name seen name) && one_by_one ms (seen ++ name ∷ []))

    -- the same, with none of them before one of the same name
    sound : Members → Bool
    sound no_members = true
    sound (member name j ms) = known_ok (find_field fields name) j && (not (is_some (get_member name ms)) && sound ms)

    -- no member has one of these names
    apart : Members → List (List ℕ) → Bool
    apart no_members seen = true
    apart (member name j ms) seen = not (has_name seen name) && apart ms seen

    -- ---- the walk tests one by one

    member-tests : (name : List ℕ) (j : Json) (seen : List (List ℕ)) (found : Option (Presence × TypeName)) (after : Option Found)
        → is_accepted (member_fault fields name j seen (λ of. fault j depth of) after found) ≡ (known_ok found j && (not (has_name seen name) && is_accepted after))
    member-tests name j seen None after = refl
    member-tests name j seen (Some field) after =
        accepted-not (has_name seen name) _ (path.repeated_field name)
        ∙ ap (λ b. not (has_name seen name) && b) (accepted-or (within (path.field name) (field_fault field.0 j (fault j depth field.1))) after ∙ ap (λ b. b && is_accepted after) (accepted-within (path.field name) (field_fault field.0 j (fault j depth field.1))))
        ∙ swapped (not (has_name seen name)) (value_ok field j) (is_accepted after)
      where
        swapped : (a b c : Bool) → (a && (b && c)) ≡ (b && (a && c))
        swapped true true c = refl
        swapped true false c = refl
        swapped false true c = refl
        swapped false false c = refl

    walk-tests : (ms : Members) (seen : List (List ℕ)) → is_accepted (members_fault ms fields seen depth) ≡ (one_by_one ms seen && complete fields (seen ++ names_of ms))
    unfolding inside one_by_one
    walk-tests no_members seen = complete-missing fields seen ∙ ap (complete fields) (sym (append_nil seen))
      where
        append_nil : {A : Type 0} (xs : List A) → xs ++ [] ≡ xs
        append_nil [] = refl
        append_nil (x ∷ xs) = ap (λ l. x ∷ l) (append_nil xs)
    walk-tests (member name j ms) seen =
        member-tests name j seen (find_field fields name) (members_fault ms fields (seen ++ name ∷ []) depth)
        ∙ ap (λ b. known_ok (find_field fields name) j && (not (has_name seen name) && b)) (walk-tests ms (seen ++ name ∷ []) ∙ ap (λ l. one_by_one ms (seen ++ name ∷ []) && complete fields l) (append_assoc seen (name ∷ []) (names_of ms)))
        ∙ regrouped (known_ok (find_field fields name) j) (not (has_name seen name)) (one_by_one ms (seen ++ name ∷ [])) (complete fields (seen ++ name ∷ names_of ms))
      where
        regrouped : (a b c d : Bool) → (a && (b && (c && d))) ≡ ((a && (b && c)) && d)
        regrouped true true c d = refl
        regrouped true false c d = refl
        regrouped false b c d = refl

    -- ---- the order of the members does not matter

    later-found : (o : Option Json) (b : Bool) (j : Json) → is_some (later_or o (cond b (Some j) None)) ≡ (is_some o || b)
    later-found None true j = refl
    later-found None false j = refl
    later-found (Some k) b j = refl

    apart-more : (ms : Members) (seen : List (List ℕ)) (name : List ℕ) → apart ms (seen ++ name ∷ []) ≡ (not (is_some (get_member name ms)) && apart ms seen)
    unfolding apart
    apart-more no_members seen name = refl
    apart-more (member other j ms) seen name =
        and_same _ _ _ _ (ap not (has_name-append seen name other ∙ ap (λ b. has_name seen other || b) (same_either name other))) (apart-more ms seen name)
        ∙ tests (has_name seen other) (bytes_eq other name) (is_some (get_member name ms)) (apart ms seen)
        ∙ ap (λ b. not b && (not (has_name seen other) && apart ms seen)) (sym (later-found (get_member name ms) (bytes_eq other name) j))
      where
        tests : (a b c d : Bool) → (not (a || b) && (not c && d)) ≡ (not (c || b) && (not a && d))
        tests true b true d = refl
        tests true true false d = refl
        tests true false false d = refl
        tests false true true d = refl
        tests false true false d = refl
        tests false false true d = refl
        tests false false false d = refl

    ordered : (ms : Members) (seen : List (List ℕ)) → one_by_one ms seen ≡ (sound ms && apart ms seen)
    unfolding one_by_one sound apart
    ordered no_members seen = refl
    ordered (member name j ms) seen =
        ap (λ b. known_ok (find_field fields name) j && (not (has_name seen name) && b)) (ordered ms (seen ++ name ∷ []) ∙ ap (λ b. sound ms && b) (apart-more ms seen name))
        ∙ tests (known_ok (find_field fields name) j) (not (has_name seen name)) (sound ms) (not (is_some (get_member name ms))) (apart ms seen)
      where
        tests : (a b c d e : Bool) → (a && (b && (c && (d && e)))) ≡ ((a && (d && c)) && (b && e))
        tests false b c d e = refl
        tests true false false d e = absurd_false d e
          where
            absurd_false : (d e : Bool) → false ≡ ((d && false) && false)
            absurd_false true e = refl
            absurd_false false e = refl
        tests true false true d e = both d
          where
            both : (d : Bool) → false ≡ ((d && true) && false)
            both true = refl
            both false = refl
        tests true true false d e = both d
          where
            both : (d : Bool) → false ≡ ((d && false) && e)
            both true = refl
            both false = refl
        tests true true true true e = refl
        tests true true true false e = refl

    all-apart : (ms : Members) → apart ms [] ≡ true
    unfolding apart
    all-apart no_members = refl
    all-apart (member name j ms) = all-apart ms

-- ---- the number of fields that are there

-- whether one of the names is this one
abbrev pub contains : List (List ℕ) → List ℕ → Bool
contains [] name = false
contains (other ∷ others) name = bytes_eq name other || contains others name

-- no two of the names are the same
abbrev pub distinct : List (List ℕ) → Bool
distinct [] = true
distinct (name ∷ names) = not (contains names name) && distinct names

-- the names of fields
abbrev pub field_names : List Field → List (List ℕ)
field_names fields = map (λ field. field.0) fields

-- 1 if the test is true, and else 0
abbrev pub one_if : Bool → ℕ
one_if b = cond b 1 0

-- the number of the names of which there is a member
count : List (List ℕ) → Members → ℕ
count [] ms = 0
count (name ∷ names) ms = one_if (is_some (get_member name ms)) + count names ms

counted_from : (start : ℕ) (names : List (List ℕ)) (ms : Members) → fold (λ a x. a + one_if (is_some (get_member x ms))) start names ≡ start + count names ms
unfolding count
counted_from start [] ms = omega arith
counted_from start (name ∷ names) ms = counted_from (start + one_if (is_some (get_member name ms))) names ms ∙ omega arith

counted : (names : List (List ℕ)) (ms : Members) → count_fields names (object ms) ≡ count names ms
counted names ms = counted_from 0 names ms ∙ omega arith

later-none : (o : Option Json) (b : Bool) (j : Json) → b ≡ false → later_or o (cond b (Some j) None) ≡ o
later-none None b j e = rw e refl
later-none (Some k) b j e = refl

-- a member more of a name that is not among these changes nothing
count-other : (names : List (List ℕ)) (name : List ℕ) (j : Json) (ms : Members) → contains names name ≡ false → count names (member name j ms) ≡ count names ms
unfolding count
count-other [] name j ms misses = refl
count-other (other ∷ names) name j ms misses =
    let both = neither (bytes_eq name other) (contains names name) misses in
    ap (λ o. one_if (is_some o) + count names (member name j ms)) (later-none (get_member other ms) (bytes_eq name other) j both.0)
    ∙ ap (λ n. one_if (is_some (get_member other ms)) + n) (count-other names name j ms both.1)
  where
    neither : (a b : Bool) → (a || b) ≡ false → (a ≡ false) × (b ≡ false)
    neither true b e = absurd (cc)
    neither false b e = (refl, e)

module _ (name : List ℕ) (j : Json) (ms : Members) where
  -- a member more of a name that a later member has
  count-again : (names : List (List ℕ)) → is_some (get_member name ms) ≡ true → count names (member name j ms) ≡ count names ms
  unfolding count
  count-again [] again = refl
  count-again (other ∷ names) again =
      ap (λ o. one_if o + count names (member name j ms)) (later-found (get_member other ms) (bytes_eq name other) j ∙ same_found (bytes_eq name other) (name_same name other ms again))
      ∙ ap (λ n. one_if (is_some (get_member other ms)) + n) (count-again names again)
    where
      later-found : (o : Option Json) (b : Bool) (k : Json) → is_some (later_or o (cond b (Some k) None)) ≡ (is_some o || b)
      later-found None true k = refl
      later-found None false k = refl
      later-found (Some l) b k = refl

      name_same : (a b : List ℕ) (members : Members) → is_some (get_member a members) ≡ true → bytes_eq a b ≡ true → is_some (get_member b members) ≡ true
      name_same a b members found same = ap (λ n. is_some (get_member n members)) (sym ((bytes_eq-Decides a b).0 same)) ∙ found

      same_found : {o : Bool} (b : Bool) → (b ≡ true → o ≡ true) → (o || b) ≡ o
      same_found {o = true} b implies = refl
      same_found {o = false} true implies = sym (implies refl)
      same_found {o = false} false implies = refl

  -- a member more of a new name, which is among these
  count-new : (names : List (List ℕ)) → distinct names ≡ true → contains names name ≡ true → is_some (get_member name ms) ≡ false → count names (member name j ms) ≡ count names ms + 1
  unfolding count
  count-new [] apart has new = absurd (cc)
  count-new (other ∷ names) apart has new =
      let parts = both (contains names other) (distinct names) apart in
      by_test (bytes_eq name other) refl parts.0 has (λ later. count-new names parts.1 later new)
    where
      both : (a b : Bool) → (not a && b) ≡ true → (a ≡ false) × (b ≡ true)
      both true b e = absurd (cc)
      both false b e = (refl, e)

      found_later : (o : Option Json) (b : Bool) (k : Json) → is_some (later_or o (cond b (Some k) None)) ≡ (is_some o || b)
      found_later None true k = refl
      found_later None false k = refl
      found_later (Some l) b k = refl

      one : (o b : Bool) → b ≡ true → one_if (o || b) ≡ 1
      one true b e = refl
      one false b e = rw e refl

      same : (o b : Bool) → b ≡ false → one_if (o || b) ≡ one_if o
      same true b e = refl
      same false b e = rw e refl

      by_test : (b : Bool) → bytes_eq name other ≡ b → contains names other ≡ false → (b || contains names name) ≡ true
          → (contains names name ≡ true → count names (member name j ms) ≡ count names ms + 1)
          → one_if (is_some (later_or (get_member other ms) (cond (bytes_eq name other) (Some j) None))) + count names (member name j ms) ≡ one_if (is_some (get_member other ms)) + count names ms + 1
      by_test true is alone found next =
          let here : name ≡ other = (bytes_eq-Decides name other).0 is in
          let there : one_if (is_some (later_or (get_member other ms) (cond (bytes_eq name other) (Some j) None))) ≡ 1 =
          ap (λ o. one_if o) (found_later (get_member other ms) (bytes_eq name other) j) ∙ one (is_some (get_member other ms)) (bytes_eq name other) is in
          let before : one_if (is_some (get_member other ms)) ≡ 0 = ap (λ o. one_if o) (ap (λ n. is_some (get_member n ms)) (sym here) ∙ new) in
          let rest : count names (member name j ms) ≡ count names ms = count-other names name j ms (ap (contains names) here ∙ alone) in
          omega (arith, there, before, rest)
      by_test false is alone found next =
          let there : one_if (is_some (later_or (get_member other ms) (cond (bytes_eq name other) (Some j) None))) ≡ one_if (is_some (get_member other ms)) =
          ap (λ o. one_if o) (found_later (get_member other ms) (bytes_eq name other) j) ∙ same (is_some (get_member other ms)) (bytes_eq name other) is in
          let rest = next found in
          omega (arith, there, rest)

count-none : (names : List (List ℕ)) → count names no_members ≡ 0
unfolding count
count-none [] = refl
count-none (name ∷ names) = omega (arith, count-none names)

-- there are at least as many members as there are names of members
count-most : (names : List (List ℕ)) (ms : Members) → distinct names ≡ true → count names ms ≤ member_count ms
count-most names no_members apart = omega (arith, count-none names)
count-most names (member name j ms) apart = by_cases (is_some (get_member name ms)) refl (contains names name) refl (count-most names ms apart)
  where
    by_cases : (again : Bool) → is_some (get_member name ms) ≡ again → (has : Bool) → contains names name ≡ has → count names ms ≤ member_count ms → count names (member name j ms) ≤ member_count ms + 1
    by_cases true again has is most = omega (arith, count-again name j ms names again, most)
    by_cases false again true is most = omega (arith, count-new name j ms names apart is again, most)
    by_cases false again false is most = omega (arith, count-other names name j ms is, most)

-- ---- the values of the fields that are there

find-named : (fields : List Field) (name : List ℕ) → is_some (find_field fields name) ≡ contains (field_names fields) name
find-named [] name = refl
find-named (field ∷ fields) name =
    by_test (bytes_eq field.0 name) (field.1, field.2) (find_field fields name) ∙ ap (λ b. b || is_some (find_field fields name)) (same_either field.0 name) ∙ ap (λ b. bytes_eq name field.0 || b) (find-named fields name)
  where
    by_test : (b : Bool) (x : Presence × TypeName) (o : Option (Presence × TypeName)) → is_some (cond b (Some x) o) ≡ (b || is_some o)
    by_test true x o = refl
    by_test false x o = refl

module _ (depth : ℕ) where
  values-other : (fields : List Field) (name : List ℕ) (j : Json) (ms : Members) → contains (field_names fields) name ≡ false → values_ok depth fields (member name j ms) ≡ values_ok depth fields ms
  values-other [] name j ms misses = refl
  values-other (field ∷ fields) name j ms misses =
      let parts = neither (bytes_eq name field.0) (contains (field_names fields) name) misses in
      and_same _ _ _ _ (ap (present_ok depth (field.1, field.2)) (later-none (get_member field.0 ms) (bytes_eq name field.0) j parts.0)) (values-other fields name j ms parts.1)
    where
      neither : (a b : Bool) → (a || b) ≡ false → (a ≡ false) × (b ≡ false)
      neither true b e = absurd (cc)
      neither false b e = (refl, e)

  values-new : (fields : List Field) (name : List ℕ) (j : Json) (ms : Members) → distinct (field_names fields) ≡ true → is_some (get_member name ms) ≡ false → contains (field_names fields) name ≡ true
      → values_ok depth fields (member name j ms) ≡ (known_ok depth (find_field fields name) j && values_ok depth fields ms)
  values-new [] name j ms apart new has = absurd (cc)
  values-new (field ∷ fields) name j ms apart new has =
      let parts = both (contains (field_names fields) field.0) (distinct (field_names fields)) apart in
      by_test (bytes_eq name field.0) refl parts.0 has (λ later. values-new fields name j ms parts.1 new later)
    where
      both : (a b : Bool) → (not a && b) ≡ true → (a ≡ false) × (b ≡ true)
      both true b e = absurd (cc)
      both false b e = (refl, e)

      none_from : (o : Option Json) → is_some o ≡ false → o ≡ None
      none_from None e = refl
      none_from (Some k) e = absurd (cc)

      by_test : (b : Bool) → bytes_eq name field.0 ≡ b → contains (field_names fields) field.0 ≡ false → (b || contains (field_names fields) name) ≡ true
          → (contains (field_names fields) name ≡ true → values_ok depth fields (member name j ms) ≡ (known_ok depth (find_field fields name) j && values_ok depth fields ms))
          → values_ok depth (field ∷ fields) (member name j ms) ≡ (known_ok depth (find_field (field ∷ fields) name) j && values_ok depth (field ∷ fields) ms)
      by_test true is alone found next =
          let here : name ≡ field.0 = (bytes_eq-Decides name field.0).0 is in
          let none : get_member field.0 ms ≡ None = none_from (get_member field.0 ms) (ap (λ n. is_some (get_member n ms)) (sym here) ∙ new) in
          let rest : values_ok depth fields (member name j ms) ≡ values_ok depth fields ms = values-other fields name j ms (ap (contains (field_names fields)) here ∙ alone) in
          let own : get_member field.0 (member name j ms) ≡ Some j = rw (none, is) refl in
          let named : find_field (field ∷ fields) name ≡ Some (field.1, field.2) = rw (same_either field.0 name ∙ is) refl in
          and_same _ _ _ _ (ap (present_ok depth (field.1, field.2)) own) rest
          ∙ sym (ap (λ f. known_ok depth f j && values_ok depth (field ∷ fields) ms) named ∙ ap (λ o. value_ok depth (field.1, field.2) j && (present_ok depth (field.1, field.2) o && values_ok depth fields ms)) none)
      by_test false is alone found next =
          let own : get_member field.0 (member name j ms) ≡ get_member field.0 ms = later-none (get_member field.0 ms) (bytes_eq name field.0) j is in
          let named : find_field (field ∷ fields) name ≡ find_field fields name = rw (same_either field.0 name ∙ is) refl in
          and_same _ _ _ _ (ap (present_ok depth (field.1, field.2)) own) (next found)
          ∙ swapped (present_ok depth (field.1, field.2) (get_member field.0 ms)) (known_ok depth (find_field fields name) j) (values_ok depth fields ms)
          ∙ sym (ap (λ f. known_ok depth f j && values_ok depth (field ∷ fields) ms) named)
        where
          swapped : (a b c : Bool) → (a && (b && c)) ≡ (b && (a && c))
          swapped true true c = refl
          swapped true false c = refl
          swapped false true c = refl
          swapped false false c = refl

  values-none : (fields : List Field) → values_ok depth fields no_members ≡ true
  values-none [] = refl
  values-none (field ∷ fields) = values-none fields

  has-name : (name : List ℕ) (ms : Members) → has_name (names_of ms) name ≡ is_some (get_member name ms)
  has-name name no_members = refl
  has-name name (member other j ms) =
      ap (λ b. bytes_eq other name || b) (has-name name ms) ∙ turned (get_member name ms) (bytes_eq other name) j
    where
      turned : (o : Option Json) (b : Bool) (k : Json) → (b || is_some o) ≡ is_some (later_or o (cond b (Some k) None))
      turned None true k = refl
      turned None false k = refl
      turned (Some l) true k = refl
      turned (Some l) false k = refl

  fields-together : (fields : List Field) (ms : Members) → (values_ok depth fields ms && complete fields (names_of ms)) ≡ fields_ok depth fields ms
  fields-together [] ms = refl
  fields-together (field ∷ fields) ms =
      ap (λ b. (present_ok depth (field.1, field.2) (get_member field.0 ms) && values_ok depth fields ms) && ((is_optional field.1 || b) && complete fields (names_of ms))) (has-name field.0 ms)
      ∙ regrouped (present_ok depth (field.1, field.2) (get_member field.0 ms)) (values_ok depth fields ms) (is_optional field.1 || is_some (get_member field.0 ms)) (complete fields (names_of ms))
      ∙ and_same _ _ _ _ (one (get_member field.0 ms)) (fields-together fields ms)
    where
      regrouped : (a b c d : Bool) → ((a && b) && (c && d)) ≡ ((a && c) && (b && d))
      regrouped true true true d = refl
      regrouped true true false d = refl
      regrouped true false true d = refl
      regrouped true false false d = refl
      regrouped false b c d = refl

      or_false : (a : Bool) → (true && (a || false)) ≡ a
      or_false true = refl
      or_false false = refl

      or_true : (a b : Bool) → (b && (a || true)) ≡ b
      or_true true true = refl
      or_true true false = refl
      or_true false true = refl
      or_true false false = refl

      one : (o : Option Json) → (present_ok depth (field.1, field.2) o && (is_optional field.1 || is_some o)) ≡ field_ok depth (field.1, field.2) o
      one None = or_false (is_optional field.1)
      one (Some j) = or_true (is_optional field.1) (value_ok depth (field.1, field.2) j)

  -- ---- all of it

  module _ (fields : List Field) (apart : distinct (field_names fields) ≡ true) where
    more : (a b : ℕ) → (a + 1 == b + 1) ≡ (a == b)
    more a b = grind (arith, nat_tests)

    fewer : (a b c : ℕ) → a ≡ c → c ≤ b → (a == b + 1) ≡ false
    fewer a b c e le = grind (arith, nat_tests)

    sound-counted : (ms : Members) → sound depth fields ms ≡ ((count (field_names fields) ms == member_count ms) && values_ok depth fields ms)
    unfolding sound
    sound-counted no_members = sym (and_same _ _ true true (none_counted (count (field_names fields) no_members) (count-none (field_names fields))) (values-none fields))
      where
        none_counted : (n : ℕ) → n ≡ 0 → (n == 0) ≡ true
        none_counted n e = rw e refl
    sound-counted (member name j ms) = by_cases (is_some (get_member name ms)) refl (contains (field_names fields) name) refl (sound-counted ms)
      where
        none_named : (o : Option (Presence × TypeName)) → is_some o ≡ false → known_ok depth o j ≡ false
        none_named None e = refl
        none_named (Some f) e = absurd (cc)

        never : (a b : Bool) → (a && (not true && b)) ≡ false
        never true b = refl
        never false b = refl

        swapped : (a b c : Bool) → (a && (b && c)) ≡ (b && (a && c))
        swapped true true c = refl
        swapped true false c = refl
        swapped false true c = refl
        swapped false false c = refl

        by_cases : (again : Bool) → is_some (get_member name ms) ≡ again → (has : Bool) → contains (field_names fields) name ≡ has
            → sound depth fields ms ≡ ((count (field_names fields) ms == member_count ms) && values_ok depth fields ms)
            → (known_ok depth (find_field fields name) j && (not (is_some (get_member name ms)) && sound depth fields ms)) ≡ ((count (field_names fields) (member name j ms) == member_count ms + 1) && values_ok depth fields (member name j ms))
        by_cases true again has is rest =
            ap (λ b. known_ok depth (find_field fields name) j && (not b && sound depth fields ms)) again ∙ never (known_ok depth (find_field fields name) j) (sound depth fields ms)
            ∙ sym (ap (λ b. b && values_ok depth fields (member name j ms)) (fewer _ _ _ (count-again name j ms (field_names fields) again) (count-most (field_names fields) ms apart)))
        by_cases false again true is rest =
            ap (λ b. known_ok depth (find_field fields name) j && (not b && sound depth fields ms)) again
            ∙ ap (λ b. known_ok depth (find_field fields name) j && b) rest
            ∙ swapped (known_ok depth (find_field fields name) j) (count (field_names fields) ms == member_count ms) (values_ok depth fields ms)
            ∙ sym (and_same _ _ _ _ (ap (λ n. n == member_count ms + 1) (count-new name j ms (field_names fields) apart is again) ∙ more (count (field_names fields) ms) (member_count ms)) (values-new fields name j ms apart again is))
        by_cases false again false is rest =
            ap (λ b. b && (not (is_some (get_member name ms)) && sound depth fields ms)) (none_named (find_field fields name) (find-named fields name ∙ is))
            ∙ sym (ap (λ b. b && values_ok depth fields (member name j ms)) (fewer _ _ _ (count-other (field_names fields) name j ms is) (count-most (field_names fields) ms apart)))

    -- an object has no fault as a struct exactly if its members are the fields, none of them twice, and the fields have none
    pub struct-tests : (ms : Members) → is_accepted (members_fault ms fields [] depth) ≡ ((count_fields (field_names fields) (object ms) == member_count ms) && fields_ok depth fields ms)
    struct-tests ms =
        walk-tests depth fields ms []
        ∙ ap (λ b. b && complete fields (names_of ms)) (ordered depth fields ms [] ∙ ap (λ b. sound depth fields ms && b) (all-apart depth fields ms) ∙ and_true (sound depth fields ms) ∙ sound-counted ms)
        ∙ and_assoc (count (field_names fields) ms == member_count ms) (values_ok depth fields ms) (complete fields (names_of ms))
        ∙ and_same _ _ _ _ (ap (λ n. n == member_count ms) (sym (counted (field_names fields) ms))) (fields-together fields ms)
