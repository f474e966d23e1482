-- The laws of structs: objects with named fields.
use Rattle.std.proofs.Common.{◌≡◌, ◌∙◌, ap, ℕ, ◌+◌, ◌==◌, List, [], ◌∷◌, ◌++◌, map, length, Bool, true, false, cond, Option, Some, None, IfSome, is_some, refl, arith, add-one, append_assoc}
use Rattle.std.specs.Prelude.{⊤}
use Rattle.std.specs.List.{fold}
use Rattle.std.specs.Bool.{Decides}
use Rattle.std.specs.Str.{bytes_eq}
use Rattle.std.proofs.lemmas.Slice.Eq.{bytes_eq-Decides}
use Rattle.std.proofs.lemmas.Bool.Decides.{nat_tests}
use Rattle.json.specs.Json.{Json, object, Members, member}
use Rattle.json.specs.Find.{get, get_member, later_or}
use Rattle.json.specs.Tree.{HasNumbers, MembersHaveNumbers}
use Rattle.naga_json.specs.Numbers.{◌>>=◌}
use Rattle.naga_json.specs.Objects.{fields_in, member_count, members_of, nullable_in, optional_at, optional_in, optional_json, present_at}
use Rattle.naga_json.specs.Codec.{Codec}
use Rattle.naga_json.specs.Fields.{Fields, no_fields, field, optional_field, struct_in, struct_json, struct_codec}
use Rattle.naga_json.specs.Lawful.{IsRead, Gives, Lawful}
use Rattle.naga_json.proofs.GivesLemmas.{then, then_any, Gives-map}

-- ---- names

-- whether the name is one of these names
unfoldable pub contains : List ℕ → List (List ℕ) → Bool
contains name [] = false
contains name (other ∷ others) = cond (bytes_eq other name) true (contains name others)

-- whether no two of these names are the same
unfoldable pub distinct : List (List ℕ) → Bool
distinct [] = true
distinct (name ∷ names) = cond (contains name names) false (distinct names)

abbrev pub names_of : List (List ℕ × Json) → List (List ℕ)
names_of fields = map (λ field. field.0) fields

cond-true : (b x : Bool) → cond b true x ≡ false → (b ≡ false) × (x ≡ false)
cond-true true x is = absurd (cc)
cond-true false x is = (refl, is)

cond-false : (b x : Bool) → cond b false x ≡ true → (b ≡ false) × (x ≡ true)
cond-false true x is = absurd (cc)
cond-false false x is = (refl, is)

true_from_Decides : {P : Type 0} (b : Bool) → Decides b P → P → b ≡ true
true_from_Decides true decides holds = refl
true_from_Decides false decides holds = absurd (cc (decides.1 holds))

same_name : (name : List ℕ) → bytes_eq name name ≡ true
same_name name = true_from_Decides (bytes_eq name name) (bytes_eq-Decides name name) refl

-- ---- members

later_or-found : (o : Option Json) (j : Json) → is_some (later_or o (Some j)) ≡ true
later_or-found None j = refl
later_or-found (Some k) j = refl

later_or-later : (o p : Option Json) → is_some o ≡ true → is_some (later_or o p) ≡ true
later_or-later None p is = absurd (cc)
later_or-later (Some k) p is = refl

get_member-misses : (name : List ℕ) (fields : List (List ℕ × Json)) → contains name (names_of fields) ≡ false → get_member name (members_of fields) ≡ None
unfolding contains
get_member-misses name [] misses = refl
get_member-misses name (first ∷ rest) misses =
    let both = cond-true (bytes_eq first.0 name) (contains name (names_of rest)) misses in
    rw (get_member-misses name rest both.1, both.0) refl

get_member-at : (front : List (List ℕ × Json)) (name : List ℕ) (j : Json) (rest : List (List ℕ × Json)) → contains name (names_of rest) ≡ false
    → get_member name (members_of (front ++ (name, j) ∷ rest)) ≡ Some j
get_member-at [] name j rest misses = rw (get_member-misses name rest misses, same_name name) refl
get_member-at (first ∷ front) name j rest misses = rw (get_member-at front name j rest misses) refl

-- each field is found
AreFound : Members → List (List ℕ) → Type 0
AreFound ms [] = ⊤
AreFound ms (name ∷ names) = (is_some (get_member name ms) ≡ true) × AreFound ms names

AreFound-more : (key : List ℕ) (j : Json) (ms : Members) (names : List (List ℕ)) → AreFound ms names → AreFound (member key j ms) names
unfolding AreFound
AreFound-more key j ms [] found = tt
AreFound-more key j ms (name ∷ names) (here, found) =
    (later_or-later (get_member name ms) (cond (bytes_eq key name) (Some j) None) here, AreFound-more key j ms names found)

AreFound-all : (fields : List (List ℕ × Json)) → AreFound (members_of fields) (names_of fields)
unfolding AreFound
AreFound-all [] = tt
AreFound-all (first ∷ rest) =
    (rw (same_name first.0) (later_or-found (get_member first.0 (members_of rest)) first.1), AreFound-more first.0 first.1 (members_of rest) (names_of rest) (AreFound-all rest))

count-found : (count : ℕ) (ms : Members) (names : List (List ℕ)) → AreFound ms names → fold (λ sum x. sum + cond (is_some (get_member x ms)) 1 0) count names ≡ count + length names
unfolding AreFound
count-found count ms [] found = omega arith
count-found count ms (name ∷ names) (here, found) = rw here (count-found (count + 1) ms names found ∙ omega arith)

member_count-members_of : (fields : List (List ℕ × Json)) → member_count (members_of fields) ≡ length (names_of fields)
member_count-members_of [] = refl
member_count-members_of (first ∷ rest) = rw (member_count-members_of rest) (add-one (length (names_of rest)))

same_count : (a b n : ℕ) (j : Json) → a ≡ 0 + n → b ≡ n → cond (a == b) (Some j) None ≡ Some j
same_count a b n j is also = grind (arith, nat_tests)

-- an object with these fields has them and no others
fields_in-object : (fields : List (List ℕ × Json)) (names : List (List ℕ)) → names ≡ names_of fields → fields_in names (object (members_of fields)) ≡ Some (object (members_of fields))
fields_in-object fields names is =
    rw is (
    same_count _ _ (length (names_of fields)) (object (members_of fields))
    (count-found 0 (members_of fields) (names_of fields) (AreFound-all fields)) (member_count-members_of fields)
    )

-- ---- fields

-- These fields are read as the parts, wherever they are in an object without another field of one of these names before
-- them, and the texts of their numbers are numbers.
pub record AreRead {T : Type 0} (names : List (List ℕ)) (read : (V : Type 0) → (T → V) → Json → Option V) (parts : T) (fields : List (List ℕ × Json)) : Type 1 where
  pub same : names ≡ names_of fields
  pub reads : (front : List (List ℕ × Json)) → distinct names ≡ true → (V : Type 0) (make : T → V) → read V make (object (members_of (front ++ fields))) ≡ Some (make parts)
  pub numbers : MembersHaveNumbers (members_of fields)

-- Parts that fit are read as they were written, and what is read fits.
pub record LawfulFields {T : Type 0} (fields : Fields T) : Type 1 where
  pub reads : (parts : T) → fields.FitsAll parts → AreRead fields.names fields.read parts (fields.write parts)
  pub gives : (V : Type 0) (make : T → V) (P : V → Type 0) → ((parts : T) → fields.FitsAll parts → P (make parts)) → (j : Json) → Gives P (fields.read V make j)

pub lawful-no_fields : LawfulFields no_fields
lawful-no_fields = record {
  reads = λ parts fits. record { same = refl; reads = λ front apart V make. refl; numbers = tt };
  gives = λ V make P fit j. record { holds = fit tt tt };
}

-- one more field, where `at` is how it is read
module _ {A T : Type 0} (name : List ℕ) (at : Json → Option A) (others : List (List ℕ)) (read : (V : Type 0) → (T → V) → Json → Option V) where
  abbrev pub read_more : (V : Type 0) → (A × T → V) → Json → Option V
  read_more V make j = at j >>= λ a. read V (λ rest. make (a, rest)) j

  pub AreRead-more : (value : A) (held : Json) (parts : T) (fields : List (List ℕ × Json)) → ((j : Json) → get name j ≡ Some held → at j ≡ Some value) → HasNumbers held
      → AreRead others read parts fields → AreRead (name ∷ others) read_more (value, parts) ((name, held) ∷ fields)
  unfolding distinct
  AreRead-more value held parts fields found numbers more = record {
    same = ap (λ names. name ∷ names) more.same;
    reads = λ front apart V make.
        let both = cond-false (contains name others) (distinct others) apart in
        let alone : contains name (names_of fields) ≡ false = rw (← more.same) both.0 in
        let here = found (object (members_of (front ++ (name, held) ∷ fields))) (get_member-at front name held fields alone) in
        let later = more.reads (front ++ (name, held) ∷ []) both.1 V (λ rest. make (value, rest)) in
        rw (here, ← append_assoc front ((name, held) ∷ []) fields) later;
    numbers = (numbers, more.numbers);
  }

  pub gives-more : (F : A → Type 0) (G : T → Type 0) → ((j : Json) → Gives F (at j)) → ((V : Type 0) (make : T → V) (P : V → Type 0) → ((parts : T) → G parts → P (make parts)) → (j : Json) → Gives P (read V make j))
      → (V : Type 0) (make : A × T → V) (P : V → Type 0) → ((parts : A × T) → F parts.0 × G parts.1 → P (make parts)) → (j : Json) → Gives P (read_more V make j)
  gives-more F G one more V make P fit j =
      then F P (at j) (λ a. read V (λ rest. make (a, rest)) j) (one j)
      (λ a fits. more V (λ rest. make (a, rest)) P (λ rest all. fit (a, rest) (fits, all)) j)

module _ {A T : Type 0} (name : List ℕ) (codec : Codec A) (others : Fields T) (one : Lawful codec) (more : LawfulFields others) where
  found : (value : A) → codec.Fits value → (j : Json) → get name j ≡ Some (codec.encode value) → (get name j >>= codec.decode) ≡ Some value
  found value fits j is = rw is (one.reads value fits).reads

  pub lawful-field : LawfulFields (field name codec others)
  lawful-field = record {
    reads = λ parts fits.
        AreRead-more name (λ j. get name j >>= codec.decode) others.names others.read parts.0 (codec.encode parts.0) parts.1 (others.write parts.1)
        (found parts.0 fits.0) (one.reads parts.0 fits.0).numbers (more.reads parts.1 fits.1);
    gives = gives-more name (λ j. get name j >>= codec.decode) others.names others.read codec.Fits others.FitsAll (λ j. then_any codec.Fits (get name j) codec.decode one.gives) more.gives;
  }

-- a value that may be missing or null
module _ {A : Type 0} (codec : Codec A) (one : Lawful codec) where
  pub nullable_in-optional_json : (o : Option A) → IfSome o codec.Fits → nullable_in codec.decode (optional_json codec.encode o) ≡ Some o
  nullable_in-optional_json None fits = refl
  nullable_in-optional_json (Some a) fits = let read = one.reads a fits in rw (read.present, read.reads) refl

  pub HasNumbers-optional_json : (o : Option A) → IfSome o codec.Fits → HasNumbers (optional_json codec.encode o)
  HasNumbers-optional_json None fits = tt
  HasNumbers-optional_json (Some a) fits = (one.reads a fits).numbers

  pub gives-optional_in : (o : Option Json) → Gives (λ value. IfSome value codec.Fits) (optional_in codec.decode o)
  gives-optional_in None = record { holds = tt }
  gives-optional_in (Some j) = Gives-map codec.Fits (λ (value : Option A). IfSome value codec.Fits) Some (λ a fits. fits) (codec.decode j) (one.gives j)

module _ {A T : Type 0} (name : List ℕ) (codec : Codec A) (others : Fields T) (one : Lawful codec) (more : LawfulFields others) where
  found_optional : (value : Option A) → IfSome value codec.Fits → (j : Json) → get name j ≡ Some (optional_json codec.encode value) → optional_at codec.decode name j ≡ Some value
  found_optional value fits j is = rw is (nullable_in-optional_json codec one value fits)

  pub lawful-optional_field : LawfulFields (optional_field name codec others)
  lawful-optional_field = record {
    reads = λ parts fits.
        AreRead-more name (λ j. optional_at codec.decode name j) others.names others.read parts.0 (optional_json codec.encode parts.0) parts.1 (others.write parts.1)
        (found_optional parts.0 fits.0) (HasNumbers-optional_json codec one parts.0 fits.0) (more.reads parts.1 fits.1);
    gives = gives-more name (λ j. optional_at codec.decode name j) others.names others.read (λ value. IfSome value codec.Fits) others.FitsAll (λ j. gives-optional_in codec one (present_at name j)) more.gives;
  }

-- ---- structs

-- an object with fields that are read
pub IsRead-struct : {T V : Type 0} (names : List (List ℕ)) (read : (V : Type 0) → (T → V) → Json → Option V) (make : T → V) (parts : T) (fields : List (List ℕ × Json)) → AreRead names read parts fields → distinct names ≡ true
    → IsRead (λ j. fields_in names j >>= read V make) (make parts) (object (members_of fields))
IsRead-struct {V = V} names read make parts fields are apart = record {
  reads = rw (fields_in-object fields names are.same) (are.reads [] apart V make);
  numbers = are.numbers;
  present = refl;
}

module _ {T : Type 0} (fields : Fields T) (law : LawfulFields fields) where
  pub struct-reads : {V : Type 0} (make : T → V) (parts : T) → fields.FitsAll parts → distinct fields.names ≡ true → IsRead (struct_in fields make) (make parts) (struct_json fields parts)
  unfolding struct_in
  struct-reads make parts fits apart = IsRead-struct fields.names fields.read make parts (fields.write parts) (law.reads parts fits) apart

  pub struct-gives : {V : Type 0} (make : T → V) (P : V → Type 0) → ((parts : T) → fields.FitsAll parts → P (make parts)) → (j : Json) → Gives P (struct_in fields make j)
  unfolding struct_in
  struct-gives {V} make P fit j = then_any P (fields_in fields.names j) (fields.read V make) (law.gives V make P fit)

-- a struct that is its fields
pub lawful-struct : {T V : Type 0} (fields : Fields T) (law : LawfulFields fields) (make : T → V) (parts : V → T) → ((value : V) → make (parts value) ≡ value) → ((all : T) → parts (make all) ≡ all) → distinct fields.names ≡ true
    → Lawful (struct_codec fields make parts)
lawful-struct fields law make parts whole back apart = record {
  reads = λ value fits. let read = struct-reads fields law make (parts value) fits apart in record { reads = read.reads ∙ ap Some (whole value); numbers = read.numbers; present = read.present };
  gives = struct-gives fields law make (λ value. fields.FitsAll (parts value)) (λ all fits. rw (back all) fits);
}
