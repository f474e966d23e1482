-- The law of maps.
use Rattle.std.proofs.Common.{◌≡◌, ◌||◌, ℕ, ◌^◌, ◌<◌, ◌≤◌, List, [], ◌∷◌, ◌++◌, Bool, true, false, cond, Some, None, IfSome, All, nat_eq, decimal, refl, ap, sym, subst, arith, append_assoc, append-nil}
use Rattle.std.proofs.lemmas.Bool.{or_from}
use Rattle.std.proofs.lemmas.Bool.Decides.{nat_tests}
use Rattle.std.proofs.lemmas.List.Elements.{All-cons, All-head, All-tail}
use Rattle.std.proofs.lemmas.List.Folds.{list_any-append}
use Rattle.std.proofs.lemmas.Map.Keys.{IsDistinct-head, IsDistinct-tail}
use Rattle.std.specs.List.{AllByRecursion, IsDistinct}
use Rattle.std.specs.Map.{keys_of, values_of}
use Rattle.json.proofs.Printed.Decimals.{IsNumber-decimal}
use Rattle.json.specs.Json.{Members, member, no_members, number}
use Rattle.json.specs.Find.{as_object}
use Rattle.json.specs.Tree.{MembersHaveNumbers}
use Rattle.json.specs.Word.{after_number}
use Rattle.naga_json.specs.Numbers.{natural_in}
use Rattle.naga_json.specs.Objects.{fields_in, members_of}
use Rattle.naga_json.specs.Codec.{Codec}
use Rattle.naga_json.specs.Lawful.{Gives, Lawful}
use Rattle.naga_json.specs.Maps.{is_all, key_in, has_key, with_entry, entries_after, entry_fields, AreKeys, map_codec, empty_map_codec}
use Rattle.naga_json.proofs.GivesLemmas.{Gives-cond, then, then_any}
use Rattle.naga_json.proofs.NumbersLemmas.{Gives-natural, natural_in-decimal}

-- ---- keys

key_in-decimal : (bound key : ℕ) → key < bound → bound ≤ 2 ^ 64 → key_in bound (decimal key) ≡ Some key
unfolding key_in
key_in-decimal bound key small fits = rw (IsNumber-decimal key (omega arith), natural_in-decimal bound key small fits) refl

gives-key_in : (bound : ℕ) (text : List ℕ) → Gives (λ key. key < bound) (key_in bound text)
unfolding key_in
gives-key_in bound text = Gives-cond (λ key. key < bound) (is_all (after_number text)) (natural_in bound (number text)) None (Gives-natural bound (number text)) (record { holds = tt })

-- none of the entries has one of these keys
abbrev AreNew : {A : Type 0} → List (ℕ × A) → List ℕ → Type 0
AreNew entries keys = AllByRecursion (λ key. has_key nat_eq entries key ≡ false) keys

AreNew-nil : (A : Type 0) (keys : List ℕ) → AreNew {A = A} [] keys
AreNew-nil A [] = tt
AreNew-nil A (key ∷ keys) = (refl, AreNew-nil A keys)

-- after an entry with another key
AreNew-push : {A : Type 0} (front : List (ℕ × A)) (key : ℕ) (value : A) (keys : List ℕ) → AreNew front keys
    → AllByRecursion (λ other. nat_eq key other ≡ false) keys → AreNew (front ++ (key, value) ∷ []) keys
AreNew-push front key value [] new apart = tt
AreNew-push front key value (other ∷ keys) (new, others) (apart, rest) =
    let differs : nat_eq other key ≡ false = grind (arith, nat_tests) in
    let joined = list_any-append (λ entry. nat_eq other entry.0) front ((key, value) ∷ []) in
    (rw joined (or_from _ _ new (or_from _ false differs refl)), AreNew-push front key value keys others rest)

neither : (a b : Bool) → (a || b) ≡ false → (a ≡ false) × (b ≡ false)
neither true b none = absurd (cc)
neither false b none = (refl, none)

module _ {A : Type 0} (key : ℕ) (value : A) where
  below-push : (bound : ℕ) (entries : List (ℕ × A)) → All (λ k. k < bound) (keys_of entries) → key < bound → All (λ k. k < bound) (keys_of (entries ++ (key, value) ∷ []))
  below-push bound [] below small = All-cons (λ k. k < bound) key [] small (λ k d within. absurd (omega arith))
  below-push bound (entry ∷ entries) below small =
      All-cons (λ k. k < bound) entry.0 (keys_of (entries ++ (key, value) ∷ [])) (All-head (λ k. k < bound) entry.0 (keys_of entries) below)
      (below-push bound entries (All-tail (λ k. k < bound) entry.0 (keys_of entries) below) small)

  apart-push : (other : ℕ) (entries : List (ℕ × A)) → AllByRecursion (λ k. nat_eq other k ≡ false) (keys_of entries) → nat_eq key other ≡ false
      → AllByRecursion (λ k. nat_eq other k ≡ false) (keys_of (entries ++ (key, value) ∷ []))
  apart-push other [] apart differs = (grind (arith, nat_tests), tt)
  apart-push other (entry ∷ entries) (here, rest) differs = (here, apart-push other entries rest differs)

  IsDistinct-push : (entries : List (ℕ × A)) → IsDistinct nat_eq (keys_of entries) → has_key nat_eq entries key ≡ false → IsDistinct nat_eq (keys_of (entries ++ (key, value) ∷ []))
  unfolding IsDistinct
  IsDistinct-push [] distinct new = (tt, tt)
  IsDistinct-push (entry ∷ entries) (apart, rest) new =
      let both = neither (nat_eq key entry.0) (has_key nat_eq entries key) new in
      (apart-push entry.0 entries apart both.0, IsDistinct-push entries rest both.1)

  fit-push : (F : A → Type 0) (entries : List (ℕ × A)) → All F (values_of entries) → F value → All F (values_of (entries ++ (key, value) ∷ []))
  fit-push F [] all fits = All-cons F value [] fits (λ k d within. absurd (omega arith))
  fit-push F (entry ∷ entries) all fits =
      All-cons F entry.1 (values_of (entries ++ (key, value) ∷ [])) (All-head F entry.1 (values_of entries) all)
      (fit-push F entries (All-tail F entry.1 (values_of entries) all) fits)

  with_entry-new : (entries : List (ℕ × A)) → Gives (λ next. (has_key nat_eq entries key ≡ false) × (next ≡ entries ++ (key, value) ∷ [])) (with_entry nat_eq entries key value)
  with_entry-new entries = record { holds = at (has_key nat_eq entries key) refl }
    where
      at : (b : Bool) → has_key nat_eq entries key ≡ b → IfSome (cond b None (Some (entries ++ (key, value) ∷ []))) (λ next. (has_key nat_eq entries key ≡ false) × (next ≡ entries ++ (key, value) ∷ []))
      at true is = tt
      at false is = (is, refl)

-- ---- entries

module _ {A : Type 0} (bound : ℕ) (small : bound ≤ 2 ^ 64) (codec : Codec A) (law : Lawful codec) where
  -- the keys are below the bound, no two of them are the same, and the elements fit
  abbrev EntriesFit : List (ℕ × A) → Type 0
  EntriesFit entries = AreKeys bound entries × All codec.Fits (values_of entries)

  EntriesFit-tail : (entry : ℕ × A) (entries : List (ℕ × A)) → EntriesFit (entry ∷ entries) → EntriesFit entries
  EntriesFit-tail entry entries ((below, distinct), fit) = (
    (All-tail (λ key. key < bound) entry.0 (keys_of entries) below, IsDistinct-tail nat_eq entry.0 (keys_of entries) distinct),
    All-tail codec.Fits entry.1 (values_of entries) fit,
  )

  entries_after-entry_fields : (entries : List (ℕ × A)) (front : List (ℕ × A)) → EntriesFit entries → AreNew front (keys_of entries)
      → entries_after nat_eq (key_in bound) codec.decode (members_of (entry_fields codec.encode entries)) front ≡ Some (front ++ entries)
  entries_after-entry_fields [] front fits new = ap Some (sym (append-nil front))
  entries_after-entry_fields (entry ∷ entries) front fits (new, others) =
      let key = key_in-decimal bound entry.0 (All-head (λ k. k < bound) entry.0 (keys_of entries) fits.0.0) small in
      let read = law.reads entry.1 (All-head codec.Fits entry.1 (values_of entries) fits.1) in
      let apart = AreNew-push front entry.0 entry.1 (keys_of entries) others (IsDistinct-head nat_eq entry.0 (keys_of entries) fits.0.1) in
      let more = front ++ (entry.0, entry.1) ∷ [] in
      let rest = entries_after-entry_fields entries more (EntriesFit-tail entry entries fits) apart in
      rw (key, read.reads, new, rest) (ap Some (append_assoc front _ _))

  MembersHaveNumbers-entry_fields : (entries : List (ℕ × A)) → All codec.Fits (values_of entries) → MembersHaveNumbers (members_of (entry_fields codec.encode entries))
  MembersHaveNumbers-entry_fields [] fit = tt
  MembersHaveNumbers-entry_fields (entry ∷ entries) fit =
      ((law.reads entry.1 (All-head codec.Fits entry.1 (values_of entries) fit)).numbers, MembersHaveNumbers-entry_fields entries (All-tail codec.Fits entry.1 (values_of entries) fit))

  gives-entries_after : (ms : Members) (front : List (ℕ × A)) → EntriesFit front → Gives EntriesFit (entries_after nat_eq (key_in bound) codec.decode ms front)
  gives-entries_after no_members front fits = record { holds = fits }
  gives-entries_after (member name j rest) front fits =
      then (λ key. key < bound) _ (key_in bound name) _ (gives-key_in bound name) λ key low.
      then codec.Fits _ (codec.decode j) _ (law.gives j) λ value one.
      then (λ (next : List (ℕ × A)). (has_key nat_eq front key ≡ false) × (next ≡ front ++ (key, value) ∷ [])) _ (with_entry nat_eq front key value) _ (with_entry-new key value front) λ next known.
      gives-entries_after rest next (
      subst EntriesFit (sym known.1) ((below-push key value bound front fits.0.0 low, IsDistinct-push key value front fits.0.1 known.0), fit-push key value codec.Fits front fits.1 one)
      )

  pub lawful-map : Lawful (map_codec bound codec)
  unfolding IsDistinct
  lawful-map = record {
    reads = λ entries fits. record {
      reads = entries_after-entry_fields entries [] fits (AreNew-nil A (keys_of entries));
      numbers = MembersHaveNumbers-entry_fields entries fits.1;
      present = refl;
    };
    gives = λ j. then_any EntriesFit (as_object j) _ λ ms. gives-entries_after ms [] ((λ k d within. absurd (omega arith), tt), λ k d within. absurd (omega arith));
  }

pub lawful-empty_map : {A : Type 0} → Lawful (empty_map_codec {A = A})
lawful-empty_map = record {
  reads = λ entries fits. record { reads = ap Some (sym fits); numbers = tt; present = refl };
  gives = λ j. then_any _ (fields_in [] j) _ (λ found. record { holds = refl });
}
