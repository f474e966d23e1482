-- Names that labels got one after another.
use Rattle.std.proofs.Common.{◌≡◌, ◌≢◌, ℕ, ◌+◌, ◌<◌, ◌≤◌, ◌^◌, List, [], ◌∷◌, Bool, true, false, cond, refl, ap, ◌∙◌, arith}
use Rattle.std.specs.Prelude.{All}
use Rattle.std.specs.Str.{bytes_eq}
use Rattle.std.proofs.lemmas.List.Elements.{All-cons, All-nil}
use Rattle.std.proofs.lemmas.Slice.Eq.{bytes_eq-Decides}
use Rattle.naga_namer.specs.Bases.{base_of}
use Rattle.naga_namer.specs.Names.{Counts, GetsName, GetNames, Reserved, is_reserved, name_of}
use Rattle.naga_namer.specs.Scopes.{AllDiffer, BeginsWith, IsIdentifier, IsNew, NamesAreFree, NamesAreIdentifiers, NamesAvoidPrefixes, NamesDiffer}
use Rattle.naga_namer.proofs.BaseOfLemmas.{base-fine}
use Rattle.naga_namer.proofs.BeginAlikeLemmas.{avoided}
use Rattle.naga_namer.proofs.DistinctLemmas.{IsBase, names-distinct}
use Rattle.naga_namer.proofs.IsIdentifierLemmas.{identifier}

-- a property that each name has by itself
each-has : (P : List ℕ → Type 0) (reserved : Reserved)
    → ((before after : Counts) (label name : List ℕ) → GetsName reserved before label name after → P name)
    → (before after : Counts) (labels names : List (List ℕ)) → GetNames reserved before labels names after → All P names
each-has P reserved has before after [] [] each = All-nil P
each-has P reserved has before after [] (name ∷ names) each = absurd each
each-has P reserved has before after (label ∷ labels) [] each = absurd each
each-has P reserved has before after (label ∷ labels) (name ∷ names) each =
    All-cons P name names (has before each.0 label name each.1) (each-has P reserved has each.0 after labels names each.2)

pub names-free : NamesAreFree
names-free reserved =
    each-has (λ name. is_reserved reserved name ≡ false) reserved
    (λ before after label name names. ap (is_reserved reserved) names.is ∙ names.free.free)

pub names-are-identifiers : NamesAreIdentifiers
names-are-identifiers reserved =
    each-has IsIdentifier reserved
    (λ before after label name names. rw (names.is) (identifier reserved (base_of reserved.prefixes label) names.number (omega (arith, names.small)) (base-fine reserved.prefixes label)))

pub names-avoid : NamesAvoidPrefixes
names-avoid reserved leaves =
    each-has (λ name. All (λ prefix. BeginsWith name prefix → ⊥) reserved.prefixes) reserved
    (λ before after label name names. rw (names.is) (avoided reserved label names.number leaves))

-- ---- names that differ

grow : (same : Bool) (after number before : ℕ) → after ≡ cond same (number + 1) before → (same ≡ true → before ≤ number) → before ≤ after
grow true after number before e above = let low : before ≤ number = above refl in omega arith
grow false after number before e above = omega arith

module _ (reserved : Reserved) where
  abbrev base : List ℕ → List ℕ
  base = base_of reserved.prefixes

  -- no count falls
  counts-grow : (before after : Counts) (label name b : List ℕ) → GetsName reserved before label name after → before b ≤ after b
  counts-grow before after label name b names =
      grow (bytes_eq (base label) b) (after b) names.number (before b) (names.counted b) (λ e.
      let same : base label ≡ b = (bytes_eq-Decides (base label) b).0 e in
      let here : before (base label) ≡ before b = ap before same in
      omega (arith, names.free.above))

  -- a name with a smaller number than its base has in the counts is none of the names that follow
  later : (b : List ℕ) (number : ℕ) (before after : Counts) (labels names : List (List ℕ)) → IsBase b → number < 2 ^ 64
      → number < before b → GetNames reserved before labels names after → IsNew (name_of reserved b number) names
  later b number before after [] [] is small less each = All-nil (λ other. name_of reserved b number ≢ other)
  later b number before after [] (name ∷ names) is small less each = absurd each
  later b number before after (label ∷ labels) [] is small less each = absurd each
  later b number before after (label ∷ labels) (name ∷ names) is small less each =
      let first : GetsName reserved before label name each.0 = each.1 in
      let grown : before b ≤ each.0 b = counts-grow before each.0 label name b first in
      All-cons (λ other. name_of reserved b number ≢ other) name names
      (λ (same : name_of reserved b number ≡ name).
      let both : (b ≡ base label) × (number ≡ first.number) =
      names-distinct reserved b (base label) number first.number small (omega (arith, first.small)) is (base-fine reserved.prefixes label).is (same ∙ first.is) in
      let here : before b ≡ before (base label) = ap before both.0 in
      let equal : number ≡ first.number = both.1 in
      omega (arith, first.free.above))
      (later b number each.0 after labels names is small (omega arith) each.2)

  new-after : (before after : Counts) (label name : List ℕ) (names : GetsName reserved before label name after) → names.number < after (base label)
  new-after before after label name names =
      let same : bytes_eq (base label) (base label) ≡ true = (bytes_eq-Decides (base label) (base label)).1 refl in
      let count : after (base label) ≡ names.number + 1 =
      names.counted (base label) ∙ ap (λ (b : Bool). cond b (names.number + 1) (before (base label))) same in
      omega arith

  differ : (before after : Counts) (labels names : List (List ℕ)) → GetNames reserved before labels names after → AllDiffer names
  differ before after [] [] each = tt
  differ before after [] (name ∷ names) each = absurd each
  differ before after (label ∷ labels) [] each = absurd each
  differ before after (label ∷ labels) (name ∷ names) each =
      let first : GetsName reserved before label name each.0 = each.1 in
      let new : IsNew (name_of reserved (base label) first.number) names =
      later (base label) first.number each.0 after labels names (base-fine reserved.prefixes label).is (omega (arith, first.small)) (new-after before each.0 label name first) each.2 in
      (rw (first.is) new, differ each.0 after labels names each.2)

pub names-differ : NamesDiffer
names-differ reserved = differ reserved
