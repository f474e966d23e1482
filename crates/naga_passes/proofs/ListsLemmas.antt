-- A text lists its names in one way.
use Rattle.std.proofs.Common.{◌≡◌, ◌≢◌, ◌∙◌, arith, sym, ap, refl, ℕ, ◌==◌, List, [], ◌∷◌, ◌++◌, All, length, map, cond}
use Rattle.std.proofs.lemmas.Bool.{ne_eqb}
use Rattle.std.proofs.lemmas.List.Elements.{All-head, All-tail}
use Rattle.std.proofs.lemmas.List.Splits.{join_with_byte-slice_split, slice_split_at, slice_split_none}
use Rattle.std.specs.Char.{encode_utf8}
use Rattle.std.specs.List.{Contains, join_with_byte}
use Rattle.std.specs.Str.{chars, trim, trim_end, trim_start}
use Rattle.naga_compact.specs.declared.module.roots.KeepUnused.TheVariants.{No, Yes}
use Rattle.naga_proc.specs.declared.terminator.rule.Rule.TheVariants.{New, Old}
use Rattle.naga_passes.specs.Names.{IsUnknown, Lists, comma, parts_in}
use Rattle.naga_passes.specs.Pass.{name_of}
use Rattle.naga_passes.specs.declared.names.TheConstants.{PASS_NAMES}
use Rattle.naga_passes.specs.declared.pass.Pass.{Pass}
use Rattle.naga_passes.specs.declared.pass.Pass.TheVariants.{Cull, Close, Compact, Restrict}
use Rattle.naga_passes.specs.declared.pass.TheConstants.Pass.{ALL}

-- ---- names that are joined

pub text-joined : (passes : List Pass) (text : List ℕ) → Lists passes text → (parts : List (List ℕ)) × (text ≡ join_with_byte comma parts) × (map trim parts ≡ map name_of passes)
text-joined passes text lists = (parts_in text, sym (join_with_byte-slice_split comma text), sym lists)

-- parts without commas are those of the text that they are joined to
parts_in-joined : (part : List ℕ) (others : List (List ℕ)) → All (All (λ byte. byte ≢ comma)) (part ∷ others) → parts_in (join_with_byte comma (part ∷ others)) ≡ part ∷ others
parts_in-joined part [] without =
    slice_split_none (λ byte. byte == comma) part (λ k d inside. ne_eqb _ comma (All-head (All (λ byte. byte ≢ comma)) part [] without k d inside))
parts_in-joined part (next ∷ others) without =
    slice_split_at (λ byte. byte == comma) part comma (join_with_byte comma (next ∷ others)) (λ k d inside. ne_eqb _ comma (All-head (All (λ byte. byte ≢ comma)) part (next ∷ others) without k d inside)) refl
    ∙ ap (λ parts. part ∷ parts) (parts_in-joined next others (All-tail (All (λ byte. byte ≢ comma)) part (next ∷ others) without))

pub Lists-parts : (passes : List Pass) (part : List ℕ) (others : List (List ℕ)) → All (All (λ byte. byte ≢ comma)) (part ∷ others) → map trim (part ∷ others) ≡ map name_of passes → Lists passes (join_with_byte comma (part ∷ others))
Lists-parts passes part others without are = sym (ap (map trim) (parts_in-joined part others without) ∙ are)

-- no name has white space around it
trim-name : (pass : Pass) → trim (name_of pass) ≡ name_of pass
unfolding trim_start trim_end chars encode_utf8
trim-name Cull = refl
trim-name (Close New) = refl
trim-name (Close Old) = refl
trim-name (Compact No) = refl
trim-name (Compact Yes) = refl
trim-name Restrict = refl

-- no name contains a comma
parts_in-name : (pass : Pass) (rest : List ℕ) → parts_in (name_of pass ++ comma ∷ rest) ≡ name_of pass ∷ parts_in rest
parts_in-name Cull rest = refl
parts_in-name (Close New) rest = refl
parts_in-name (Close Old) rest = refl
parts_in-name (Compact No) rest = refl
parts_in-name (Compact Yes) rest = refl
parts_in-name Restrict rest = refl

parts_in-last : (pass : Pass) → parts_in (name_of pass) ≡ name_of pass ∷ []
parts_in-last Cull = refl
parts_in-last (Close New) = refl
parts_in-last (Close Old) = refl
parts_in-last (Compact No) = refl
parts_in-last (Compact Yes) = refl
parts_in-last Restrict = refl

pub Lists-joined : (pass : Pass) (others : List Pass) → Lists (pass ∷ others) (join_with_byte comma (map name_of (pass ∷ others)))
Lists-joined pass [] = sym (ap (map trim) (parts_in-last pass) ∙ ap (λ name. name ∷ []) (trim-name pass))
Lists-joined pass (next ∷ others) =
    (λ i. sym (trim-name pass) i ∷ Lists-joined next others i)
    ∙ sym (ap (map trim) (parts_in-name pass (join_with_byte comma (map name_of (next ∷ others)))))

-- the list of all names
pub Lists-all : Lists ALL PASS_NAMES.now
unfolding trim_start trim_end chars encode_utf8
Lists-all = refl

-- each pass is in the list of all
pub Contains-all : (pass : Pass) → Contains ALL pass
Contains-all Cull = (0, omega arith, refl)
Contains-all (Close New) = (1, omega arith, refl)
Contains-all (Close Old) = (2, omega arith, refl)
Contains-all (Compact No) = (3, omega arith, refl)
Contains-all (Compact Yes) = (4, omega arith, refl)
Contains-all Restrict = (5, omega arith, refl)

-- ---- names of different passes

-- the pass whose name has this length
pass_of : ℕ → Pass
pass_of count = cond (count == 4) Cull (cond (count == 5) (Close New) (cond (count == 10) (Close Old) (cond (count == 7) (Compact No) (cond (count == 8) Restrict (Compact Yes)))))

pass_of-name : (pass : Pass) → pass_of (length (name_of pass)) ≡ pass
unfolding pass_of
pass_of-name Cull = refl
pass_of-name (Close New) = refl
pass_of-name (Close Old) = refl
pass_of-name (Compact No) = refl
pass_of-name (Compact Yes) = refl
pass_of-name Restrict = refl

name_of-one : (pass other : Pass) → name_of pass ≡ name_of other → other ≡ pass
name_of-one pass other same =
    sym (pass_of-name other) ∙ (ap (λ name. pass_of (length name)) (sym same) ∙ pass_of-name pass)

names-one : (first second : List Pass) → map name_of first ≡ map name_of second → second ≡ first
names-one [] [] same = refl
names-one [] (other ∷ others) same = absurd (cc)
names-one (pass ∷ passes) [] same = absurd (cc)
names-one (pass ∷ passes) (other ∷ others) same =
    let here : name_of pass ≡ name_of other = cc in
    let rest : map name_of passes ≡ map name_of others = cc in
    λ i. name_of-one pass other here i ∷ names-one passes others rest i

pub Lists-one : (first second : List Pass) (text : List ℕ) → Lists first text → Lists second text → second ≡ first
Lists-one first second text one other = names-one first second (one ∙ sym other)

-- ---- names that are not those of passes

-- no pass has the name
abbrev IsNone : List ℕ → Type 0
IsNone name = (pass : Pass) → name_of pass ≢ name

names-known : (passes before : List Pass) (name : List ℕ) (others : List (List ℕ)) → IsNone name → ¬ (map name_of passes ≡ map name_of before ++ name ∷ others)
names-known [] [] name others none same = absurd (cc)
names-known [] (known ∷ before) name others none same = absurd (cc)
names-known (pass ∷ passes) [] name others none same = none pass (cc)
names-known (pass ∷ passes) (known ∷ before) name others none same = names-known passes before name others none (cc)

pub Lists-known : (passes : List Pass) (text name : List ℕ) → Lists passes text → ¬ (IsUnknown text name)
Lists-known passes text name lists unknown =
    names-known passes unknown.before name unknown.others unknown.unknown (lists ∙ unknown.names)

names-first : (before before' : List Pass) (name name' : List ℕ) (others others' : List (List ℕ)) → IsNone name → IsNone name' → map name_of before ++ name ∷ others ≡ map name_of before' ++ name' ∷ others' → name' ≡ name
names-first [] [] name name' others others' none none' same = cc
names-first [] (known ∷ before) name name' others others' none none' same = absurd (none known (cc))
names-first (known ∷ before) [] name name' others others' none none' same = absurd (none' known (cc))
names-first (known ∷ before) (known' ∷ before') name name' others others' none none' same =
    names-first before before' name name' others others' none none' (cc)

pub IsUnknown-first : (text name other : List ℕ) → IsUnknown text name → IsUnknown text other → other ≡ name
IsUnknown-first text name other one two =
    names-first one.before two.before name other one.others two.others one.unknown two.unknown (sym one.names ∙ two.names)
