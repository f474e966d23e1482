-- Lemmas on the messages for faults.
use Rattle.std.proofs.Common.{◌≡◌, ℕ, zero, suc, ◌<◌, ◌≤◌, List, [], ◌∷◌, ◌++◌, length, take, map, reverse, refl, sym, ap, subst, ◌∙◌, true, false, cond, ⊎_elim, arith, Some, codes}
use Rattle.std.proofs.lemmas.Bool.{cases_lt, lt-ltb, le-ltb, lt-leb, le-leb}
use Rattle.std.proofs.lemmas.List.{reverse-append}
use Rattle.std.specs.Fmt.{◌++?◌, debug_str, is_char_start}
use Rattle.std.specs.Fmt.Cut.{floor_char_boundary}
use Rattle.std.specs.Str.{IsCharBoundary}
use Rattle.naga_schema.specs.declared.fault.Step.{Step}
use Rattle.naga_schema.specs.Messages.{shown_text}
use Rattle.naga_schema.specs.Path.{into_of}

-- the first step of a path is that which is stored last
pub path-last : (rest : List Step) (step : Step) → map into_of (reverse (rest ++ step ∷ [])) ≡ into_of step ∷ map into_of (reverse rest)
path-last rest step = rw (reverse-append rest (step ∷ [])) refl

-- ---- the front of a name

start-where : (byte : ℕ) → (128 ≤ byte → 192 ≤ byte) → is_char_start byte ≡ true
start-where byte h =
    ⊎_elim (λ low. rw (lt-ltb byte 128 low) refl) (λ high. rw (le-ltb byte 128 high, le-leb 192 byte (h high)) refl) (cases_lt byte 128)

no_start-where : (byte : ℕ) → ((128 ≤ byte → 192 ≤ byte) → ⊥) → is_char_start byte ≡ false
no_start-where byte h =
    ⊎_elim (λ low. absurd (h (λ high. omega arith)))
    (λ high. ⊎_elim (λ mid. rw (le-ltb byte 128 high, lt-leb 192 byte mid) refl) (λ top. absurd (h (λ _. top))) (cases_lt byte 192)) (cases_lt byte 128)

-- the last boundary of characters up to an index
floor-is : (bs : List ℕ) (i kept : ℕ) → i < length bs → kept ≤ i → IsCharBoundary bs kept → ((j : ℕ) → kept < j → j ≤ i → IsCharBoundary bs j → ⊥)
    → floor_char_boundary bs i ≡ kept
unfolding floor_char_boundary
floor-is bs zero kept within low boundary nearest = omega arith
floor-is bs (suc i) kept within low boundary nearest = ⊎_elim
    (λ below. ap (λ t. cond t (suc i) (floor_char_boundary bs i)) (no_start-where _ (λ h. nearest (suc i) below (omega arith) (omega arith, λ _. h)))
    ∙ floor-is bs i kept (omega arith) (omega arith) boundary (λ j p q. nearest j p (omega arith)))
    (λ above. let same : kept ≡ suc i = omega arith in
    ap (λ t. cond t (suc i) (floor_char_boundary bs i)) (start-where _ ((subst (IsCharBoundary bs) same boundary).1 within)) ∙ sym same)
    (cases_lt kept (suc i))

-- a long name is shown up to the last boundary of characters within its first 64 bytes
pub shown_text-cut : (name : List ℕ) (kept : ℕ) → 64 < length name → kept ≤ 64 → IsCharBoundary name kept → ((j : ℕ) → kept < j → j ≤ 64 → IsCharBoundary name j → ⊥)
    → shown_text name ≡ (debug_str (take kept name) ++? Some (codes "..."))
shown_text-cut name kept long low boundary nearest = rw (lt-leb (length name) 64 long, floor-is name 64 kept long low boundary nearest) refl
