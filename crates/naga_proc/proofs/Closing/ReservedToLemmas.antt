-- Spare capacity at the tail blocks of the cases, one case after another.
use Rattle.std.proofs.Common.{◌≡◌, ◌∙◌, sym, ap, subst, ℕ, suc, ◌+◌, ◌<◌, ◌≤◌, List, [], ◌∷◌, length, get_or, false, arith, inl, inr, ◌⊎◌}
use Rattle.std.proofs.Math.ListN.{set}
use Rattle.std.proofs.Math.Nat.{eq-or-lt_of_le}
use Rattle.std.proofs.lemmas.List.{get_or-set_same, get_or-set_other, length-set}
use Rattle.std.proofs.lemmas.Option.{get_or_from_slice_get, slice_get_within}
use Rattle.naga_ir.specs.View.{cases_of}
use Rattle.naga_ir.specs.declared.statement.SwitchCase.{SwitchCase}
use Rattle.naga_proc.specs.Closing.Room.{HasRoomAtTails, CasesHaveRoom}
use Rattle.naga_proc.specs.declared.terminator.rule.Rule.{Rule}
use Rattle.naga_proc.proofs.Closing.SameNodeLemmas.{cases_of-set}

-- the cases before `i` that do not fall through have spare capacity at their tail blocks
abbrev pub RoomBefore : Rule → List SwitchCase → ℕ → Type 0
RoomBefore rule cases i =
    (k : ℕ) (d : SwitchCase) → k < i → (get_or cases k d).fall_through ≡ false → HasRoomAtTails rule (get_or cases k d).body

RoomBefore-set_at : (rule : Rule) (cases : List SwitchCase) (i : ℕ) (y : SwitchCase) → i < length cases → (y.fall_through ≡ false → HasRoomAtTails rule y.body) → RoomBefore rule cases i → (k : ℕ) (d : SwitchCase) → (k ≡ i) ⊎ (k < i) → (get_or (set cases i y) k d).fall_through ≡ false → HasRoomAtTails rule (get_or (set cases i y) k d).body
RoomBefore-set_at rule cases i y h one earlier k d (inl e) =
    subst (λ (z : SwitchCase). z.fall_through ≡ false → HasRoomAtTails rule z.body) (sym (ap (λ (j : ℕ). get_or (set cases i y) j d) e ∙ get_or-set_same cases i y d h)) one
RoomBefore-set_at rule cases i y h one earlier k d (inr p) =
    subst (λ (z : SwitchCase). z.fall_through ≡ false → HasRoomAtTails rule z.body) (sym (get_or-set_other cases i k y d (λ e. omega (arith)))) (earlier k d p)

pub RoomBefore-set : (rule : Rule) (cases : List SwitchCase) (i : ℕ) (y : SwitchCase) → i < length cases → (y.fall_through ≡ false → HasRoomAtTails rule y.body) → RoomBefore rule cases i → RoomBefore rule (set cases i y) (i + 1)
RoomBefore-set rule cases i y h one earlier =
    λ k d q. RoomBefore-set_at rule cases i y h one earlier k d (eq-or-lt_of_le (omega arith))

pub RoomBefore-all : (rule : Rule) (cases : List SwitchCase) (i : ℕ) → length cases ≤ i → RoomBefore rule cases i → CasesHaveRoom rule cases
RoomBefore-all rule cases i all each =
    λ k chosen at stays.
    let same : get_or cases k chosen ≡ chosen = get_or_from_slice_get cases k chosen chosen at in
    let within : k < length cases = slice_get_within cases k chosen at in
    subst (λ (z : SwitchCase). z.fall_through ≡ false → HasRoomAtTails rule z.body) same (each k chosen (omega (arith, within))) stays

-- the invariant of the loop over the cases: those before `i` have spare capacity, those from `i` on are unchanged, and
-- all of them have the same trees as before
abbrev pub ReservedTo : Rule → List SwitchCase → List SwitchCase → ℕ → Type 0
ReservedTo rule old now i =
    ((length now ≡ length old) × ((k : ℕ) (d : SwitchCase) → i ≤ k → get_or now k d ≡ get_or old k d)) × (cases_of now ≡ cases_of old) × RoomBefore rule now i

pub ReservedTo-set : (rule : Rule) (old now : List SwitchCase) (i : ℕ) (x y : SwitchCase) → i < length now → ((d : SwitchCase) → x ≡ get_or now i d) → cases_of (y ∷ []) ≡ cases_of (x ∷ []) → (y.fall_through ≡ false → HasRoomAtTails rule y.body) → ReservedTo rule old now i → ReservedTo rule old (set now i y) (i + 1)
ReservedTo-set rule old now i x y h read same one kept = (
  (length-set now i y ∙ kept.0.0, λ k d q. get_or-set_other now i k y d (λ e. omega (arith)) ∙ kept.0.1 k d (omega arith)),
  cases_of-set now i y h (λ d. same ∙ ap (λ (z : SwitchCase). cases_of (z ∷ [])) (read d)) ∙ kept.1,
  RoomBefore-set rule now i y h one kept.2,
)

-- once the last case has spare capacity too, all cases have it
pub ReservedTo-last : (rule : Rule) (old now : List SwitchCase) (i : ℕ) (x y : SwitchCase) → length old ≡ suc i → ((d : SwitchCase) → x ≡ get_or now i d) → cases_of (y ∷ []) ≡ cases_of (x ∷ []) → (y.fall_through ≡ false → HasRoomAtTails rule y.body) → ReservedTo rule old now i → CasesHaveRoom rule (set now i y)
ReservedTo-last rule old now i x y l read same one kept =
    let inside : i < length now = omega (arith, l, kept.0.0) in
    let reserved = ReservedTo-set rule old now i x y inside read same one kept in
    RoomBefore-all rule (set now i y) (i + 1) (omega (arith, l, reserved.0.0)) reserved.2
