-- A walk through a list of cases, one after another, with the space for the returns that it leaves out.
use Rattle.std.proofs.Common.{◌≡◌, ◌∙◌, sym, subst, refl, ℕ, suc, ◌<◌, ◌≤◌, ◌+◌, List, length, get_or, arith, true, false}
use Rattle.std.proofs.Math.ListN.{set}
use Rattle.std.proofs.lemmas.List.{get_or-set_other, length-set}
use Rattle.std.proofs.lemmas.Option.{slice_get_read, slice_get_within}
use Rattle.naga_ir.specs.declared.block.Block.{Block}
use Rattle.naga_ir.specs.declared.statement.SwitchCase.{SwitchCase}
use Rattle.naga_proc.specs.Closing.Room.{CasesHaveRoom, HasRoomAtTails}
use Rattle.naga_proc.specs.Closing.Walked.{Visits, VisitsCases}
use Rattle.naga_proc.specs.declared.terminator.one_walk.Walk.{Walk}
use Rattle.naga_proc.specs.declared.terminator.rule.Rule.{Rule}
use Rattle.naga_proc.proofs.Closing.ReservedToLemmas.{RoomBefore, RoomBefore-all, RoomBefore-set}
use Rattle.naga_proc.proofs.Closing.WalkedLemmas.{WalkedCases-Later}
use Rattle.naga_proc.proofs.Closing.WalkedToLemmas.{WalkedCase, WalkedCase-body, WalkedCase-falling, WalkedCases-none, WalkedTo, WalkedTo-last, WalkedTo-set, at_start}

-- the walk leads from the first case to the second
pub record VisitsCase (rule : Rule) (w : Walk) (x y : SwitchCase) (v : Walk) : Type 0 where
  pub walked : WalkedCase rule w x y v
  pub room : v.failed ≡ false → y.fall_through ≡ false → HasRoomAtTails rule y.body
  pub succeeds : (x.fall_through ≡ false → HasRoomAtTails rule x.body) → w.failed ≡ false → v.failed ≡ false

pub VisitsCase-body : (rule : Rule) (w v : Walk) (x : SwitchCase) (b : Block) → x.fall_through ≡ false → Visits rule w x.body b v → VisitsCase rule w x (record x { body = b }) v
VisitsCase-body rule w v x b e h = record {
  walked = WalkedCase-body rule w v x b e h.walked;
  room = λ p q. h.room p;
  succeeds = λ p. h.succeeds (p e);
}

pub VisitsCase-falling : (rule : Rule) (w : Walk) (x : SwitchCase) → x.fall_through ≡ true → VisitsCase rule w x x w
VisitsCase-falling rule w x e = record {
  walked = WalkedCase-falling rule w x e;
  room = λ p q. absurd (cc (q, e));
  succeeds = λ p q. q;
}

-- the invariant of the loop over the cases: the walk leads from the cases before `i` to those that are there now, and
-- those from `i` on are unchanged
pub record VisitedTo (rule : Rule) (w : Walk) (old now : List SwitchCase) (i : ℕ) (v : Walk) : Type 0 where
  pub same_length : length now ≡ length old
  pub unvisited : (k : ℕ) (d : SwitchCase) → i ≤ k → get_or now k d ≡ get_or old k d
  pub walked : WalkedTo rule w old now i v
  pub room : v.failed ≡ false → RoomBefore rule now i
  pub succeeds : CasesHaveRoom rule old → w.failed ≡ false → v.failed ≡ false

pub VisitedTo-start : (rule : Rule) (w : Walk) (cases : List SwitchCase) → VisitedTo rule w cases cases 0 w
VisitedTo-start rule w cases = record {
  same_length = refl;
  unvisited = λ k d p. refl;
  walked = at_start;
  room = λ p k d q. absurd (omega arith);
  succeeds = λ p q. q;
}

VisitedTo-room : (rule : Rule) (w v : Walk) (old : List SwitchCase) (i : ℕ) (x y : SwitchCase) → i < length old → ((d : SwitchCase) → x ≡ get_or old i d) → VisitsCase rule w x y v → CasesHaveRoom rule old → w.failed ≡ false → v.failed ≡ false
VisitedTo-room rule w v old i x y within read one h p =
    one.succeeds (λ stays. h i x (slice_get_read old (length old) i x refl within (read x)) stays) p

pub VisitedTo-set : (rule : Rule) (w u v : Walk) (old now : List SwitchCase) (i : ℕ) (x y : SwitchCase) → i < length now → ((d : SwitchCase) → x ≡ get_or now i d) → VisitsCase rule u x y v → VisitedTo rule w old now i u → VisitedTo rule w old (set now i y) (i + 1) v
VisitedTo-set rule w u v old now i x y h read one kept =
    let later = WalkedCases-Later one.walked in
    record {
      same_length = length-set now i y ∙ kept.same_length;
      unvisited = λ k d q. get_or-set_other now i k y d (λ e. omega (arith)) ∙ kept.unvisited k d (omega arith);
      walked = WalkedTo-set rule w u v old now i x y h read one.walked kept.walked;
      room = λ p. RoomBefore-set rule now i y h (one.room p) (kept.room (later.failed p));
      succeeds = λ p q. VisitedTo-room rule u v old i x y (omega (arith, kept.same_length)) (λ d. read d ∙ kept.unvisited i d (omega arith)) one p (kept.succeeds p q);
    }

-- the cases from `i` on are unchanged, and the walk leads from those before `i` to those that are there now
abbrev pub VisitedFrom : Rule → Walk → List SwitchCase → List SwitchCase → ℕ → Walk → Type 0
VisitedFrom rule w old now i v =
    ((length now ≡ length old) × ((k : ℕ) (d : SwitchCase) → i ≤ k → get_or now k d ≡ get_or old k d)) × VisitedTo rule w old now i v

pub VisitedFrom-next : (rule : Rule) (w u v : Walk) (old now : List SwitchCase) (i : ℕ) (x y : SwitchCase) (later : List SwitchCase) (after : Walk) → later ≡ set now i y → after ≡ v → i < length now → ((d : SwitchCase) → x ≡ get_or now i d) → VisitsCase rule u x y v → VisitedTo rule w old now i u → VisitedFrom rule w old later (i + 1) after
VisitedFrom-next rule w u v old now i x y later after written same h read one kept =
    let next : VisitedTo rule w old later (i + 1) after =
    subst (λ (zs : List SwitchCase). VisitedTo rule w old zs (i + 1) after) (sym written) (subst (λ (s : Walk). VisitedTo rule w old (set now i y) (i + 1) s) (sym same) (VisitedTo-set rule w u v old now i x y h read one kept))
    in
    ((next.same_length, next.unvisited), next)

-- once the last case was visited, all were
pub VisitedTo-last : (rule : Rule) (w u v : Walk) (old now : List SwitchCase) (i : ℕ) (x y : SwitchCase) → length old ≡ suc i → ((d : SwitchCase) → x ≡ get_or now i d) → VisitsCase rule u x y v → VisitedTo rule w old now i u → VisitsCases rule w old (set now i y) v
VisitedTo-last rule w u v old now i x y l read one kept =
    let inside : i < length now = omega (arith, l, kept.same_length) in
    let all = VisitedTo-set rule w u v old now i x y inside read one kept in
    record {
      walked = WalkedTo-last rule w u v old now i x y l inside read one.walked kept.walked;
      room = λ p. RoomBefore-all rule (set now i y) (i + 1) (omega (arith, l, all.same_length)) (all.room p);
      succeeds = all.succeeds;
    }

pub VisitsCases-none : (rule : Rule) (w : Walk) (cases : List SwitchCase) → length cases ≡ 0 → VisitsCases rule w cases cases w
VisitsCases-none rule w cases l = record {
  walked = WalkedCases-none rule w cases l;
  room = λ p k chosen at. absurd (omega (arith, l, slice_get_within cases k chosen at));
  succeeds = λ p q. q;
}
