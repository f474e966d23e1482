-- What is reached, and marking it from the last handle down.
use Rattle.std.proofs.Common.{◌≡◌, ◌∙◌, sym, ap, subst, refl, inl, inr, ℕ, suc, ◌+◌, ◌<◌, ◌≤◌, List, [], ◌∷◌, length, true, false, Some, arith, true≢false}
use Rattle.std.specs.Prelude.{◌↔◌}
use Rattle.std.specs.FinSet.{contains}
use Rattle.std.specs.List.{Contains}
use Rattle.std.proofs.lemmas.Bool.{cases_eq}
use Rattle.std.proofs.lemmas.List.Elements.{All-contains}
use Rattle.std.proofs.lemmas.Option.{same_Some, slice_get_within}
use Rattle.naga_arena.specs.Arena.{values, value_at}
use Rattle.naga_arena.specs.declared.span.Span.{Span}
use Rattle.naga_ir.proofs.EnumerateFromLemmas.{All-enumerate_from_at}
use Rattle.naga_sets.specs.HandleSet.{BoundedSet}
use Rattle.naga_compact.specs.Compaction.{IsMember}
use Rattle.naga_compact.specs.Marks.{puts}
use Rattle.naga_valid.specs.Operands.{operands_of}
use Rattle.naga_compact.specs.Operands.{FollowsItsOperands, OperandsPrecede, HasOperand, IsReached}
use Rattle.naga_compact.specs.Reachability.{from_root, by_step}
use Rattle.naga_ir.specs.declared.expression.Expression.{Expression}
use Rattle.naga_compact.proofs.MarkLemmas.{puts-bound, puts-old, puts-new, puts-has}

-- ---- operands

pub operand_precedes : (arena : List (Expression × Span)) (g h : ℕ) → OperandsPrecede arena → HasOperand arena g h → h < g
operand_precedes arena g h precede references =
    All-contains (λ operand. operand < g) (operands_of references.expression) h
    (All-enumerate_from_at FollowsItsOperands (values arena) g references.expression references.found precede)
    references.contained

named_by : (arena : List (Expression × Span)) (g h : ℕ) (e : Expression) → value_at arena g ≡ Some e → HasOperand arena g h → Contains (operands_of e) h
named_by arena g h e found references =
    subst (λ x. Contains (operands_of x) h) (same_Some references.expression e (sym references.found ∙ found)) references.contained

-- what is reached from more roots
pub IsReached-more : (arena : List (Expression × Span)) (P Q : ℕ → Type 0) → ((h : ℕ) → P h → Q h) → (h : ℕ) → IsReached arena P h → IsReached arena Q h
IsReached-more arena P Q more h (from_root root) = from_root (more h root)
IsReached-more arena P Q more h (by_step {node = g} way references) = by_step (IsReached-more arena P Q more g way) references

-- ---- a marking on its way down, which has come to i

pub record MarkedTo (arena : List (Expression × Span)) (roots now : BoundedSet) (i : ℕ) : Type 0 where
  pub bound : now.bound ≡ roots.bound
  pub kept : (h : ℕ) → contains roots.members h ≡ true → contains now.members h ≡ true
  pub reached : (h : ℕ) → contains now.members h ≡ true → IsReached arena (IsMember roots) h
  pub closed : (g h : ℕ) → i ≤ g → contains now.members g ≡ true → HasOperand arena g h → contains now.members h ≡ true

pub marked_none : (arena : List (Expression × Span)) (roots : BoundedSet) (i : ℕ) → length arena ≤ i → MarkedTo arena roots roots i
marked_none arena roots i past = record {
  bound = refl;
  kept = λ h member. member;
  reached = λ h member. from_root member;
  closed = λ g h from member references.
      let inside = slice_get_within (values arena) g references.expression references.found in
      absurd (omega (arith, inside, length-values arena));
}
  where
    length-values : (xs : List (Expression × Span)) → length (values xs) ≡ length xs
    length-values [] = refl
    length-values (x ∷ xs) = ap suc (length-values xs)

-- the handle is marked, and so are its operands
pub marked_more : (arena : List (Expression × Span)) (roots now : BoundedSet) (i j h : ℕ) (e : Expression) → OperandsPrecede arena → roots.bound ≡ length arena → i ≡ j + 1 → i ≤ length arena → h ≡ j → value_at arena h ≡ Some e → contains now.members h ≡ true → MarkedTo arena roots now i → MarkedTo arena roots (puts now (operands_of e)) j
marked_more arena roots now i j h' e precede bound next inside here found marked so = record {
  bound = puts-bound now (operands_of e) ∙ so.bound;
  kept = λ h member. puts-old now (operands_of e) h (so.kept h member);
  reached = λ h member. elim (puts-new now (operands_of e) h member) [
    | inl old ↦ so.reached h old
    | inr new ↦ by_step (so.reached h' marked) (record { expression = e; found = found; contained = new.0 })
  ];
  closed = λ g h from member references.
      let lower = operand_precedes arena g h precede references in
      elim (puts-new now (operands_of e) g member) [
        | inl old ↦ elim (cases_eq g h') [
          | inl same ↦
              let at_handle : HasOperand arena h' h = subst (λ n. HasOperand arena n h) same references in
              let below : h < now.bound = omega (arith, so.bound) in
              puts-has now (operands_of e) h below (named_by arena h' h e found at_handle)
          | inr differs ↦ puts-old now (operands_of e) h (so.closed g h (omega arith) old references)
        ]
        | inr new ↦
            let under = operand_precedes arena h' g precede (record { expression = e; found = found; contained = new.0 }) in
            absurd (omega (arith, under))
      ];
}

-- the handle isn't marked
pub marked_past : (arena : List (Expression × Span)) (roots now : BoundedSet) (i j h : ℕ) → i ≡ j + 1 → h ≡ j → contains now.members h ≡ false → MarkedTo arena roots now i → MarkedTo arena roots now j
marked_past arena roots now i j h' next here unmarked so = record {
  bound = so.bound;
  kept = so.kept;
  reached = so.reached;
  closed = λ g h from member references. elim (cases_eq g h') [
    | inl same ↦ absurd (true≢false (sym member ∙ ap (contains now.members) same ∙ unmarked))
    | inr differs ↦ so.closed g h (omega arith) member references
  ];
}

all_reached : (arena : List (Expression × Span)) (roots now : BoundedSet) → MarkedTo arena roots now 0 → (h : ℕ) → IsReached arena (IsMember roots) h → contains now.members h ≡ true
all_reached arena roots now so h (from_root member) = so.kept h member
all_reached arena roots now so h (by_step {node = g} way references) =
    so.closed g h (omega arith) (all_reached arena roots now so g way) references

pub marked_all : (arena : List (Expression × Span)) (roots now : BoundedSet) (i : ℕ) → i ≤ 0 → MarkedTo arena roots now i → (h : ℕ) → (contains now.members h ≡ true) ↔ IsReached arena (IsMember roots) h
marked_all arena roots now i down so h =
    let none : i ≡ 0 = omega arith in
    (so.reached h, all_reached arena roots now (subst (λ n. MarkedTo arena roots now n) none so) h)
