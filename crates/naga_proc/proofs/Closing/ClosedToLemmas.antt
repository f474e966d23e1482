-- A list of cases that are closed one after another.
use Rattle.std.proofs.Common.{◌≡◌, ◌∙◌, sym, subst, ℕ, suc, ◌<◌, ◌≤◌, ◌+◌, List, [], ◌∷◌, length, get_or, arith, inl, inr, ◌⊎◌, Bool, true, false}
use Rattle.std.proofs.Math.ListN.{set}
use Rattle.std.proofs.Math.Nat.{eq-or-lt_of_le}
use Rattle.std.proofs.lemmas.List.{get_or-set_same, get_or-set_other, length-set}
use Rattle.naga_kinds.specs.declared.switch.SwitchValue.{SwitchValue}
use Rattle.naga_ir.specs.Tree.{Tree, Cases, no_cases, case}
use Rattle.naga_ir.specs.View.{cases_of, tree_of}
use Rattle.naga_ir.specs.declared.block.Block.{Block}
use Rattle.naga_ir.specs.declared.statement.SwitchCase.{SwitchCase}
use Rattle.naga_proc.specs.Closing.{no_more, falling, ending, ClosedBy}
use Rattle.naga_proc.specs.declared.terminator.rule.Rule.{Rule}
use Rattle.naga_proc.proofs.Closing.ClosedByLemmas.{CasesClosed}

-- the second case is the first one, closed
abbrev pub CaseClosed : Rule → SwitchCase → SwitchCase → Type 0
CaseClosed rule old new = CasesClosed rule (cases_of (old ∷ [])) (cases_of (new ∷ []))

CasesClosed-more : (rule : Rule) {v w : SwitchValue} {b c : Tree} {f g : Bool} {cs ds : Cases} → CasesClosed rule (case v b f no_cases) (case w c g no_cases) → CasesClosed rule cs ds → CasesClosed rule (case v b f cs) (case w c g ds)
CasesClosed-more rule (falling h) k = falling k
CasesClosed-more rule (ending h i) k = ending h k

pub CasesClosed-each : (rule : Rule) (xs ys : List SwitchCase) → length ys ≡ length xs → ((k : ℕ) (d : SwitchCase) → k < length xs → CaseClosed rule (get_or xs k d) (get_or ys k d)) → CasesClosed rule (cases_of xs) (cases_of ys)
CasesClosed-each rule [] [] l h = no_more
CasesClosed-each rule [] (y ∷ ys) l h = absurd (omega arith)
CasesClosed-each rule (x ∷ xs) [] l h = absurd (omega arith)
CasesClosed-each rule (x ∷ xs) (y ∷ ys) l h =
    CasesClosed-more rule (h 0 x (omega arith)) (CasesClosed-each rule xs ys (omega arith) (λ k d q. h (suc k) d (omega arith)))

pub CaseClosed-body : (rule : Rule) (x : SwitchCase) (b : Block) → x.fall_through ≡ false → ClosedBy rule (tree_of x.body) (tree_of b) → CaseClosed rule x (record x { body = b })
CaseClosed-body rule x b e h =
    subst (λ f. CasesClosed rule (case x.value (tree_of x.body) f no_cases) (case x.value (tree_of b) f no_cases)) (sym e) (ending h no_more)

pub CaseClosed-falling : (rule : Rule) (x : SwitchCase) → x.fall_through ≡ true → CaseClosed rule x x
CaseClosed-falling rule x e =
    subst (λ f. CasesClosed rule (case x.value (tree_of x.body) f no_cases) (case x.value (tree_of x.body) f no_cases)) (sym e) (falling no_more)

-- if the cases before `i` are closed, and `y` is case `i` closed, then writing `y` closes the cases up to `i`
CaseClosed-set : (rule : Rule) (old now : List SwitchCase) (i : ℕ) (y : SwitchCase) → i < length now → ((d : SwitchCase) → CaseClosed rule (get_or old i d) y) → ((k : ℕ) (d : SwitchCase) → k < i → CaseClosed rule (get_or old k d) (get_or now k d)) → (k : ℕ) (d : SwitchCase) → (k ≡ i) ⊎ (k < i) → CaseClosed rule (get_or old k d) (get_or (set now i y) k d)
CaseClosed-set rule old now i y h one before k d (inl e) =
    subst (λ (j : ℕ). CaseClosed rule (get_or old j d) (get_or (set now i y) j d)) (sym e) (subst (λ (z : SwitchCase). CaseClosed rule (get_or old i d) z) (sym (get_or-set_same now i y d h)) (one d))
CaseClosed-set rule old now i y h one before k d (inr p) =
    subst (λ (z : SwitchCase). CaseClosed rule (get_or old k d) z) (sym (get_or-set_other now i k y d (λ e. omega (arith)))) (before k d p)

-- the invariant of the loop over the cases: those before `i` are closed, and those from `i` on are unchanged
abbrev pub ClosedTo : Rule → List SwitchCase → List SwitchCase → ℕ → Type 0
ClosedTo rule old now i =
    ((length now ≡ length old) × ((k : ℕ) (d : SwitchCase) → i ≤ k → get_or now k d ≡ get_or old k d)) × ((k : ℕ) (d : SwitchCase) → k < i → CaseClosed rule (get_or old k d) (get_or now k d))

pub ClosedTo-set : (rule : Rule) (old now : List SwitchCase) (i : ℕ) (x y : SwitchCase) → i < length now → ((d : SwitchCase) → x ≡ get_or now i d) → CaseClosed rule x y → ClosedTo rule old now i → ClosedTo rule old (set now i y) (i + 1)
ClosedTo-set rule old now i x y h read one kept = (
  (length-set now i y ∙ kept.0.0, λ k d q. get_or-set_other now i k y d (λ e. omega (arith)) ∙ kept.0.1 k d (omega arith)),
  λ k d q. CaseClosed-set rule old now i y h (λ d. subst (λ (z : SwitchCase). CaseClosed rule z y) (read d ∙ kept.0.1 i d (omega arith)) one) kept.1 k d (eq-or-lt_of_le (omega arith)),
)

-- once the last case is closed too, all cases are
pub ClosedTo-last : (rule : Rule) (old now : List SwitchCase) (i : ℕ) (x y : SwitchCase) → length old ≡ suc i → ((d : SwitchCase) → x ≡ get_or now i d) → CaseClosed rule x y → ClosedTo rule old now i → CasesClosed rule (cases_of old) (cases_of (set now i y))
ClosedTo-last rule old now i x y l read one kept =
    let inside : i < length now = omega (arith, l, kept.0.0) in
    let closed = ClosedTo-set rule old now i x y inside read one kept in
    CasesClosed-each rule old (set now i y) closed.0.0 (λ k d q. closed.1 k d (omega (arith, q, l)))
