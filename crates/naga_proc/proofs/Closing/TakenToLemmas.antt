-- Taking returns away from a list of cases, one after another.
use Rattle.std.proofs.Common.{◌≡◌, sym, ap, subst, refl, ℕ, zero, suc, ◌<◌, ◌≤◌, ◌+◌, List, [], ◌∷◌, length, get_or, arith, true, false}
use Rattle.std.proofs.Math.ListN.{set}
use Rattle.naga_ir.specs.Tree.{Cases, case}
use Rattle.naga_ir.specs.View.{cases_of, tree_of}
use Rattle.naga_ir.specs.declared.block.Block.{Block}
use Rattle.naga_ir.specs.declared.statement.SwitchCase.{SwitchCase}
use Rattle.naga_proc.specs.Closing.Walked.{CasesTakeBack, TakesBack}
use Rattle.naga_proc.proofs.Closing.TakesBackLemmas.{CasesTakeBack-ending, CasesTakeBack-falling, CasesTakeBack-none}

-- the first of these cases, followed by `others`
abbrev followed : SwitchCase → Cases → Cases
followed x others = case x.value (tree_of x.body) x.fall_through others

-- what takes returns away from the cases that follow takes them away from a case and those
abbrev pub TakesBackCase : ℕ → SwitchCase → SwitchCase → ℕ → Type 0
TakesBackCase count x y between =
    (cs ds : Cases) (left : ℕ) → CasesTakeBack between cs ds left → CasesTakeBack count (followed x cs) (followed y ds) left

pub TakesBackCase-body : (count : ℕ) (x : SwitchCase) (b : Block) (between : ℕ) → x.fall_through ≡ false → TakesBack count (tree_of x.body) (tree_of b) between → TakesBackCase count x (record x { body = b }) between
TakesBackCase-body count x b between e back cs ds left others =
    subst (λ f. CasesTakeBack count (case x.value (tree_of x.body) f cs) (case x.value (tree_of b) f ds) left) (sym e) (CasesTakeBack-ending count x.value (tree_of x.body) (tree_of b) cs ds between left back others)

pub TakesBackCase-falling : (count : ℕ) (x : SwitchCase) → x.fall_through ≡ true → TakesBackCase count x x count
TakesBackCase-falling count x e cs ds left others =
    subst (λ f. CasesTakeBack count (case x.value (tree_of x.body) f cs) (case x.value (tree_of x.body) f ds) left) (sym e) (CasesTakeBack-falling count x.value (tree_of x.body) cs ds left others)

-- returns are taken away from the cases before `i`; those from `i` on are unchanged
pub data TakenTo : ℕ → List SwitchCase → List SwitchCase → ℕ → ℕ → Type 0 where
  at_start : {count : ℕ} {xs : List SwitchCase} → TakenTo count xs xs 0 count
  after : {count between left : ℕ} {x y : SwitchCase} {xs ys : List SwitchCase} {i : ℕ} → TakesBackCase count x y between → TakenTo between xs ys i left → TakenTo count (x ∷ xs) (y ∷ ys) (suc i) left

TakenTo-set_at : {count between : ℕ} {old now : List SwitchCase} {i : ℕ} (left : ℕ) (x y : SwitchCase) → i < length now → ((d : SwitchCase) → x ≡ get_or now i d) → TakesBackCase between x y left → TakenTo count old now i between → TakenTo count old (set now i y) (suc i) left
TakenTo-set_at left x y h read one (at_start {xs = []}) = absurd (omega arith)
TakenTo-set_at {between = between} left x y h read one (at_start {xs = z ∷ zs}) =
    after (subst (λ (k : SwitchCase). TakesBackCase between k y left) (read x) one) at_start
TakenTo-set_at left x y h read one (after {ys = ys} {i = i} d e) = after d (TakenTo-set_at {now = ys} {i = i} left x y (omega arith) read one e)

pub TakenTo-set : (count between left : ℕ) (old now : List SwitchCase) (i : ℕ) (x y : SwitchCase) → i < length now → ((d : SwitchCase) → x ≡ get_or now i d) → TakesBackCase between x y left → TakenTo count old now i between → TakenTo count old (set now i y) (i + 1) left
TakenTo-set count between left old now i x y h read one kept =
    subst (λ (k : ℕ). TakenTo count old (set now i y) k left) (omega arith) (TakenTo-set_at left x y h read one kept)

TakenTo-unvisited : {count left : ℕ} {old now : List SwitchCase} {i : ℕ} → TakenTo count old now i left → (k : ℕ) (d : SwitchCase) → i ≤ k → get_or now k d ≡ get_or old k d
TakenTo-unvisited at_start k d h = refl
TakenTo-unvisited (after e f) zero d h = absurd (omega arith)
TakenTo-unvisited (after {i = i} e f) (suc k) d h = TakenTo-unvisited f k d (omega arith)

TakenTo-length : {count left : ℕ} {old now : List SwitchCase} {i : ℕ} → TakenTo count old now i left → length now ≡ length old
TakenTo-length at_start = refl
TakenTo-length (after e f) = ap suc (TakenTo-length f)

-- the cases from `i` on are unchanged, and returns are taken away from those before `i`
abbrev pub TakenFrom : ℕ → List SwitchCase → List SwitchCase → ℕ → ℕ → Type 0
TakenFrom count old now i left =
    ((length now ≡ length old) × ((k : ℕ) (d : SwitchCase) → i ≤ k → get_or now k d ≡ get_or old k d)) × TakenTo count old now i left

pub TakenFrom-next : (count between left : ℕ) (old now : List SwitchCase) (i : ℕ) (x y : SwitchCase) (later : List SwitchCase) (rest : ℕ) → later ≡ set now i y → rest ≡ left → i < length now → ((d : SwitchCase) → x ≡ get_or now i d) → TakesBackCase between x y left → TakenTo count old now i between → TakenFrom count old later (i + 1) rest
TakenFrom-next count between left old now i x y later rest written same h read one kept =
    let next : TakenTo count old later (i + 1) rest =
    subst (λ (zs : List SwitchCase). TakenTo count old zs (i + 1) rest) (sym written) (subst (λ (k : ℕ). TakenTo count old (set now i y) (i + 1) k) (sym same) (TakenTo-set count between left old now i x y h read one kept))
    in
    ((TakenTo-length next, TakenTo-unvisited next), next)

TakenTo-end : {count left : ℕ} {old now : List SwitchCase} {i : ℕ} → length old ≤ i → TakenTo count old now i left → CasesTakeBack count (cases_of old) (cases_of now) left
TakenTo-end h (at_start {count = count} {xs = []}) = CasesTakeBack-none count
TakenTo-end h (at_start {xs = z ∷ zs}) = absurd (omega arith)
TakenTo-end h (after {left = left} {xs = xs} {ys = ys} d e) = d (cases_of xs) (cases_of ys) left (TakenTo-end (omega arith) e)

-- once returns are taken away from the last case, they are from all of them
pub TakenTo-all : (count left : ℕ) (old now : List SwitchCase) (i : ℕ) → length old ≤ i → TakenTo count old now i left → CasesTakeBack count (cases_of old) (cases_of now) left
TakenTo-all count left old now i h kept = TakenTo-end h kept
