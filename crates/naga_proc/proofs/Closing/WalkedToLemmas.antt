-- A walk through a list of cases, one after another.
use Rattle.std.proofs.Common.{◌≡◌, sym, subst, ℕ, suc, ◌<◌, ◌≤◌, ◌+◌, List, [], ◌∷◌, length, get_or, arith, true, false}
use Rattle.std.proofs.Math.ListN.{set}
use Rattle.naga_kinds.specs.declared.switch.SwitchValue.{SwitchValue}
use Rattle.naga_ir.specs.Tree.{Tree, Cases, no_cases, case}
use Rattle.naga_ir.specs.View.{cases_of, tree_of}
use Rattle.naga_ir.specs.declared.block.Block.{Block}
use Rattle.naga_ir.specs.declared.statement.SwitchCase.{SwitchCase}
use Rattle.naga_proc.specs.Closing.Walked.{Walked, WalkedCases, no_more, falling, ending}
use Rattle.naga_proc.specs.declared.terminator.one_walk.Walk.{Walk}
use Rattle.naga_proc.specs.declared.terminator.rule.Rule.{Rule}

-- the walk leads from the first case to the second
abbrev pub WalkedCase : Rule → Walk → SwitchCase → SwitchCase → Walk → Type 0
WalkedCase rule w x y v = WalkedCases rule w (cases_of (x ∷ [])) (cases_of (y ∷ [])) v

WalkedCases-more : (rule : Rule) {w u v : Walk} {x y : SwitchValue} {b c : Tree} {f g : _} {cs ds : Cases} → WalkedCases rule w (case x b f no_cases) (case y c g no_cases) u → WalkedCases rule u cs ds v → WalkedCases rule w (case x b f cs) (case y c g ds) v
WalkedCases-more rule (falling no_more) k = falling k
WalkedCases-more rule (ending h no_more) k = ending h k

pub WalkedCase-body : (rule : Rule) (w v : Walk) (x : SwitchCase) (b : Block) → x.fall_through ≡ false → Walked rule w (tree_of x.body) (tree_of b) v → WalkedCase rule w x (record x { body = b }) v
WalkedCase-body rule w v x b e h =
    subst (λ f. WalkedCases rule w (case x.value (tree_of x.body) f no_cases) (case x.value (tree_of b) f no_cases) v) (sym e) (ending h no_more)

pub WalkedCase-falling : (rule : Rule) (w : Walk) (x : SwitchCase) → x.fall_through ≡ true → WalkedCase rule w x x w
WalkedCase-falling rule w x e =
    subst (λ f. WalkedCases rule w (case x.value (tree_of x.body) f no_cases) (case x.value (tree_of x.body) f no_cases) w) (sym e) (falling no_more)

-- the walk leads from the first cases to the second, up to case `i`; those from `i` on are unchanged
pub data WalkedTo (rule : Rule) : Walk → List SwitchCase → List SwitchCase → ℕ → Walk → Type 0 where
  at_start : {w : Walk} {xs : List SwitchCase} → WalkedTo rule w xs xs 0 w
  after : {w u v : Walk} {x y : SwitchCase} {xs ys : List SwitchCase} {i : ℕ} → WalkedCase rule w x y u → WalkedTo rule u xs ys i v → WalkedTo rule w (x ∷ xs) (y ∷ ys) (suc i) v

WalkedTo-set_at : {rule : Rule} {w u : Walk} {old now : List SwitchCase} {i : ℕ} (v : Walk) (x y : SwitchCase) → i < length now → ((d : SwitchCase) → x ≡ get_or now i d) → WalkedCase rule u x y v → WalkedTo rule w old now i u → WalkedTo rule w old (set now i y) (suc i) v
WalkedTo-set_at v x y h read one (at_start {xs = []}) = absurd (omega arith)
WalkedTo-set_at {rule = rule} {u = u} v x y h read one (at_start {xs = z ∷ zs}) =
    after (subst (λ (k : SwitchCase). WalkedCase rule u k y v) (read x) one) at_start
WalkedTo-set_at v x y h read one (after {ys = ys} {i = i} d e) = after d (WalkedTo-set_at {now = ys} {i = i} v x y (omega arith) read one e)

pub WalkedTo-set : (rule : Rule) (w u v : Walk) (old now : List SwitchCase) (i : ℕ) (x y : SwitchCase) → i < length now → ((d : SwitchCase) → x ≡ get_or now i d) → WalkedCase rule u x y v → WalkedTo rule w old now i u → WalkedTo rule w old (set now i y) (i + 1) v
WalkedTo-set rule w u v old now i x y h read one kept =
    subst (λ (k : ℕ). WalkedTo rule w old (set now i y) k v) (omega arith) (WalkedTo-set_at v x y h read one kept)

WalkedTo-all : {rule : Rule} {w v : Walk} {old now : List SwitchCase} {i : ℕ} → length old ≤ i → WalkedTo rule w old now i v → WalkedCases rule w (cases_of old) (cases_of now) v
WalkedTo-all h (at_start {xs = []}) = no_more
WalkedTo-all h (at_start {xs = z ∷ zs}) = absurd (omega arith)
WalkedTo-all {rule = rule} h (after d e) = WalkedCases-more rule d (WalkedTo-all (omega arith) e)

-- once the walk has led through the last case, it has led through all of them
pub WalkedTo-last : (rule : Rule) (w u v : Walk) (old now : List SwitchCase) (i : ℕ) (x y : SwitchCase) → length old ≡ suc i → i < length now → ((d : SwitchCase) → x ≡ get_or now i d) → WalkedCase rule u x y v → WalkedTo rule w old now i u → WalkedCases rule w (cases_of old) (cases_of (set now i y)) v
WalkedTo-last rule w u v old now i x y l inside read one kept =
    WalkedTo-all (omega (arith, l)) (WalkedTo-set rule w u v old now i x y inside read one kept)

pub WalkedCases-none : (rule : Rule) (w : Walk) (cases : List SwitchCase) → length cases ≡ 0 → WalkedCases rule w (cases_of cases) (cases_of cases) w
WalkedCases-none rule w [] l = no_more
WalkedCases-none rule w (x ∷ xs) l = absurd (omega arith)
