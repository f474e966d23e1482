-- Blocks and cases that are changed one after another, in place, by a function on trees.
use Rattle.std.proofs.Common.{◌≡◌, ◌∙◌, sym, ap, subst, refl, inl, inr, ◌⊎◌, ℕ, suc, ◌+◌, ◌<◌, ◌≤◌, List, [], ◌∷◌, length, get_or, take, Some, arith}
use Rattle.std.proofs.Math.ListN.{set}
use Rattle.std.proofs.Math.Nat.{eq-or-lt_of_le}
use Rattle.std.proofs.lemmas.List.{get_or-set_same, get_or-set_other, length-set, length-map, get_or-map, take_all, take_more, take_more_set}
use Rattle.std.proofs.lemmas.Option.{get_or_from_slice_get, slice_get_within}
use Rattle.std.specs.Prelude.{slice_get, slice_index_or}
use Rattle.naga_arena.specs.Span.{undefined}
use Rattle.naga_arena.specs.declared.span.Span.{Span}
use Rattle.naga_ir.specs.Block.{pairs, spans, statements}
use Rattle.naga_ir.specs.Lends.{with_statement}
use Rattle.naga_ir.specs.Tree.{Tree, empty, push, Cases, no_cases, case}
use Rattle.naga_ir.specs.View.{cases_of, node_of, tree, tree_of}
use Rattle.naga_ir.specs.declared.block.Block.{Block, size-Block}
use Rattle.naga_ir.specs.declared.statement.Statement.{Statement, size-Statement}
use Rattle.naga_ir.specs.declared.statement.SwitchCase.{SwitchCase}
use Rattle.naga_ir.proofs.PushedLemmas.{tree-push}
use Rattle.naga_ir.proofs.SizeBlockLemmas.{size-Statement-lt}

-- ---- a block, up to a position

-- the tree of the statements before the position is the function of that of the old ones; the statements from the
-- position on are the old ones
pub record MappedTo (f : Tree → Tree) (old new : Block) (i : ℕ) : Type 0 where
  pub count : length (pairs new) ≡ length (pairs old)
  pub before : tree (take i (pairs new)) ≡ f (tree (take i (pairs old)))
  pub after : (k : ℕ) (d : Statement × Span) → i ≤ k → get_or (pairs new) k d ≡ get_or (pairs old) k d

none_taken : (xs : List (Statement × Span)) → take 0 xs ≡ []
none_taken [] = refl
none_taken (x ∷ xs) = refl

pub MappedTo-start : (f : Tree → Tree) (b : Block) → f empty ≡ empty → MappedTo f b b 0
MappedTo-start f b e = record {
  count = refl;
  before = ap tree (none_taken (pairs b)) ∙ (sym e ∙ sym (ap (λ xs. f (tree xs)) (none_taken (pairs b))));
  after = λ k d h. refl;
}

found_within : (b : Block) (i : ℕ) (s : Statement) → slice_get (statements b) i ≡ Some s → i < length (pairs b)
found_within b i s found = rw (length-map (pairs b) (λ pair. pair.0)) at (slice_get_within (statements b) i s found)

found_statement : (b : Block) (i : ℕ) (s : Statement) → slice_get (statements b) i ≡ Some s → (get_or (pairs b) i (s, undefined)).0 ≡ s
found_statement b i s found =
    sym (get_or-map (λ pair. pair.0) (pairs b) i (s, undefined) s (found_within b i s found)) ∙ get_or_from_slice_get (statements b) i s s found

-- a statement that was not yet changed is smaller than the old block
pub MappedTo-size : (f : Tree → Tree) (old new : Block) (i : ℕ) (s : Statement) → MappedTo f old new i → slice_get (statements new) i ≡ Some s →
    size-Statement s < size-Block old
MappedTo-size f old new i s so found =
    let inside : i < length (pairs old) = subst (λ n. i < n) so.count (found_within new i s found) in
    let d : Statement × Span = (s, undefined) in
    let same : (get_or (pairs old) i d).0 ≡ s = ap (λ (p : Statement × Span). p.0) (sym (so.after i d (omega arith))) ∙ found_statement new i s found in
    subst (λ t. size-Statement t < size-Block old) same (size-Statement-lt old i d inside)

-- the tree up to and including a statement that was changed
pub tree-with_statement : (b : Block) (i : ℕ) (s t : Statement) → slice_get (statements b) i ≡ Some s →
    tree (take (i + 1) (pairs (with_statement b i t))) ≡ push (tree (take i (pairs b))) (node_of t) (slice_index_or (spans b) i undefined)
tree-with_statement b i s t found =
    let span : Span = slice_index_or (spans b) i undefined in
    ap tree (take_more_set (pairs b) i (t, span) (found_within b i s found)) ∙ tree-push (take i (pairs b)) t span

-- a statement is changed, as the function on trees does
pub MappedTo-next : (f : Tree → Tree) (old new : Block) (i : ℕ) (s t : Statement) → MappedTo f old new i → slice_get (statements new) i ≡ Some s →
    ((span : Span) → f (push (tree (take i (pairs old))) (node_of s) span) ≡ push (f (tree (take i (pairs old)))) (node_of t) span) →
    MappedTo f old (with_statement new i t) (i + 1)
MappedTo-next f old new i s t so found one =
    let within = found_within new i s found in
    let inside : i < length (pairs old) = subst (λ n. i < n) so.count within in
    let d : Statement × Span = (s, undefined) in
    let span : Span = slice_index_or (spans new) i undefined in
    let p : Statement × Span = get_or (pairs old) i d in
    let pair : get_or (pairs new) i d ≡ p = so.after i d (omega arith) in
    let what : p.0 ≡ s = ap (λ (q : Statement × Span). q.0) (sym pair) ∙ found_statement new i s found in
    let span_is : p.1 ≡ span = ap (λ (q : Statement × Span). q.1) (sym pair) ∙ sym (get_or-map (λ q. q.1) (pairs new) i d undefined within) in
    let front : Tree = tree (take i (pairs old)) in
    let was : tree (take (i + 1) (pairs old)) ≡ push front (node_of s) span =
    ap tree (take_more (pairs old) i d inside) ∙ (tree-push (take i (pairs old)) p.0 p.1 ∙ (λ j. push front (node_of (what j)) (span_is j)))
    in
    record {
      count = length-set (pairs new) i (t, span) ∙ so.count;
      before = tree-with_statement new i s t found ∙ (ap (λ x. push x (node_of t) span) so.before ∙ (sym (one span) ∙ sym (ap f was)));
      after = λ k e h. get_or-set_other (pairs new) i k (t, span) e (λ q. omega arith) ∙ so.after k e (omega arith);
    }

pub MappedTo-end : (f : Tree → Tree) (old new : Block) (i : ℕ) → length (pairs old) ≤ i → MappedTo f old new i → tree_of new ≡ f (tree_of old)
MappedTo-end f old new i past so =
    let over : length (pairs new) ≤ i = omega (arith, so.count) in
    sym (ap tree (take_all i (pairs new) over)) ∙ (so.before ∙ ap (λ xs. f (tree xs)) (take_all i (pairs old) past))

-- ---- the cases of a switch

-- the second case is the first one with the function of its body
pub record CaseMapped (f : Tree → Tree) (old new : SwitchCase) : Type 0 where
  pub value : new.value ≡ old.value
  pub body : tree_of new.body ≡ f (tree_of old.body)
  pub falls : new.fall_through ≡ old.fall_through

-- the cases with the function of each body
abbrev pub mapped_cases : (Tree → Tree) → Cases → Cases
mapped_cases f no_cases = no_cases
mapped_cases f (case value body falls_through others) = case value (f body) falls_through (mapped_cases f others)

pub mapped_cases-each : (f : Tree → Tree) (xs ys : List SwitchCase) → length ys ≡ length xs → ((k : ℕ) (d : SwitchCase) → k < length xs → CaseMapped f (get_or xs k d) (get_or ys k d)) → cases_of ys ≡ mapped_cases f (cases_of xs)
mapped_cases-each f [] [] l h = refl
mapped_cases-each f [] (y ∷ ys) l h = absurd (omega arith)
mapped_cases-each f (x ∷ xs) [] l h = absurd (omega arith)
mapped_cases-each f (x ∷ xs) (y ∷ ys) l h =
    let first : CaseMapped f x y = h 0 x (omega arith) in
    let rest = mapped_cases-each f xs ys (omega arith) (λ k d q. h (suc k) d (omega arith)) in
    λ i. case (first.value i) (first.body i) (first.falls i) (rest i)

-- the cases before `i` are changed, and those from `i` on are the old ones
abbrev pub CasesMappedTo : (Tree → Tree) → List SwitchCase → List SwitchCase → ℕ → Type 0
CasesMappedTo f old now i =
    ((length now ≡ length old) × ((k : ℕ) (d : SwitchCase) → i ≤ k → get_or now k d ≡ get_or old k d)) × ((k : ℕ) (d : SwitchCase) → k < i → CaseMapped f (get_or old k d) (get_or now k d))

one_mapped : (f : Tree → Tree) (old now : List SwitchCase) (i : ℕ) (y : SwitchCase) → i < length now → ((d : SwitchCase) → CaseMapped f (get_or old i d) y) → ((k : ℕ) (d : SwitchCase) → k < i → CaseMapped f (get_or old k d) (get_or now k d)) → (k : ℕ) (d : SwitchCase) → (k ≡ i) ⊎ (k < i) → CaseMapped f (get_or old k d) (get_or (set now i y) k d)
one_mapped f old now i y h one before k d (inl e) =
    subst (λ (j : ℕ). CaseMapped f (get_or old j d) (get_or (set now i y) j d)) (sym e) (subst (λ (z : SwitchCase). CaseMapped f (get_or old i d) z) (sym (get_or-set_same now i y d h)) (one d))
one_mapped f old now i y h one before k d (inr p) =
    subst (λ (z : SwitchCase). CaseMapped f (get_or old k d) z) (sym (get_or-set_other now i k y d (λ e. omega (arith)))) (before k d p)

pub CasesMappedTo-next : (f : Tree → Tree) (old now : List SwitchCase) (i : ℕ) (x y : SwitchCase) → i < length now → ((d : SwitchCase) → x ≡ get_or now i d) → CaseMapped f x y → CasesMappedTo f old now i → CasesMappedTo f old (set now i y) (i + 1)
CasesMappedTo-next f old now i x y h read one kept = (
  (length-set now i y ∙ kept.0.0, λ k d q. get_or-set_other now i k y d (λ e. omega (arith)) ∙ kept.0.1 k d (omega arith)),
  λ k d q. one_mapped f old now i y h (λ d. subst (λ (z : SwitchCase). CaseMapped f z y) (read d ∙ kept.0.1 i d (omega arith)) one) kept.1 k d (eq-or-lt_of_le (omega arith)),
)
