-- Culling the blocks of the code, statement by statement.
use Rattle.std.proofs.Common.{◌≡◌, ◌∙◌, sym, ap, refl, Bool, true, false, ◌&&◌, ◌||◌, ℕ, ◌+◌, ◌<◌, ◌≤◌, List, [], ◌∷◌, ◌++◌, length, get_or, take, drop, Option, Some, arith}
use Rattle.std.proofs.lemmas.List.{take-append-drop, take_all, take_more_set}
use Rattle.std.proofs.Math.ListN.{set}
use Rattle.std.specs.Prelude.{not, slice_get}
use Rattle.std.specs.declared.alloc.Global.{Global}
use Rattle.std.specs.declared.vec.Vec.{Vec}
use Rattle.naga_arena.specs.declared.span.Span.{Span}
use Rattle.naga_ir.specs.Block.{pairs, statements}
use Rattle.naga_ir.specs.Lends.{with_statement}
use Rattle.naga_ir.specs.Tree.{Tree, empty, push, is_plain, nested, branch, switch, loop, Cases, no_cases, case, Jump, jump}
use Rattle.naga_ir.specs.View.{cases_of, node_of, pushed, tree, tree_of}
use Rattle.naga_ir.specs.declared.block.Block.{Block}
use Rattle.naga_ir.specs.declared.statement.Statement.{Statement}
use Rattle.naga_ir.specs.declared.statement.Statement as variant
use Rattle.naga_ir.specs.declared.statement.SwitchCase.{SwitchCase}
use Rattle.naga_ir.proofs.NodeOfLemmas.{node_of-Block, node_of-If, node_of-Loop, node_of-Switch, node_of-plain}
use Rattle.naga_ir.proofs.PushedLemmas.{pushed-append}
use Rattle.naga_runs.specs.Diverges.{cases_diverge, diverges, node_diverges}
use Rattle.naga_runs.specs.Exits.{has_exit}
use Rattle.naga_compact.specs.Culling.{culled, culled_cases, culled_node}
use Rattle.naga_compact.proofs.CulledLemmas.{push_reached-next, push_reached-never}
use Rattle.naga_compact.proofs.MappedBlocks.{MappedTo, MappedTo-start, MappedTo-next, MappedTo-end, tree-with_statement, mapped_cases, mapped_cases-each, CaseMapped}

-- ---- a block, up to a position

-- the statements before the position are culled, and none of them diverges
pub record CulledTo (old new : Block) (i : ℕ) : Type 0 where
  pub mapped : MappedTo culled old new i
  pub reached : diverges (tree (take i (pairs new))) ≡ false

pub CulledTo-start : (b : Block) → CulledTo b b 0
CulledTo-start b = record { mapped = MappedTo-start culled b refl; reached = ap (λ xs. diverges (tree xs)) (none_taken (pairs b)) }
  where
    none_taken : (xs : List (Statement × Span)) → take 0 xs ≡ []
    none_taken [] = refl
    none_taken (x ∷ xs) = refl

-- the statement at the position is culled
CulledTo-more : (old new : Block) (i : ℕ) (s t : Statement) → CulledTo old new i → slice_get (statements new) i ≡ Some s →
    node_of t ≡ culled_node (node_of s) → MappedTo culled old (with_statement new i t) (i + 1)
CulledTo-more old new i s t so found is =
    let front : Tree = tree (take i (pairs old)) in
    let reached : diverges (culled front) ≡ false = ap diverges (sym so.mapped.before) ∙ so.reached in
    MappedTo-next culled old new i s t so.mapped found
    (λ span. push_reached-next (culled front) (culled_node (node_of s)) span reached ∙ sym (ap (λ n. push (culled front) n span) is))

-- whether a statement up to and including the one at the position diverges
CulledTo-diverges : (old new : Block) (i : ℕ) (s t : Statement) → CulledTo old new i → slice_get (statements new) i ≡ Some s →
    diverges (tree (take (i + 1) (pairs (with_statement new i t)))) ≡ node_diverges (node_of t)
CulledTo-diverges old new i s t so found =
    ap diverges (tree-with_statement new i s t found) ∙ ap (λ b. b || node_diverges (node_of t)) so.reached

pub CulledTo-next : (old new : Block) (i : ℕ) (s t : Statement) → CulledTo old new i → slice_get (statements new) i ≡ Some s →
    node_of t ≡ culled_node (node_of s) → node_diverges (node_of t) ≡ false → CulledTo old (with_statement new i t) (i + 1)
CulledTo-next old new i s t so found is on = record {
  mapped = CulledTo-more old new i s t so found is;
  reached = CulledTo-diverges old new i s t so found ∙ on;
}

pub CulledTo-end : (old new : Block) (i : ℕ) → length (pairs old) ≤ i → CulledTo old new i → (tree_of new ≡ culled (tree_of old)) × (diverges (tree_of new) ≡ false)
CulledTo-end old new i past so =
    let over : length (pairs new) ≤ i = omega (arith, so.mapped.count) in
    (MappedTo-end culled old new i past so.mapped, ap (λ xs. diverges (tree xs)) (sym (take_all i (pairs new) over)) ∙ so.reached)

-- the last statement is culled
pub CulledTo-last : (old new : Block) (i : ℕ) (s t : Statement) → CulledTo old new i → slice_get (statements new) i ≡ Some s → node_of t ≡ culled_node (node_of s) → length (pairs old) ≤ i + 1 →
    (tree_of (with_statement new i t) ≡ culled (tree_of old)) × (diverges (tree_of (with_statement new i t)) ≡ node_diverges (node_of t))
CulledTo-last old new i s t so found is past =
    let more : MappedTo culled old (with_statement new i t) (i + 1) = CulledTo-more old new i s t so found is in
    let over : length (pairs (with_statement new i t)) ≤ i + 1 = omega (arith, more.count, past) in (
      MappedTo-end culled old (with_statement new i t) (i + 1) past more,
      ap (λ xs. diverges (tree xs)) (sym (take_all (i + 1) (pairs (with_statement new i t)) over)) ∙ CulledTo-diverges old new i s t so found,
    )

-- nothing follows a block that diverges
culled-pushed : (front : Tree) (rest : List (Statement × Span)) → diverges (culled front) ≡ true → culled (pushed front rest) ≡ culled front
culled-pushed front [] h = refl
culled-pushed front (x ∷ rest) h =
    let same : culled (push front (node_of x.0) x.1) ≡ culled front = push_reached-never (culled front) (culled_node (node_of x.0)) x.1 h in
    culled-pushed (push front (node_of x.0) x.1) rest (ap diverges same ∙ h) ∙ same

-- the statements after the position are removed, since the one at the position diverges
pub CulledTo-cut : (old new last : Block) (i : ℕ) (s t : Statement) → CulledTo old new i → slice_get (statements new) i ≡ Some s →
    node_of t ≡ culled_node (node_of s) → node_diverges (node_of t) ≡ true →
    pairs last ≡ take (i + 1) (pairs (with_statement new i t)) →
    (tree_of last ≡ culled (tree_of old)) × (diverges (tree_of last) ≡ true)
CulledTo-cut old new last i s t so found is off kept =
    let more : MappedTo culled old (with_statement new i t) (i + 1) = CulledTo-more old new i s t so found is in
    let diverging : diverges (tree (take (i + 1) (pairs (with_statement new i t)))) ≡ true = CulledTo-diverges old new i s t so found ∙ off in
    let split : tree_of old ≡ pushed (tree (take (i + 1) (pairs old))) (drop (i + 1) (pairs old)) =
    ap tree (sym (take-append-drop (i + 1) (pairs old))) ∙ pushed-append empty (take (i + 1) (pairs old)) (drop (i + 1) (pairs old))
    in
    let behind : culled (tree_of old) ≡ culled (tree (take (i + 1) (pairs old))) =
    ap culled split ∙ culled-pushed (tree (take (i + 1) (pairs old))) (drop (i + 1) (pairs old)) (ap diverges (sym more.before) ∙ diverging)
    in
    (ap tree kept ∙ (more.before ∙ sym behind), ap (λ xs. diverges (tree xs)) kept ∙ diverging)

-- ---- a statement

pub culled_plain : (s : Statement) → is_plain (node_of s) ≡ true → (node_of s ≡ culled_node (node_of s)) × (node_diverges (node_of s) ≡ false)
culled_plain s h =
    let is = node_of-plain s h in
    (is ∙ sym (ap culled_node is), ap node_diverges is)

pub culled_jump : (s : Statement) (to : Jump) → node_of s ≡ jump to → (node_of s ≡ culled_node (node_of s)) × (node_diverges (node_of s) ≡ true)
culled_jump s to is = (is ∙ sym (ap culled_node is), ap node_diverges is)

pub culled_Block : (b c : Block) → tree_of c ≡ culled (tree_of b) → node_of (variant.Block c) ≡ culled_node (node_of (variant.Block b))
culled_Block b c h = node_of-Block c ∙ (ap nested h ∙ sym (ap culled_node (node_of-Block b)))

pub culled_If : (condition : ℕ) (b c d e : Block) → tree_of c ≡ culled (tree_of b) → tree_of e ≡ culled (tree_of d) →
    node_of (variant.If condition c e) ≡ culled_node (node_of (variant.If condition b d))
culled_If condition b c d e h k =
    node_of-If condition c e ∙ ((λ i. branch condition (h i) (k i)) ∙ sym (ap culled_node (node_of-If condition b d)))

pub culled_Loop : (b c d e : Block) (break_if : Option ℕ) → tree_of c ≡ culled (tree_of b) → tree_of e ≡ culled (tree_of d) →
    node_of (variant.Loop c e break_if) ≡ culled_node (node_of (variant.Loop b d break_if))
culled_Loop b c d e break_if h k =
    node_of-Loop c e break_if ∙ ((λ i. loop (h i) (k i) break_if) ∙ sym (ap culled_node (node_of-Loop b d break_if)))

pub culled_Switch : (selector : ℕ) (cs ds : Vec SwitchCase Global) → cases_of ds.items ≡ culled_cases (cases_of cs.items) →
    node_of (variant.Switch selector ds) ≡ culled_node (node_of (variant.Switch selector cs))
culled_Switch selector cs ds h =
    node_of-Switch selector ds ∙ (ap (switch selector) h ∙ sym (ap culled_node (node_of-Switch selector cs)))

pub diverges_Block : (b : Block) → node_diverges (node_of (variant.Block b)) ≡ diverges (tree_of b)
diverges_Block b = ap node_diverges (node_of-Block b)

pub diverges_If : (condition : ℕ) (b d : Block) → node_diverges (node_of (variant.If condition b d)) ≡ (diverges (tree_of b) && diverges (tree_of d))
diverges_If condition b d = ap node_diverges (node_of-If condition b d)

pub diverges_Loop : (b d : Block) (break_if : Option ℕ) → node_diverges (node_of (variant.Loop b d break_if)) ≡ false
diverges_Loop b d break_if = ap node_diverges (node_of-Loop b d break_if)

pub diverges_Switch : (selector : ℕ) (cs : Vec SwitchCase Global) →
    node_diverges (node_of (variant.Switch selector cs)) ≡ (not (has_exit (cases_of cs.items)) && cases_diverge (cases_of cs.items))
diverges_Switch selector cs = ap node_diverges (node_of-Switch selector cs)

-- ---- the cases of a switch

culled_cases-mapped : (cases : Cases) → mapped_cases culled cases ≡ culled_cases cases
culled_cases-mapped no_cases = refl
culled_cases-mapped (case value body falls_through others) = ap (case value (culled body) falls_through) (culled_cases-mapped others)

pub culled_cases-each : (xs ys : List SwitchCase) → length ys ≡ length xs → ((k : ℕ) (d : SwitchCase) → k < length xs → CaseMapped culled (get_or xs k d) (get_or ys k d)) → cases_of ys ≡ culled_cases (cases_of xs)
culled_cases-each xs ys l h = mapped_cases-each culled xs ys l h ∙ culled_cases-mapped (cases_of xs)

and_in_turn : (x y z : Bool) → ((x && y) && z) ≡ (x && (y && z))
and_in_turn true y z = refl
and_in_turn false y z = refl

and_true : (x : Bool) → (x && true) ≡ x
and_true true = refl
and_true false = refl

-- the case falls through, or its body diverges
abbrev pub case_diverges : SwitchCase → Bool
case_diverges x = x.fall_through || diverges (tree_of x.body)

cases_diverge-append : (xs : List SwitchCase) (y : SwitchCase) → cases_diverge (cases_of (xs ++ y ∷ [])) ≡ (cases_diverge (cases_of xs) && case_diverges y)
cases_diverge-append [] y = and_true (case_diverges y)
cases_diverge-append (x ∷ xs) y =
    ap (λ b. case_diverges x && b) (cases_diverge-append xs y) ∙ sym (and_in_turn (case_diverges x) (cases_diverge (cases_of xs)) (case_diverges y))

-- one more case
pub cases_diverge-set : (now : List SwitchCase) (i : ℕ) (y : SwitchCase) (so_far : Bool) → i < length now → so_far ≡ cases_diverge (cases_of (take i now)) →
    (so_far && case_diverges y) ≡ cases_diverge (cases_of (take (i + 1) (set now i y)))
cases_diverge-set now i y so_far h so =
    ap (λ b. b && case_diverges y) so ∙ (sym (cases_diverge-append (take i now) y) ∙ sym (ap (λ xs. cases_diverge (cases_of xs)) (take_more_set now i y h)))

pub cases_diverge-whole : (now : List SwitchCase) (i : ℕ) (so_far : Bool) → length now ≤ i → so_far ≡ cases_diverge (cases_of (take i now)) → so_far ≡ cases_diverge (cases_of now)
cases_diverge-whole now i so_far past so = so ∙ ap (λ xs. cases_diverge (cases_of xs)) (take_all i now past)
