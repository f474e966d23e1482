-- The statements of a block, one after another.
use Rattle.std.proofs.Common.{◌≡◌, ◌≢◌, ℕ, ◌<◌, List, [], ◌∷◌, map, refl, sym, ◌∙◌, ap, subst}
use Rattle.naga_arena.specs.declared.span.Span.{Span}
use Rattle.naga_ir.specs.Block.{pairs, statements}
use Rattle.naga_ir.specs.Tree.{Tree, empty, push, Node}
use Rattle.naga_ir.specs.View.{node_of, tree_of, pushed}
use Rattle.naga_ir.specs.declared.block.Block.{Block}
use Rattle.naga_ir.specs.declared.statement.Statement.{Statement}
use Rattle.naga_runs.specs.Replay.Walking.{Walked, MeetsPlain}
use Rattle.naga_runs.specs.Runs.{quiet, BlockRuns, nothing, goes_on, stops, StatementRuns}
use Rattle.naga_runs.specs.declared.run.Ending.TheVariants.{Normal}
use Rattle.naga_runs.specs.declared.walk.Stop.{Stop}
use Rattle.naga_runs.specs.declared.walk.Walk.{Walk}
use Rattle.naga_runs.proofs.MeetsPlainLemmas.{MeetsPlain-push, MeetsPlain-joined}
use Rattle.naga_runs.proofs.WalkedLemmas.{normally, Walked-joined, Walked-quiet, Walked-by_part}
use Rattle.naga_runs.proofs.WeightLemmas.{node_weight, tree_weight, node_weight-statement}

-- a block whose front ended normally, followed by its last statement
Walked-push : {turns : ℕ} {front : Tree} {last : Node} {span : Span} {old mid new : Walk} {stop stop' : Stop} →
    Walked (BlockRuns turns front) old mid stop → stop.ending ≡ Normal → Walked (StatementRuns turns last) mid new stop' →
    Walked (BlockRuns turns (push front last span)) old new stop'
Walked-push {turns = turns} {front = front} {last = last} {span = span} d e k =
    Walked-joined (BlockRuns turns front) (StatementRuns turns last) (BlockRuns turns (push front last span)) d k (λ a f s p q x y. goes_on x (sym p ∙ e) y)

-- the statements of a block before those of `ahead` have run
pub record SoFar (turns : ℕ) (block : Tree) (ahead : List Statement) (old new : Walk) (stop : Stop) : Type 0 where
  pub front : Tree
  pub pairs : List (Statement × Span)
  pub is : block ≡ pushed front pairs
  pub statements : map (λ pair. pair.0) pairs ≡ ahead
  pub walked : Walked (BlockRuns turns front) old new stop
  pub normal : stop.ending ≡ Normal

-- before the first statement
pub SoFar-begin : (turns : ℕ) (block : Block) (ahead : List Statement) (walk : Walk) (stop : Stop) → ahead ≡ statements block → stop ≡ normally →
    SoFar turns (tree_of block) ahead walk walk stop
SoFar-begin turns block ahead walk stop p q = record {
  front = empty;
  pairs = pairs block;
  is = refl;
  statements = sym p;
  walked = subst (λ s. Walked (BlockRuns turns empty) walk walk s) (sym q) (Walked-quiet (BlockRuns turns empty) walk walk (quiet Normal) refl refl refl refl nothing);
  normal = ap (λ s. s.ending) q;
}

-- the first of the statements that are ahead, and the others
map-first : (pair : Statement × Span) (pairs : List (Statement × Span)) (s : Statement) (ahead : List Statement) →
    map (λ p. p.0) (pair ∷ pairs) ≡ s ∷ ahead → (pair.0 ≡ s) × (map (λ p. p.0) pairs ≡ ahead)
map-first pair pairs s ahead q = (cc, cc)

-- the next statement ended normally
SoFar-go_on_by : (turns : ℕ) (block front : Tree) (pairs : List (Statement × Span)) (s : Statement) (ahead : List Statement) (old mid new : Walk) (stop stop' : Stop) →
    block ≡ pushed front pairs → map (λ pair. pair.0) pairs ≡ s ∷ ahead → Walked (BlockRuns turns front) old mid stop → stop.ending ≡ Normal →
    Walked (StatementRuns turns (node_of s)) mid new stop' → stop'.ending ≡ Normal → SoFar turns block ahead old new stop'
SoFar-go_on_by turns block front [] s ahead old mid new stop stop' is q d e k n = absurd (cc)
SoFar-go_on_by turns block front (pair ∷ pairs) s ahead old mid new stop stop' is q d e k n =
    let first = map-first pair pairs s ahead q in
    record {
      front = push front (node_of pair.0) pair.1;
      pairs = pairs;
      is = is;
      statements = first.1;
      walked = Walked-push d e (subst (λ x. Walked (StatementRuns turns (node_of x)) mid new stop') (sym first.0) k);
      normal = n;
    }

pub SoFar-go_on : (turns : ℕ) (block : Tree) (s : Statement) (ahead : List Statement) (old mid new : Walk) (stop stop' : Stop) →
    SoFar turns block (s ∷ ahead) old mid stop → Walked (StatementRuns turns (node_of s)) mid new stop' → stop'.ending ≡ Normal →
    SoFar turns block ahead old new stop'
SoFar-go_on turns block s ahead old mid new stop stop' so k n =
    SoFar-go_on_by turns block so.front so.pairs s ahead old mid new stop stop' so.is so.statements so.walked so.normal k n

-- the statements after a part that does not end normally are not run
Walked-pushed : (turns : ℕ) (front : Tree) (pairs : List (Statement × Span)) (old new : Walk) (stop : Stop) →
    Walked (BlockRuns turns front) old new stop → stop.ending ≢ Normal → Walked (BlockRuns turns (pushed front pairs)) old new stop
Walked-pushed turns front [] old new stop d h = d
Walked-pushed turns front (pair ∷ pairs) old new stop d h =
    let next = push front (node_of pair.0) pair.1 in
    Walked-pushed turns next pairs old new stop
    (Walked-by_part (BlockRuns turns front) (BlockRuns turns next) d (λ a r p x. stops x (λ q. h (p ∙ q)))) h

SoFar-stop_by : (turns : ℕ) (block front : Tree) (pairs : List (Statement × Span)) (s : Statement) (ahead : List Statement) (old mid new : Walk) (stop stop' : Stop) →
    block ≡ pushed front pairs → map (λ pair. pair.0) pairs ≡ s ∷ ahead → Walked (BlockRuns turns front) old mid stop → stop.ending ≡ Normal →
    Walked (StatementRuns turns (node_of s)) mid new stop' → stop'.ending ≢ Normal → Walked (BlockRuns turns block) old new stop'
SoFar-stop_by turns block front [] s ahead old mid new stop stop' is q d e k h = absurd (cc)
SoFar-stop_by turns block front (pair ∷ pairs) s ahead old mid new stop stop' is q d e k h =
    let first = map-first pair pairs s ahead q in
    subst (λ b. Walked (BlockRuns turns b) old new stop') (sym is)
    (Walked-pushed turns (push front (node_of pair.0) pair.1) pairs old new stop'
    (Walked-push d e (subst (λ x. Walked (StatementRuns turns (node_of x)) mid new stop') (sym first.0) k)) h)

pub SoFar-stop : (turns : ℕ) (block : Tree) (s : Statement) (ahead : List Statement) (old mid new : Walk) (stop stop' : Stop) →
    SoFar turns block (s ∷ ahead) old mid stop → Walked (StatementRuns turns (node_of s)) mid new stop' → stop'.ending ≢ Normal →
    Walked (BlockRuns turns block) old new stop'
SoFar-stop turns block s ahead old mid new stop stop' so k h =
    SoFar-stop_by turns block so.front so.pairs s ahead old mid new stop stop' so.is so.statements so.walked so.normal k h

-- out of memory in the next statement: the statements after it make no difference
MeetsPlain-pushed : (turns : ℕ) (front : Tree) (pairs : List (Statement × Span)) (answers : List ℕ) →
    MeetsPlain (BlockRuns turns front) answers → MeetsPlain (BlockRuns turns (pushed front pairs)) answers
MeetsPlain-pushed turns front [] answers m = m
MeetsPlain-pushed turns front (pair ∷ pairs) answers m =
    MeetsPlain-pushed turns (push front (node_of pair.0) pair.1) pairs answers (MeetsPlain-push turns front (node_of pair.0) pair.1 answers m)

SoFar-meets_by : (turns : ℕ) (block front : Tree) (pairs : List (Statement × Span)) (s : Statement) (ahead : List Statement) (old mid : Walk) (stop : Stop) →
    block ≡ pushed front pairs → map (λ pair. pair.0) pairs ≡ s ∷ ahead → Walked (BlockRuns turns front) old mid stop → stop.ending ≡ Normal →
    MeetsPlain (StatementRuns turns (node_of s)) mid.answers.now → MeetsPlain (BlockRuns turns block) old.answers.now
SoFar-meets_by turns block front [] s ahead old mid stop is q d e m = absurd (cc)
SoFar-meets_by turns block front (pair ∷ pairs) s ahead old mid stop is q d e m =
    let first = map-first pair pairs s ahead q in
    let next = push front (node_of pair.0) pair.1 in
    subst (λ b. MeetsPlain (BlockRuns turns b) old.answers.now) (sym is)
    (MeetsPlain-pushed turns next pairs old.answers.now
    (MeetsPlain-joined (BlockRuns turns front) (StatementRuns turns (node_of pair.0)) (BlockRuns turns next) d
    (subst (λ x. MeetsPlain (StatementRuns turns (node_of x)) mid.answers.now) (sym first.0) m)
    (λ a f r p x y. goes_on x (sym p ∙ e) y)))

pub SoFar-meets : (turns : ℕ) (block : Tree) (s : Statement) (ahead : List Statement) (old mid : Walk) (stop : Stop) →
    SoFar turns block (s ∷ ahead) old mid stop → MeetsPlain (StatementRuns turns (node_of s)) mid.answers.now → MeetsPlain (BlockRuns turns block) old.answers.now
SoFar-meets turns block s ahead old mid stop so m =
    SoFar-meets_by turns block so.front so.pairs s ahead old mid stop so.is so.statements so.walked so.normal m

-- after the last statement
pushed-none : (front : Tree) (pairs : List (Statement × Span)) → map (λ pair. pair.0) pairs ≡ [] → pushed front pairs ≡ front
pushed-none front [] q = refl
pushed-none front (pair ∷ pairs) q = absurd (cc)

pub SoFar-finish : (turns : ℕ) (block : Tree) (old new : Walk) (stop : Stop) → SoFar turns block [] old new stop → Walked (BlockRuns turns block) old new stop
SoFar-finish turns block old new stop so =
    subst (λ b. Walked (BlockRuns turns b) old new stop) (sym (so.is ∙ pushed-none so.front so.pairs so.statements)) so.walked

-- the next statement weighs less than the block
pushed-lighter : (front : Tree) (pairs : List (Statement × Span)) (s : Statement) (ahead : List Statement) → map (λ pair. pair.0) pairs ≡ s ∷ ahead →
    node_weight (node_of s) < tree_weight (pushed front pairs)
pushed-lighter front [] s ahead q = absurd (cc)
pushed-lighter front (pair ∷ pairs) s ahead q =
    let first = map-first pair pairs s ahead q in
    subst (λ x. node_weight (node_of x) < tree_weight (pushed front (pair ∷ pairs))) first.0 (node_weight-statement front pair pairs)

pub SoFar-lighter : (turns : ℕ) (block : Tree) (s : Statement) (ahead : List Statement) (old new : Walk) (stop : Stop) →
    SoFar turns block (s ∷ ahead) old new stop → node_weight (node_of s) < tree_weight block
SoFar-lighter turns block s ahead old new stop so =
    subst (λ b. node_weight (node_of s) < tree_weight b) (sym so.is) (pushed-lighter so.front so.pairs s ahead so.statements)
