-- What a run has evaluated, where control goes on after the block.
use Rattle.std.proofs.Common.{◌≡◌, ℕ, Bool, true, false, ◌||◌, inl, inr, List, [], ◌++◌, sym, ◌∙◌, ap, subst}
use Rattle.std.proofs.lemmas.Bool.{or_left}
use Rattle.std.specs.Prelude.{if◌then◌else◌, not}
use Rattle.naga_arena.specs.declared.span.Span.{Span}
use Rattle.naga_ir.specs.Tree.{Tree, empty, push, Node}
use Rattle.naga_runs.specs.Runs.{Run, GoesOn, BlockRuns, nothing, goes_on, stops, StatementRuns, meets, jumps, enters, rejects, accepts, selects, loops, undecided, unselected}
use Rattle.naga_runs.specs.declared.run.Ending.TheVariants.{Normal, Continue}
use Rattle.naga_flow.specs.Results.{evaluated_by}
use Rattle.naga_flow.specs.Uses.{certain, may_be_skipped, values_of, values_of_node}
use Rattle.naga_flow.specs.Events.{events, events_of_statement, evaluated_in}
use Rattle.naga_flow.specs.declared.ways.Ways.{Ways}
use Rattle.naga_flow.specs.Ways.{has_way, may_go_on, ways_of, ways_of_node}
use Rattle.naga_flow.proofs.WaysLemmas.{or_right, BlockRuns-has_way, StatementRuns-has_way}
use Rattle.naga_flow.proofs.EventsLemmas.{evaluated_in-append}
use Rattle.naga_flow.specs.Tracking.{Includes}
use Rattle.naga_flow.proofs.IncludesLemmas.{Includes-chain, Includes-itself, Includes-joined, Includes-left, Includes-nothing}

-- ---- the statements that are executed for certain

-- they are among those of the block
certain-by : (front : Tree) (last : Node) (span : Span) (skipped : Bool) → Includes (values_of front) (values_of (certain front)) →
    Includes (values_of (push front last span)) (values_of (if skipped then certain front else push front last span))
certain-by front last span true h = Includes-left (values_of front) (values_of_node last) h
certain-by front last span false h = Includes-itself

pub certain-Includes : (b : Tree) → Includes (values_of b) (values_of (certain b))
certain-Includes empty = Includes-itself
certain-Includes (push front last span) = certain-by front last span (may_be_skipped (ways_of front) (ways_of_node last)) (certain-Includes front)

certain-skipped : (front : Tree) (last : Node) (span : Span) → may_be_skipped (ways_of front) (ways_of_node last) ≡ true → certain (push front last span) ≡ certain front
certain-skipped front last span h = ap (λ skipped. if skipped then certain front else push front last span) h

may_be_skipped-last : (front last : Ways) → last.continues ≡ true → may_be_skipped front last ≡ true
may_be_skipped-last front last h = or_right (not front.falls_off) (front.continues || last.continues) (or_right front.continues last.continues h)

may_be_skipped-front : (front last : Ways) → front.continues ≡ true → may_be_skipped front last ≡ true
may_be_skipped-front front last h = or_right (not front.falls_off) (front.continues || last.continues) (or_left front.continues last.continues h)

-- ---- what a run evaluates

StatementRuns-evaluates : {n : ℕ} {s : Node} {answers : List ℕ} {run : Run} (d : StatementRuns n s answers run) → Includes (evaluated_in (events_of_statement d)) (values_of_node s)
StatementRuns-evaluates (meets {what = what}) = Includes-left (evaluated_by what) [] Includes-itself
StatementRuns-evaluates jumps = Includes-nothing
StatementRuns-evaluates (enters d) = Includes-nothing
StatementRuns-evaluates undecided = Includes-nothing
StatementRuns-evaluates (rejects d) = Includes-nothing
StatementRuns-evaluates (accepts d) = Includes-nothing
StatementRuns-evaluates unselected = Includes-nothing
StatementRuns-evaluates (selects d) = Includes-nothing
StatementRuns-evaluates (loops d) = Includes-nothing

-- a run that falls off the end has executed all statements
pub BlockRuns-evaluates : {n : ℕ} {b : Tree} {answers : List ℕ} {run : Run} (d : BlockRuns n b answers run) → run.ending ≡ Normal → Includes (evaluated_in (events d)) (values_of b)
BlockRuns-evaluates nothing q = Includes-nothing
BlockRuns-evaluates (goes_on {front = front} {last = last} d e k) q =
    subst (λ xs. Includes xs (values_of front ++ values_of_node last)) (sym (evaluated_in-append (events d) (events_of_statement k)))
    (Includes-joined (values_of front) (evaluated_in (events d)) (values_of_node last) (evaluated_in (events_of_statement k)) (BlockRuns-evaluates d e) (StatementRuns-evaluates k))
BlockRuns-evaluates (stops d e) q = absurd (e q)

-- a run that ends with a continue has executed those that it executes for certain
BlockRuns-evaluates_before : {n : ℕ} {b : Tree} {answers : List ℕ} {run : Run} (d : BlockRuns n b answers run) → run.ending ≡ Continue → Includes (evaluated_in (events d)) (values_of (certain b))
BlockRuns-evaluates_before nothing q = Includes-nothing
BlockRuns-evaluates_before (goes_on {front = front} {last = last} {span = span} d e k) q =
    let skipped = may_be_skipped-last (ways_of front) (ways_of_node last) (sym (ap (has_way (ways_of_node last)) q) ∙ StatementRuns-has_way k) in
    let before : Includes (evaluated_in (events d)) (values_of (certain front)) = Includes-chain (BlockRuns-evaluates d e) (certain-Includes front) in
    subst (λ b. Includes (evaluated_in (events d ++ events_of_statement k)) (values_of b)) (sym (certain-skipped front last span skipped))
    (subst (λ xs. Includes xs (values_of (certain front))) (sym (evaluated_in-append (events d) (events_of_statement k)))
    (Includes-left (evaluated_in (events d)) (evaluated_in (events_of_statement k)) before))
BlockRuns-evaluates_before (stops {front = front} {last = last} {span = span} d e) q =
    let skipped = may_be_skipped-front (ways_of front) (ways_of_node last) (sym (ap (has_way (ways_of front)) q) ∙ BlockRuns-has_way d) in
    subst (λ b. Includes (evaluated_in (events d)) (values_of b)) (sym (certain-skipped front last span skipped)) (BlockRuns-evaluates_before d q)

pub BlockRuns-certain : {n : ℕ} {b : Tree} {answers : List ℕ} {run : Run} (d : BlockRuns n b answers run) → GoesOn run.ending → Includes (evaluated_in (events d)) (values_of (certain b))
BlockRuns-certain {b = b} d (inl q) = Includes-chain (BlockRuns-evaluates d q) (certain-Includes b)
BlockRuns-certain d (inr q) = BlockRuns-evaluates_before d q

-- a run after which a loop goes on ends in one of the ways in which control may go on
pub BlockRuns-may_go_on : {n : ℕ} {b : Tree} {answers : List ℕ} {run : Run} (d : BlockRuns n b answers run) → GoesOn run.ending → may_go_on (ways_of b) ≡ true
BlockRuns-may_go_on {b = b} d (inl q) = or_left (ways_of b).falls_off (ways_of b).continues (sym (ap (has_way (ways_of b)) q) ∙ BlockRuns-has_way d)
BlockRuns-may_go_on {b = b} d (inr q) = or_right (ways_of b).falls_off (ways_of b).continues (sym (ap (has_way (ways_of b)) q) ∙ BlockRuns-has_way d)
