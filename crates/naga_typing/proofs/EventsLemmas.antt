-- The event of the value that a run returns.
use Rattle.std.proofs.Common.{◌≡◌, ◌∙◌, sym, ap, subst, refl, append_assoc, ℕ, List, [], ◌∷◌, ◌++◌, Option, Some, None}
use Rattle.std.specs.List.{AllByRecursion}
use Rattle.naga_ir.specs.Tree.{Tree, Node, Cases, break, continue, kill, return}
use Rattle.naga_runs.specs.Runs.{Run, Asks, not_asked, unanswered, says_no, says_yes, BlockRuns, nothing, goes_on, stops, StatementRuns, meets, jumps, enters, undecided, rejects, accepts, unselected, selects, loops}
use Rattle.naga_runs.specs.Runs.{CasesRun, past, falls, broken, ends, passed_on, LoopRuns, no_turn, again, left, over, TurnRuns, in_body, in_continuing, whole}
use Rattle.naga_runs.specs.declared.run.Ending.TheVariants.{Return}
use Rattle.naga_flow.specs.Events.{Event, returned, events, events_of_asking, events_of_cases, events_of_loop, events_of_statement, events_of_turn}

-- ---- one event among others

pub at-split : (P : Event → Type 0) (before : List Event) (event : Event) (later : List Event) → AllByRecursion P (before ++ event ∷ later) → P event
at-split P [] event later h = h.0
at-split P (other ∷ before) event later h = at-split P before event later h.1

pub after-split : (P : Event → Type 0) (before later : List Event) → AllByRecursion P (before ++ later) → AllByRecursion P later
after-split P [] later h = h
after-split P (other ∷ before) later h = after-split P before later h.1

pub all-joined : (P : Event → Type 0) (xs ys : List Event) → AllByRecursion P xs → AllByRecursion P ys → AllByRecursion P (xs ++ ys)
all-joined P [] ys h k = k
all-joined P (x ∷ xs) ys h k = (h.0, all-joined P xs ys h.1 k)

-- ---- the value that is returned

-- the value is returned by one of these events
abbrev pub IsReturnedIn : List Event → ℕ → Type 0
IsReturnedIn happened handle = (before : List Event) × (later : List Event) × (happened ≡ before ++ returned handle ∷ later)

in-front : {handle : ℕ} (xs ys : List Event) → IsReturnedIn ys handle → IsReturnedIn (xs ++ ys) handle
in-front {handle} xs ys r = (xs ++ r.0, r.1, ap (λ zs. xs ++ zs) r.2 ∙ sym (append_assoc xs r.0 (returned handle ∷ r.1)))

next : {handle : ℕ} (x : Event) (ys : List Event) → IsReturnedIn ys handle → IsReturnedIn (x ∷ ys) handle
next x ys r = in-front (x ∷ []) ys r

same-returned : {value handle : ℕ} → Return (Some value) ≡ Return (Some handle) → value ≡ handle
same-returned is = cc

asks-returned : {handle : ℕ} {break_if : Option ℕ} {answers : List ℕ} {run : Run} (d : Asks break_if answers run) → run.ending ≡ Return (Some handle) → IsReturnedIn (events_of_asking d) handle
asks-returned not_asked is = absurd (cc)
asks-returned unanswered is = absurd (cc)
asks-returned says_no is = absurd (cc)
asks-returned says_yes is = absurd (cc)

mutual
  -- a run that returns a value has this event
  pub block-returned : {handle n : ℕ} {b : Tree} {answers : List ℕ} {run : Run} (d : BlockRuns n b answers run) → run.ending ≡ Return (Some handle) → IsReturnedIn (events d) handle
  block-returned nothing is = absurd (cc)
  block-returned (goes_on d e k) is = in-front (events d) (events_of_statement k) (node-returned k is)
  block-returned (stops d e) is = block-returned d is

  node-returned : {handle n : ℕ} {node : Node} {answers : List ℕ} {run : Run} (d : StatementRuns n node answers run) → run.ending ≡ Return (Some handle) → IsReturnedIn (events_of_statement d) handle
  node-returned meets is = absurd (cc)
  node-returned (jumps {to = break}) is = absurd (cc)
  node-returned (jumps {to = continue}) is = absurd (cc)
  node-returned (jumps {to = kill}) is = absurd (cc)
  node-returned (jumps {to = return None}) is = absurd (cc)
  node-returned (jumps {to = return (Some value)}) is = subst (IsReturnedIn (returned value ∷ [])) (same-returned is) ([], [], refl)
  node-returned (enters d) is = block-returned d is
  node-returned undecided is = absurd (cc)
  node-returned (rejects d) is = next _ (events d) (block-returned d is)
  node-returned (accepts d) is = next _ (events d) (block-returned d is)
  node-returned unselected is = absurd (cc)
  node-returned (selects d) is = next _ (events_of_cases d) (cases-returned d is)
  node-returned (loops d) is = loop-returned d is

  cases-returned : {handle n : ℕ} {cases : Cases} {answers : List ℕ} {run : Run} (d : CasesRun n cases answers run) → run.ending ≡ Return (Some handle) → IsReturnedIn (events_of_cases d) handle
  cases-returned past is = absurd (cc)
  cases-returned (falls d e k) is = in-front (events d) (events_of_cases k) (cases-returned k is)
  cases-returned (broken d e) is = absurd (cc)
  cases-returned (ends d e) is = block-returned d is
  cases-returned (passed_on d e k) is = block-returned d is

  loop-returned : {handle n k : ℕ} {body continuing : Tree} {break_if : Option ℕ} {answers : List ℕ} {run : Run} (d : LoopRuns n k body continuing break_if answers run) → run.ending ≡ Return (Some handle) → IsReturnedIn (events_of_loop d) handle
  loop-returned no_turn is = absurd (cc)
  loop-returned (again d e l) is = in-front (events_of_turn d) (events_of_loop l) (loop-returned l is)
  loop-returned (left d e) is = absurd (cc)
  loop-returned (over d e l) is = turn-returned d is

  turn-returned : {handle n : ℕ} {body continuing : Tree} {break_if : Option ℕ} {answers : List ℕ} {run : Run} (d : TurnRuns n body continuing break_if answers run) → run.ending ≡ Return (Some handle) → IsReturnedIn (events_of_turn d) handle
  turn-returned (in_body d e) is = block-returned d is
  turn-returned (in_continuing d e k l) is = in-front (events d) (events k) (block-returned k is)
  turn-returned (whole d e k l t) is = in-front (events d) (events k ++ events_of_asking t) (in-front (events k) (events_of_asking t) (asks-returned t is))
