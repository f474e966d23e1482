-- What a walk over a block has found.
use Rattle.std.specs.Prelude.{◌≡◌, ◌≤◌, ℕ, Bool, true, false, not, ◌&&◌, ◌||◌, List, ◌++◌, length, take, Option, option_to_list, ◌⊎◌, Result, Ok, Err, if◌then◌else◌}
use Rattle.naga_arena.specs.declared.span.Span.{Span}
use Rattle.naga_ir.specs.Tree.{Tree, Node, Cases}
use Rattle.naga_flow.specs.Misuses.{BlockMisuse, IsAt, IsUnread, Judged, number_after, number_after_cases, number_after_node}
use Rattle.naga_flow.specs.Scopes.{BlockPasses, CasesPass, NodePasses}
use Rattle.naga_flow.specs.Tracking.{AreSame, Seen, all_known, known_of, scope_of}
use Rattle.naga_flow.specs.Uses.{Expressions, MayUseEach, certain, may_be_skipped, values_of, values_of_node, where_reached}
use Rattle.naga_flow.specs.Ways.{either, followed, may_be_passed, may_go_on, only_off, ways_of, ways_of_cases, ways_of_node}
use Rattle.naga_flow.specs.declared.invalid_use.InvalidUse.{InvalidUse}
use Rattle.naga_flow.specs.declared.invalid_use.Misuse.{Misuse}
use Rattle.naga_flow.specs.declared.walked.Passed.{Passed}
use Rattle.naga_flow.specs.declared.walked.Walked.{Walked}
use Rattle.naga_flow.specs.declared.ways.Ways.{Ways}

-- all statements of the block so far are executed for certain, after one more
abbrev pub still_certain : (is_certain : Bool) (ways last : Ways) → Bool
still_certain is_certain ways last = is_certain && not (may_be_skipped ways last)

abbrev pub next_cut : (still : Bool) (cut len : ℕ) → ℕ
next_cut still cut len = if still then len else cut

-- what has been found after one more statement, when so many expressions are known
abbrev pub walked_on : Walked → Passed → ℕ → Walked
walked_on walked passed len = record {
  next = passed.next;
  ways = followed walked.ways passed.ways;
  certain = next_cut (still_certain walked.is_certain walked.ways passed.ways) walked.certain len;
  is_certain = still_certain walked.is_certain walked.ways passed.ways;
}

-- The statements of `front` have been walked over, beginning with `old` in scope. `now` is in scope after them; its first
-- `certain` elements are what was in scope before and what the statements that are executed for certain evaluate.
pub record HasWalked (expressions : Expressions) (number : ℕ) (old : List Seen) (front : Tree) (walked : Walked) (now : List Seen) : Type 0 where
  pub passes : BlockPasses expressions (known_of old) (scope_of old) front
  pub is : now ≡ old ++ all_known (values_of front)
  pub next : walked.next ≡ number_after number front
  pub ways : walked.ways ≡ ways_of front
  pub cut : take walked.certain now ≡ old ++ all_known (values_of (certain front))
  pub cut_within : walked.certain ≤ length now
  pub all_certain : walked.is_certain ≡ true → certain front ≡ front
  pub some_skipped : walked.is_certain ≡ false → (not walked.ways.falls_off || walked.ways.continues) ≡ true

-- a statement has been walked over
pub record HasPassed (expressions : Expressions) (number : ℕ) (old : List Seen) (node : Node) (passed : Passed) (now : List Seen) : Type 0 where
  pub passes : NodePasses expressions (known_of old) (scope_of old) node
  pub is : now ≡ old ++ all_known (values_of_node node)
  pub next : passed.next ≡ number_after_node number node
  pub ways : passed.ways ≡ ways_of_node node

-- a block inside a statement has been walked over, and what it evaluates is forgotten
pub record HasPassedInner (expressions : Expressions) (number : ℕ) (old : List Seen) (inner : Tree) (passed : Passed) (now : List Seen) : Type 0 where
  pub passes : BlockPasses expressions (known_of old) (scope_of old) inner
  pub unchanged : now ≡ old
  pub next : passed.next ≡ number_after number inner
  pub ways : passed.ways ≡ ways_of inner

-- what has been found of two blocks, one of which is run
abbrev pub either_passed : Passed → Result Passed InvalidUse → Result Passed InvalidUse
either_passed first (Ok second) = Ok (record { next = second.next; ways = either first.ways second.ways })
either_passed first (Err error) = Err error

-- what has been found of a statement that passes, or the error
abbrev pub passed_if : Result (Unit {0}) InvalidUse → (next : ℕ) → Ways → Result Passed InvalidUse
passed_if (Ok done) next ways = Ok (record { next = next; ways = ways })
passed_if (Err error) next ways = Err error

-- a block of a loop has been walked over; what it evaluates stays in scope, and only what it evaluates for certain is known
pub record HasKept (expressions : Expressions) (number : ℕ) (old : List Seen) (block : Tree) (passed : Passed) (now : List Seen) : Type 0 where
  pub passes : BlockPasses expressions (known_of old) (scope_of old) block
  pub starts : take (length old) now ≡ old
  pub within : length old ≤ length now
  pub known : AreSame (known_of now) (values_of (certain block) ++ known_of old)
  pub scope : AreSame (scope_of now) (values_of block ++ scope_of old)
  pub next : passed.next ≡ number_after number block
  pub ways : passed.ways ≡ ways_of block

-- the bodies of the cases of a switch have been walked over
pub record HasPassedCases (expressions : Expressions) (number : ℕ) (old : List Seen) (cases : Cases) (passed : Passed) (now : List Seen) : Type 0 where
  pub passes : CasesPass expressions (known_of old) (scope_of old) cases
  pub unchanged : now ≡ old
  pub next : passed.next ≡ number_after_cases number cases
  pub ways : passed.ways ≡ either (only_off (may_be_passed cases)) (ways_of_cases cases)

-- an error is passed on, or what was found before is followed by the result, as this says
abbrev pub IfPassed : (before result : Result Passed InvalidUse) → (Passed → Type 0) → Type 0
IfPassed (Err error) result Q = result ≡ Err error
IfPassed (Ok passed) result Q = Q passed

-- the end of a branch, after what was found of the first of its blocks
pub record EndsBranch (expressions : Expressions) (accepted : Passed) (old : List Seen) (reject : Tree) (result : Result Passed InvalidUse) (now : List Seen) : Type 0 where
  pub rejected : Result Passed InvalidUse
  pub judged :
      Judged rejected (λ passed. HasPassedInner expressions accepted.next old reject passed now)
      (BlockMisuse expressions accepted.next (known_of old) (scope_of old) reject)
  pub both : result ≡ either_passed accepted rejected

-- the continuing block of a loop has been walked over, so that these are in scope, after what was found of the body
pub record HasContinued (after : Expressions) (repeated : Passed) (old : List Seen) (continuing : Tree) : Type 0 where
  pub continued : Passed
  pub now : List Seen
  pub kept : HasKept after repeated.next old continuing continued now

-- the loop has been walked over, and what it evaluates is forgotten
pub record HasEnded (after : Expressions) (before : ℕ) (repeated : Passed) (old : List Seen) (continuing : Tree) (break_if : Option ℕ) (passed : Passed) (new : List Seen) : Type 0 where
  pub before_it : HasContinued after repeated old continuing
  pub used : MayUseEach after (known_of before_it.now) (option_to_list break_if)
  pub passed_is : passed ≡ record { next = before_it.continued.next; ways = only_off true }
  pub forgotten : new ≡ take before before_it.now

-- the first misuse is that of the break condition
pub record BreaksWrong (after : Expressions) (number : ℕ) (span : Span) (repeated : Passed) (old : List Seen) (continuing : Tree) (break_if : Option ℕ) (misuse : Misuse) : Type 0 where
  pub before_it : HasContinued after repeated old continuing
  pub at : IsAt number span misuse
  pub unread : IsUnread after (known_of before_it.now) (option_to_list break_if) misuse

-- the end of a loop, after what was found of its body: its continuing block and its break condition
abbrev pub EndsLoop : Expressions → ℕ → Span → (before : ℕ) → Passed → (old : List Seen) → (continuing : Tree) → Option ℕ → Result Passed InvalidUse → (new : List Seen) → Type 0
EndsLoop expressions number span before repeated old continuing break_if result new =
    let after = where_reached (may_go_on repeated.ways) expressions in
    Judged result
    (λ passed. HasEnded after before repeated old continuing break_if passed new)
    (λ misuse. BlockMisuse after repeated.next (known_of old) (scope_of old) continuing misuse ⊎ BreaksWrong after number span repeated old continuing break_if misuse)
