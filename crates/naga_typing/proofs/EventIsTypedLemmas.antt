-- Each event of a run of a typed body uses each value at its type.
use Rattle.std.proofs.Common.{◌≡◌, ℕ, zero, suc, List, [], ◌∷◌, ◌++◌, Option, Some, None, inl, inr, refl, subst, sym}
use Rattle.std.specs.List.{AllByRecursion}
use Rattle.std.specs.Prelude.{All}
use Rattle.std.proofs.lemmas.List.Elements.{All-head}
use Rattle.naga_arena.specs.declared.span.Span.{Span}
use Rattle.naga_kinds.specs.declared.scalar.Scalar.{Scalar}
use Rattle.naga_kinds.specs.declared.scalar.TheConstants.Scalar.{BOOL, I32, U32}
use Rattle.naga_ir.specs.Tree.{Tree, Node, Jump, break, continue, kill, return, Cases, no_cases, case}
use Rattle.naga_runs.specs.Runs.{Run, from, Asks, not_asked, unanswered, says_no, says_yes, BlockRuns, nothing, goes_on, stops, StatementRuns, meets, jumps, enters, rejects, accepts, selects, loops, CasesRun, past, falls, broken, ends, passed_on, LoopRuns, no_turn, again, left, over, TurnRuns, in_body, in_continuing, whole, undecided, unselected}
use Rattle.naga_flow.specs.Events.{Event, events, events_of_statement, events_of_cases, events_of_loop, events_of_turn, events_of_jump, events_of_asking}
use Rattle.naga_flow.proofs.AllLemmas.{All-both}
use Rattle.naga_typifier.specs.Context.{Context}
use Rattle.naga_typifier.specs.declared.resolution.TypeResolution.{TypeResolution}
use Rattle.naga_typing.specs.Requirements.{Fits, Has, Signature, sized_type}
use Rattle.naga_typing.specs.Runs.{EventIsTyped, Selects}
use Rattle.naga_typing.specs.Statements.{BodyIsTyped, EntryFits, integer, of_cases, of_jump, of_type, of_type_if, required_by, statements, statements_inside, statements_of_cases}
use Rattle.naga_typing.specs.declared.requirement.Requirement.{Requirement}
use Rattle.naga_typing.specs.declared.requirement.Source.TheVariants as source
use Rattle.naga_typing.proofs.StatementsLemmas.{each-before, each-here, each-inside}

module _ (ctx : Context) (known : ℕ → Option TypeResolution) (signature : Signature) where
  abbrev Typed : List Event → Type 0
  Typed = AllByRecursion (EventIsTyped ctx known signature)

  abbrev fits : Option Requirement → Type 0
  fits = Fits ctx known signature

  abbrev P : Node × Span → Type 0
  P = EntryFits fits

  abbrev Condition : ℕ → Type 0
  Condition handle = Has ctx known signature handle (sized_type None BOOL)

  abbrev Selector : ℕ → Type 0
  Selector handle = (scalar : Scalar) × Has ctx known signature handle (sized_type None scalar) × Selects ctx known signature scalar

  joined-typed : (xs ys : List Event) → Typed xs → Typed ys → Typed (xs ++ ys)
  joined-typed [] ys h k = k
  joined-typed (x ∷ xs) ys h k = (h.0, joined-typed xs ys h.1 k)

  from-typed : (k : ℕ) (cases : Cases) → All P (statements_of_cases cases) → All P (statements_of_cases (from k cases))
  from-typed zero cases h = h
  from-typed (suc k) no_cases h = h
  from-typed (suc k) (case value body falls_through others) h = from-typed k others (All-both P (statements body) (statements_of_cases others) h).1

  jump-typed : (to : Jump) → All fits (of_jump to) → Typed (events_of_jump to)
  jump-typed break h = tt
  jump-typed continue h = tt
  jump-typed kill h = tt
  jump-typed (return None) h = tt
  jump-typed (return (Some value)) h = (h, tt)

  Some-one : {X : Type 0} {x y : X} → Some x ≡ Some y → x ≡ y
  Some-one e = cc

  truth : (handle : ℕ) → fits (of_type (source.Scalar BOOL) handle) → Condition handle
  truth handle h = subst (Has ctx known signature handle) (sym (Some-one h.1)) h.2

  selects-typed : (handle : ℕ) → fits (integer handle) → Selector handle
  selects-typed handle (inl h) = (I32, h, inl refl)
  selects-typed handle (inr h) = (U32, h, inr refl)

  first-of : (x : Option Requirement) (xs : List (Option Requirement)) → All fits (x ∷ xs) → fits x
  first-of x xs h = All-head fits x xs h

  asked-typed : {break_if : Option ℕ} {answers : List ℕ} {run : Run} (d : Asks break_if answers run) → fits (of_type_if (source.Scalar BOOL) break_if) → Typed (events_of_asking d)
  asked-typed not_asked h = tt
  asked-typed (unanswered {condition = c}) h = (truth c h, tt)
  asked-typed (says_no {condition = c}) h = (truth c h, tt)
  asked-typed (says_yes {condition = c}) h = (truth c h, tt)

  mutual
    pub block-typed : {n : ℕ} {b : Tree} {answers : List ℕ} {run : Run} (d : BlockRuns n b answers run) → BodyIsTyped ctx known signature b → Typed (events d)
    block-typed nothing h = tt
    block-typed (goes_on {front = front} {last = last} {span = span} d e k) h =
        joined-typed (events d) (events_of_statement k) (block-typed d (each-before P front last span h))
        (statement-typed k (each-here P front last span h) (each-inside P front last span h))
    block-typed (stops {front = front} {last = last} {span = span} d e) h = block-typed d (each-before P front last span h)

    statement-typed : {n : ℕ} {s : Node} {answers : List ℕ} {run : Run} (d : StatementRuns n s answers run) → All fits (required_by s) → All P (statements_inside s) → Typed (events_of_statement d)
    statement-typed meets h k = (h, tt)
    statement-typed (jumps {to = to}) h k = jump-typed to h
    statement-typed (enters d) h k = block-typed d k
    statement-typed (undecided {condition = c}) h k = (truth c (first-of (of_type (source.Scalar BOOL) c) [] h), tt)
    statement-typed (rejects {condition = c} {accept = a} {reject = r} d) h k = (truth c (first-of (of_type (source.Scalar BOOL) c) [] h), block-typed d (All-both P (statements a) (statements r) k).1)
    statement-typed (accepts {condition = c} {accept = a} {reject = r} d) h k = (truth c (first-of (of_type (source.Scalar BOOL) c) [] h), block-typed d (All-both P (statements a) (statements r) k).0)
    statement-typed (unselected {selector = s} {cases = cases}) h k = (selects-typed s (first-of (integer s) (of_cases s cases) h), tt)
    statement-typed (selects {selector = s} {cases = cases} d) h k = (selects-typed s (first-of (integer s) (of_cases s cases) h), cases-typed d (from-typed _ cases k))
    statement-typed (loops {body = b} {continuing = c} {break_if = break_if} d) h k =
        let parts = All-both P (statements b) (statements c) k in loop-typed d parts.0 parts.1 (first-of (of_type_if (source.Scalar BOOL) break_if) [] h)

    cases-typed : {n : ℕ} {cases : Cases} {answers : List ℕ} {run : Run} (d : CasesRun n cases answers run) → All P (statements_of_cases cases) → Typed (events_of_cases d)
    cases-typed past h = tt
    cases-typed (falls {body = b} {others = others} d e k) h =
        let parts = All-both P (statements b) (statements_of_cases others) h in joined-typed (events d) (events_of_cases k) (block-typed d parts.0) (cases-typed k parts.1)
    cases-typed (broken {body = b} {others = others} d e) h = block-typed d (All-both P (statements b) (statements_of_cases others) h).0
    cases-typed (ends {body = b} {others = others} d e) h = block-typed d (All-both P (statements b) (statements_of_cases others) h).0
    cases-typed (passed_on {body = b} {others = others} d e k) h = block-typed d (All-both P (statements b) (statements_of_cases others) h).0

    loop-typed : {n others : ℕ} {b c : Tree} {break_if : Option ℕ} {answers : List ℕ} {run : Run} (d : LoopRuns n others b c break_if answers run)
        → BodyIsTyped ctx known signature b → BodyIsTyped ctx known signature c → fits (of_type_if (source.Scalar BOOL) break_if) → Typed (events_of_loop d)
    loop-typed no_turn h k l = tt
    loop-typed (again d e t) h k l = joined-typed (events_of_turn d) (events_of_loop t) (turn-typed d h k l) (loop-typed t h k l)
    loop-typed (left d e) h k l = turn-typed d h k l
    loop-typed (over d e t) h k l = turn-typed d h k l

    turn-typed : {n : ℕ} {b c : Tree} {break_if : Option ℕ} {answers : List ℕ} {run : Run} (d : TurnRuns n b c break_if answers run)
        → BodyIsTyped ctx known signature b → BodyIsTyped ctx known signature c → fits (of_type_if (source.Scalar BOOL) break_if) → Typed (events_of_turn d)
    turn-typed (in_body d e) h k l = block-typed d h
    turn-typed (in_continuing d e t u) h k l = joined-typed (events d) (events t) (block-typed d h) (block-typed t k)
    turn-typed (whole d e t u asks) h k l =
        joined-typed (events d) (events t ++ events_of_asking asks) (block-typed d h)
        (joined-typed (events t) (events_of_asking asks) (block-typed t k) (asked-typed asks l))
