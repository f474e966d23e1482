-- The reader's fields as a state of reading. No public clause cites this module.
use Rattle.std.specs.Prelude.{◌≡◌, ◌≤◌, ℕ, List, ◌∷◌, map, reverse, Bool, true, false, Option, Some, None, Result, Ok, Err, IfSome, option_and_then}
use Rattle.naga_ir.specs.Tree.{Tree, Node, empty, Cases as CaseTrees}
use Rattle.naga_ir.specs.View.{tree_of, cases_of}
use Rattle.naga_notation.specs.Limits.{most_bytes}
use Rattle.naga_notation.specs.Outline.{case_count, value_after, with_case}
use Rattle.naga_notation.specs.declared.error.NotationError.{NotationError}
use Rattle.naga_notation.specs.declared.error.NotationError.TheVariants.{Unexpected}
use Rattle.naga_notation.specs.declared.reader.Part.{Part}
use Rattle.naga_notation.specs.declared.reader.Part.TheVariants.{Block, Accept, Reject, Body, Continuing}
use Rattle.naga_notation.specs.declared.reader.Place.{Place}
use Rattle.naga_notation.specs.declared.reader.Place.TheVariants.{Part as OfPart, Case}
use Rattle.naga_notation.specs.declared.reader.Begun.{Begun}
use Rattle.naga_notation.specs.declared.reader.Begun.TheVariants.{Nothing, Part as AwaitsPart, Switch, Cases, DefaultCase, FallThrough}
use Rattle.naga_notation.specs.declared.reader.Outer.{Outer}
use Rattle.naga_notation.specs.declared.reader.Reader.{Reader}
use Rattle.naga_notation.specs.declared.sign.Sign.{Sign}
use Rattle.naga_notation.specs.Reading.State.{in_block, in_accept, in_reject, in_body, in_continuing, of_part, of_case, awaiting, switching, listing, defaulting}
use Rattle.naga_notation.specs.Reading as reading

abbrev pub part_of : Part → reading.Part
part_of Block = in_block
part_of Accept = in_accept
part_of (Reject accept) = in_reject (tree_of accept)
part_of (Body break_if) = in_body break_if
part_of (Continuing body break_if) = in_continuing (tree_of body) break_if

abbrev pub place_of : Place → reading.Place
place_of (OfPart part) = of_part (part_of part)
place_of (Case before value) = of_case (cases_of before.items, value)

abbrev pub outer_of : Outer → reading.Outer
outer_of outer = record { statements = tree_of outer.statements; place = place_of outer.place }

-- the open blocks around the innermost one, innermost first
abbrev pub outers_of : List Outer → List reading.Outer
outers_of outers = reverse (map outer_of outers)

-- the open blocks after one has opened at this place in the next statement of the innermost block
abbrev pub inside : List reading.Outer → Tree → reading.Place → List reading.Outer
inside outers current place = record { statements = current; place = place } ∷ outers

-- what has begun in a list of cases, by whether the next case is the default one
abbrev pub next_case : Bool → CaseTrees → reading.Begun
next_case false cases = listing cases
next_case true cases = defaulting cases

-- the state in the list of cases around the innermost block, whose statements have no meaning
abbrev pub in_cases : Bool → List reading.Outer → Option reading.Reached
in_cases is_default outers = reading.in_list (λ case. next_case is_default case.0) outers

-- the open blocks around the reader's innermost block, innermost first
abbrev pub around : Reader → List reading.Outer
around reader = outers_of reader.outers.items

-- the state of reading, if this part is the one that comes next
abbrev pub reached_after : List reading.Outer → Tree → reading.Part → Begun → Option reading.Reached
reached_after outers current part Nothing = Some (reading.at_statement outers current)
reached_after outers current part AwaitsPart = Some (reading.begun_at outers current (awaiting part))
reached_after outers current part Switch = Some (reading.begun_at outers current switching)
reached_after outers current part Cases = in_cases false outers
reached_after outers current part DefaultCase = in_cases true outers
reached_after outers current part FallThrough = reading.case_ended outers current

-- the state of reading, or `None` if a list of cases has begun around a block that is not the body of a case
abbrev pub reached_of : Reader → Option reading.Reached
reached_of reader = reached_after (around reader) (tree_of reader.current) (part_of reader.part) reader.begun

-- the state in which `begun` has begun after the statements of the innermost block
abbrev pub with_begun : Reader → reading.Begun → reading.Reached
with_begun reader begun = reading.begun_at (around reader) (tree_of reader.current) begun

-- the state after one more statement
abbrev pub with_statement : Reader → Node → reading.Reached
with_statement reader last = reading.after_statement (around reader) (tree_of reader.current) last

-- the state after a part of a statement
abbrev pub with_part : Reader → reading.Part → Tree → reading.Reached
with_part reader part inner = reading.after_part (around reader) (tree_of reader.current) part inner

-- the state after a block has opened at this place, in which the same as before has begun
abbrev pub with_place : Reader → reading.Place → Option reading.Reached
with_place reader place =
    reached_after (inside (around reader) (tree_of reader.current) place) empty (part_of reader.part) reader.begun

-- the state after one more sign, or `None` if there is no state, no sign, or the sign may not follow
abbrev pub advanced : Option reading.Reached → Option Sign → Option reading.Reached
advanced reached sign = option_and_then (λ (before : reading.Reached). reading.after_sign before sign) reached

-- an open list of cases has at most as many cases as a text may have bytes
abbrev pub HasFewCases : Option reading.Reached → Type 0
HasFewCases reached = IfSome reached (λ (before : reading.Reached). reading.cases_begun before.begun ≤ most_bytes)

-- what was expected has been reached
abbrev pub IsReached : {S : Type 0} → Option S → Option S → Type 0
IsReached None expected = ⊥
IsReached (Some reached) expected = Some reached ≡ expected

-- What was `expected` has been reached, unless reading failed. A sign is unexpected only if nothing was expected.
abbrev pub Reaches : {T S : Type 0} → Result T NotationError → Option S → Option S → Type 0
Reaches (Ok done) reached expected = IsReached reached expected
Reaches (Err error) reached expected = error ≡ Unexpected → None ≡ expected

abbrev pub is_case : reading.Place → Bool
is_case (of_part part) = false
is_case (of_case case) = true

-- the number of cases before the one at a place
abbrev pub cases_at : reading.Place → ℕ
cases_at (of_part part) = 0
cases_at (of_case case) = case_count case.0

-- the place with the value of the next case, if it is in a list of cases
abbrev pub numbered : Bool → reading.Place → Option reading.Place
numbered is_default (of_part part) = None
numbered is_default (of_case case) = Some (of_case (case.0, value_after case.0 is_default))

-- the place with one more case, after the body of that case has closed, if it is in a list of cases
abbrev pub grown : Bool → Tree → reading.Place → Option reading.Place
grown falls_through body (of_part part) = None
grown falls_through body (of_case case) = Some (of_case (with_case case.0 case.1 body falls_through, case.1))
