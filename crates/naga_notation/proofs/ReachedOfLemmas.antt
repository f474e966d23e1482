-- How changes to the reader's fields change the state of reading.
use Rattle.std.proofs.Common.{◌≡◌, ℕ, suc, ◌+◌, ◌-◌, ◌≤◌, ◌<◌, List, [], ◌∷◌, ◌++◌, length, ◌==◌, take, get_or, refl, ap, ◌∙◌, sym, subst, map, reverse, Vec, Bool, true, false, Option, Some, None, arith}
use Rattle.std.specs.declared.alloc.Global.{Global}
use Rattle.std.proofs.lemmas.List.{map-append, reverse-append, length-take-le, nil_from_length, take_more, take_all}
use Rattle.std.proofs.lemmas.Bool.{eqb-true}
use Rattle.std.proofs.Math.ListN.{set}
use Rattle.std.proofs.Math.Seq.{set-append_seam}
use Rattle.naga_arena.specs.Span.{undefined}
use Rattle.naga_kinds.specs.declared.switch.SwitchValue.{SwitchValue}
use Rattle.naga_ir.specs.Block.{pairs}
use Rattle.naga_ir.specs.Tree.{Tree, Cases, push, empty, switch}
use Rattle.naga_ir.specs.View.{node_of, tree, tree_of, cases_of}
use Rattle.naga_ir.specs.declared.block.Block.{Block}
use Rattle.naga_ir.specs.declared.statement.Statement.{Statement}
use Rattle.naga_ir.specs.declared.statement.Statement as variant
use Rattle.naga_ir.specs.declared.statement.SwitchCase.{SwitchCase}
use Rattle.naga_ir.proofs.NodeOfLemmas.{node_of-Block, node_of-If, node_of-Loop, node_of-Switch}
use Rattle.naga_ir.proofs.PushedLemmas.{tree-push}
use Rattle.naga_notation.specs.Limits.{most_bytes}
use Rattle.naga_notation.specs.declared.reader.Begun.{Begun}
use Rattle.naga_notation.specs.declared.reader.Begun.TheVariants.{Nothing}
use Rattle.naga_notation.specs.declared.reader.Outer.{Outer}
use Rattle.naga_notation.specs.declared.reader.Part.{Part}
use Rattle.naga_notation.specs.declared.reader.Reader.{Reader}
use Rattle.naga_notation.specs.declared.reader.Place.{Place}
use Rattle.naga_notation.specs.declared.reader.Place.TheVariants.{Case}
use Rattle.naga_notation.specs.declared.sign.Sign.TheVariants.{OpenCase, CloseCases}
use Rattle.naga_notation.specs.Outline.{case_count, with_case}
use Rattle.naga_notation.specs.Reading.State.{of_part, of_case}
use Rattle.naga_notation.specs.Reading.Reader.{part_of, place_of, outer_of, outers_of, reached_after, reached_of, inside, next_case, in_cases, advanced, IsReached, cases_at, numbered, grown}
use Rattle.naga_notation.specs.Reading.{Reached, at_statement, after_statement, list_at, case_closed, read}
use Rattle.naga_notation.specs.Reading as reading

-- appending an open block, which becomes the innermost one
pub outers_of-push : (outers : List Outer) (last : Outer) → outers_of (outers ++ last ∷ []) ≡ outer_of last ∷ outers_of outers
outers_of-push outers last =
    ap reverse (map-append outer_of outers (last ∷ [])) ∙ reverse-append (map outer_of outers) (outer_of last ∷ [])

-- appending a statement
pub tree_of-push : (before after : Block) (statement : Statement) → pairs after ≡ pairs before ++ (statement, undefined) ∷ [] → tree_of after ≡ push (tree_of before) (node_of statement) undefined
tree_of-push before after statement is = ap tree is ∙ tree-push (pairs before) statement undefined

pub tree_of-empty : (block : Block) → pairs block ≡ [] → tree_of block ≡ Tree.empty
tree_of-empty block is = ap tree is

pub tree_of-none : (block : Block) → (length (pairs block) == 0) ≡ true → tree_of block ≡ Tree.empty
tree_of-none block none = tree_of-empty block (nil_from_length (pairs block) (eqb-true (length (pairs block)) 0 none))

-- appending a case
pub cases_of-push : (cases : List SwitchCase) (last : SwitchCase) → cases_of (cases ++ last ∷ []) ≡ with_case (cases_of cases) last.value (tree_of last.body) last.fall_through
cases_of-push [] last = refl
cases_of-push (first ∷ rest) last = ap (Cases.case first.value (tree_of first.body) first.fall_through) (cases_of-push rest last)

pub case_count-cases_of : (cases : List SwitchCase) → case_count (cases_of cases) ≡ length cases
case_count-cases_of [] = refl
case_count-cases_of (first ∷ rest) = ap suc (case_count-cases_of rest)

-- the state of a reader with one more statement in its innermost block
pub reached-push : (outers : Vec Outer Global) (before after : Block) (begun : Begun) (part : Part) (statement : Statement) → begun ≡ Nothing → pairs after ≡ pairs before ++ (statement, undefined) ∷ [] → reached_of (record { outers = outers; current = after; begun = begun; part = part }) ≡ Some (after_statement (outers_of outers.items) (tree_of before) (node_of statement))
reached-push outers before after begun part statement is grown =
    λ i. reached_after (outers_of outers.items) (tree_of-push before after statement grown i) (part_of part) (is i)

pub IsReached-is : {S : Type 0} (reached expected : Option S) (state : S) → reached ≡ Some state → Some state ≡ expected → IsReached reached expected
IsReached-is reached expected state is leads = subst (λ r. IsReached r expected) (sym is) leads

-- if few cases are before the one at a place, their list is short
pub cases_at-few : (place : Place) (cases : Vec SwitchCase Global) (value : SwitchValue) → place ≡ Case cases value → cases_at (place_of place) ≤ most_bytes → length cases.items ≤ most_bytes
cases_at-few place cases value is few =
    let same : cases_at (place_of place) ≡ length cases.items = ap (λ p. cases_at (place_of p)) is ∙ case_count-cases_of cases.items in
    omega (arith, same, few)

-- ---- a reader that has read a text

-- the reader is in the state that the text leads to
pub record IsAt (reader : Reader) (text : List ℕ) : Type 0 where
  pub state : Reached
  pub is : reached_of reader ≡ Some state
  pub leads : read text ≡ Some state

-- what has been reached is a state
pub IsReached-some : {S : Type 0} (reached expected : Option S) → IsReached reached expected → (state : S) × (reached ≡ Some state) × (expected ≡ Some state)
IsReached-some None expected reaches = absurd reaches
IsReached-some (Some state) expected reaches = (state, refl, sym reaches)

-- ---- the last of the outer blocks

-- `last` is the last of the `count` blocks
pub record IsLast (outers : List Outer) (count : ℕ) (last : Outer) : Type 0 where
  pub counted : count ≡ length outers
  pub some : 0 < count
  pub is : last ≡ get_or outers (count - 1) last

take-IsLast : (outers : List Outer) (count : ℕ) (d : Outer) → count ≡ length outers → 0 < count → outers ≡ take (count - 1) outers ++ get_or outers (count - 1) d ∷ []
take-IsLast outers count d counted some =
    sym (take_all (count - 1 + 1) outers (omega (arith, counted, some))) ∙ take_more outers (count - 1) d (omega (arith, counted, some))

outers_of-last : (outers : List Outer) (count : ℕ) (last : Outer) → IsLast outers count last → outers_of outers ≡ outer_of last ∷ outers_of (take (count - 1) outers)
outers_of-last outers count last h =
    ap outers_of (take-IsLast outers count last h.counted h.some ∙ ap (λ x. take (count - 1) outers ++ x ∷ []) (sym h.is)) ∙ outers_of-push (take (count - 1) outers) last

-- replacing the last block
outers_of-set : (outers : List Outer) (count : ℕ) (last other : Outer) → IsLast outers count last → outers_of (set outers (count - 1) other) ≡ outer_of other ∷ outers_of (take (count - 1) outers)
outers_of-set outers count last other h =
    let front : List Outer = take (count - 1) outers in
    let counted : count ≡ length outers = h.counted in
    let n : length front ≡ count - 1 = length-take-le (count - 1) outers (omega (arith, counted)) in
    ap outers_of (
    ap (λ xs. set xs (count - 1) other) (take-IsLast outers count last h.counted h.some)
    ∙ ap (λ i. set (front ++ get_or outers (count - 1) last ∷ []) i other) (sym n)
    ∙ set-append_seam front (get_or outers (count - 1) last) [] other
    )
    ∙ outers_of-push front other

-- ---- an open list of cases, at the place of the last outer block

-- the states in the block that opens at a place, and in the list of cases at a place, where there is one
abbrev opens_at : List reading.Outer → Tree → Option reading.Place → Option Reached
opens_at outers before None = None
opens_at outers before (Some place) = Some (at_statement (inside outers before place) empty)

abbrev cases_in : Bool → List reading.Outer → Tree → reading.Place → Option Reached
cases_in is_default outers before place = list_at (λ case. next_case is_default case.0) outers before place

abbrev lists_at : List reading.Outer → Tree → Option reading.Place → Option Reached
lists_at outers before None = None
lists_at outers before (Some place) = cases_in false outers before place

open_case-at : (is_default : Bool) (outers : List reading.Outer) (before : Tree) (place next : reading.Place) → Some next ≡ numbered is_default place → Some (at_statement (inside outers before next) empty) ≡ advanced (cases_in is_default outers before place) (Some OpenCase)
open_case-at is_default outers before (of_part part) next numbers = absurd cc
open_case-at false outers before (of_case case) next numbers = ap (opens_at outers before) numbers
open_case-at true outers before (of_case case) next numbers = ap (opens_at outers before) numbers

-- the state after the body of the next case has opened
pub open_case-is : (is_default : Bool) (outers : List Outer) (count : ℕ) (last : Outer) (place : Place) (current : Tree) → IsLast outers count last → Some (place_of place) ≡ numbered is_default (place_of last.place) → current ≡ empty → Some (at_statement (outers_of (set outers (count - 1) (record { statements = last.statements; place = place }))) current) ≡ advanced (in_cases is_default (outers_of outers)) (Some OpenCase)
open_case-is is_default outers count last place current h numbers is =
    ap (λ os. Some (at_statement os current)) (outers_of-set outers count last (record { statements = last.statements; place = place }) h)
    ∙ ap (λ t. Some (at_statement (inside (outers_of (take (count - 1) outers)) (tree_of last.statements) (place_of place)) t)) is
    ∙ open_case-at is_default (outers_of (take (count - 1) outers)) (tree_of last.statements) (place_of last.place) (place_of place) numbers
    ∙ sym (ap (λ os. advanced (in_cases is_default os) (Some OpenCase)) (outers_of-last outers count last h))

close_case-at : (falls_through : Bool) (outers : List reading.Outer) (before : Tree) (place next : reading.Place) (body : Tree) → Some next ≡ grown falls_through body place → IsReached (cases_in false outers before next) (case_closed falls_through (record { statements = before; place = place } ∷ outers) body)
close_case-at falls_through outers before (of_part part) next body grows = absurd cc
close_case-at falls_through outers before (of_case case) next body grows =
    subst (λ found. IsReached (lists_at outers before found) (case_closed falls_through (record { statements = before; place = of_case case } ∷ outers) body)) (sym grows) refl

-- the state after the body of a case has closed
pub close_case-is : (falls_through : Bool) (outers : List Outer) (count : ℕ) (last : Outer) (place : Place) (current body : Block) → IsLast outers count last → Some (place_of place) ≡ grown falls_through (tree_of body) (place_of last.place) → body ≡ current → IsReached (in_cases false (outers_of (set outers (count - 1) (record { statements = last.statements; place = place })))) (case_closed falls_through (outers_of outers) (tree_of current))
close_case-is falls_through outers count last place current body h grows is =
    let front : List reading.Outer = outers_of (take (count - 1) outers) in
    let after = cases_in false front (tree_of last.statements) (place_of place) in
    let here : IsReached after (case_closed falls_through (outer_of last ∷ front) (tree_of body)) =
    close_case-at falls_through front (tree_of last.statements) (place_of last.place) (place_of place) (tree_of body) grows in
    subst (λ os. IsReached (in_cases false os) (case_closed falls_through (outers_of outers) (tree_of current))) (sym (outers_of-set outers count last (record { statements = last.statements; place = place }) h))
    (subst (λ os. IsReached after (case_closed falls_through os (tree_of current))) (sym (outers_of-last outers count last h))
    (subst (λ ended. IsReached after (case_closed falls_through (outer_of last ∷ front) (tree_of ended))) is here))

-- the state after the switch has ended
pub close_cases-is : (outers rest : List Outer) (last : Outer) (cases : Vec SwitchCase Global) (value : SwitchValue) (selector : ℕ) (r : Option Reached) → outers ≡ rest ++ last ∷ [] → last.place ≡ Case cases value → selector ≡ 0 → r ≡ Some (after_statement (outers_of rest) (tree_of last.statements) (node_of (variant.Switch selector cases))) → IsReached r (advanced (in_cases false (outers_of outers)) (Some CloseCases))
close_cases-is outers rest last cases value selector r is at first e =
    IsReached-is r (advanced (in_cases false (outers_of outers)) (Some CloseCases)) (after_statement (outers_of rest) (tree_of last.statements) (switch 0 (cases_of cases.items)))
    (e ∙ ap (λ node. Some (after_statement (outers_of rest) (tree_of last.statements) node)) (node_of-Switch selector cases ∙ ap (λ s. switch s (cases_of cases.items)) first))
    (sym (
    ap (λ os. advanced (in_cases false os) (Some CloseCases)) (ap outers_of is ∙ outers_of-push rest last)
    ∙ ap (λ p. advanced (cases_in false (outers_of rest) (tree_of last.statements) (place_of p)) (Some CloseCases)) at
    ))

pub ruleset reached_of_pushes = (outers_of-push, tree_of-push, tree_of-empty, cases_of-push, case_count-cases_of, node_of-Block, node_of-If, node_of-Loop, node_of-Switch)

-- the two ways in which a block is left without statements
pub ruleset emptied = (tree_of-empty, tree_of-none)
