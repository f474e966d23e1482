-- The closing of a block that has a text has one, too.
use Rattle.naga_proc.proofs.Closing.ClosedByLemmas.{ClosedBy-unique}
use Rattle.std.proofs.Common.{◌≡◌, List, ℕ, suc, refl, ap, ◌∙◌, sym, subst, Bool, true, false}
use Rattle.std.specs.Prelude.{pos}
use Rattle.naga_kinds.specs.declared.switch.SwitchValue.{SwitchValue}
use Rattle.naga_kinds.specs.declared.switch.SwitchValue.TheVariants.{I32}
use Rattle.naga_ir.specs.Tree.{Tree, Node, Cases}
use Rattle.naga_notation.proofs.OutlineOfLemmas.{Notation-is}
use Rattle.naga_notation.specs.Outline.{Simple, passes, breaks, continues, returns, kills, Item, simple, nested, branch, switch, loop, Outline, empty, push, CaseOutlines, no_cases, more, outline_text, outline_of, case_count, with_case, value_after, drawn, drawn_item, drawn_cases, Notation}
use Rattle.naga_proc.specs.Closing.{TailsAre, at_empty, stays, changes, InsideAre, in_plain, in_loop, in_jump, in_block, in_branch, in_cases, CaseTailsAre, no_more, falling, ending, GetsReturn, ClosedBy, follows}
use Rattle.naga_proc.specs.declared.terminator.rule.Rule.{Rule}

abbrev returned_if_outline : Bool → Outline → Outline
returned_if_outline true outline = push outline (simple returns)
returned_if_outline false outline = outline

abbrev mutual
  -- the closing of an outline
  closed_outline : (Node → Bool) → Outline → Outline
  closed_outline test empty = push empty (simple returns)
  closed_outline test (push front last) = returned_if_outline (test (drawn_item last)) (push front (closed_item test last))

  closed_item : (Node → Bool) → Item → Item
  closed_item test (simple what) = simple what
  closed_item test (nested inner) = nested (closed_outline test inner)
  closed_item test (branch accept reject) = branch (closed_outline test accept) (closed_outline test reject)
  closed_item test (switch cases) = switch (closed_cases test cases)
  closed_item test (loop has_break_if body continuing) = loop has_break_if body continuing

  closed_cases : (Node → Bool) → CaseOutlines → CaseOutlines
  closed_cases test no_cases = no_cases
  closed_cases test (more front is_default body false) = more (closed_cases test front) is_default (closed_outline test body) false
  closed_cases test (more front is_default body true) = more (closed_cases test front) is_default body true

case_count-closed : {test : Node → Bool} {cs ds : Cases} → CaseTailsAre test GetsReturn cs ds → case_count cs ≡ case_count ds
case_count-closed no_more = refl
case_count-closed (falling h) = ap suc (case_count-closed h)
case_count-closed (ending h k) = ap suc (case_count-closed k)

value_after-same : (cs ds : Cases) (is_default : Bool) → case_count cs ≡ case_count ds → value_after cs is_default ≡ value_after ds is_default
value_after-same cs ds false same = ap (λ n. I32 (pos n)) same
value_after-same cs ds true same = refl

-- one more case that falls through
CaseTailsAre-with_falling : {test : Node → Bool} {cs ds : Cases} (v w : SwitchValue) (b : Tree) → v ≡ w → CaseTailsAre test GetsReturn cs ds → CaseTailsAre test GetsReturn (with_case cs v b true) (with_case ds w b true)
CaseTailsAre-with_falling {test = test} v w b same no_more = subst (λ x. CaseTailsAre test GetsReturn (Cases.case v b true Cases.no_cases) (Cases.case x b true Cases.no_cases)) same (falling no_more)
CaseTailsAre-with_falling v w b same (falling h) = falling (CaseTailsAre-with_falling v w b same h)
CaseTailsAre-with_falling v w b same (ending h k) = ending h (CaseTailsAre-with_falling v w b same k)

-- one more case that does not fall through
CaseTailsAre-with_ending : {test : Node → Bool} {cs ds : Cases} (v w : SwitchValue) (b c : Tree) → v ≡ w → TailsAre test GetsReturn b c → CaseTailsAre test GetsReturn cs ds → CaseTailsAre test GetsReturn (with_case cs v b false) (with_case ds w c false)
CaseTailsAre-with_ending {test = test} v w b c same closes no_more = subst (λ x. CaseTailsAre test GetsReturn (Cases.case v b false Cases.no_cases) (Cases.case x c false Cases.no_cases)) same (ending closes no_more)
CaseTailsAre-with_ending v w b c same closes (falling h) = falling (CaseTailsAre-with_ending v w b c same closes h)
CaseTailsAre-with_ending v w b c same closes (ending h k) = ending h (CaseTailsAre-with_ending v w b c same closes k)

TailsAre-closed_last : (test : Node → Bool) (front : Outline) (last new : Item) (e : Bool) → test (drawn_item last) ≡ e → InsideAre test GetsReturn (drawn_item last) (drawn_item new) → TailsAre test GetsReturn (drawn (push front last)) (drawn (returned_if_outline e (push front new)))
TailsAre-closed_last test front last new true p i = changes i p refl
TailsAre-closed_last test front last new false p i = stays i p

InsideAre-simple : (test : Node → Bool) (what : Simple) → InsideAre test GetsReturn (drawn_item (simple what)) (drawn_item (simple what))
InsideAre-simple test passes = in_plain
InsideAre-simple test breaks = in_jump
InsideAre-simple test continues = in_jump
InsideAre-simple test returns = in_jump
InsideAre-simple test kills = in_jump

mutual
  ClosedBy-closed_outline : (test : Node → Bool) (outline : Outline) → TailsAre test GetsReturn (drawn outline) (drawn (closed_outline test outline))
  ClosedBy-closed_outline test empty = at_empty refl
  ClosedBy-closed_outline test (push front last) =
      TailsAre-closed_last test front last (closed_item test last) (test (drawn_item last)) refl (InsideAre-closed_item test last)

  InsideAre-closed_item : (test : Node → Bool) (item : Item) → InsideAre test GetsReturn (drawn_item item) (drawn_item (closed_item test item))
  InsideAre-closed_item test (simple what) = InsideAre-simple test what
  InsideAre-closed_item test (nested inner) = in_block (ClosedBy-closed_outline test inner)
  InsideAre-closed_item test (branch accept reject) = in_branch (ClosedBy-closed_outline test accept) (ClosedBy-closed_outline test reject)
  InsideAre-closed_item test (switch cases) = in_cases (CaseTailsAre-closed_cases test cases)
  InsideAre-closed_item test (loop has_break_if body continuing) = in_loop

  CaseTailsAre-closed_cases : (test : Node → Bool) (cases : CaseOutlines) → CaseTailsAre test GetsReturn (drawn_cases cases) (drawn_cases (closed_cases test cases))
  CaseTailsAre-closed_cases test no_cases = no_more
  CaseTailsAre-closed_cases test (more front is_default body false) =
      CaseTailsAre-with_ending (value_after (drawn_cases front) is_default) (value_after (drawn_cases (closed_cases test front)) is_default) (drawn body) (drawn (closed_outline test body))
      (value_after-same (drawn_cases front) (drawn_cases (closed_cases test front)) is_default (case_count-closed (CaseTailsAre-closed_cases test front)))
      (ClosedBy-closed_outline test body) (CaseTailsAre-closed_cases test front)
  CaseTailsAre-closed_cases test (more front is_default body true) =
      CaseTailsAre-with_falling (value_after (drawn_cases front) is_default) (value_after (drawn_cases (closed_cases test front)) is_default) (drawn body)
      (value_after-same (drawn_cases front) (drawn_cases (closed_cases test front)) is_default (case_count-closed (CaseTailsAre-closed_cases test front)))
      (CaseTailsAre-closed_cases test front)

pub ClosedBy-text : (rule : Rule) (text : List ℕ) (b c : Tree) → Notation text b → ClosedBy rule b c → (answer : List ℕ) × Notation answer c
ClosedBy-text rule text b c (outline, is, draws) h =
    let new : Outline = closed_outline (follows rule) outline in
    let same : c ≡ drawn new = ClosedBy-unique rule (drawn outline) c (drawn new) (subst (λ block. ClosedBy rule block c) draws h) (ClosedBy-closed_outline (follows rule) outline) in
    (outline_text new, (new, refl, same))

-- the text that is written for the closing of a block that has a text is the notation of that closing
pub Notation-closed : (rule : Rule) (text answer : List ℕ) (b c : Tree) → Notation text b → ClosedBy rule b c → answer ≡ outline_text (outline_of c) → Notation answer c
Notation-closed rule text answer b c is closes written =
    let has = ClosedBy-text rule text b c is closes in
    subst (λ t. Notation t c) (Notation-is c has.0 has.1 ∙ sym written) has.1
