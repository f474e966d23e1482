-- What a change of the tail blocks leaves as it was: the breaks, the values of the cases, the exits. And when a block
-- is related to itself.
use Rattle.std.proofs.Common.{◌≡◌, inl, inr, Bool, true, false, not, ◌||◌, ◌∷◌, refl, ◌∙◌, ap}
use Rattle.std.proofs.Math.Bool.{or-false}
use Rattle.naga_arena.specs.declared.span.Span.{Span}
use Rattle.naga_ir.specs.Tree.{Tree, empty, push, Node, plain, nested, branch, switch, loop, jump, Cases, no_cases, case}
use Rattle.naga_runs.specs.Runs.{values}
use Rattle.naga_proc.specs.Closing.{IsTail, itself, in_nested, in_accept, in_reject, in_switch, IsCaseTail, in_first, in_others, TailsAre, at_empty, stays, changes, InsideAre, in_plain, in_loop, in_jump, in_block, in_branch, in_cases, CaseTailsAre, no_more, falling, ending, GetsReturn, MayGetReturn, follows, gets_return}
use Rattle.naga_runs.specs.Exits.{breaks_out, node_breaks, a_case_breaks, last_falls, has_default, has_exit}
use Rattle.naga_proc.specs.declared.terminator.rule.Rule.{Rule}
use Rattle.naga_proc.specs.declared.terminator.rule.Rule.TheVariants.{New, Old}

-- ---- exits

-- a change that adds no break
abbrev pub AddsNoBreak : (Tree → Tree → Type 0) → Type 0
AddsNoBreak Changed = (b c : Tree) → Changed b c → breaks_out c ≡ breaks_out b

pub GetsReturn-AddsNoBreak : AddsNoBreak GetsReturn
GetsReturn-AddsNoBreak b c p = ap breaks_out p ∙ or-false (breaks_out b)

pub MayGetReturn-AddsNoBreak : AddsNoBreak MayGetReturn
MayGetReturn-AddsNoBreak b c (inl p) = ap breaks_out p
MayGetReturn-AddsNoBreak b c (inr p) = GetsReturn-AddsNoBreak b c p

mutual
  breaks_out-TailsAre : {test : Node → Bool} {Changed : Tree → Tree → Type 0} {b c : Tree} → AddsNoBreak Changed → TailsAre test Changed b c → breaks_out c ≡ breaks_out b
  breaks_out-TailsAre adds_none (at_empty {c = c} p) = adds_none empty c p
  breaks_out-TailsAre adds_none (stays {front = f} i h) = ap (λ x. breaks_out f || x) (node_breaks-InsideAre adds_none i)
  breaks_out-TailsAre adds_none (changes {front = f} {c = c} {new = t} {span = p} i h q) =
      adds_none (push f t p) c q ∙ ap (λ x. breaks_out f || x) (node_breaks-InsideAre adds_none i)

  node_breaks-InsideAre : {test : Node → Bool} {Changed : Tree → Tree → Type 0} {s t : Node} → AddsNoBreak Changed → InsideAre test Changed s t → node_breaks t ≡ node_breaks s
  node_breaks-InsideAre adds_none in_plain = refl
  node_breaks-InsideAre adds_none in_loop = refl
  node_breaks-InsideAre adds_none in_jump = refl
  node_breaks-InsideAre adds_none (in_block d) = breaks_out-TailsAre adds_none d
  node_breaks-InsideAre adds_none (in_branch d e) = λ i. breaks_out-TailsAre adds_none d i || breaks_out-TailsAre adds_none e i
  node_breaks-InsideAre adds_none (in_cases d) = refl

a_case_breaks-CaseTailsAre : {test : Node → Bool} {Changed : Tree → Tree → Type 0} {cs ds : Cases} → AddsNoBreak Changed → CaseTailsAre test Changed cs ds → a_case_breaks ds ≡ a_case_breaks cs
a_case_breaks-CaseTailsAre adds_none no_more = refl
a_case_breaks-CaseTailsAre adds_none (falling {b = b} d) = ap (λ x. breaks_out b || x) (a_case_breaks-CaseTailsAre adds_none d)
a_case_breaks-CaseTailsAre adds_none (ending d e) = λ i. breaks_out-TailsAre adds_none d i || a_case_breaks-CaseTailsAre adds_none e i

last_falls-CaseTailsAre : {test : Node → Bool} {Changed : Tree → Tree → Type 0} {cs ds : Cases} → CaseTailsAre test Changed cs ds → last_falls ds ≡ last_falls cs
last_falls-CaseTailsAre no_more = refl
last_falls-CaseTailsAre (falling no_more) = refl
last_falls-CaseTailsAre (falling (falling {value = v} {b = b} d)) = last_falls-CaseTailsAre (falling {value = v} {b = b} d)
last_falls-CaseTailsAre (falling (ending {value = v} d e)) = last_falls-CaseTailsAre (ending {value = v} d e)
last_falls-CaseTailsAre (ending d no_more) = refl
last_falls-CaseTailsAre (ending d (falling {value = v} {b = b} e)) = last_falls-CaseTailsAre (falling {value = v} {b = b} e)
last_falls-CaseTailsAre (ending d (ending {value = v} e f)) = last_falls-CaseTailsAre (ending {value = v} e f)

pub values-CaseTailsAre : {test : Node → Bool} {Changed : Tree → Tree → Type 0} {cs ds : Cases} → CaseTailsAre test Changed cs ds → values ds ≡ values cs
values-CaseTailsAre no_more = refl
values-CaseTailsAre (falling {value = v} d) = ap (λ vs. v ∷ vs) (values-CaseTailsAre d)
values-CaseTailsAre (ending {value = v} d e) = ap (λ vs. v ∷ vs) (values-CaseTailsAre e)

pub has_exit-CaseTailsAre : {test : Node → Bool} {Changed : Tree → Tree → Type 0} {cs ds : Cases} → AddsNoBreak Changed → CaseTailsAre test Changed cs ds → has_exit ds ≡ has_exit cs
has_exit-CaseTailsAre adds_none d =
    λ i. not (has_default (values-CaseTailsAre d i)) || last_falls-CaseTailsAre d i || a_case_breaks-CaseTailsAre adds_none d i

-- by each rule, a return follows a last statement if and only if it follows the statement with its blocks changed
pub follows-InsideAre : {Changed : Tree → Tree → Type 0} {test : Node → Bool} {s t : Node} (rule : Rule) → AddsNoBreak Changed → InsideAre test Changed s t → follows rule t ≡ follows rule s
follows-InsideAre rule adds_none in_plain = refl
follows-InsideAre rule adds_none in_loop = refl
follows-InsideAre rule adds_none in_jump = refl
follows-InsideAre rule adds_none (in_block d) = refl
follows-InsideAre rule adds_none (in_branch d e) = refl
follows-InsideAre Old adds_none (in_cases d) = refl
follows-InsideAre New adds_none (in_cases d) = has_exit-CaseTailsAre adds_none d

-- ---- a wider change

module _ (test : Node → Bool) (Changed Wider : Tree → Tree → Type 0) (widens : (b c : Tree) → Changed b c → Wider b c) where
  mutual
    pub TailsAre-wider : {b c : Tree} → TailsAre test Changed b c → TailsAre test Wider b c
    TailsAre-wider (at_empty {c = c} p) = at_empty (widens empty c p)
    TailsAre-wider (stays i h) = stays (InsideAre-wider i) h
    TailsAre-wider (changes {front = f} {c = c} {new = t} {span = p} i h q) = changes (InsideAre-wider i) h (widens (push f t p) c q)

    InsideAre-wider : {s t : Node} → InsideAre test Changed s t → InsideAre test Wider s t
    InsideAre-wider in_plain = in_plain
    InsideAre-wider in_loop = in_loop
    InsideAre-wider in_jump = in_jump
    InsideAre-wider (in_block d) = in_block (TailsAre-wider d)
    InsideAre-wider (in_branch d e) = in_branch (TailsAre-wider d) (TailsAre-wider e)
    InsideAre-wider (in_cases d) = in_cases (CaseTailsAre-wider d)

    CaseTailsAre-wider : {cs ds : Cases} → CaseTailsAre test Changed cs ds → CaseTailsAre test Wider cs ds
    CaseTailsAre-wider no_more = no_more
    CaseTailsAre-wider (falling d) = falling (CaseTailsAre-wider d)
    CaseTailsAre-wider (ending d e) = ending (TailsAre-wider d) (CaseTailsAre-wider e)

-- ---- a block is related to itself if each of its tail blocks that gets a return is

module _ (rule : Rule) (Changed : Tree → Tree → Type 0) where
  -- the tail blocks that get a return are related to themselves
  abbrev pub TailsRemain : Tree → Type 0
  TailsRemain block = (tail : Tree) → IsTail tail block → gets_return rule tail ≡ true → Changed tail tail

  TailsAre-itself_by : (front : Tree) (last : Node) (span : Span) (gets : Bool) → follows rule last ≡ gets → TailsRemain (push front last span) →
      InsideAre (follows rule) Changed last last → TailsAre (follows rule) Changed (push front last span) (push front last span)
  TailsAre-itself_by front last span true p remain i = changes i p (remain (push front last span) itself p)
  TailsAre-itself_by front last span false p remain i = stays i p

  mutual
    pub TailsAre-itself : (b : Tree) → TailsRemain b → TailsAre (follows rule) Changed b b
    TailsAre-itself empty remain = at_empty (remain empty itself refl)
    TailsAre-itself (push front last span) remain =
        TailsAre-itself_by front last span (follows rule last) refl remain (InsideAre-itself front last span remain)

    InsideAre-itself : (front : Tree) (last : Node) (span : Span) → TailsRemain (push front last span) → InsideAre (follows rule) Changed last last
    InsideAre-itself front (plain what) span remain = in_plain
    InsideAre-itself front (loop body continuing break_if) span remain = in_loop
    InsideAre-itself front (jump to) span remain = in_jump
    InsideAre-itself front (nested b) span remain = in_block (TailsAre-itself b (λ tail among. remain tail (in_nested among)))
    InsideAre-itself front (branch condition b d) span remain =
        in_branch (TailsAre-itself b (λ tail among. remain tail (in_accept among))) (TailsAre-itself d (λ tail among. remain tail (in_reject among)))
    InsideAre-itself front (switch selector cs) span remain = in_cases (CaseTailsAre-itself cs (λ tail among. remain tail (in_switch among)))

    CaseTailsAre-itself : (cs : Cases) → ((tail : Tree) → IsCaseTail tail cs → gets_return rule tail ≡ true → Changed tail tail) → CaseTailsAre (follows rule) Changed cs cs
    CaseTailsAre-itself no_cases remain = no_more
    CaseTailsAre-itself (case value b true cs) remain = falling (CaseTailsAre-itself cs (λ tail among. remain tail (in_others among)))
    CaseTailsAre-itself (case value b false cs) remain =
        ending (TailsAre-itself b (λ tail among. remain tail (in_first among))) (CaseTailsAre-itself cs (λ tail among. remain tail (in_others among)))

-- ---- a last statement that a return follows by the old rule

-- its blocks are unchanged
pub InsideAre-open : {test : Node → Bool} {Changed : Tree → Tree → Type 0} {s t : Node} → follows Old s ≡ true → InsideAre test Changed s t → t ≡ s
InsideAre-open h in_plain = refl
InsideAre-open h in_loop = refl
InsideAre-open h in_jump = absurd (let e : false ≡ true = h in cc)
InsideAre-open h (in_block d) = absurd (let e : false ≡ true = h in cc)
InsideAre-open h (in_branch d e) = absurd (let e : false ≡ true = h in cc)
InsideAre-open h (in_cases d) = absurd (let e : false ≡ true = h in cc)

pub InsideAre-open_itself : (test : Node → Bool) (Changed : Tree → Tree → Type 0) (s : Node) → follows Old s ≡ true → InsideAre test Changed s s
InsideAre-open_itself test Changed (plain what) h = in_plain
InsideAre-open_itself test Changed (loop body continuing break_if) h = in_loop
InsideAre-open_itself test Changed (jump to) h = absurd (let e : false ≡ true = h in cc)
InsideAre-open_itself test Changed (nested b) h = absurd (let e : false ≡ true = h in cc)
InsideAre-open_itself test Changed (branch condition b d) h = absurd (let e : false ≡ true = h in cc)
InsideAre-open_itself test Changed (switch selector cs) h = absurd (let e : false ≡ true = h in cc)
