-- Closed blocks that are culled: closing and culling can be exchanged, and a fully closed block diverges.
use Rattle.std.proofs.Common.{◌≡◌, ◌∙◌, sym, ap, refl, Bool, true, false, not, ◌&&◌, ◌||◌, ◌∷◌, None}
use Rattle.std.proofs.lemmas.Bool.{and_from, and_parts, or_left, or_right, not-true}
use Rattle.naga_arena.specs.Span.{undefined}
use Rattle.naga_arena.specs.declared.span.Span.{Span}
use Rattle.naga_ir.specs.Tree.{Tree, empty, push, Node, plain, nested, branch, switch, loop, jump, return, Cases, no_cases, case}
use Rattle.naga_runs.specs.Diverges.{diverges, node_diverges, cases_diverge}
use Rattle.naga_runs.specs.Exits.{breaks_out, node_breaks, a_case_breaks, last_falls, has_default, has_exit}
use Rattle.naga_runs.specs.Runs.{values}
use Rattle.naga_compact.specs.Culling.{push_reached, culled, culled_node, culled_cases, IsCulled, IsCulledInside, CasesAreCulled}
use Rattle.naga_compact.proofs.CulledLemmas.{push_reached-next, push_reached-never, push_reached-cases, culled-IsCulled, IsCulled-is}
use Rattle.naga_proc.specs.Closing.{ClosedBy, closed, closed_inside, closed_cases, follows, returned_if}
use Rattle.naga_proc.specs.declared.terminator.rule.Rule.{Rule}
use Rattle.naga_proc.specs.declared.terminator.rule.Rule.TheVariants.{New, Old}
use Rattle.naga_proc.proofs.Closing.ClosedByLemmas.{CasesClosed-closed, ClosedBy-is}
use Rattle.naga_proc.proofs.Closing.TailsAreLemmas.{GetsReturn-AddsNoBreak, has_exit-CaseTailsAre}

-- ---- exits

has_exit-closed_cases : (rule : Rule) (cases : Cases) → has_exit (closed_cases rule cases) ≡ has_exit cases
has_exit-closed_cases rule cases = has_exit-CaseTailsAre GetsReturn-AddsNoBreak (CasesClosed-closed rule cases)

or-wider : (a b c d : Bool) → (a ≡ true → c ≡ true) → (b ≡ true → d ≡ true) → (a || b) ≡ true → (c || d) ≡ true
or-wider true b c d left right h = or_left c d (left refl)
or-wider false b c d left right h = or_right c d (right h)

mutual
  breaks_out-culled : (block : Tree) → breaks_out (culled block) ≡ true → breaks_out block ≡ true
  breaks_out-culled empty = λ h. h
  breaks_out-culled (push front last span) =
      let before : breaks_out (culled front) ≡ true → breaks_out front ≡ true = breaks_out-culled front in
      let inside : node_breaks (culled_node last) ≡ true → node_breaks last ≡ true = node_breaks-culled last in
      let P : Tree → Type 0 = λ block. breaks_out block ≡ true → (breaks_out front || node_breaks last) ≡ true in
      push_reached-cases P (culled front) (culled_node last) span
      (λ never h. or_left (breaks_out front) (node_breaks last) (before h))
      (λ next h. or-wider (breaks_out (culled front)) (node_breaks (culled_node last)) (breaks_out front) (node_breaks last) before inside h)

  node_breaks-culled : (node : Node) → node_breaks (culled_node node) ≡ true → node_breaks node ≡ true
  node_breaks-culled (plain what) h = h
  node_breaks-culled (nested inner) h = breaks_out-culled inner h
  node_breaks-culled (branch condition accept reject) h =
      or-wider (breaks_out (culled accept)) (breaks_out (culled reject)) (breaks_out accept) (breaks_out reject) (breaks_out-culled accept) (breaks_out-culled reject) h
  node_breaks-culled (switch selector cases) h = h
  node_breaks-culled (loop body continuing break_if) h = h
  node_breaks-culled (jump to) h = h

a_case_breaks-culled : (cases : Cases) → a_case_breaks (culled_cases cases) ≡ true → a_case_breaks cases ≡ true
a_case_breaks-culled no_cases h = h
a_case_breaks-culled (case value body falls_through others) h =
    or-wider (breaks_out (culled body)) (a_case_breaks (culled_cases others)) (breaks_out body) (a_case_breaks others) (breaks_out-culled body) (a_case_breaks-culled others) h

values-culled_cases : (cases : Cases) → values (culled_cases cases) ≡ values cases
values-culled_cases no_cases = refl
values-culled_cases (case value body falls_through others) = ap (λ vs. value ∷ vs) (values-culled_cases others)

last_falls-culled_cases : (cases : Cases) → last_falls (culled_cases cases) ≡ last_falls cases
last_falls-culled_cases no_cases = refl
last_falls-culled_cases (case value body falls_through no_cases) = refl
last_falls-culled_cases (case value body falls_through (case value' body' falls_through' others)) =
    last_falls-culled_cases (case value' body' falls_through' others)

-- an exit of the culled cases is one of the cases
has_exit-culled_cases : (cases : Cases) → has_exit (culled_cases cases) ≡ true → has_exit cases ≡ true
has_exit-culled_cases cases h =
    let same : (not (has_default (values cases)) || last_falls cases || a_case_breaks (culled_cases cases)) ≡ true =
    sym (λ i. not (has_default (values-culled_cases cases i)) || last_falls-culled_cases cases i || a_case_breaks (culled_cases cases)) ∙ h
    in
    or-wider (not (has_default (values cases)) || last_falls cases) (a_case_breaks (culled_cases cases)) (not (has_default (values cases)) || last_falls cases) (a_case_breaks cases)
    (λ k. k) (a_case_breaks-culled cases) same

-- ---- a fully closed block diverges

closed_by_last : (front : Tree) (last : Node) (span : Span) (gets : Bool) → follows New last ≡ gets →
    (follows New last ≡ false → node_diverges (closed_inside New last) ≡ true) →
    diverges (returned_if gets (push front (closed_inside New last) span)) ≡ true
closed_by_last front last span true h inside = or_right (diverges (push front (closed_inside New last) span)) true refl
closed_by_last front last span false h inside = or_right (diverges front) (node_diverges (closed_inside New last)) (inside h)

mutual
  pub closed-diverges : (block : Tree) → diverges (closed New block) ≡ true
  closed-diverges empty = refl
  closed-diverges (push front last span) =
      closed_by_last front last span (follows New last) refl (closed_inside-diverges last)

  closed_inside-diverges : (last : Node) → follows New last ≡ false → node_diverges (closed_inside New last) ≡ true
  closed_inside-diverges (plain what) h = absurd (let e : true ≡ false = h in cc)
  closed_inside-diverges (nested inner) h = closed-diverges inner
  closed_inside-diverges (branch condition accept reject) h =
      and_from (diverges (closed New accept)) (diverges (closed New reject)) (closed-diverges accept) (closed-diverges reject)
  closed_inside-diverges (switch selector cases) h =
      let shut : has_exit (closed_cases New cases) ≡ false = has_exit-closed_cases New cases ∙ h in
      and_from (not (has_exit (closed_cases New cases))) (cases_diverge (closed_cases New cases)) (ap not shut) (closed_cases-diverge cases)
  closed_inside-diverges (loop body continuing break_if) h = absurd (let e : true ≡ false = h in cc)
  closed_inside-diverges (jump to) h = refl

  closed_cases-diverge : (cases : Cases) → cases_diverge (closed_cases New cases) ≡ true
  closed_cases-diverge no_cases = refl
  closed_cases-diverge (case value body true others) = closed_cases-diverge others
  closed_cases-diverge (case value body false others) =
      and_from (diverges (closed New body)) (cases_diverge (closed_cases New others)) (closed-diverges body) (closed_cases-diverge others)

-- ---- a culled block that diverges is its own closing

follows-diverging : (rule : Rule) (last : Node) → node_diverges last ≡ true → follows rule last ≡ false
follows-diverging rule (plain what) h = absurd (let e : false ≡ true = h in cc)
follows-diverging rule (nested inner) h = refl
follows-diverging rule (branch condition accept reject) h = refl
follows-diverging New (switch selector cases) h = not-true (has_exit cases) (and_parts (not (has_exit cases)) (cases_diverge cases) h).0
follows-diverging Old (switch selector cases) h = refl
follows-diverging rule (loop body continuing break_if) h = absurd (let e : false ≡ true = h in cc)
follows-diverging rule (jump to) h = refl

-- only the last statement of a culled block may diverge
last_diverges : (front : Tree) (last : Node) → diverges front ≡ false → (diverges front || node_diverges last) ≡ true → node_diverges last ≡ true
last_diverges front last h k = sym (ap (λ b. b || node_diverges last) h) ∙ k

mutual
  closed-diverging : (rule : Rule) (block : Tree) → IsCulled block → diverges block ≡ true → closed rule block ≡ block
  closed-diverging rule empty c h = absurd (let e : false ≡ true = h in cc)
  closed-diverging rule (push front last span) c h =
      let d : node_diverges last ≡ true = last_diverges front last c.1 h in
      λ i. returned_if (follows-diverging rule last d i) (push front (closed_inside-diverging rule last c.2 d i) span)

  closed_inside-diverging : (rule : Rule) (last : Node) → IsCulledInside last → node_diverges last ≡ true → closed_inside rule last ≡ last
  closed_inside-diverging rule (plain what) c h = refl
  closed_inside-diverging rule (nested inner) c h = ap nested (closed-diverging rule inner c h)
  closed_inside-diverging rule (branch condition accept reject) c h =
      let parts = and_parts (diverges accept) (diverges reject) h in
      λ i. branch condition (closed-diverging rule accept c.0 parts.0 i) (closed-diverging rule reject c.1 parts.1 i)
  closed_inside-diverging rule (switch selector cases) c h =
      let parts = and_parts (not (has_exit cases)) (cases_diverge cases) h in
      ap (switch selector) (closed_cases-diverging rule cases c parts.1)
  closed_inside-diverging rule (loop body continuing break_if) c h = refl
  closed_inside-diverging rule (jump to) c h = refl

  closed_cases-diverging : (rule : Rule) (cases : Cases) → CasesAreCulled cases → cases_diverge cases ≡ true → closed_cases rule cases ≡ cases
  closed_cases-diverging rule no_cases c h = refl
  closed_cases-diverging rule (case value body true others) c h = ap (case value body true) (closed_cases-diverging rule others c.1 h)
  closed_cases-diverging rule (case value body false others) c h =
      let parts = and_parts (diverges body) (cases_diverge others) h in
      λ i. case value (closed-diverging rule body c.0 parts.0 i) false (closed_cases-diverging rule others c.1 parts.1 i)

-- ---- closing and culling can be exchanged

-- the block with a return, unless control never reaches that return
abbrev return_reached_if : (gets : Bool) → Tree → Tree
return_reached_if true block = push_reached block (jump (return None)) undefined
return_reached_if false block = block

culled-returned_if : (gets : Bool) (block : Tree) → culled (returned_if gets block) ≡ return_reached_if gets (culled block)
culled-returned_if true block = refl
culled-returned_if false block = refl

return_reached_if-never : (gets : Bool) (block : Tree) → diverges block ≡ true → return_reached_if gets block ≡ block
return_reached_if-never true block h = push_reached-never block (jump (return None)) undefined h
return_reached_if-never false block h = refl

return_reached_if-last : (gets ends : Bool) (block : Tree) → diverges block ≡ ends → return_reached_if gets block ≡ returned_if (gets && not ends) block
return_reached_if-last true true block h = push_reached-never block (jump (return None)) undefined h
return_reached_if-last true false block h = push_reached-next block (jump (return None)) undefined h
return_reached_if-last false ends block h = refl

exit_left : (before after : Bool) → (after ≡ true → before ≡ true) → after ≡ (before && not (not after && true))
exit_left true true h = refl
exit_left true false h = refl
exit_left false true h = sym (h refl)
exit_left false false h = refl

-- a return follows the culled statement if one follows the statement and control reaches it
follows-culled : (rule : Rule) (last : Node) → follows rule (culled_node last) ≡ (follows rule last && not (node_diverges (closed_inside rule (culled_node last))))
follows-culled rule (plain what) = refl
follows-culled rule (nested inner) = refl
follows-culled rule (branch condition accept reject) = refl
follows-culled New (switch selector cases) =
    let before : Bool = has_exit cases in
    let after : Bool = has_exit (culled_cases cases) in
    exit_left before after (has_exit-culled_cases cases)
    ∙ sym (λ i. before && not (not (has_exit-closed_cases New (culled_cases cases) i) && closed_cases-diverge (culled_cases cases) i))
follows-culled Old (switch selector cases) = refl
follows-culled rule (loop body continuing break_if) = refl
follows-culled rule (jump to) = refl

-- the two orders, for a block with one more statement
exchanged : (rule : Rule) (front : Tree) (last : Node) (span : Span) → IsCulled front →
    return_reached_if (follows rule last) (push_reached front (closed_inside rule (culled_node last)) span)
    ≡ closed rule (push_reached front (culled_node last) span)
exchanged rule front last span c = by_front (diverges front) refl
  where
    new : Node
    new = closed_inside rule (culled_node last)

    by_front : (ends : Bool) → diverges front ≡ ends →
        return_reached_if (follows rule last) (push_reached front new span) ≡ closed rule (push_reached front (culled_node last) span)
    by_front true h =
        ap (return_reached_if (follows rule last)) (push_reached-never front new span h)
        ∙ return_reached_if-never (follows rule last) front h
        ∙ sym (closed-diverging rule front c h)
        ∙ sym (ap (closed rule) (push_reached-never front (culled_node last) span h))
    by_front false h =
        ap (return_reached_if (follows rule last)) (push_reached-next front new span h)
        ∙ return_reached_if-last (follows rule last) (node_diverges new) (push front new span) (ap (λ b. b || node_diverges new) h)
        ∙ sym (ap (λ gets. returned_if gets (push front new span)) (follows-culled rule last))
        ∙ sym (ap (closed rule) (push_reached-next front (culled_node last) span h))

mutual
  pub culled-closed : (rule : Rule) (block : Tree) → culled (closed rule block) ≡ closed rule (culled block)
  culled-closed rule empty = refl
  culled-closed rule (push front last span) =
      culled-returned_if (follows rule last) (push front (closed_inside rule last) span)
      ∙ ap (λ new. return_reached_if (follows rule last) (push_reached (culled front) new span)) (culled_node-closed rule last)
      ∙ exchanged rule (culled front) last span (culled-IsCulled front)

  culled_node-closed : (rule : Rule) (last : Node) → culled_node (closed_inside rule last) ≡ closed_inside rule (culled_node last)
  culled_node-closed rule (plain what) = refl
  culled_node-closed rule (nested inner) = ap nested (culled-closed rule inner)
  culled_node-closed rule (branch condition accept reject) =
      λ i. branch condition (culled-closed rule accept i) (culled-closed rule reject i)
  culled_node-closed rule (switch selector cases) = ap (switch selector) (culled_cases-closed rule cases)
  culled_node-closed rule (loop body continuing break_if) = refl
  culled_node-closed rule (jump to) = refl

  culled_cases-closed : (rule : Rule) (cases : Cases) → culled_cases (closed_cases rule cases) ≡ closed_cases rule (culled_cases cases)
  culled_cases-closed rule no_cases = refl
  culled_cases-closed rule (case value body true others) =
      ap (case value (culled body) true) (culled_cases-closed rule others)
  culled_cases-closed rule (case value body false others) =
      λ i. case value (culled-closed rule body i) false (culled_cases-closed rule others i)

-- ---- closed blocks

pub FullyClosed-diverges : (b c : Tree) → ClosedBy New b c → diverges c ≡ true
FullyClosed-diverges b c h = ap diverges ((ClosedBy-is New b c).0 h) ∙ closed-diverges b

-- the closing of a culled block is culled
pub ClosedBy-IsCulled : (rule : Rule) (b c : Tree) → IsCulled b → ClosedBy rule b c → IsCulled c
ClosedBy-IsCulled rule b c h k =
    let is : c ≡ closed rule b = (ClosedBy-is rule b c).0 k in
    let same : culled c ≡ c =
    ap culled is ∙ culled-closed rule b ∙ ap (closed rule) ((IsCulled-is b).0 h) ∙ sym is
    in
    (IsCulled-is c).1 same
