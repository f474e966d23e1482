-- Inserting returns in one walk: what it leads to, and that closing goes on from there.
use Rattle.std.proofs.Common.{◌≡◌, ◌∙◌, sym, ap, refl, ◌<◌, ◌≤◌, true, false, inl, inr, ◌⊎◌, arith}
use Rattle.std.proofs.lemmas.Bool.{cases_lt}
use Rattle.naga_arena.specs.declared.span.Span.{Span}
use Rattle.naga_ir.specs.Tree.{Tree, push, Node, nested, branch, switch, Cases, case}
use Rattle.naga_proc.specs.Closing.{at_empty, stays, changes, InsideAre, in_plain, in_loop, in_jump, in_block, in_branch, in_cases, CaseTailsAre, no_more, falling, ending, TailsAre, returned, returned_if, closed, closed_inside, closed_cases, GetsReturn, MayGetReturn, ClosedBy, follows}
use Rattle.naga_proc.specs.Closing.Walked.{Inserts, Omits, Passes, Walked, WalkedInside, WalkedCases, empty_gets, empty_lacks, gets, lacks, in_return}
use Rattle.naga_proc.specs.Closing.Walked as walked
use Rattle.naga_proc.specs.declared.terminator.one_walk.Walk.{Walk}
use Rattle.naga_proc.specs.declared.terminator.rule.Rule.{Rule}
use Rattle.naga_proc.proofs.Closing.ClosedByLemmas.{CasesClosed, ClosedBy-is, closed_inside-ClosedInside}
use Rattle.naga_proc.proofs.Closing.TailsAreLemmas.{MayGetReturn-AddsNoBreak, follows-InsideAre}

-- ---- the state of the walk

-- the second state is the first one or comes later in a walk
pub record Later (old new : Walk) : Type 0 where
  pub pushed : old.pushed ≤ new.pushed
  pub stopped : old.limit ≤ old.pushed → (new.pushed ≡ old.pushed) × (new.limit ≤ new.pushed)
  pub owes : new.owes ≡ false → old.owes ≡ false
  pub failed : new.failed ≡ false → old.failed ≡ false

Later-itself : (w : Walk) → Later w w
Later-itself w = record { pushed = omega arith; stopped = λ h. (refl, h); owes = λ h. h; failed = λ h. h }

Later-then : (u v w : Walk) → Later u v → Later v w → Later u w
Later-then u v w h k = record {
  pushed = omega (arith, h.pushed, k.pushed);
  stopped = λ p. let q = h.stopped p in let r = k.stopped q.1 in (r.0 ∙ q.0, r.1);
  owes = λ p. h.owes (k.owes p);
  failed = λ p. h.failed (k.failed p);
}

Later-Inserts : (w v : Walk) → Inserts w v → Later w v
Later-Inserts w v h = record {
  pushed = omega (arith, h.pushed);
  stopped = λ p. absurd (omega (arith, p, h.below));
  owes = λ p. sym h.owes ∙ p;
  failed = λ p. sym h.failed ∙ p;
}

Later-Omits : (w v : Walk) → Omits w v → Later w v
Later-Omits w v h = record {
  pushed = omega (arith, h.pushed);
  stopped = λ p. (h.pushed, h.limit);
  owes = λ p. absurd (cc (p, h.owes));
  failed = h.failed;
}

Later-Passes : (w v : Walk) → Passes w v → Later w v
Later-Passes w v h = record {
  pushed = omega (arith, h.pushed);
  stopped = λ p. (h.pushed, h.limit);
  owes = λ p. sym h.owes ∙ p;
  failed = λ p. sym h.failed ∙ p;
}

mutual
  pub Walked-Later : {rule : Rule} {w v : Walk} {b c : Tree} → Walked rule w b c v → Later w v
  Walked-Later (empty_gets {w = w} {v = v} h) = Later-Inserts w v h
  Walked-Later (empty_lacks {w = w} {v = v} h) = Later-Omits w v h
  Walked-Later (walked.stays d p) = WalkedInside-Later d
  Walked-Later (gets {w = w} {u = u} {v = v} d p h) = Later-then w u v (WalkedInside-Later d) (Later-Inserts u v h)
  Walked-Later (lacks {w = w} {u = u} {v = v} d p h) = Later-then w u v (WalkedInside-Later d) (Later-Omits u v h)

  pub WalkedInside-Later : {rule : Rule} {w v : Walk} {s t : Node} → WalkedInside rule w s t v → Later w v
  WalkedInside-Later (walked.in_plain {w = w}) = Later-itself w
  WalkedInside-Later (walked.in_loop {w = w}) = Later-itself w
  WalkedInside-Later (in_return {w = w} {v = v} p h) = Later-Passes w v h
  WalkedInside-Later (walked.in_jump {w = w} p) = Later-itself w
  WalkedInside-Later (walked.in_block d) = Walked-Later d
  WalkedInside-Later (walked.in_branch {w = w} {u = u} {v = v} d e) = Later-then w u v (Walked-Later d) (Walked-Later e)
  WalkedInside-Later (walked.in_cases d) = WalkedCases-Later d

  pub WalkedCases-Later : {rule : Rule} {w v : Walk} {cs ds : Cases} → WalkedCases rule w cs ds v → Later w v
  WalkedCases-Later (walked.no_more {w = w}) = Later-itself w
  WalkedCases-Later (walked.falling d) = WalkedCases-Later d
  WalkedCases-Later (walked.ending {w = w} {u = u} {v = v} d e) = Later-then w u v (Walked-Later d) (WalkedCases-Later e)

-- ---- a walk that left out no return

-- up to this state no return was left out
abbrev pub HasAll : Walk → Type 0
HasAll w = (w.owes ≡ false) ⊎ (w.pushed < w.limit)

HasAll-below : (w v : Walk) → Later w v → v.pushed < v.limit → (w.pushed < w.limit) ⊎ (w.limit ≤ w.pushed) → w.pushed < w.limit
HasAll-below w v h p (inl q) = q
HasAll-below w v h p (inr q) = absurd (omega (arith, p, (h.stopped q).1))

HasAll-before : (w v : Walk) → Later w v → HasAll v → HasAll w
HasAll-before w v h (inl p) = inl (h.owes p)
HasAll-before w v h (inr p) = inr (HasAll-below w v h p (cases_lt w.pushed w.limit))

HasAll-Omits : (w v : Walk) → Omits w v → HasAll v → ⊥
HasAll-Omits w v h (inl p) = cc (p, h.owes)
HasAll-Omits w v h (inr p) = omega (arith, p, h.limit)

mutual
  pub ClosedBy-Walked : {rule : Rule} {w v : Walk} {b c : Tree} → Walked rule w b c v → HasAll v → ClosedBy rule b c
  ClosedBy-Walked (empty_gets h) all = at_empty refl
  ClosedBy-Walked (empty_lacks {w = w} {v = v} h) all = absurd (HasAll-Omits w v h all)
  ClosedBy-Walked (walked.stays d p) all = stays (ClosedInside-Walked d all) p
  ClosedBy-Walked (gets d p h) all = changes (ClosedInside-Walked d (inr h.below)) p refl
  ClosedBy-Walked (lacks {u = u} {v = v} d p h) all = absurd (HasAll-Omits u v h all)

  ClosedInside-Walked : {rule : Rule} {w v : Walk} {s t : Node} → WalkedInside rule w s t v → HasAll v → InsideAre (follows rule) GetsReturn s t
  ClosedInside-Walked walked.in_plain all = in_plain
  ClosedInside-Walked walked.in_loop all = in_loop
  ClosedInside-Walked (in_return p h) all = in_jump
  ClosedInside-Walked (walked.in_jump p) all = in_jump
  ClosedInside-Walked (walked.in_block d) all = in_block (ClosedBy-Walked d all)
  ClosedInside-Walked (walked.in_branch {u = u} {v = v} d e) all =
      in_branch (ClosedBy-Walked d (HasAll-before u v (Walked-Later e) all)) (ClosedBy-Walked e all)
  ClosedInside-Walked (walked.in_cases d) all = in_cases (CasesClosed-Walked d all)

  CasesClosed-Walked : {rule : Rule} {w v : Walk} {cs ds : Cases} → WalkedCases rule w cs ds v → HasAll v → CasesClosed rule cs ds
  CasesClosed-Walked walked.no_more all = no_more
  CasesClosed-Walked (walked.falling d) all = falling (CasesClosed-Walked d all)
  CasesClosed-Walked (walked.ending {u = u} {v = v} d e) all =
      ending (ClosedBy-Walked d (HasAll-before u v (WalkedCases-Later e) all)) (CasesClosed-Walked e all)

-- ---- a walk that left out returns

mutual
  MayGetReturn-Walked : {rule : Rule} {w v : Walk} {b c : Tree} → Walked rule w b c v → TailsAre (follows rule) MayGetReturn b c
  MayGetReturn-Walked (empty_gets h) = at_empty (inr refl)
  MayGetReturn-Walked (empty_lacks h) = at_empty (inl refl)
  MayGetReturn-Walked (walked.stays d p) = stays (MayGetReturn-WalkedInside d) p
  MayGetReturn-Walked (gets d p h) = changes (MayGetReturn-WalkedInside d) p (inr refl)
  MayGetReturn-Walked (lacks d p h) = changes (MayGetReturn-WalkedInside d) p (inl refl)

  MayGetReturn-WalkedInside : {rule : Rule} {w v : Walk} {s t : Node} → WalkedInside rule w s t v → InsideAre (follows rule) MayGetReturn s t
  MayGetReturn-WalkedInside walked.in_plain = in_plain
  MayGetReturn-WalkedInside walked.in_loop = in_loop
  MayGetReturn-WalkedInside (in_return p h) = in_jump
  MayGetReturn-WalkedInside (walked.in_jump p) = in_jump
  MayGetReturn-WalkedInside (walked.in_block d) = in_block (MayGetReturn-Walked d)
  MayGetReturn-WalkedInside (walked.in_branch d e) = in_branch (MayGetReturn-Walked d) (MayGetReturn-Walked e)
  MayGetReturn-WalkedInside (walked.in_cases d) = in_cases (MayGetReturn-WalkedCases d)

  MayGetReturn-WalkedCases : {rule : Rule} {w v : Walk} {cs ds : Cases} → WalkedCases rule w cs ds v → CaseTailsAre (follows rule) MayGetReturn cs ds
  MayGetReturn-WalkedCases walked.no_more = no_more
  MayGetReturn-WalkedCases (walked.falling d) = falling (MayGetReturn-WalkedCases d)
  MayGetReturn-WalkedCases (walked.ending d e) = ending (MayGetReturn-Walked d) (MayGetReturn-WalkedCases e)

pub follows-WalkedInside : {rule : Rule} {w v : Walk} {s t : Node} → WalkedInside rule w s t v → follows rule t ≡ follows rule s
follows-WalkedInside {rule = rule} d = follows-InsideAre rule MayGetReturn-AddsNoBreak (MayGetReturn-WalkedInside d)

closed-gets : (rule : Rule) (front : Tree) (last new : Node) (span : Span) → follows rule last ≡ true → new ≡ closed_inside rule last →
    closed rule (returned (push front new span)) ≡ closed rule (push front last span)
closed-gets rule front last new span p q =
    ap (λ t. returned (push front t span)) q ∙ sym (ap (λ gets. returned_if gets (push front (closed_inside rule last) span)) p)

closed-lacks : (rule : Rule) (front : Tree) (last new : Node) (span : Span) → follows rule new ≡ follows rule last →
    closed_inside rule new ≡ closed_inside rule last → closed rule (push front new span) ≡ closed rule (push front last span)
closed-lacks rule front last new span p q = λ i. returned_if (p i) (push front (q i) span)

-- closing goes on from where the walk leads to
mutual
  pub closed-Walked : {rule : Rule} {w v : Walk} {b c : Tree} → Walked rule w b c v → closed rule c ≡ closed rule b
  closed-Walked (empty_gets h) = refl
  closed-Walked (empty_lacks h) = refl
  closed-Walked {rule = rule} (walked.stays {front = f} {last = s} {new = t} {span = p} d q) =
      closed-lacks rule f s t p (follows-WalkedInside d) (closed_inside-Walked d)
  closed-Walked {rule = rule} (gets {front = f} {last = s} {new = t} {span = p} d q h) =
      closed-gets rule f s t p q (closed_inside-ClosedInside rule (ClosedInside-Walked d (inr h.below)))
  closed-Walked {rule = rule} (lacks {front = f} {last = s} {new = t} {span = p} d q h) =
      closed-lacks rule f s t p (follows-WalkedInside d) (closed_inside-Walked d)

  closed_inside-Walked : {rule : Rule} {w v : Walk} {s t : Node} → WalkedInside rule w s t v → closed_inside rule t ≡ closed_inside rule s
  closed_inside-Walked walked.in_plain = refl
  closed_inside-Walked walked.in_loop = refl
  closed_inside-Walked (in_return p h) = refl
  closed_inside-Walked (walked.in_jump p) = refl
  closed_inside-Walked (walked.in_block d) = ap nested (closed-Walked d)
  closed_inside-Walked (walked.in_branch {condition = k} d e) = λ i. branch k (closed-Walked d i) (closed-Walked e i)
  closed_inside-Walked (walked.in_cases {selector = k} d) = ap (switch k) (closed_cases-Walked d)

  closed_cases-Walked : {rule : Rule} {w v : Walk} {cs ds : Cases} → WalkedCases rule w cs ds v → closed_cases rule ds ≡ closed_cases rule cs
  closed_cases-Walked walked.no_more = refl
  closed_cases-Walked (walked.falling {value = v} {b = b} d) = ap (case v b true) (closed_cases-Walked d)
  closed_cases-Walked (walked.ending {value = v} d e) = λ i. case v (closed-Walked d i) false (closed_cases-Walked e i)

pub ClosedBy-goes_on : (rule : Rule) (w v : Walk) (b c d : Tree) → Walked rule w b c v → ClosedBy rule c d → ClosedBy rule b d
ClosedBy-goes_on rule w v b c d walked h =
    (ClosedBy-is rule b d).1 ((ClosedBy-is rule c d).0 h ∙ closed-Walked walked)
