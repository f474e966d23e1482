-- Taking away the returns that a walk inserted, from the first on.
use Rattle.std.proofs.Common.{◌≡◌, ap, refl, ℕ, suc, ◌≤◌, true, false, arith}
use Rattle.naga_arena.specs.declared.span.Span.{Span}
use Rattle.naga_kinds.specs.declared.switch.SwitchValue.{SwitchValue}
use Rattle.naga_ir.specs.Tree.{Tree, empty, push, Node, plain, nested, branch, switch, loop, jump, Jump, Cases, no_cases, case}
use Rattle.naga_proc.specs.Closing.{follows}
use Rattle.naga_proc.specs.Closing.Walked.{Inserts, Omits, Walked, WalkedInside, WalkedCases, empty_gets, empty_lacks, stays, gets, lacks, in_plain, in_loop, in_return, in_jump, in_block, in_branch, in_cases, no_more, falling, ending, at_empty, at_last, Reaches, Leaves, TakesBack, TakesBackInside, TakesBackLast, CasesTakeBack, ends_in_return, has_no_value, is_return}
use Rattle.naga_proc.specs.declared.terminator.one_walk.Walk.{Walk}
use Rattle.naga_proc.specs.declared.terminator.rule.Rule.{Rule}
use Rattle.naga_proc.proofs.Closing.HasRoomInsideLemmas.{is_shallow}
use Rattle.naga_proc.proofs.Closing.WalkedLemmas.{Later, Walked-Later, WalkedInside-Later, WalkedCases-Later}

-- ---- a walk that inserts nothing

mutual
  Walked-same : {rule : Rule} {w v : Walk} {b c : Tree} → Walked rule w b c v → v.pushed ≤ w.pushed → c ≡ b
  Walked-same (empty_gets h) p = absurd (omega (arith, p, h.pushed))
  Walked-same (empty_lacks h) p = refl
  Walked-same (stays {front = f} {span = s} d q) p = ap (λ t. push f t s) (WalkedInside-same d p)
  Walked-same (gets d q h) p = absurd (let later = WalkedInside-Later d in omega (arith, p, h.pushed, later.pushed))
  Walked-same (lacks {front = f} {span = s} d q h) p = ap (λ t. push f t s) (WalkedInside-same d (omega (arith, p, h.pushed)))

  WalkedInside-same : {rule : Rule} {w v : Walk} {s t : Node} → WalkedInside rule w s t v → v.pushed ≤ w.pushed → t ≡ s
  WalkedInside-same in_plain p = refl
  WalkedInside-same in_loop p = refl
  WalkedInside-same (in_return q h) p = refl
  WalkedInside-same (in_jump q) p = refl
  WalkedInside-same (in_block d) p = ap nested (Walked-same d p)
  WalkedInside-same (in_branch {condition = k} d e) p =
      let first = Walked-Later d in
      let second = Walked-Later e in
      let x = Walked-same d (omega (arith, p, second.pushed)) in
      let y = Walked-same e (omega (arith, p, first.pushed)) in
      λ i. branch k (x i) (y i)
  WalkedInside-same (in_cases {selector = k} d) p = ap (switch k) (WalkedCases-same d p)

  WalkedCases-same : {rule : Rule} {w v : Walk} {cs ds : Cases} → WalkedCases rule w cs ds v → v.pushed ≤ w.pushed → ds ≡ cs
  WalkedCases-same no_more p = refl
  WalkedCases-same (falling {value = x} {b = b} d) p = ap (case x b true) (WalkedCases-same d p)
  WalkedCases-same (ending {value = x} d e) p =
      let first = Walked-Later d in
      let second = WalkedCases-Later e in
      let y = Walked-same d (omega (arith, p, second.pushed)) in
      let z = WalkedCases-same e (omega (arith, p, first.pushed)) in
      λ i. case x (y i) false (z i)

-- ---- a block

pub TakesBack-none : (b : Tree) → TakesBack 0 b b 0
TakesBack-none b rule w v before d h =
    let later = Walked-Later d in
    (Walked-same d (omega (arith, h.most)), omega (arith, h.most, later.pushed))

-- a statement that a return follows is no jump
follows-jump : {rule : Rule} {w u : Walk} {last : Node} {to : Jump} → WalkedInside rule w last (jump to) u → follows rule last ≡ true → ⊥
follows-jump (in_return p h) q = let e : false ≡ true = q in cc
follows-jump (in_jump p) q = let e : false ≡ true = q in cc

-- a return that was there before is reached only if no return is to be taken away
Reaches-return : {rule : Rule} {w v : Walk} {last : Node} {to : Jump} {count : ℕ} → WalkedInside rule w last (jump to) v → has_no_value to ≡ true → Reaches w v (suc count) → ⊥
Reaches-return (in_return p q) e h = let same = h.all q.limit in omega (arith, same, q.pushed)
Reaches-return (in_jump p) e h = cc (e, p)

Reaches-Inserts : (w u v : Walk) (count : ℕ) → Inserts u v → Reaches w v (suc count) → Reaches w u count
Reaches-Inserts w u v count p h = record {
  most = omega (arith, h.most, p.pushed);
  all = λ q. absurd (omega (arith, q, p.below));
}

Reaches-Omits : (w u v : Walk) (count : ℕ) → Omits u v → Reaches w v count → Reaches w u count
Reaches-Omits w u v count p h = record {
  most = omega (arith, h.most, p.pushed);
  all = λ q. let same = h.all p.limit in omega (arith, same, p.pushed);
}

-- a block whose last return was taken away
TakesBack-jump : (count : ℕ) (front : Tree) (to : Jump) (span : Span) (c : Tree) (left : ℕ) → has_no_value to ≡ true → TakesBackLast count front c left → TakesBack (suc count) (push front (jump to) span) c left
TakesBack-jump count front to span c left e last rule w v before (empty_gets p) h =
    let found = last rule w w empty (at_empty refl) (record { most = omega arith; all = λ q. absurd (omega (arith, q, p.below)) }) in
    (found.0, omega (arith, found.1, p.pushed))
TakesBack-jump count front to span c left e last rule w v before (stays d p) h = absurd (Reaches-return d e h)
TakesBack-jump count front to span c left e last rule w v before (gets {u = u} d q p) h =
    let found = last rule w u _ (at_last d) (Reaches-Inserts w u v count p h) in
    (found.0, omega (arith, found.1, p.pushed))
TakesBack-jump count front to span c left e last rule w v before (lacks d p q) h = absurd (follows-jump d p)

pub TakesBack-returned : (count : ℕ) (front : Tree) (last : Node) (span : Span) (c : Tree) (left : ℕ) → is_return last ≡ true → TakesBackLast count front c left → TakesBack (suc count) (push front last span) c left
TakesBack-returned count front (jump to) span c left e last = TakesBack-jump count front to span c left e last
TakesBack-returned count front (plain what) span c left e last = absurd (let no : false ≡ true = e in cc)
TakesBack-returned count front (nested b) span c left e last = absurd (let no : false ≡ true = e in cc)
TakesBack-returned count front (branch condition b d) span c left e last = absurd (let no : false ≡ true = e in cc)
TakesBack-returned count front (switch selector cs) span c left e last = absurd (let no : false ≡ true = e in cc)
TakesBack-returned count front (loop body continuing break_if) span c left e last = absurd (let no : false ≡ true = e in cc)

-- a block that does not end in such a return
TakesBack-shut_at : {rule : Rule} {w v : Walk} {b before : Tree} (count : ℕ) (c : Tree) (left : ℕ) → ends_in_return b ≡ false → TakesBackLast count b c left → Walked rule w before b v → Reaches w v count → (c ≡ before) × Leaves w v count left
TakesBack-shut_at {rule = rule} {w = w} {v = v} count c left e last (empty_gets p) h = absurd (let no : true ≡ false = e in cc)
TakesBack-shut_at {rule = rule} {w = w} {v = v} count c left e last (empty_lacks p) h = last rule w v empty (at_empty p.pushed) h
TakesBack-shut_at {rule = rule} {w = w} {v = v} count c left e last (stays d q) h = last rule w v _ (at_last d) h
TakesBack-shut_at {rule = rule} {w = w} {v = v} count c left e last (gets d q p) h = absurd (let no : true ≡ false = e in cc)
TakesBack-shut_at {rule = rule} {w = w} {v = v} count c left e last (lacks {u = u} d q p) h =
    let found = last rule w u _ (at_last d) (Reaches-Omits w u v count p h) in
    (found.0, omega (arith, found.1, p.pushed))

pub TakesBack-shut : (count : ℕ) (b c : Tree) (left : ℕ) → ends_in_return b ≡ false → TakesBackLast count b c left → TakesBack count b c left
TakesBack-shut count b c left e last rule w v before d h = TakesBack-shut_at count c left e last d h

-- ---- the last statement of a block

pub TakesBackLast-empty : (count : ℕ) → TakesBackLast count empty empty count
TakesBackLast-empty count rule w v before (at_empty p) h = (refl, omega (arith, p))

pub TakesBackLast-last : (count : ℕ) (front : Tree) (s t : Node) (span : Span) (left : ℕ) → TakesBackInside count s t left → TakesBackLast count (push front s span) (push front t span) left
TakesBackLast-last count front s t span left inside rule w v before (at_last {last = r} d) h =
    let found = inside rule w v r d h in
    (ap (λ x. push front x span) found.0, found.1)

-- ---- a statement

TakesBackInside-shallow_at : {rule : Rule} {w v : Walk} {s before : Node} (count : ℕ) → is_shallow s ≡ true → WalkedInside rule w before s v → (s ≡ before) × Leaves w v count count
TakesBackInside-shallow_at count e in_plain = (refl, refl)
TakesBackInside-shallow_at count e in_loop = (refl, refl)
TakesBackInside-shallow_at count e (in_return p h) = (refl, omega (arith, h.pushed))
TakesBackInside-shallow_at count e (in_jump p) = (refl, refl)
TakesBackInside-shallow_at count e (in_block d) = absurd (let no : false ≡ true = e in cc)
TakesBackInside-shallow_at count e (in_branch d f) = absurd (let no : false ≡ true = e in cc)
TakesBackInside-shallow_at count e (in_cases d) = absurd (let no : false ≡ true = e in cc)

pub TakesBackInside-shallow : (count : ℕ) (s : Node) → is_shallow s ≡ true → TakesBackInside count s s count
TakesBackInside-shallow count s e rule w v before d h = TakesBackInside-shallow_at count e d

pub TakesBackInside-nested : (count : ℕ) (b c : Tree) (left : ℕ) → TakesBack count b c left → TakesBackInside count (nested b) (nested c) left
TakesBackInside-nested count b c left back rule w v before (in_block {b = a} d) h =
    let found = back rule w v a d h in
    (ap nested found.0, found.1)

-- the first of two parts of a walk, and the second
Reaches-first : (w u v : Walk) (count : ℕ) → Later u v → Reaches w v count → Reaches w u count
Reaches-first w u v count later h = record {
  most = omega (arith, h.most, later.pushed);
  all = λ q. let rest = later.stopped q in let same = h.all rest.1 in omega (arith, same, rest.0);
}

Reaches-second : (w u v : Walk) (count left : ℕ) → Leaves w u count left → Reaches w v count → Reaches u v left
Reaches-second w u v count left spent h = record {
  most = omega (arith, h.most, spent);
  all = λ q. let same = h.all q in omega (arith, same, spent);
}

pub TakesBackInside-branch : (count : ℕ) (condition : ℕ) (b c d e : Tree) (between left : ℕ) → TakesBack count b c between → TakesBack between d e left → TakesBackInside count (branch condition b d) (branch condition c e) left
TakesBackInside-branch count condition b c d e between left first second rule w v before (in_branch {u = u} {b = x} {d = y} p q) h =
    let one = first rule w u x p (Reaches-first w u v count (Walked-Later q) h) in
    let other = second rule u v y q (Reaches-second w u v count between one.1 h) in
    ((λ i. branch condition (one.0 i) (other.0 i)), omega (arith, one.1, other.1))

pub TakesBackInside-switch : (count : ℕ) (selector : ℕ) (cs ds : Cases) (left : ℕ) → CasesTakeBack count cs ds left → TakesBackInside count (switch selector cs) (switch selector ds) left
TakesBackInside-switch count selector cs ds left back rule w v before (in_cases {cs = xs} d) h =
    let found = back rule w v xs d h in
    (ap (switch selector) found.0, found.1)

-- ---- the cases

pub CasesTakeBack-none : (count : ℕ) → CasesTakeBack count no_cases no_cases count
CasesTakeBack-none count rule w v before no_more h = (refl, refl)

pub CasesTakeBack-falling : (count : ℕ) (value : SwitchValue) (b : Tree) (cs ds : Cases) (left : ℕ) → CasesTakeBack count cs ds left → CasesTakeBack count (case value b true cs) (case value b true ds) left
CasesTakeBack-falling count value b cs ds left others rule w v before (falling {cs = xs} d) h =
    let found = others rule w v xs d h in
    (ap (case value b true) found.0, found.1)

pub CasesTakeBack-ending : (count : ℕ) (value : SwitchValue) (b c : Tree) (cs ds : Cases) (between left : ℕ) → TakesBack count b c between → CasesTakeBack between cs ds left → CasesTakeBack count (case value b false cs) (case value c false ds) left
CasesTakeBack-ending count value b c cs ds between left first others rule w v before (ending {u = u} {b = x} {cs = xs} p q) h =
    let one = first rule w u x p (Reaches-first w u v count (WalkedCases-Later q) h) in
    let other = others rule u v xs q (Reaches-second w u v count between one.1 h) in
    ((λ i. case value (one.0 i) false (other.0 i)), omega (arith, one.1, other.1))

-- ---- a whole walk

-- taking away as many returns as were inserted gives back the block that was
pub TakesBack-all : (rule : Rule) (w v : Walk) (before b c : Tree) (left : ℕ) → w.pushed ≡ 0 → Walked rule w before b v → TakesBack v.pushed b c left → c ≡ before
TakesBack-all rule w v before b c left none d back =
    (back rule w v before d (record { most = omega (arith, none); all = λ q. omega (arith, none) })).0
