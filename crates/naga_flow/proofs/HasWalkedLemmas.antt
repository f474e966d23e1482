-- What a walk over a block has found, at its start and after one more statement.
use Rattle.std.proofs.Common.{◌≡◌, ◌≤◌, ℕ, Bool, true, false, not, ◌&&◌, ◌||◌, List, ◌++◌, length, take, drop, refl, sym, ◌∙◌, ap, arith}
use Rattle.std.proofs.lemmas.Bool.{and_parts, not-true}
use Rattle.std.proofs.lemmas.List.{take-append-le, take_all}
use Rattle.std.specs.Prelude.{if◌then◌else◌}
use Rattle.naga_arena.specs.declared.span.Span.{Span}
use Rattle.naga_ir.specs.Tree.{Tree, empty, push, Node}
use Rattle.naga_flow.specs.Misuses.{number_after_node}
use Rattle.naga_flow.specs.Tracking.{Seen, all_known, known_of, none_known, scope_of}
use Rattle.naga_flow.specs.Uses.{Expressions, certain, may_be_skipped, values_of, values_of_node}
use Rattle.naga_flow.specs.Walked.{HasKept, HasPassed, HasPassedInner, HasWalked, next_cut, still_certain, walked_on}
use Rattle.naga_flow.specs.Ways.{either, followed, only_off, ways_of, ways_of_node}
use Rattle.naga_flow.specs.declared.walked.Passed.{Passed}
use Rattle.naga_flow.specs.declared.walked.Walked.{Walked}
use Rattle.naga_flow.specs.declared.ways.Ways.{Ways}
use Rattle.naga_flow.proofs.ScopesLemmas.{NodePasses-same}
use Rattle.naga_flow.proofs.SeenLemmas.{all_known-after, all_known-nothing, known-after, known-kept, length-after, length-kept, scope-after, scope-kept, starts-after, starts-kept}
use Rattle.naga_flow.proofs.WaysLemmas.{not-false, or_right}

pub HasWalked-start : (expressions : Expressions) (number : ℕ) (old : List Seen) (walked : Walked) →
    walked.next ≡ number → walked.ways ≡ only_off true → walked.certain ≡ length old → walked.is_certain ≡ true →
    HasWalked expressions number old empty walked old
HasWalked-start expressions number old walked next ways cut is_certain = record {
  passes = (tt, tt);
  is = all_known-nothing old;
  next = next;
  ways = ways;
  cut = take_all walked.certain old (omega (arith, cut)) ∙ all_known-nothing old;
  cut_within = omega (arith, cut);
  all_certain = λ h. refl;
  some_skipped = λ h. absurd (let e : true ≡ false = sym is_certain ∙ h in cc);
}

-- flags after one more statement
flags-followed : (c off on off' on' : Bool) → off ≡ true → (c ≡ false → (not off || on) ≡ true) → (c && not (not off || (on || on'))) ≡ false → (not off' || (on || on')) ≡ true
flags-followed c off true off' on' q h k = or_right (not off') true refl
flags-followed c off false off' true q h k = or_right (not off') true refl
flags-followed c false false off' false q h k = absurd (let e : false ≡ true = q in cc)
flags-followed true true false off' false q h k = absurd (let e : true ≡ false = k in cc)
flags-followed false true false off' false q h k = absurd (let e : false ≡ true = h refl in cc)

abbrev followed_if : Bool → Ways → Ways → Ways
followed_if t a b = if t then record (either a b) { falls_off = b.falls_off } else a

skipped-by : (c t : Bool) (a b : Ways) → a.falls_off ≡ t → (c ≡ false → (not a.falls_off || a.continues) ≡ true) → still_certain c a b ≡ false →
    (not (followed_if t a b).falls_off || (followed_if t a b).continues) ≡ true
skipped-by c true a b q h k = flags-followed c a.falls_off a.continues b.falls_off b.continues q h k
skipped-by c false a b q h k = ap (λ off. not off || a.continues) q

skipped-followed : (c : Bool) (a b : Ways) → (c ≡ false → (not a.falls_off || a.continues) ≡ true) → still_certain c a b ≡ false →
    (not (followed a b).falls_off || (followed a b).continues) ≡ true
skipped-followed c a b h k = skipped-by c a.falls_off a b refl h k

still-parts : (c : Bool) (a b : Ways) → still_certain c a b ≡ true → (c ≡ true) × (may_be_skipped a b ≡ false)
still-parts c a b h =
    let parts = and_parts c (not (may_be_skipped a b)) h in
    (parts.0, not-true (may_be_skipped a b) parts.1)

skipped-more : (x y z : Bool) → (x || y) ≡ true → (x || (y || z)) ≡ true
skipped-more true y z h = refl
skipped-more false true z h = refl
skipped-more false false z h = absurd (let e : false ≡ true = h in cc)

-- the statement is skipped, if the walk is no longer certain
still-not : (c : Bool) (a b : Ways) → (c ≡ false → (not a.falls_off || a.continues) ≡ true) → still_certain c a b ≡ false → may_be_skipped a b ≡ true
still-not false a b h k = skipped-more (not a.falls_off) a.continues b.continues (h refl)
still-not true a b h k = not-false (may_be_skipped a b) k

certain-at : (t : Bool) (front : Tree) (last : Node) (span : Span) → may_be_skipped (ways_of front) (ways_of_node last) ≡ t →
    certain (push front last span) ≡ (if t then certain front else push front last span)
certain-at t front last span h = ap (λ t. if t then certain front else push front last span) h

next-within : (t : Bool) (cut len len' : ℕ) → cut ≤ len → len ≤ len' → next_cut t cut len' ≤ len'
next-within true cut len len' h k = omega arith
next-within false cut len len' h k = omega (arith, h, k)

-- ---- one more statement

module _ (expressions : Expressions) (number : ℕ) (old : List Seen) (front : Tree) (last : Node) (span : Span) (now now' : List Seen) (walked : Walked) (passed : Passed) where
  module _ (so : HasWalked expressions number old front walked now) (more : HasPassed expressions walked.next now last passed now') where
    all_is : now' ≡ old ++ all_known (values_of front ++ values_of_node last)
    all_is = all_known-after old now (values_of front) so.is now' (values_of_node last) more.is

    longer : length now ≤ length now'
    longer = length-after now now' (values_of_node last) more.is

    cut_is : (t : Bool) → still_certain walked.is_certain walked.ways passed.ways ≡ t →
        take (next_cut t walked.certain (length now')) now' ≡ old ++ all_known (values_of (certain (push front last span)))
    cut_is true h =
        let parts = still-parts walked.is_certain walked.ways passed.ways h in
        let at : may_be_skipped (ways_of front) (ways_of_node last) ≡ false = (λ i. may_be_skipped (sym so.ways i) (sym more.ways i)) ∙ parts.1 in
        take_all (length now') now' (omega arith) ∙ (all_is ∙ ap (λ b. old ++ all_known (values_of b)) (sym (certain-at false front last span at)))
    cut_is false h =
        let skipped : may_be_skipped walked.ways passed.ways ≡ true = still-not walked.is_certain walked.ways passed.ways so.some_skipped h in
        let at : may_be_skipped (ways_of front) (ways_of_node last) ≡ true = (λ i. may_be_skipped (sym so.ways i) (sym more.ways i)) ∙ skipped in
        ap (take walked.certain) more.is
        ∙ (take-append-le walked.certain now (all_known (values_of_node last)) so.cut_within
        ∙ (so.cut ∙ ap (λ b. old ++ all_known (values_of b)) (sym (certain-at true front last span at))))

    pub HasWalked-next : HasWalked expressions number old (push front last span) (walked_on walked passed (length now')) now'
    HasWalked-next =
        let still = still_certain walked.is_certain walked.ways passed.ways in
        let here = NodePasses-same expressions (known_of now) (values_of front ++ known_of old) (scope_of now) (values_of front ++ scope_of old)
        (known-after old now (values_of front) so.is) (scope-after old now (values_of front) so.is) last more.passes
        in
        record {
          passes = ((so.passes.0, here.0), (so.passes.1, here.1));
          is = all_is;
          next = more.next ∙ ap (λ n. number_after_node n last) so.next;
          ways = λ i. followed (so.ways i) (more.ways i);
          cut = cut_is still refl;
          cut_within = next-within still walked.certain (length now) (length now') so.cut_within longer;
          all_certain = λ h. certain-at false front last span ((λ i. may_be_skipped (sym so.ways i) (sym more.ways i)) ∙ (still-parts walked.is_certain walked.ways passed.ways h).1);
          some_skipped = skipped-followed walked.is_certain walked.ways passed.ways so.some_skipped;
        }

-- ---- after a block

module _ (expressions : Expressions) (number : ℕ) (old : List Seen) (block : Tree) (walked : Walked) (now : List Seen) (so : HasWalked expressions number old block walked now)
    (now' : List Seen) (passed : Passed) (passed_is : passed ≡ record { next = walked.next; ways = walked.ways }) where
  pub HasWalked-forgotten : now' ≡ take (length old) now → HasPassedInner expressions number old block passed now'
  HasWalked-forgotten is = record {
    passes = so.passes;
    unchanged = is ∙ starts-after old now (values_of block) so.is;
    next = ap (λ (p : Passed). p.next) passed_is ∙ so.next;
    ways = ap (λ (p : Passed). p.ways) passed_is ∙ so.ways;
  }

  pub HasWalked-kept : now' ≡ take walked.certain now ++ none_known (drop walked.certain now) → HasKept expressions number old block passed now'
  HasWalked-kept is = record {
    passes = so.passes;
    starts = starts-kept old now now' walked.certain (values_of block) (values_of (certain block)) so.is so.cut is;
    within = length-kept old now now' walked.certain (values_of block) (values_of (certain block)) so.is so.cut is;
    known = known-kept old now now' walked.certain (values_of block) (values_of (certain block)) so.is so.cut is;
    scope = scope-kept old now now' walked.certain (values_of block) (values_of (certain block)) so.is so.cut is;
    next = ap (λ (p : Passed). p.next) passed_is ∙ so.next;
    ways = ap (λ (p : Passed). p.ways) passed_is ∙ so.ways;
  }
