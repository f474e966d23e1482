-- Each run of a block ends in one of the block's ways.
use Rattle.std.proofs.Common.{◌≡◌, ◌≢◌, ◌<◌, ℕ, zero, suc, Bool, true, false, not, ◌&&◌, ◌||◌, inr, List, length, Option, refl, sym, ◌∙◌, ap, arith}
use Rattle.std.proofs.lemmas.Bool.{or_left, or_parts}
use Rattle.std.specs.Prelude.{if◌then◌else◌}
use Rattle.naga_ir.specs.Tree.{Tree, Node, Jump, break, continue, kill, return, Cases, no_cases, case}
use Rattle.naga_runs.specs.Exits.{has_default, last_falls}
use Rattle.naga_runs.specs.Runs.{Run, from, entered, values, ending_of, Asks, not_asked, unanswered, says_no, says_yes, BlockRuns, nothing, goes_on, stops, StatementRuns, meets, jumps, enters, rejects, accepts, selects, loops, CasesRun, past, falls, broken, ends, passed_on, LoopRuns, no_turn, again, left, over, TurnRuns, in_body, in_continuing, whole, undecided, unselected}
use Rattle.naga_runs.specs.declared.run.Ending.{Ending}
use Rattle.naga_runs.specs.declared.run.Ending.TheVariants.{Normal, Break, Continue, Return, Kill, Cut}
use Rattle.naga_runs.proofs.HasDefaultLemmas.{entered-within}
use Rattle.naga_runs.proofs.LastFallsLemmas.{last_falls-falling, last_falls-others}
use Rattle.naga_flow.specs.declared.ways.Ways.{Ways}
use Rattle.naga_flow.specs.Ways.{has_way, only_off, either, followed, ways_of_jump, out_of_case, may_be_passed, ways_of, ways_of_node, ways_of_cases}

pub or_right : (a b : Bool) → b ≡ true → (a || b) ≡ true
or_right true b h = refl
or_right false b h = h

-- ---- operations on ways

has_way-left : (a b : Ways) (e : Ending) → has_way a e ≡ true → has_way (either a b) e ≡ true
has_way-left a b Normal h = or_left a.falls_off b.falls_off h
has_way-left a b Break h = or_left a.breaks b.breaks h
has_way-left a b Continue h = or_left a.continues b.continues h
has_way-left a b (Return value) h = refl
has_way-left a b Kill h = refl
has_way-left a b Cut h = refl

has_way-right : (a b : Ways) (e : Ending) → has_way b e ≡ true → has_way (either a b) e ≡ true
has_way-right a b Normal h = or_right a.falls_off b.falls_off h
has_way-right a b Break h = or_right a.breaks b.breaks h
has_way-right a b Continue h = or_right a.continues b.continues h
has_way-right a b (Return value) h = refl
has_way-right a b Kill h = refl
has_way-right a b Cut h = refl

or_between : (x y z : Bool) → (x || z) ≡ true → (x || (y || z)) ≡ true
or_between true y z h = refl
or_between false y z h = or_right y z h

-- one more way between two
has_way-between : (a b c : Ways) (e : Ending) → has_way (either a c) e ≡ true → has_way (either a (either b c)) e ≡ true
has_way-between a b c Normal h = or_between a.falls_off b.falls_off c.falls_off h
has_way-between a b c Break h = or_between a.breaks b.breaks c.breaks h
has_way-between a b c Continue h = or_between a.continues b.continues c.continues h
has_way-between a b c (Return value) h = refl
has_way-between a b c Kill h = refl
has_way-between a b c Cut h = refl

followed_on : (a b : Ways) (e : Ending) → has_way b e ≡ true → has_way (record (either a b) { falls_off = b.falls_off }) e ≡ true
followed_on a b Normal h = h
followed_on a b Break h = or_right a.breaks b.breaks h
followed_on a b Continue h = or_right a.continues b.continues h
followed_on a b (Return value) h = refl
followed_on a b Kill h = refl
followed_on a b Cut h = refl

followed_before : (a b : Ways) (e : Ending) → has_way a e ≡ true → e ≢ Normal → has_way (record (either a b) { falls_off = b.falls_off }) e ≡ true
followed_before a b Normal h k = absurd (k refl)
followed_before a b Break h k = or_left a.breaks b.breaks h
followed_before a b Continue h k = or_left a.continues b.continues h
followed_before a b (Return value) h k = refl
followed_before a b Kill h k = refl
followed_before a b Cut h k = refl

has_way-second : (a b : Ways) (e : Ending) → a.falls_off ≡ true → has_way b e ≡ true → has_way (followed a b) e ≡ true
has_way-second a b e off h =
    ap (λ t. has_way (if t then record (either a b) { falls_off = b.falls_off } else a) e) off ∙ followed_on a b e h

first-by : (t : Bool) (a b : Ways) (e : Ending) → has_way a e ≡ true → e ≢ Normal → has_way (if t then record (either a b) { falls_off = b.falls_off } else a) e ≡ true
first-by true a b e h k = followed_before a b e h k
first-by false a b e h k = h

has_way-first : (a b : Ways) (e : Ending) → has_way a e ≡ true → e ≢ Normal → has_way (followed a b) e ≡ true
has_way-first a b e h k = first-by a.falls_off a b e h k

has_way-jump : (to : Jump) → has_way (ways_of_jump to) (ending_of to) ≡ true
has_way-jump break = refl
has_way-jump continue = refl
has_way-jump kill = refl
has_way-jump (return value) = refl

-- ---- loops

Asks-no_continue : {break_if : Option ℕ} {answers : List ℕ} {run : Run} → Asks break_if answers run → run.ending ≢ Continue
Asks-no_continue not_asked = λ q. cc
Asks-no_continue unanswered = λ q. cc
Asks-no_continue says_no = λ q. cc
Asks-no_continue says_yes = λ q. cc

TurnRuns-no_continue : {n : ℕ} {b c : Tree} {break_if : Option ℕ} {answers : List ℕ} {run : Run} → TurnRuns n b c break_if answers run → run.ending ≢ Continue
TurnRuns-no_continue (in_body d e) = λ q. e (inr q)
TurnRuns-no_continue (in_continuing d e k h) = λ q. h (inr q)
TurnRuns-no_continue (whole d e k h t) = Asks-no_continue t

LoopRuns-no_continue : {n others : ℕ} {b c : Tree} {break_if : Option ℕ} {answers : List ℕ} {run : Run} → LoopRuns n others b c break_if answers run → run.ending ≢ Continue
LoopRuns-no_continue no_turn = λ q. cc
LoopRuns-no_continue (again d e k) = LoopRuns-no_continue k
LoopRuns-no_continue (left d e) = λ q. cc
LoopRuns-no_continue (over d e k) = TurnRuns-no_continue d

LoopRuns-no_break : {n others : ℕ} {b c : Tree} {break_if : Option ℕ} {answers : List ℕ} {run : Run} → LoopRuns n others b c break_if answers run → run.ending ≢ Break
LoopRuns-no_break no_turn = λ q. cc
LoopRuns-no_break (again d e k) = LoopRuns-no_break k
LoopRuns-no_break (left d e) = λ q. cc
LoopRuns-no_break (over d e k) = e

has_way-loop : (e : Ending) → e ≢ Break → e ≢ Continue → has_way (only_off true) e ≡ true
has_way-loop Normal h k = refl
has_way-loop Break h k = absurd (h refl)
has_way-loop Continue h k = absurd (k refl)
has_way-loop (Return value) h k = refl
has_way-loop Kill h k = refl
has_way-loop Cut h k = refl

-- ---- switches

has_way-past : (passed : Bool) → (passed ≡ false → (0 < length (values no_cases)) × (last_falls no_cases ≡ false)) → has_way (either (only_off passed) (ways_of_cases no_cases)) Normal ≡ true
has_way-past true h = refl
has_way-past false h = absurd (let within : 0 < 0 = (h refl).0 in omega (arith, within))

has_way-broken : (passed through : Bool) (body others : Ways) → body.breaks ≡ true → has_way (either (only_off passed) (either (out_of_case through body) others)) Normal ≡ true
has_way-broken passed through body others h =
    or_right passed _ (or_left (body.breaks || (not through && body.falls_off)) others.falls_off (or_left body.breaks (not through && body.falls_off) h))

has_way-case : (passed through : Bool) (body others : Ways) (e : Ending) → has_way body e ≡ true → e ≢ Break → (e ≡ Normal → through ≡ false) →
    has_way (either (only_off passed) (either (out_of_case through body) others)) e ≡ true
has_way-case passed true body others Normal h k l = absurd (let q : true ≡ false = l refl in cc)
has_way-case passed false body others Normal h k l =
    or_right passed _ (or_left (body.breaks || body.falls_off) others.falls_off (or_right body.breaks body.falls_off h))
has_way-case passed through body others Break h k l = absurd (k refl)
has_way-case passed through body others Continue h k l = or_left body.continues others.continues h
has_way-case passed through body others (Return value) h k l = refl
has_way-case passed through body others Kill h k l = refl
has_way-case passed through body others Cut h k l = refl

pub not-false : (b : Bool) → not b ≡ false → b ≡ true
not-false true h = refl
not-false false h = absurd (let q : true ≡ false = h in cc)

-- the cases from a position on
from-not_passed : (k : ℕ) (cases : Cases) → k < length (values cases) → last_falls cases ≡ false → (0 < length (values (from k cases))) × (last_falls (from k cases) ≡ false)
from-not_passed zero cases h l = (h, l)
from-not_passed (suc k) no_cases h l = absurd (omega (arith, h))
from-not_passed (suc k) (case v b f cs) h l = from-not_passed k cs (omega (arith, h)) (last_falls-others v b f cs l)

has_way-from : (a : Ways) (k : ℕ) (cases : Cases) (e : Ending) → has_way (either a (ways_of_cases (from k cases))) e ≡ true → has_way (either a (ways_of_cases cases)) e ≡ true
has_way-from a zero cases e h = h
has_way-from a (suc k) no_cases e h = h
has_way-from a (suc k) (case v b f cs) e h = has_way-between a (out_of_case f (ways_of b)) (ways_of_cases cs) e (has_way-from a k cs e h)

mutual
  pub BlockRuns-has_way : {n : ℕ} {b : Tree} {answers : List ℕ} {run : Run} → BlockRuns n b answers run → has_way (ways_of b) run.ending ≡ true
  BlockRuns-has_way nothing = refl
  BlockRuns-has_way (goes_on {front = front} {last = last} {second = second} d e k) =
      has_way-second (ways_of front) (ways_of_node last) second.ending (sym (ap (has_way (ways_of front)) e) ∙ BlockRuns-has_way d) (StatementRuns-has_way k)
  BlockRuns-has_way (stops {front = front} {last = last} {run = r} d e) = has_way-first (ways_of front) (ways_of_node last) r.ending (BlockRuns-has_way d) e

  pub StatementRuns-has_way : {n : ℕ} {s : Node} {answers : List ℕ} {run : Run} → StatementRuns n s answers run → has_way (ways_of_node s) run.ending ≡ true
  StatementRuns-has_way meets = refl
  StatementRuns-has_way (jumps {to = to}) = has_way-jump to
  StatementRuns-has_way (enters d) = BlockRuns-has_way d
  StatementRuns-has_way undecided = refl
  StatementRuns-has_way (rejects {accept = accept} {reject = reject} {run = r} d) = has_way-right (ways_of accept) (ways_of reject) r.ending (BlockRuns-has_way d)
  StatementRuns-has_way (accepts {accept = accept} {reject = reject} {run = r} d) = has_way-left (ways_of accept) (ways_of reject) r.ending (BlockRuns-has_way d)
  StatementRuns-has_way unselected = refl
  StatementRuns-has_way (selects {answer = answer} {cases = cases} {run = r} d) =
      let at : ℕ = entered (values cases) answer in
      has_way-from (only_off (may_be_passed cases)) at cases r.ending (CasesRun-has_way (may_be_passed cases) d (λ q.
      let parts = or_parts (not (has_default (values cases))) (last_falls cases) q in
      from-not_passed at cases (entered-within (values cases) answer (not-false (has_default (values cases)) parts.0)) parts.1))
  StatementRuns-has_way (loops {run = r} d) = has_way-loop r.ending (LoopRuns-no_break d) (LoopRuns-no_continue d)

  CasesRun-has_way : {n : ℕ} {cases : Cases} {answers : List ℕ} {run : Run} (passed : Bool) → CasesRun n cases answers run →
      (passed ≡ false → (0 < length (values cases)) × (last_falls cases ≡ false)) → has_way (either (only_off passed) (ways_of_cases cases)) run.ending ≡ true
  CasesRun-has_way passed past h = has_way-past passed h
  CasesRun-has_way passed (falls {value = v} {body = b} {others = cs} {second = second} d e k) h =
      has_way-between (only_off passed) (out_of_case true (ways_of b)) (ways_of_cases cs) second.ending
      (CasesRun-has_way passed k (λ q. last_falls-falling v b cs (h q).1))
  CasesRun-has_way passed (broken {body = b} {falls_through = t} {others = cs} d e) h =
      has_way-broken passed t (ways_of b) (ways_of_cases cs) (sym (ap (has_way (ways_of b)) e) ∙ BlockRuns-has_way d)
  CasesRun-has_way passed (ends {body = b} {others = cs} {run = r} d e) h =
      has_way-case passed false (ways_of b) (ways_of_cases cs) r.ending (BlockRuns-has_way d) e (λ q. refl)
  CasesRun-has_way passed (passed_on {body = b} {others = cs} {run = r} d e k) h =
      has_way-case passed true (ways_of b) (ways_of_cases cs) r.ending (BlockRuns-has_way d) e (λ q. absurd (k q))
