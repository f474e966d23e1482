-- Closing by the old rule keeps what a block does on each machine, up to returns.
use Rattle.std.proofs.Common.{◌≡◌, ◌∙◌, sym, ap, subst, refl, ℕ, zero, suc, Bool, true, false, None}
use Rattle.naga_ir.specs.Tree.{Tree, push, Node, plain, nested, branch, switch, loop, jump, Cases, Jump, break, continue, kill, return}
use Rattle.naga_runs.specs.Runs.{ending_of, entered, values}
use Rattle.naga_runs.specs.declared.run.Ending.{Ending}
use Rattle.naga_runs.specs.declared.run.Ending.TheVariants.{Normal, Break, Return}
use Rattle.naga_proc.specs.Closing.{at_empty, stays, changes, InsideAre, in_plain, in_loop, in_jump, in_block, in_branch, in_cases, CaseTailsAre, no_more, falling, ending, GetsReturn, Closed, follows, returned}
use Rattle.naga_proc.specs.declared.terminator.rule.Rule.TheVariants.{Old}
use Rattle.naga_proc.proofs.Closing.TailsAreLemmas.{values-CaseTailsAre}
use Rattle.naga_meaning.specs.Closing.{turned}
use Rattle.naga_meaning.specs.Machine.{Machine, Done, done, by_way, then_by, choose, turns_of, turn_of, does, node_does, cases_do}
use Rattle.naga_meaning.specs.Machine as way

-- the statement after which a return follows is unchanged
open-same : {x y : Node} → InsideAre (follows Old) GetsReturn x y → follows Old x ≡ true → y ≡ x
open-same in_plain h = refl
open-same in_loop h = refl
open-same in_jump h = refl
open-same (in_block d) h = absurd (let e : false ≡ true = h in cc)
open-same (in_branch d e) h = absurd (let e : false ≡ true = h in cc)
open-same (in_cases d) h = absurd (let e : false ≡ true = h in cc)

module _ {State : Type 0} (machine : Machine State) where
  abbrev Unslipped : Done State → Type 0
  Unslipped left = left.ending ≡ Normal → left.slipped ≡ false

  block-unslipped : (one : Done State) (next : State → Done State) → ((s : State) → Unslipped (next s)) → (e : Ending) → one.ending ≡ e → Unslipped (by_way (way.in_block e) one next)
  block-unslipped one next h Normal p = h one.state
  block-unslipped one next h _ p = λ q. let clash = sym q ∙ p in absurd cc

  loop-unslipped : (one : Done State) (next : State → Done State) → ((s : State) → Unslipped (next s)) → (e : Ending) → one.ending ≡ e → Unslipped (by_way (way.in_loop e) one next)
  loop-unslipped one next h Normal p = h one.state
  loop-unslipped one next h Break p = λ q. refl
  loop-unslipped one next h _ p = λ q. let clash = sym q ∙ p in absurd cc

  turns-unslipped : (k : ℕ) (turn : State → Done State) (s : State) → Unslipped (turns_of k turn s)
  turns-unslipped zero turn s = λ q. absurd cc
  turns-unslipped (suc k) turn s = let one : Done State = turn s in loop-unslipped one (turns_of k turn) (turns-unslipped k turn) one.ending refl

  node-unslipped : (last : Node) → follows Old last ≡ true → (n : ℕ) (s : State) → Unslipped (node_does machine n last s)
  node-unslipped (plain what) h n s = λ q. refl
  node-unslipped (loop body continuing break_if) h n s = turns-unslipped n (turn_of machine (does machine n body) (does machine n continuing) break_if) s
  node-unslipped (jump to) h n s = absurd (let e : false ≡ true = h in cc)
  node-unslipped (nested inner) h n s = absurd (let e : false ≡ true = h in cc)
  node-unslipped (branch condition accept reject) h n s = absurd (let e : false ≡ true = h in cc)
  node-unslipped (switch selector cases) h n s = absurd (let e : false ≡ true = h in cc)

  returned-turned : (state : State) (e : Ending) (slipped : Bool) → (e ≡ Normal → slipped ≡ false) →
      let one : Done State = record { state = state; ending = e; slipped = slipped } in
      then_by way.in_block one (done (Return None)) ≡ turned one
  returned-turned state Normal true h = absurd (let e : true ≡ false = h refl in cc)
  returned-turned state Normal false h = refl
  returned-turned state _ slipped h = refl

  block-turned : (state : State) (e : Ending) (slipped : Bool) (next next' : State → Done State) → ((s : State) → next' s ≡ turned (next s)) →
      let one : Done State = record { state = state; ending = e; slipped = slipped } in
      then_by way.in_block one next' ≡ turned (then_by way.in_block one next)
  block-turned state Normal slipped next next' h = h state
  block-turned state _ slipped next next' h = refl

  case-turned : (state : State) (e : Ending) (slipped : Bool) (next next' : State → Done State) → ((s : State) → next' s ≡ turned (next s)) →
      let one : Done State = record { state = state; ending = e; slipped = slipped } in
      then_by (way.in_case true) one next' ≡ turned (then_by (way.in_case true) one next)
  case-turned state Normal slipped next next' h = h state
  case-turned state Break slipped next next' h = refl
  case-turned state _ slipped next next' h = refl

  last-turned : (state : State) (e : Ending) (slipped : Bool) (next next' : State → Done State) →
      let one : Done State = record { state = state; ending = e; slipped = slipped } in
      then_by (way.in_case false) (turned one) next' ≡ turned (then_by (way.in_case false) one next)
  last-turned state Normal true next next' = refl
  last-turned state Normal false next next' = refl
  last-turned state Break slipped next next' = refl
  last-turned state _ slipped next next' = refl

  jump-turned : (to : Jump) (state : State) → done (ending_of to) state ≡ turned (done (ending_of to) state)
  jump-turned break state = refl
  jump-turned continue state = refl
  jump-turned kill state = refl
  jump-turned (return value) state = refl

  chosen : (x : ℕ) (at_no at_yes at_no' at_yes' : State → Done State) (s : State) → at_no' s ≡ turned (at_no s) → at_yes' s ≡ turned (at_yes s) →
      choose x at_no' at_yes' s ≡ turned (choose x at_no at_yes s)
  chosen zero at_no at_yes at_no' at_yes' s h k = h
  chosen (suc x) at_no at_yes at_no' at_yes' s h k = k

  mutual
    pub does-turned : {b c : Tree} → Closed b c → (n : ℕ) (s : State) → does machine n c s ≡ turned (does machine n b s)
    does-turned (at_empty p) n s = ap (λ x. does machine n x s) p
    does-turned (stays {front = front} {last = last} {new = new} i h) n s =
        let one : Done State = does machine n front s in
        block-turned one.state one.ending one.slipped (node_does machine n last) (node_does machine n new) (λ m. node-turned i h n m)
    does-turned (changes {front = front} {last = last} {new = new} {span = span} i h q) n s =
        let one : Done State = does machine n front s in
        let two : Done State = does machine n (push front last span) s in
        ap (λ x. does machine n x s) q ∙ ap (λ x. does machine n (returned (push front x span)) s) (open-same i h)
        ∙ returned-turned two.state two.ending two.slipped (block-unslipped one (node_does machine n last) (node-unslipped last h n) one.ending refl)

    node-turned : {x y : Node} → InsideAre (follows Old) GetsReturn x y → follows Old x ≡ false → (n : ℕ) (s : State) → node_does machine n y s ≡ turned (node_does machine n x s)
    node-turned in_plain h n s = absurd (let e : true ≡ false = h in cc)
    node-turned in_loop h n s = absurd (let e : true ≡ false = h in cc)
    node-turned (in_jump {to = to}) h n s = jump-turned to s
    node-turned (in_block d) h n s = does-turned d n s
    node-turned (in_branch {b = b} {c = c} {d = b'} {e = c'} {condition = k} d e) h n s =
        chosen (machine.answer k s) (does machine n b') (does machine n b) (does machine n c') (does machine n c) s (does-turned e n s) (does-turned d n s)
    node-turned (in_cases {cs = cs} {ds = ds} {selector = k} d) h n s =
        subst (λ vs. cases_do machine n ds (entered vs (machine.choice k vs s)) s ≡ turned (cases_do machine n cs (entered (values cs) (machine.choice k (values cs) s)) s)) (sym (values-CaseTailsAre d))
        (cases-turned d n (entered (values cs) (machine.choice k (values cs) s)) s)

    cases-turned : {cs ds : Cases} → CaseTailsAre (follows Old) GetsReturn cs ds → (n k : ℕ) (s : State) → cases_do machine n ds k s ≡ turned (cases_do machine n cs k s)
    cases-turned no_more n k s = refl
    cases-turned (falling {b = b} {cs = cs} {ds = ds} d) n zero s =
        let one : Done State = does machine n b s in
        case-turned one.state one.ending one.slipped (cases_do machine n cs 0) (cases_do machine n ds 0) (λ m. cases-turned d n 0 m)
    cases-turned (falling d) n (suc k) s = cases-turned d n k s
    cases-turned (ending {b = b} {c = c} {cs = cs} {ds = ds} d e) n zero s =
        let one : Done State = does machine n b s in
        ap (λ left. then_by (way.in_case false) left (cases_do machine n ds 0)) (does-turned d n s)
        ∙ last-turned one.state one.ending one.slipped (cases_do machine n cs 0) (cases_do machine n ds 0)
    cases-turned (ending d e) n (suc k) s = cases-turned e n k s
