-- A machine that does the same as another one, on whole blocks.
use Rattle.std.proofs.Common.{◌≡◌, ◌∙◌, sym, ap, subst, refl, ℕ, zero, suc, Bool, true, false, Option, Some, None, ◌∷◌}
use Rattle.std.specs.Prelude.{option_map}
use Rattle.naga_ir.specs.Tree.{Tree, empty, push, Node, plain, nested, branch, switch, loop, jump, Cases, no_cases, case, break, continue, kill, return}
use Rattle.naga_ir.specs.declared.statement.Statement.{Statement}
use Rattle.naga_runs.specs.Runs.{entered, values}
use Rattle.naga_runs.specs.declared.run.Ending.{Ending}
use Rattle.naga_runs.specs.declared.run.Ending.TheVariants.{Normal, Break, Continue, Return, Kill, Cut}
use Rattle.naga_compact.specs.Mapping.{map_cases, map_node, map_tree}
use Rattle.naga_compact.specs.Mapping.Runs.{map_ending}
use Rattle.naga_meaning.specs.Machine.{Machine, Done, Stop, killed, cut_off, done, ending_after, Way, goes_on, stays, leaves, in_block, in_turn, in_case, by_way, then_by, choose, turns_of, breaks_if, turn_of, does, node_does, cases_do, IfAny, IsIn, NodeIsIn, CasesAreIn, in_loop}
use Rattle.naga_meaning.proofs.Simulation.{EndsIn, Matches, Simulates}

-- ---- ways

abbrev pub Ignores : (ℕ → ℕ) → (Ending → Way) → Type 0
Ignores f way = (e : Ending) → way (map_ending f e) ≡ way e

pub in_block-mapped : (f : ℕ → ℕ) → Ignores f in_block
in_block-mapped f Normal = refl
in_block-mapped f Break = refl
in_block-mapped f Continue = refl
in_block-mapped f (Return value) = refl
in_block-mapped f Kill = refl
in_block-mapped f Cut = refl

pub in_turn-mapped : (f : ℕ → ℕ) → Ignores f in_turn
in_turn-mapped f Normal = refl
in_turn-mapped f Break = refl
in_turn-mapped f Continue = refl
in_turn-mapped f (Return value) = refl
in_turn-mapped f Kill = refl
in_turn-mapped f Cut = refl

pub in_loop-mapped : (f : ℕ → ℕ) → Ignores f in_loop
in_loop-mapped f Normal = refl
in_loop-mapped f Break = refl
in_loop-mapped f Continue = refl
in_loop-mapped f (Return value) = refl
in_loop-mapped f Kill = refl
in_loop-mapped f Cut = refl

pub in_case-mapped : (f : ℕ → ℕ) (through : Bool) → Ignores f (in_case through)
in_case-mapped f true Normal = refl
in_case-mapped f false Normal = refl
in_case-mapped f true Break = refl
in_case-mapped f false Break = refl
in_case-mapped f true Continue = refl
in_case-mapped f false Continue = refl
in_case-mapped f true (Return value) = refl
in_case-mapped f false (Return value) = refl
in_case-mapped f true Kill = refl
in_case-mapped f false Kill = refl
in_case-mapped f true Cut = refl
in_case-mapped f false Cut = refl

pub values-mapped : (on_plain : Statement → Statement) (f : ℕ → ℕ) (cases : Cases) → values (map_cases on_plain f cases) ≡ values cases
values-mapped on_plain f no_cases = refl
values-mapped on_plain f (case value body falls_through others) = ap (λ rest. value ∷ rest) (values-mapped on_plain f others)

module _ {A B : Type 0} (R : A → B → Type 0) (f : ℕ → ℕ) (Q : ℕ → Type 0) where
  done-matches : (e : Ending) → EndsIn Q e → (a : A) (b : B) → R a b → Matches R f Q (done e a) (done (map_ending f e) b)
  done-matches e within a b r = record { state = r; ending = refl; slipped = refl; within = within }

  stop-matches : (stop : Option Stop) (a : A) (b : B) → R a b → Matches R f Q (done (ending_after stop) a) (done (ending_after stop) b)
  stop-matches None a b r = done-matches Normal tt a b r
  stop-matches (Some killed) a b r = done-matches Kill tt a b r
  stop-matches (Some cut_off) a b r = done-matches Cut tt a b r

  by_way-matches : (way : Way) (old : Done A) (new : Done B) → Matches R f Q old new → (next : A → Done A) (next' : B → Done B) →
      ((a : A) (b : B) → R a b → Matches R f Q (next a) (next' b)) → Matches R f Q (by_way way old next) (by_way way new next')
  by_way-matches goes_on old new m next next' h = h old.state new.state m.state
  by_way-matches stays old new m next next' h = m
  by_way-matches (leaves slipped) old new m next next' h = record { state = m.state; ending = refl; slipped = refl; within = tt }

  then-matches : (way : Ending → Way) → Ignores f way → (old : Done A) (new : Done B) → Matches R f Q old new → (next : A → Done A) (next' : B → Done B) →
      ((a : A) (b : B) → R a b → Matches R f Q (next a) (next' b)) → Matches R f Q (then_by way old next) (then_by way new next')
  then-matches way same old new m next next' h =
      subst (λ w. Matches R f Q (then_by way old next) (by_way w new next')) (sym (ap way m.ending ∙ same old.ending)) (by_way-matches (way old.ending) old new m next next' h)

  chosen-matches : (x : ℕ) (at_no at_yes : A → Done A) (at_no' at_yes' : B → Done B) (a : A) (b : B) → Matches R f Q (at_no a) (at_no' b) →
      Matches R f Q (at_yes a) (at_yes' b) → Matches R f Q (choose x at_no at_yes a) (choose x at_no' at_yes' b)
  chosen-matches zero at_no at_yes at_no' at_yes' a b h k = h
  chosen-matches (suc x) at_no at_yes at_no' at_yes' a b h k = k

  turns-matches : (k : ℕ) (turn : A → Done A) (turn' : B → Done B) → ((a : A) (b : B) → R a b → Matches R f Q (turn a) (turn' b)) →
      (a : A) (b : B) → R a b → Matches R f Q (turns_of k turn a) (turns_of k turn' b)
  turns-matches zero turn turn' h a b r = done-matches Cut tt a b r
  turns-matches (suc k) turn turn' h a b r =
      then-matches in_loop (in_loop-mapped f) (turn a) (turn' b) (h a b r) (turns_of k turn) (turns_of k turn') (turns-matches k turn turn' h)

  module _ (P : Statement → Type 0) (on_plain : Statement → Statement) (old : Machine A) (new : Machine B) (s : Simulates R f Q P on_plain old new) where
    breaks_if-matches : (break_if : Option ℕ) → IfAny Q break_if → (a : A) (b : B) → R a b → Matches R f Q (breaks_if old break_if a) (breaks_if new (option_map f break_if) b)
    breaks_if-matches None h a b r = done-matches Normal tt a b r
    breaks_if-matches (Some condition) h a b r =
        subst (λ x. Matches R f Q (breaks_if old (Some condition) a) (done (choose x Normal Break) b)) (sym (s.answers condition h a b r)) (go (old.answer condition a))
      where
        go : (x : ℕ) → Matches R f Q (done (choose x Normal Break) a) (done (choose x Normal Break) b)
        go zero = done-matches Normal tt a b r
        go (suc x) = done-matches Break tt a b r

    turn-matches : (body continuing : A → Done A) (body' continuing' : B → Done B) → ((a : A) (b : B) → R a b → Matches R f Q (body a) (body' b)) →
        ((a : A) (b : B) → R a b → Matches R f Q (continuing a) (continuing' b)) → (break_if : Option ℕ) → IfAny Q break_if →
        (a : A) (b : B) → R a b → Matches R f Q (turn_of old body continuing break_if a) (turn_of new body' continuing' (option_map f break_if) b)
    turn-matches body continuing body' continuing' h k break_if q a b r =
        then-matches in_turn (in_turn-mapped f) (body a) (body' b) (h a b r)
        (λ x. then_by in_turn (continuing x) (breaks_if old break_if)) (λ y. then_by in_turn (continuing' y) (breaks_if new (option_map f break_if)))
        (λ x y t. then-matches in_turn (in_turn-mapped f) (continuing x) (continuing' y) (k x y t) (breaks_if old break_if) (breaks_if new (option_map f break_if)) (breaks_if-matches break_if q))

    mutual
      pub does-matches : (n : ℕ) (block : Tree) → IsIn P Q block → (a : A) (b : B) → R a b → Matches R f Q (does old n block a) (does new n (map_tree on_plain f block) b)
      does-matches n empty h a b r = done-matches Normal tt a b r
      does-matches n (push front last span) h a b r =
          then-matches in_block (in_block-mapped f) (does old n front a) (does new n (map_tree on_plain f front) b) (does-matches n front h.0 a b r)
          (node_does old n last) (node_does new n (map_node on_plain f last)) (λ x y t. node-matches n last h.1 x y t)

      node-matches : (n : ℕ) (node : Node) → NodeIsIn P Q node → (a : A) (b : B) → R a b → Matches R f Q (node_does old n node a) (node_does new n (map_node on_plain f node) b)
      node-matches n (plain what) h a b r =
          subst (λ stop. Matches R f Q (node_does old n (plain what) a) (done (ending_after stop) (new.perform (on_plain what) b))) (sym (s.stops what h a b r))
          (stop-matches (old.stop what a) (old.perform what a) (new.perform (on_plain what) b) (s.performs what h a b r))
      node-matches n (nested inner) h a b r = does-matches n inner h a b r
      node-matches n (branch condition accept reject) h a b r =
          subst (λ x. Matches R f Q (node_does old n (branch condition accept reject) a) (choose x (does new n (map_tree on_plain f reject)) (does new n (map_tree on_plain f accept)) b))
          (sym (s.answers condition h.0 a b r))
          (chosen-matches (old.answer condition a) (does old n reject) (does old n accept) (does new n (map_tree on_plain f reject)) (does new n (map_tree on_plain f accept)) a b
          (does-matches n reject h.2 a b r) (does-matches n accept h.1 a b r))
      node-matches n (switch selector cases) h a b r =
          subst (λ x. Matches R f Q (node_does old n (switch selector cases) a) (cases_do new n (map_cases on_plain f cases) (entered (values (map_cases on_plain f cases)) x) b))
          (sym (s.choices selector (values (map_cases on_plain f cases)) h.0 a b r))
          (subst (λ vs. Matches R f Q (node_does old n (switch selector cases) a) (cases_do new n (map_cases on_plain f cases) (entered vs (old.choice selector vs a)) b))
          (sym (values-mapped on_plain f cases))
          (cases-matches n cases h.1 (entered (values cases) (old.choice selector (values cases) a)) a b r))
      node-matches n (loop body continuing break_if) h a b r =
          turns-matches n (turn_of old (does old n body) (does old n continuing) break_if)
          (turn_of new (does new n (map_tree on_plain f body)) (does new n (map_tree on_plain f continuing)) (option_map f break_if))
          (turn-matches (does old n body) (does old n continuing) (does new n (map_tree on_plain f body)) (does new n (map_tree on_plain f continuing))
          (λ x y t. does-matches n body h.0 x y t) (λ x y t. does-matches n continuing h.1 x y t) break_if h.2) a b r
      node-matches n (jump break) h a b r = done-matches Break tt a b r
      node-matches n (jump continue) h a b r = done-matches Continue tt a b r
      node-matches n (jump kill) h a b r = done-matches Kill tt a b r
      node-matches n (jump (return value)) h a b r = done-matches (Return value) h a b r

      cases-matches : (n : ℕ) (cases : Cases) → CasesAreIn P Q cases → (k : ℕ) (a : A) (b : B) → R a b → Matches R f Q (cases_do old n cases k a) (cases_do new n (map_cases on_plain f cases) k b)
      cases-matches n no_cases h k a b r = record { state = r; ending = refl; slipped = refl; within = tt }
      cases-matches n (case value body through others) h zero a b r =
          then-matches (in_case through) (in_case-mapped f through) (does old n body a) (does new n (map_tree on_plain f body) b) (does-matches n body h.0 a b r)
          (cases_do old n others 0) (cases_do new n (map_cases on_plain f others) 0) (λ x y t. cases-matches n others h.1 0 x y t)
      cases-matches n (case value body through others) h (suc k) a b r = cases-matches n others h.1 k a b r
