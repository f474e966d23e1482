-- Machines of which one does the same as the other, as long as the state of the first is good, on whole blocks.
use Rattle.std.proofs.Common.{◌≡◌, ◌∙◌, sym, ap, subst, refl, ℕ, zero, suc, Bool, true, List, Option, Some, None}
use Rattle.std.specs.Prelude.{option_map}
use Rattle.naga_ir.specs.Tree.{Tree, empty, push, Node, plain, nested, branch, switch, loop, jump, Cases, no_cases, case, break, continue, kill, return}
use Rattle.naga_kinds.specs.declared.switch.SwitchValue.{SwitchValue}
use Rattle.naga_ir.specs.declared.statement.Statement.{Statement}
use Rattle.naga_runs.specs.Runs.{entered, values}
use Rattle.naga_runs.specs.declared.run.Ending.{Ending}
use Rattle.naga_runs.specs.declared.run.Ending.TheVariants.{Normal, Break, Continue, Return, Kill, Cut}
use Rattle.naga_compact.specs.Mapping.{map_cases, map_node, map_tree}
use Rattle.naga_compact.specs.Mapping.Runs.{map_ending}
use Rattle.naga_meaning.specs.Machine.{Machine, Done, Stop, killed, cut_off, done, ending_after, Way, goes_on, stays, leaves, in_block, in_turn, in_loop, in_case, by_way, then_by, choose, turns_of, breaks_if, turn_of, does, node_does, cases_do, IfAny, IsIn, NodeIsIn, CasesAreIn}
use Rattle.naga_meaning.proofs.Simulation.{EndsIn, Matches}
use Rattle.naga_meaning.proofs.MatchesLemmas.{Ignores, in_block-mapped, in_case-mapped, in_loop-mapped, in_turn-mapped, values-mapped}

module _ {A B : Type 0} (R : A → B → Type 0) (f : ℕ → ℕ) (Q : ℕ → Type 0) (good : A → Bool) where
  -- A state that is not good stays so. Related states stay related by statements after which the state is good, which end
  -- the run alike, and give the same answers and the same choices among cases.
  pub record SimulatesWhile (P : Statement → Type 0) (on_plain : Statement → Statement) (old : Machine A) (new : Machine B) : Type 0 where
    pub keeps : (what : Statement) (a : A) → good (old.perform what a) ≡ true → good a ≡ true
    pub performs : (what : Statement) → P what → (a : A) (b : B) → R a b → good (old.perform what a) ≡ true → R (old.perform what a) (new.perform (on_plain what) b)
    pub stops : (what : Statement) → P what → (a : A) (b : B) → R a b → good (old.perform what a) ≡ true → new.stop (on_plain what) b ≡ old.stop what a
    pub answers : (handle : ℕ) → Q handle → (a : A) (b : B) → R a b → new.answer (f handle) b ≡ old.answer handle a
    pub choices : (handle : ℕ) (values : List SwitchValue) → Q handle → (a : A) (b : B) → R a b → new.choice (f handle) values b ≡ old.choice handle values a

  -- a good state comes from a good state, and where the state that is left is good, the same is left, in related states
  pub record Tracks (old : A → Done A) (new : B → Done B) : Type 0 where
    pub comes : (a : A) → good (old a).state ≡ true → good a ≡ true
    pub matches : (a : A) (b : B) → R a b → good (old a).state ≡ true → Matches R f Q (old a) (new b)

  abbrev Comes : (A → Done A) → Type 0
  Comes F = (a : A) → good (F a).state ≡ true → good a ≡ true

  abbrev Follows : (A → Done A) → (B → Done B) → Type 0
  Follows = Tracks

  done-tracks : (e : Ending) → EndsIn Q e → Follows (done e) (done (map_ending f e))
  done-tracks e within = record {
    comes = λ a g. g;
    matches = λ a b r g. record { state = r; ending = refl; slipped = refl; within = within };
  }

  stop-matches : (stop : Option Stop) (a : A) (b : B) → R a b → Matches R f Q (done (ending_after stop) a) (done (ending_after stop) b)
  stop-matches None a b r = record { state = r; ending = refl; slipped = refl; within = tt }
  stop-matches (Some killed) a b r = record { state = r; ending = refl; slipped = refl; within = tt }
  stop-matches (Some cut_off) a b r = record { state = r; ending = refl; slipped = refl; within = tt }

  by_way-comes : (way : Way) (left : Done A) (next : A → Done A) → Comes next → good (by_way way left next).state ≡ true → good left.state ≡ true
  by_way-comes goes_on left next c g = c left.state g
  by_way-comes stays left next c g = g
  by_way-comes (leaves slipped) left next c g = g

  by_way-matches : (way : Way) (old : Done A) (new : Done B) → Matches R f Q old new → (next : A → Done A) (next' : B → Done B) →
      Follows next next' → good (by_way way old next).state ≡ true → Matches R f Q (by_way way old next) (by_way way new next')
  by_way-matches goes_on old new m next next' t g = t.matches old.state new.state m.state g
  by_way-matches stays old new m next next' t g = m
  by_way-matches (leaves slipped) old new m next next' t g = record { state = m.state; ending = refl; slipped = refl; within = tt }

  then-tracks : (way : Ending → Way) → Ignores f way → (F : A → Done A) (F' : B → Done B) → Follows F F' → (G : A → Done A) (G' : B → Done B) → Follows G G' →
      Follows (λ a. then_by way (F a) G) (λ b. then_by way (F' b) G')
  then-tracks way same F F' t G G' u = record {
    comes = λ a g. t.comes a (by_way-comes (way (F a).ending) (F a) G u.comes g);
    matches = λ a b r g. go a b (t.matches a b r (by_way-comes (way (F a).ending) (F a) G u.comes g)) g;
  }
    where
      go : (a : A) (b : B) → Matches R f Q (F a) (F' b) → good (then_by way (F a) G).state ≡ true → Matches R f Q (then_by way (F a) G) (then_by way (F' b) G')
      go a b m g = subst (λ w. Matches R f Q (then_by way (F a) G) (by_way w (F' b) G')) (sym (ap way m.ending ∙ same (F a).ending))
          (by_way-matches (way (F a).ending) (F a) (F' b) m G G' u g)

  chosen-comes : (x : ℕ) (at_no at_yes : A → Done A) → Comes at_no → Comes at_yes → (a : A) → good (choose x at_no at_yes a).state ≡ true → good a ≡ true
  chosen-comes zero at_no at_yes c d a g = c a g
  chosen-comes (suc x) at_no at_yes c d a g = d a g

  chosen-matches : (x : ℕ) (at_no at_yes : A → Done A) (at_no' at_yes' : B → Done B) → Follows at_no at_no' → Follows at_yes at_yes' → (a : A) (b : B) → R a b →
      good (choose x at_no at_yes a).state ≡ true → Matches R f Q (choose x at_no at_yes a) (choose x at_no' at_yes' b)
  chosen-matches zero at_no at_yes at_no' at_yes' t u a b r g = t.matches a b r g
  chosen-matches (suc x) at_no at_yes at_no' at_yes' t u a b r g = u.matches a b r g

  turns-tracks : (k : ℕ) (turn : A → Done A) (turn' : B → Done B) → Follows turn turn' → Follows (turns_of k turn) (turns_of k turn')
  turns-tracks zero turn turn' t = done-tracks Cut tt
  turns-tracks (suc k) turn turn' t = then-tracks in_loop (in_loop-mapped f) turn turn' t (turns_of k turn) (turns_of k turn') (turns-tracks k turn turn' t)

  module _ (P : Statement → Type 0) (on_plain : Statement → Statement) (old : Machine A) (new : Machine B) (s : SimulatesWhile P on_plain old new) where
    breaks_if-tracks : (break_if : Option ℕ) → IfAny Q break_if → Follows (breaks_if old break_if) (breaks_if new (option_map f break_if))
    breaks_if-tracks None h = done-tracks Normal tt
    breaks_if-tracks (Some condition) h = record {
      comes = λ a g. g;
      matches = λ a b r g. subst (λ x. Matches R f Q (breaks_if old (Some condition) a) (done (choose x Normal Break) b)) (sym (s.answers condition h a b r)) (go a b r (old.answer condition a));
    }
      where
        go : (a : A) (b : B) → R a b → (x : ℕ) → Matches R f Q (done (choose x Normal Break) a) (done (choose x Normal Break) b)
        go a b r zero = record { state = r; ending = refl; slipped = refl; within = tt }
        go a b r (suc x) = record { state = r; ending = refl; slipped = refl; within = tt }

    turn-tracks : (body continuing : A → Done A) (body' continuing' : B → Done B) → Follows body body' → Follows continuing continuing' → (break_if : Option ℕ) → IfAny Q break_if →
        Follows (turn_of old body continuing break_if) (turn_of new body' continuing' (option_map f break_if))
    turn-tracks body continuing body' continuing' t u break_if q =
        then-tracks in_turn (in_turn-mapped f) body body' t
        (λ x. then_by in_turn (continuing x) (breaks_if old break_if)) (λ y. then_by in_turn (continuing' y) (breaks_if new (option_map f break_if)))
        (then-tracks in_turn (in_turn-mapped f) continuing continuing' u (breaks_if old break_if) (breaks_if new (option_map f break_if)) (breaks_if-tracks break_if q))

    mutual
      pub does-tracks : (n : ℕ) (block : Tree) → IsIn P Q block → Follows (does old n block) (does new n (map_tree on_plain f block))
      does-tracks n empty h = done-tracks Normal tt
      does-tracks n (push front last span) h =
          then-tracks in_block (in_block-mapped f) (does old n front) (does new n (map_tree on_plain f front)) (does-tracks n front h.0)
          (node_does old n last) (node_does new n (map_node on_plain f last)) (node-tracks n last h.1)

      node-tracks : (n : ℕ) (node : Node) → NodeIsIn P Q node → Follows (node_does old n node) (node_does new n (map_node on_plain f node))
      node-tracks n (plain what) h = record {
        comes = λ a g. s.keeps what a g;
        matches = λ a b r g.
            subst (λ stop. Matches R f Q (node_does old n (plain what) a) (done (ending_after stop) (new.perform (on_plain what) b))) (sym (s.stops what h a b r g))
            (stop-matches (old.stop what a) (old.perform what a) (new.perform (on_plain what) b) (s.performs what h a b r g));
      }
      node-tracks n (nested inner) h = does-tracks n inner h
      node-tracks n (branch condition accept reject) h = record {
        comes = λ a g. chosen-comes (old.answer condition a) (does old n reject) (does old n accept) (does-tracks n reject h.2).comes (does-tracks n accept h.1).comes a g;
        matches = λ a b r g. subst (λ x. Matches R f Q (node_does old n (branch condition accept reject) a) (choose x (does new n (map_tree on_plain f reject)) (does new n (map_tree on_plain f accept)) b))
            (sym (s.answers condition h.0 a b r))
            (chosen-matches (old.answer condition a) (does old n reject) (does old n accept) (does new n (map_tree on_plain f reject)) (does new n (map_tree on_plain f accept))
            (does-tracks n reject h.2) (does-tracks n accept h.1) a b r g);
      }
      node-tracks n (switch selector cases) h = record {
        comes = λ a g. (cases-tracks n cases h.1 (entered (values cases) (old.choice selector (values cases) a))).comes a g;
        matches = λ a b r g. subst (λ x. Matches R f Q (node_does old n (switch selector cases) a) (cases_do new n (map_cases on_plain f cases) (entered (values (map_cases on_plain f cases)) x) b))
            (sym (s.choices selector (values (map_cases on_plain f cases)) h.0 a b r))
            (subst (λ vs. Matches R f Q (node_does old n (switch selector cases) a) (cases_do new n (map_cases on_plain f cases) (entered vs (old.choice selector vs a)) b))
            (sym (values-mapped on_plain f cases))
            ((cases-tracks n cases h.1 (entered (values cases) (old.choice selector (values cases) a))).matches a b r g));
      }
      node-tracks n (loop body continuing break_if) h =
          turns-tracks n (turn_of old (does old n body) (does old n continuing) break_if)
          (turn_of new (does new n (map_tree on_plain f body)) (does new n (map_tree on_plain f continuing)) (option_map f break_if))
          (turn-tracks (does old n body) (does old n continuing) (does new n (map_tree on_plain f body)) (does new n (map_tree on_plain f continuing))
          (does-tracks n body h.0) (does-tracks n continuing h.1) break_if h.2)
      node-tracks n (jump break) h = done-tracks Break tt
      node-tracks n (jump continue) h = done-tracks Continue tt
      node-tracks n (jump kill) h = done-tracks Kill tt
      node-tracks n (jump (return value)) h = done-tracks (Return value) h

      cases-tracks : (n : ℕ) (cases : Cases) → CasesAreIn P Q cases → (k : ℕ) → Follows (cases_do old n cases k) (cases_do new n (map_cases on_plain f cases) k)
      cases-tracks n no_cases h k = record {
        comes = λ a g. g;
        matches = λ a b r g. record { state = r; ending = refl; slipped = refl; within = tt };
      }
      cases-tracks n (case value body through others) h zero =
          then-tracks (in_case through) (in_case-mapped f through) (does old n body) (does new n (map_tree on_plain f body)) (does-tracks n body h.0)
          (cases_do old n others 0) (cases_do new n (map_cases on_plain f others) 0) (cases-tracks n others h.1 0)
      cases-tracks n (case value body through others) h (suc k) = cases-tracks n others h.1 k
