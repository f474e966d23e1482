-- A body does the same by two interpretations that agree on what it does, as long as what it does is fine.
use Rattle.std.proofs.Common.{◌≡◌, ◌∙◌, sym, ap, subst, refl, ℕ, zero, suc, Bool, true, List, [], ◌∷◌, map, Option, Some, None}
use Rattle.std.specs.Prelude.{◌&&◌, if◌then◌else◌, option_map}
use Rattle.naga_kinds.specs.declared.switch.SwitchValue.{SwitchValue}
use Rattle.naga_ir.specs.Tree.{Tree, empty, push, Node, plain, nested, branch, switch, loop, jump, Cases, no_cases, case, break, continue, kill, return}
use Rattle.naga_ir.specs.declared.statement.Statement.{Statement}
use Rattle.naga_valid.specs.declared.reference.Reference.{Reference}
use Rattle.naga_flow.specs.Results.{emitted_by, result_of, used_by}
use Rattle.naga_meaning.specs.Forms.{ExpressionForm, StatementForm}
use Rattle.naga_meaning.specs.Functions.{Meanings, action_of, code_of, parts}
use Rattle.naga_meaning.specs.Machine.{CasesAreIn, Done, IfAny, IsIn, Machine, NodeIsIn, Stop, does}
use Rattle.naga_meaning.specs.Values.{Code, Outcome, World, act, acted, constant_within, emit, emitted_value, ends, entered, machine, outcome, outcome_of, put, put_result, result_of_ending, stopped, value, value_within}
use Rattle.naga_meaning.proofs.MatchesLemmas.{does-matches}
use Rattle.naga_meaning.proofs.Simulation.{Matches, Simulates}
use Rattle.naga_meaning.proofs.SimulatesLemmas.{ending-same, tree-same, tree_again}
use Rattle.naga_compact.specs.Mapping.Runs.{map_ending}
use Rattle.naga_bounds.specs.CalledOutcomes.{Note, noted_of, watched_with}
use Rattle.naga_bounds.specs.Reach.{Reach, Typed, at_use, expression_at, length_at, reach_of}
use Rattle.naga_bounds.specs.Respects.{array_length}
use Rattle.naga_bounds.specs.Watched.{StaysInBounds, are_below, are_in_bounds, count_at, is_below, is_in_bounds, is_there, position, watched}
use Rattle.naga_bounds.specs.declared.cause.Position.{Position}
use Rattle.naga_bounds.specs.declared.cause.Position.TheVariants.{Constant, Computed}
use Rattle.naga_bounds.specs.declared.length.Length.{Length}
use Rattle.naga_bounds.specs.declared.length.Length.TheVariants.{Fixed, Overridden, Counted}
use Rattle.naga_typifier.specs.Rows.{◌>>=◌}
use Rattle.naga_bounds.proofs.InBoundsLemmas.{and-true, both}
use Rattle.naga_bounds.proofs.TracksLemmas.{SimulatesWhile, does-tracks}

-- ---- all statements and handles

abbrev AnyStatement : Statement → Type 0
AnyStatement what = Unit {0}

abbrev AnyHandle : ℕ → Type 0
AnyHandle x = Unit {0}

any-option : (value : Option ℕ) → IfAny AnyHandle value
any-option None = tt
any-option (Some x) = tt

mutual
  any-tree : (block : Tree) → IsIn AnyStatement AnyHandle block
  any-tree empty = tt
  any-tree (push front last span) = (any-tree front, any-node last)

  any-node : (node : Node) → NodeIsIn AnyStatement AnyHandle node
  any-node (plain what) = tt
  any-node (nested inner) = any-tree inner
  any-node (branch condition accept reject) = (tt, any-tree accept, any-tree reject)
  any-node (switch selector cases) = (tt, any-cases cases)
  any-node (loop body continuing break_if) = (any-tree body, any-tree continuing, any-option break_if)
  any-node (jump break) = tt
  any-node (jump continue) = tt
  any-node (jump kill) = tt
  any-node (jump (return value)) = any-option value

  any-cases : (cases : Cases) → CasesAreIn AnyStatement AnyHandle cases
  any-cases no_cases = tt
  any-cases (case value body falls_through others) = (any-tree body, any-cases others)

module _ {Thing Value State : Type 0} (look : Reference → Thing) (by : Meanings Thing Value State)
    (perform : StatementForm × List (Option Thing) → List Value → State → State × Value) (stop : StatementForm × List (Option Thing) → List Value → State → Option Stop) where
  -- the same interpretation, except for what statements do
  abbrev pub other : Meanings Thing Value State
  other = record by { perform = perform; stop = stop }

  -- ---- values

  module _ (c : Code (Option (ExpressionForm × List (Option Thing)))) where
    within-same : (steps : ℕ) (w : World Value State) (x : ℕ) → value_within other c steps w x ≡ value_within by c steps w x
    within-same zero w x = refl
    within-same (suc steps) w x = λ i. if c.at_use x then by.compute (c.shape x) (map (λ y. within-same steps w y i) (c.operands x)) w.state else w.values x

    value-same : (w : World Value State) (x : ℕ) → value other c w x ≡ value by c w x
    value-same w x = within-same (suc x) w x

    values-same : (w : World Value State) (xs : List ℕ) → map (value other c w) xs ≡ map (value by c w) xs
    values-same w xs = λ i. map (λ y. value-same w y i) xs

    emitted-same : (w : World Value State) (x : ℕ) → emitted_value other c w x ≡ emitted_value by c w x
    emitted-same w x = λ i. by.compute (c.shape x) (map (λ y. value-same w y i) (c.operands x)) w.state

    emit-same : (xs : List ℕ) (w : World Value State) → emit other c xs w ≡ emit by c xs w
    emit-same [] w = refl
    emit-same (x ∷ xs) w = ap (λ v. emit other c xs (put x v w)) (emitted-same w x) ∙ emit-same xs (put x (emitted_value by c w x) w)

    constant-same : (steps : ℕ) (w : World Value State) (x : ℕ) → constant_within other c steps w x ≡ constant_within by c steps w x
    constant-same zero w x = refl
    constant-same (suc steps) w x = λ i. by.compute (c.shape x) (map (λ y. constant-same steps w y i) (c.operands x)) w.state

    pub entered-same : (inits : List (Option ℕ)) (w : World Value State) → entered other c inits w ≡ entered by c inits w
    entered-same inits w = λ i. record w { state = by.enter (map (option_map (λ x. constant-same (suc x) w x i)) inits) w.state }

  module _ (number : Value → Option ℕ) (fine : Note Thing Value State) (typed : Typed)
      (performs : (action : StatementForm × List (Option Thing)) (values : List Value) (state : State) → fine action values state ≡ true → perform action values state ≡ by.perform action values state)
      (stops : (action : StatementForm × List (Option Thing)) (values : List Value) (state : State) → fine action values state ≡ true → stop action values state ≡ by.stop action values state) where
    abbrev C : Code (Option (ExpressionForm × List (Option Thing)))
    C = code_of look (at_use typed) typed.arena

    -- ---- accesses

    position-same : (w : World Value State) (at : Position) → position look other number typed w at ≡ position look by number typed w at
    position-same w (Computed x) = ap number (value-same C w x)
    position-same w (Constant x) = refl

    below-same : (w : World Value State) (long : Option ℕ) (ps : List Position) → are_below look other number typed w long ps ≡ are_below look by number typed w long ps
    below-same w long [] = refl
    below-same w long (each ∷ rest) = λ i. is_below (position-same w each i) long && below-same w long rest i

    count-same : (w : World Value State) (base : ℕ) (long : Option Length) → count_at look other number typed w base long ≡ count_at look by number typed w base long
    count-same w base None = refl
    count-same w base (Some (Fixed n)) = refl
    count-same w base (Some (Overridden size)) = refl
    count-same w base (Some Counted) = λ i. number (array_length look by (value-same C w base i) w.state)

    there-same : (w : World Value State) (reach : Option Reach) → is_there look other number typed w reach ≡ is_there look by number typed w reach
    there-same w None = refl
    there-same w (Some reach) =
        ap (λ n. are_below look other number typed w n reach.positions) (count-same w reach.base (length_at typed reach.base))
        ∙ below-same w (count_at look by number typed w reach.base (length_at typed reach.base)) reach.positions

    in_bounds-same : (xs : List ℕ) (w : World Value State) → are_in_bounds look other number typed xs w ≡ are_in_bounds look by number typed xs w
    in_bounds-same [] w = refl
    in_bounds-same (x ∷ xs) w =
        ap (λ v. is_in_bounds look other number typed w x && are_in_bounds look other number typed xs (put x v w)) (emitted-same C w x)
        ∙ (λ i. there-same w (expression_at typed x >>= reach_of) i && in_bounds-same xs (put x (emitted_value by C w x) w) i)

    -- ---- statements

    acted-same : (action : Option (StatementForm × List (Option Thing))) (uses : List ℕ) (result : Option ℕ) (w : World Value State) →
        noted_of look by number fine action (map (value by C w) uses) w.state ≡ true → acted other C action uses result w ≡ acted by C action uses result w
    acted-same None uses result w h = refl
    acted-same (Some action) uses result w h =
        ap (λ vs. let after = perform action vs w.state in put_result result after.1 (record w { state = after.0 })) (values-same C w uses)
        ∙ ap (λ (after : State × Value). put_result result after.1 (record w { state = after.0 })) (performs action (map (value by C w) uses) w.state h)

    stopped-same : (action : Option (StatementForm × List (Option Thing))) (uses : List ℕ) (w : World Value State) →
        noted_of look by number fine action (map (value by C w) uses) w.state ≡ true → stopped other C action uses w ≡ stopped by C action uses w
    stopped-same None uses w h = refl
    stopped-same (Some action) uses w h = ap (λ vs. stop action vs w.state) (values-same C w uses) ∙ stops action (map (value by C w) uses) w.state h

    abbrev deep : Machine (World Value State × Bool)
    deep = watched_with look by number fine typed

    abbrev is_good : World Value State × Bool → Bool
    is_good noted = noted.1

    ready : (what : Statement) (a b : World Value State) → b ≡ a → emit other C (emitted_by what) b ≡ emit by C (emitted_by what) a
    ready what a b s = ap (emit other C (emitted_by what)) s ∙ emit-same C (emitted_by what) a

    abbrev after : Statement → World Value State × Bool → World Value State
    after what noted = emit by C (emitted_by what) noted.0

    -- the parts of a note
    record Parts (what : Statement) (noted : World Value State × Bool) : Type 0 where
      pub before : noted.1 ≡ true
      pub inside : are_in_bounds look by number typed (emitted_by what) noted.0 ≡ true
      pub note : noted_of look by number fine (action_of look what) (map (value by C (after what noted)) (used_by what)) (after what noted).state ≡ true

    parts-of : (what : Statement) (noted : World Value State × Bool) → (deep.perform what noted).1 ≡ true → Parts what noted
    parts-of what noted h =
        let bounds = noted.1 && are_in_bounds look by number typed (emitted_by what) noted.0 in
        let pair = both bounds (noted_of look by number fine (action_of look what) (map (value by C (after what noted)) (used_by what)) (after what noted).state) h in
        let first = both noted.1 (are_in_bounds look by number typed (emitted_by what) noted.0) pair.0 in
        record { before = first.0; inside = first.1; note = pair.1 }

    acts-same : (what : Statement) (noted : World Value State × Bool) (b : World Value State) → b ≡ noted.0 → Parts what noted →
        act (parts look) other C what (emit other C (emitted_by what) b) ≡ act (parts look) by C what (after what noted)
    acts-same what noted b s h =
        ap (act (parts look) other C what) (ready what noted.0 b s) ∙ acted-same (action_of look what) (used_by what) (result_of what) (after what noted) h.note

    ends-same : (what : Statement) (noted : World Value State × Bool) (b : World Value State) → b ≡ noted.0 → Parts what noted →
        ends (parts look) other C what (emit other C (emitted_by what) b) ≡ ends (parts look) by C what (after what noted)
    ends-same what noted b s h =
        ap (ends (parts look) other C what) (ready what noted.0 b s) ∙ stopped-same (action_of look what) (used_by what) (after what noted) h.note

    answers-same : (x : ℕ) (a b : World Value State) → b ≡ a → by.decide (value other C b x) ≡ by.decide (value by C a x)
    answers-same x a b s = ap (λ w. by.decide (value other C w x)) s ∙ ap by.decide (value-same C a x)

    choices-same : (x : ℕ) (vs : List SwitchValue) (a b : World Value State) → b ≡ a → by.choose (value other C b x) vs ≡ by.choose (value by C a x) vs
    choices-same x vs a b s = ap (λ w. by.choose (value other C w x) vs) s ∙ ap (λ v. by.choose v vs) (value-same C a x)

    -- ---- bodies that stay in bounds

    abbrev BothGood : World Value State × Bool → World Value State × Bool → Type 0
    BothGood a b = (b.0 ≡ a.0) × (b.1 ≡ true)

    watches : SimulatesWhile BothGood (λ x. x) AnyHandle is_good AnyStatement (λ what. what) deep (watched look other number typed)
    watches = record {
      keeps = λ what noted good. (parts-of what noted good).before;
      performs = λ what any noted b s good.
          (let h = parts-of what noted good in (
            acts-same what noted b.0 s.0 h,
            and-true b.1 (are_in_bounds look other number typed (emitted_by what) b.0) s.1
                (ap (are_in_bounds look other number typed (emitted_by what)) s.0 ∙ in_bounds-same (emitted_by what) noted.0 ∙ h.inside),
          ));
      stops = λ what any noted b s good. ends-same what noted b.0 s.0 (parts-of what noted good);
      answers = λ x any noted b s. answers-same x noted.0 b.0 s.0;
      choices = λ x vs any noted b s. choices-same x vs noted.0 b.0 s.0;
    }

    pub stays-other : (turns : ℕ) (body : Tree) (w : World Value State) → (does deep turns body (w, true)).state.1 ≡ true → StaysInBounds look other number typed turns body w
    stays-other turns body w good =
        let tracks = does-tracks BothGood (λ x. x) AnyHandle is_good AnyStatement (λ what. what) deep (watched look other number typed) watches turns body (any-tree body) in
        subst (λ block. (does (watched look other number typed) turns block (w, true)).state.1 ≡ true) (tree-same body) (tracks.matches (w, true) (w, true) (refl, refl) good).state.1

    -- ---- outcomes

    abbrev Same : World Value State × Bool → World Value State → Type 0
    Same noted b = b ≡ noted.0

    agrees : SimulatesWhile Same (λ x. x) AnyHandle is_good AnyStatement (λ what. what) deep (machine (parts look) other C)
    agrees = record {
      keeps = λ what noted good. (parts-of what noted good).before;
      performs = λ what any noted b s good. acts-same what noted b s (parts-of what noted good);
      stops = λ what any noted b s good. ends-same what noted b s (parts-of what noted good);
      answers = λ x any noted b s. answers-same x noted.0 b s;
      choices = λ x vs any noted b s. choices-same x vs noted.0 b s;
    }

    abbrev Noted : World Value State → World Value State × Bool → Type 0
    Noted w noted = noted.0 ≡ w

    -- noting changes nothing
    notes : Simulates Noted (λ x. x) AnyHandle AnyStatement (λ what. what) (machine (parts look) by C) deep
    notes = record {
      performs = λ what any w noted s. ap (λ w. act (parts look) by C what (emit by C (emitted_by what) w)) s;
      stops = λ what any w noted s. ap (λ w. ends (parts look) by C what (emit by C (emitted_by what) w)) s;
      answers = λ x any w noted s. ap (λ w. by.decide (value by C w x)) s;
      choices = λ x vs any w noted s. ap (λ w. by.choose (value by C w x) vs) s;
    }

    -- what is left of a body, of which the note is dropped
    abbrev unnoted : Done (World Value State × Bool) → Outcome Value State
    unnoted left = outcome_of by C (record { state = left.state.0; ending = left.ending; slipped = left.slipped })

    outcome-noted : (turns : ℕ) (body : Tree) (w : World Value State) → unnoted (does deep turns body (w, true)) ≡ outcome (parts look) by C turns body w
    outcome-noted turns body w =
        let left = does (machine (parts look) by C) turns body w in
        let m : Matches Noted (λ x. x) AnyHandle left (does deep turns (tree_again body) (w, true)) =
        does-matches Noted (λ x. x) AnyHandle AnyStatement (λ what. what) (machine (parts look) by C) deep notes turns body (any-tree body) w (w, true) refl
        in
        ap (λ block. unnoted (does deep turns block (w, true))) (sym (tree-same body))
        ∙ (λ i. outcome_of by C (record { state = m.state i; ending = (m.ending ∙ ending-same left.ending) i; slipped = m.slipped i }))

    outcome-agrees : (left : Done (World Value State × Bool)) (right : Done (World Value State)) → Matches Same (λ x. x) AnyHandle left right → outcome_of other C right ≡ unnoted left
    outcome-agrees left right m = λ i. record {
      state = (m.state i).state;
      ending = (ap (map_ending (λ handle. 0)) (m.ending ∙ ending-same left.ending)) i;
      slipped = m.slipped i;
      returned = ((λ j. option_map (λ x. value-same C right.state x j) (result_of_ending right.ending))
          ∙ (λ j. option_map (value by C (m.state j)) (result_of_ending ((m.ending ∙ ending-same left.ending) j)))) i;
    }

    pub outcome-other : (turns : ℕ) (body : Tree) (w : World Value State) → (does deep turns body (w, true)).state.1 ≡ true →
        outcome (parts look) other C turns body w ≡ outcome (parts look) by C turns body w
    outcome-other turns body w good =
        let tracks = does-tracks Same (λ x. x) AnyHandle is_good AnyStatement (λ what. what) deep (machine (parts look) other C) agrees turns body (any-tree body) in
        let m = tracks.matches (w, true) w refl good in
        ap (λ block. outcome (parts look) other C turns block w) (sym (tree-same body))
        ∙ outcome-agrees (does deep turns body (w, true)) (does (machine (parts look) other C) turns (tree_again body) w) m
        ∙ outcome-noted turns body w
