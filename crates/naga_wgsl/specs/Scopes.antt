-- What the lines of a text do. A name has the value of the innermost line in scope that binds it. The scope of a line is
-- the rest of its block; that of the lines of a loop's body includes its continuing block and its break condition.
use Rattle.std.specs.Prelude.{◌≡◌, ℕ, zero, suc, Bool, true, List, [], ◌∷◌, Option, None, Some, option_map, if◌then◌else◌}
use Rattle.naga_runs.specs.Runs.{entered}
use Rattle.naga_runs.specs.declared.run.Ending.TheVariants.{Normal, Break, Continue, Return, Kill}
use Rattle.naga_meaning.specs.Machine.{Done, choose, done, ending_after, in_block, in_case, in_turn, then_by, turns_of}
use Rattle.naga_meaning.specs.Values.{Interpretation, Outcome}
use Rattle.naga_wgsl.specs.Text.{Text, named, applied, Texts, no_text, more, Lines, no_line, line, Line, binds, acts, in_braces, branches, switches, loops, breaks, continues, discards, returns, Arms, no_arm, arm, values_of_arms}

-- the state, the value of each name in scope, and the value that was returned; the other names have arbitrary values
pub record Scope (Name Value State : Type 0) : Type 0 where
  pub state : State
  pub names : Name → Value
  pub returned : Option Value

-- `same` compares names
module _ {Name Shape Action Value State : Type 0} (same : Name → Name → Bool) (by : Interpretation Shape Action Value State) where
  -- the same scope, in which this name is bound to this value
  abbrev pub bind : Name → Value → Scope Name Value State → Scope Name Value State
  bind name value scope = record scope { names = λ other. if same other name then value else scope.names other }

  -- the same scope, in which this name, if there is one, is bound to this value
  abbrev pub bind_result : Option Name → Value → Scope Name Value State → Scope Name Value State
  bind_result None value scope = scope
  bind_result (Some name) value scope = bind name value scope

  -- what is left, where names have again the values that they have in this scope
  abbrev pub back_in : Scope Name Value State → Done (Scope Name Value State) → Done (Scope Name Value State)
  back_in scope left = record left { state = record left.state { names = scope.names } }

  abbrev mutual
    -- the value of an expression
    pub text_value : Scope Name Value State → Text Name Shape → Value
    text_value scope (named name) = scope.names name
    text_value scope (applied shape operands) = by.compute shape (text_values scope operands) scope.state

    -- the values of expressions in order
    pub text_values : Scope Name Value State → Texts Name Shape → List Value
    text_values scope no_text = []
    text_values scope (more first rest) = text_value scope first ∷ text_values scope rest

  -- the end of a turn: it breaks if there is a break condition and it holds
  abbrev pub breaks_when : Option (Text Name Shape) → Scope Name Value State → Done (Scope Name Value State)
  breaks_when None scope = done Normal scope
  breaks_when (Some condition) scope = done (choose (by.decide (text_value scope condition)) Normal Break) scope

  -- a turn of a loop; the continuing block is in the scope of the body, and the break condition in that of both
  abbrev pub text_turn : (body continuing : Scope Name Value State → Done (Scope Name Value State)) →
      Option (Text Name Shape) → Scope Name Value State → Done (Scope Name Value State)
  text_turn body continuing break_if scope =
      back_in scope (then_by in_turn (body scope) (λ middle. then_by in_turn (continuing middle) (breaks_when break_if)))

  -- an action on values, and what it leaves
  abbrev pub acts_on : Action → List Value → Option Name → Scope Name Value State → Done (Scope Name Value State)
  acts_on action used result scope =
      let after = by.perform action used scope.state in
      done (ending_after (by.stop action used scope.state)) (bind_result result after.1 (record scope { state = after.0 }))

  abbrev mutual
    -- what lines do, where each loop makes at most `turns` turns each time it is entered
    pub lines_do : (turns : ℕ) → Lines Name Shape Action → Scope Name Value State → Done (Scope Name Value State)
    lines_do turns no_line scope = done Normal scope
    lines_do turns (line front last) scope = then_by in_block (lines_do turns front scope) (line_does turns last)

    -- what a line does
    pub line_does : (turns : ℕ) → Line Name Shape Action → Scope Name Value State → Done (Scope Name Value State)
    line_does turns (binds name text) scope = done Normal (bind name (text_value scope text) scope)
    line_does turns (acts action used result) scope = acts_on action (text_values scope used) result scope
    line_does turns (in_braces inner) scope = back_in scope (lines_do turns inner scope)
    line_does turns (branches condition accept reject) scope =
        back_in scope (choose (by.decide (text_value scope condition)) (lines_do turns reject) (lines_do turns accept) scope)
    line_does turns (switches selector arms) scope =
        let chosen = by.choose (text_value scope selector) (values_of_arms arms) in
        arms_do turns arms (entered (values_of_arms arms) chosen) scope
    line_does turns (loops body continuing break_if) scope =
        turns_of turns (text_turn (lines_do turns body) (lines_do turns continuing) break_if) scope
    line_does turns breaks scope = done Break scope
    line_does turns continues scope = done Continue scope
    line_does turns discards scope = done Kill scope
    line_does turns (returns value) scope =
        done (Return (option_map (λ text. 0) value)) (record scope { returned = option_map (text_value scope) value })

    -- what the cases of a switch do from this position on
    pub arms_do : (turns : ℕ) → Arms Name Shape Action → (position : ℕ) → Scope Name Value State →
        Done (Scope Name Value State)
    arms_do turns no_arm position scope = record { state = scope; ending = Normal; slipped = true }
    arms_do turns (arm value body falls_through others) zero scope =
        then_by (in_case falls_through) (back_in scope (lines_do turns body scope)) (arms_do turns others 0)
    arms_do turns (arm value body falls_through others) (suc position) scope = arms_do turns others position scope

  -- what a text leaves in the end, where names have these values before it
  abbrev pub text_does : (turns : ℕ) → Lines Name Shape Action → (names : Name → Value) → State →
      Done (Scope Name Value State)
  text_does turns lines names state = lines_do turns lines (record { state = state; names = names; returned = None })

  -- the text leaves what the outcome says, except for whether a normal ending came out of a last switch
  pub record Leaves (left : Done (Scope Name Value State)) (whole : Outcome Value State) : Type 0 where
    pub state : left.state.state ≡ whole.state
    pub ending : left.ending ≡ whole.ending
    pub returned : left.state.returned ≡ whole.returned
