-- The text of a function body.
use Rattle.std.specs.Prelude.{ℕ, zero, suc, List, [], ◌∷◌, Option, None, Some, option_map, if◌then◌else◌}
use Rattle.naga_ir.specs.Tree.{Tree, empty, push, Node, plain, nested, branch, switch, loop, jump, break, continue, kill, return, Cases, no_cases, case}
use Rattle.naga_valid.specs.declared.reference.Reference.{Reference}
use Rattle.naga_meaning.specs.Forms.{ExpressionForm, StatementForm}
use Rattle.naga_meaning.specs.Functions.{Meanings, code_of, initials, parts}
use Rattle.naga_meaning.specs.Readings.{Reading}
use Rattle.naga_meaning.specs.Values.{Code, Parts, World, entered}
use Rattle.naga_wgsl.specs.Inlining.{skipping}
use Rattle.naga_wgsl.specs.Text.{Text, named, applied, Texts, no_text, more, Lines, no_line, line, binds, acts, in_braces, branches, switches, loops, breaks, continues, discards, returns, Arms, no_arm, arm}

-- `name` gives each expression its name
module _ {Name Shape : Type 0} (name : ℕ → Name) (code : Code Shape) where
  -- the texts of expressions in order
  abbrev pub each_text : (ℕ → Text Name Shape) → List ℕ → Texts Name Shape
  each_text text [] = no_text
  each_text text (x ∷ xs) = more (text x) (each_text text xs)

  -- the text of a use: what is evaluated there is written out, and else it is the name of the expression
  abbrev pub text_within : (steps : ℕ) → ℕ → Text Name Shape
  text_within zero x = named (name x)
  text_within (suc steps) x =
      if code.at_use x then applied (code.shape x) (each_text (text_within steps) (code.operands x)) else named (name x)

  abbrev pub text_of : ℕ → Text Name Shape
  text_of x = text_within (suc x) x

  -- the expression written out
  abbrev pub written_out : ℕ → Text Name Shape
  written_out x = applied (code.shape x) (each_text text_of (code.operands x))

  module _ {Action : Type 0} (parts : Parts Action) where
    -- the lines, and one more for each expression that binds its name to its value
    abbrev pub with_emits : Lines Name Shape Action → List ℕ → Lines Name Shape Action
    with_emits front [] = front
    with_emits front (x ∷ xs) = with_emits (line front (binds (name x) (written_out x))) xs

    -- the lines, and one more for the action of a statement, if it has one
    abbrev pub with_action : Lines Name Shape Action → Option Action → (uses : List ℕ) → (result : Option ℕ) →
        Lines Name Shape Action
    with_action front None uses result = front
    with_action front (Some action) uses result =
        line front (acts action (each_text text_of uses) (option_map name result))

    abbrev mutual
      -- the lines of a block, variant by variant
      pub lines_of : Tree → Lines Name Shape Action
      lines_of empty = no_line
      lines_of (push front last span) = with_line (lines_of front) last

      -- the lines, and those of a statement
      pub with_line : Lines Name Shape Action → Node → Lines Name Shape Action
      with_line front (plain what) =
          with_action (with_emits front (parts.emits what)) (parts.action what) (parts.uses what) (parts.result what)
      with_line front (nested inner) = line front (in_braces (lines_of inner))
      with_line front (branch condition accept reject) =
          line front (branches (text_of condition) (lines_of accept) (lines_of reject))
      with_line front (switch selector cases) = line front (switches (text_of selector) (arms_of cases))
      with_line front (loop body continuing break_if) =
          line front (loops (lines_of body) (lines_of continuing) (option_map text_of break_if))
      with_line front (jump break) = line front breaks
      with_line front (jump continue) = line front continues
      with_line front (jump kill) = line front discards
      with_line front (jump (return value)) = line front (returns (option_map text_of value))

      -- the cases of a switch
      pub arms_of : Cases → Arms Name Shape Action
      arms_of no_cases = no_arm
      arms_of (case value body falls_through others) = arm value (lines_of body) falls_through (arms_of others)

-- ---- the text of a function

module _ {Name Thing : Type 0} (name : ℕ → Name) (look : Reference → Thing) where
  -- the text of the body of a function that is read in this way
  abbrev pub text_of_reading : Reading →
      Lines Name (Option (ExpressionForm × List (Option Thing))) (StatementForm × List (Option Thing))
  text_of_reading read =
      lines_of name (code_of look read.at_use read.expressions) (skipping read.at_use (parts look)) read.body

-- the state in which the body of a function begins
abbrev pub begun : {Thing Value State : Type 0} → (look : Reference → Thing) → Meanings Thing Value State →
    Reading → World Value State → State
begun look by read start =
    (entered by (code_of look read.at_use read.expressions) (initials read.local_variables) start).state
