-- The ends of a block that get a return, each by the path to the block that ends there.
use Rattle.std.specs.Prelude.{◌≡◌, ℕ, ◌+◌, ◌-◌, Bool, true, false, List, [], ◌∷◌, ◌++◌, codes, length, take}
use Rattle.std.specs.Fmt.{decimal}
use Rattle.naga_flow.specs.Paths.{behind, position_text, size}
use Rattle.naga_ir.specs.Tree.{Tree, empty, push, Node, plain, nested, branch, switch, loop, jump, Cases, no_cases, case}
use Rattle.naga_ir.specs.View.{tree_of}
use Rattle.naga_ir.specs.declared.module.Function as function
use Rattle.naga_ir.specs.declared.statement.SwitchCase.{SwitchCase}
use Rattle.naga_proc.specs.Closing.{follows_switch}
use Rattle.naga_proc.specs.declared.terminator.rule.Rule.{Rule}
use Rattle.naga_proc.specs.declared.terminator.rule.Rule.TheVariants.{New}

-- the path to a block, with this name, of the statement at a position
abbrev pub inner_path : ℕ → (name : List ℕ) → List ℕ
inner_path position name = position_text position ++ name

-- the name of the body of a case with this number
abbrev pub case_name : ℕ → List ℕ
case_name number = codes ".cases[" ++ (decimal number ++ codes "].body")

-- the end of the block itself, if the test is true
abbrev pub end_if : Bool → List (List ℕ)
end_if true = [] ∷ []
end_if false = []

-- these ends, unless the case falls through
abbrev pub ends_unless : (falls_through : Bool) → List (List ℕ) → List (List ℕ)
ends_unless true ends = []
ends_unless false ends = ends

abbrev mutual
  -- the ends of a block that get a return by the rule
  pub open_ends : Rule → Tree → List (List ℕ)
  open_ends rule empty = [] ∷ []
  open_ends rule (push front last span) = ends_at rule (size front) last

  -- the same for a block that ends in the statement, which is at this position
  pub ends_at : Rule → (position : ℕ) → Node → List (List ℕ)
  ends_at rule position (plain what) = [] ∷ []
  ends_at rule position (nested inner) = behind (inner_path position (codes ".block")) (open_ends rule inner)
  ends_at rule position (branch condition accept reject) =
      behind (inner_path position (codes ".accept")) (open_ends rule accept)
      ++ behind (inner_path position (codes ".reject")) (open_ends rule reject)
  ends_at rule position (switch selector cases) = ends_in_cases rule position 0 cases ++ end_if (follows_switch rule cases)
  ends_at rule position (loop body continuing break_if) = [] ∷ []
  ends_at rule position (jump to) = []

  -- the same for the bodies of cases that do not fall through, the first of which has this number
  pub ends_in_cases : Rule → (position number : ℕ) → Cases → List (List ℕ)
  ends_in_cases rule position number no_cases = []
  ends_in_cases rule position number (case value body falls_through others) =
      ends_unless falls_through (behind (inner_path position (case_name number)) (open_ends rule body))
      ++ ends_in_cases rule position (number + 1) others

-- the same for the body of a case, with its number
abbrev pub ends_in_case : Rule → (position : ℕ) → ℕ × SwitchCase → List (List ℕ)
ends_in_case rule position entry =
    ends_unless (entry.1).fall_through
    (behind (inner_path position (case_name entry.0)) (open_ends rule (tree_of (entry.1).body)))

-- the paths, in a function, to the blocks that get a return, up to the limit
abbrev pub missing_returns : (limit : ℕ) → function.Function → List (List ℕ)
missing_returns limit whole = behind (codes "body") (take limit (open_ends New (tree_of whole.body)))

-- The paths of these ends were appended, each behind `before`, up to a limit. It returns how many more may be.
pub record AddsEnds (before : List ℕ) (limit : ℕ) (ends : List (List ℕ)) (old new : List (List ℕ)) (left : ℕ) : Type 0 where
  pub lines : new ≡ old ++ behind before (take limit ends)
  pub room : left ≡ limit - length ends
