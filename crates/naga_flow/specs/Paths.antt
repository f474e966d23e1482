-- The paths to the statements of a block, as they are displayed, in the order in which the statements are read.
use Rattle.std.specs.Prelude.{ℕ, ◌+◌, ◌<◌, ◌-◌, ◌^◌, List, [], ◌∷◌, ◌++◌, map, min, length, slice_index_or, codes, Option, Some, None, IfSome}
use Rattle.std.specs.Fmt.{decimal}
use Rattle.naga_ir.specs.Tree.{Tree, empty, push, Node, plain, nested, branch, switch, loop, jump, Cases, no_cases, case}
use Rattle.naga_ir.specs.View.{tree_of}
use Rattle.naga_flow.specs.declared.path.Inside.{Inside}
use Rattle.naga_flow.specs.declared.path.Place.{Place}
use Rattle.naga_flow.specs.declared.path.Step.{Step}
use Rattle.naga_flow.specs.declared.path.Step.TheVariants as step

-- these paths, each after a step
abbrev pub behind : List ℕ → List (List ℕ) → List (List ℕ)
behind first paths = map (λ path. first ++ path) paths

-- the step to the statement at a position of a block
abbrev pub position_text : ℕ → List ℕ
position_text position = codes "[" ++ (decimal position ++ codes "]")

-- the step to a block of a statement
abbrev pub step_text : Step → List ℕ
step_text step.Block = codes ".block"
step_text step.Accept = codes ".accept"
step_text step.Reject = codes ".reject"
step_text (step.Case position) = codes ".cases[" ++ (decimal position ++ codes "].body")
step_text step.Body = codes ".body"
step_text step.Continuing = codes ".continuing"

-- these paths, each after the first step, and then those, each after the second
abbrev pub either : Step × Step → List (List ℕ) → List (List ℕ) → List (List ℕ)
either steps firsts seconds = behind (step_text steps.0) firsts ++ behind (step_text steps.1) seconds

-- the number of statements of a block, without those inside them
abbrev pub size : Tree → ℕ
size empty = 0
size (push front last span) = size front + 1

abbrev mutual
  -- to the statements of a block, and to those inside them
  pub paths_in : Tree → List (List ℕ)
  paths_in empty = []
  paths_in (push front last span) = paths_in front ++ behind (position_text (size front)) ([] ∷ paths_inside last)

  -- to the statements of the blocks of a statement
  pub paths_inside : Node → List (List ℕ)
  paths_inside (plain what) = []
  paths_inside (nested inner) = behind (step_text step.Block) (paths_in inner)
  paths_inside (branch condition accept reject) = either (step.Accept, step.Reject) (paths_in accept) (paths_in reject)
  paths_inside (switch selector cases) = paths_in_cases 0 cases
  paths_inside (loop body continuing break_if) = either (step.Body, step.Continuing) (paths_in body) (paths_in continuing)
  paths_inside (jump to) = []

  -- to the statements of the bodies of cases, the first of which has this position
  pub paths_in_cases : ℕ → Cases → List (List ℕ)
  paths_in_cases position no_cases = []
  paths_in_cases position (case value body falls_through others) =
      behind (step_text (step.Case position)) (paths_in body) ++ paths_in_cases (position + 1) others

-- the path with this number, or nothing if there is none
abbrev pub path_at : List (List ℕ) → ℕ → List ℕ
path_at paths number = slice_index_or paths number []

-- the path to a statement of a body
abbrev pub path_text : Tree → ℕ → List ℕ
path_text body statement = codes "body" ++ path_at (paths_in body) statement

-- ---- how a path is found

-- the number of paths, at most `u64::MAX`
abbrev pub counted : List (List ℕ) → ℕ
counted paths = min (length paths) (2 ^ 64 - 1)

-- the path from a statement to one inside it
abbrev pub path_on : Option Inside → List ℕ
path_on None = []
path_on (Some inside) = step_text inside.step ++ path_at (paths_in (tree_of inside.block.now)) inside.number

-- the path that begins at a place
abbrev pub path_from : Option Place → List ℕ
path_from None = []
path_from (Some place) = position_text place.position ++ path_on place.inside

-- a statement inside another one has a lower number in its block
abbrev pub IsLower : ℕ → Option Place → Type 0
IsLower number found = IfSome found (λ place. IfSome place.inside (λ inside. inside.number < number))
