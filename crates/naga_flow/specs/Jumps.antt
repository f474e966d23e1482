-- The statements of a block in the order in which they are read, and the first jump among them that is not allowed
-- where it is.
use Rattle.std.specs.Prelude.{◌≡◌, ℕ, ◌+◌, ◌-◌, ◌^◌, Bool, true, false, List, [], ◌∷◌, ◌++◌, length, min, MatchResult, Option, Some, None, Result, Ok, Err}
use Rattle.std.specs.List.{list_all}
use Rattle.naga_arena.specs.declared.span.Span.{Span}
use Rattle.naga_ir.specs.Tree.{Tree, empty, push, Node, plain, nested, branch, switch, loop, jump, Cases, no_cases, case}
use Rattle.naga_ir.specs.Tree as tree
use Rattle.naga_flow.specs.declared.exits.Exits.{Exits}
use Rattle.naga_flow.specs.declared.jumps.Place.{Place}
use Rattle.naga_flow.specs.declared.misplaced_jump.Jump.{Jump}
use Rattle.naga_flow.specs.declared.misplaced_jump.Jump.TheVariants.{Break, Continue, Return, Kill}
use Rattle.naga_flow.specs.declared.misplaced_jump.MisplacedJump.{MisplacedJump}
use Rattle.naga_flow.specs.Structured.{allows, in_body_of_loop, in_case, of_continuing, of_function}

-- a statement, with its span and the exits of the block that it is in
pub record Placed : Type 0 where
  pub node : Node
  pub span : Span
  pub around : Exits

abbrev mutual
  -- the statements of a block with these exits, each before those of its own blocks
  pub placed : Exits → Tree → List Placed
  placed around empty = []
  placed around (push front last span) =
      placed around front ++ record { node = last; span = span; around = around } ∷ placed_inside around last

  pub placed_inside : Exits → Node → List Placed
  placed_inside around (plain what) = []
  placed_inside around (nested inner) = placed around inner
  placed_inside around (branch condition accept reject) = placed around accept ++ placed around reject
  placed_inside around (switch selector cases) = placed_in_cases around cases
  placed_inside around (loop body continuing break_if) =
      placed (in_body_of_loop around) body ++ placed of_continuing continuing
  placed_inside around (jump to) = []

  pub placed_in_cases : Exits → Cases → List Placed
  placed_in_cases around no_cases = []
  placed_in_cases around (case value body falls_through others) =
      placed (in_case around) body ++ placed_in_cases around others

-- a statement is no jump, or a jump that may leave the block that it is in
abbrev pub node_is_allowed : Exits → Node → Bool
node_is_allowed around (jump to) = allows around to
node_is_allowed around _ = true

abbrev pub is_allowed : Placed → Bool
is_allowed one = node_is_allowed one.around one.node

-- the kind of a jump
abbrev pub kind_of : tree.Jump → Jump
kind_of tree.break = Break
kind_of tree.continue = Continue
kind_of (tree.return value) = Return
kind_of tree.kill = Kill

-- a statement is a jump of this kind
abbrev pub IsJump : Node → Jump → Type 0
IsJump (jump to) kind = kind ≡ kind_of to
IsJump _ kind = ⊥

-- the number of a statement with so many statements before it, at most `u64::MAX`
abbrev pub numbered : ℕ → ℕ → ℕ
numbered met more = min (met + more) (2 ^ 64 - 1)

-- the fault is the first statement of which `is_allowed` does not hold, in a list with so many statements before it
pub record IsFirstMisplaced (all : List Placed) (met : ℕ) (fault : MisplacedJump) : Type 0 where
  pub before : List Placed
  pub at : Placed
  pub after : List Placed
  pub split : all ≡ before ++ at ∷ after
  pub earlier : list_all is_allowed before ≡ true
  pub falls : is_allowed at ≡ false
  pub is_jump : IsJump at.node fault.jump
  pub span : fault.span ≡ at.span
  pub statement : fault.statement ≡ numbered met (length before)

-- what a walk with so many statements before a jump says of it
abbrev pub verdict : ℕ → Span → Jump → Bool → Result ℕ MisplacedJump
verdict met span kind true = Ok (numbered met 1)
verdict met span kind false = Err (record { statement = met; span = span; jump = kind })

-- a walk over these statements, with so many before them: it meets all, or ends at the first of which `is_allowed` does not
-- hold
abbrev pub Walks : List Placed → ℕ → Result ℕ MisplacedJump → Type 0
Walks all met result =
    MatchResult result (λ next. (list_all is_allowed all ≡ true) × (next ≡ numbered met (length all))) (IsFirstMisplaced all met)

-- what a walk that stops at this jump, or at none, says of the statements: how many it has met, or the jump and its place
abbrev pub told : Option Jump → Place → Result ℕ MisplacedJump
told None place = Ok place.met
told (Some kind) place = Err (record { statement = place.met; span = place.span; jump = kind })

-- the first jump of the body of a function that is not allowed where it is
abbrev pub IsMisplaced : Tree → MisplacedJump → Type 0
IsMisplaced body = IsFirstMisplaced (placed of_function body) 0
