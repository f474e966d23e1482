-- Inserting returns in one walk over the tail blocks, and taking away those that were inserted.
--
-- The walk visits a tail block after the tail blocks in its last statement. It inserts a return at each block that gets
-- one, up to the first return without a value that was there before, and no more after that. So among the tail blocks
-- in this order, the first that end in a return without a value are those at which the walk inserted one.
use Rattle.std.specs.Prelude.{◌≡◌, ◌⊎◌, ◌++◌, ◌∷◌, [], ℕ, suc, ◌+◌, ◌<◌, ◌≤◌, Bool, true, false, List, Option, None}
use Rattle.naga_arena.specs.Span.{undefined}
use Rattle.naga_arena.specs.declared.span.Span.{Span}
use Rattle.naga_kinds.specs.declared.switch.SwitchValue.{SwitchValue}
use Rattle.naga_ir.specs.Block.{pairs, room}
use Rattle.naga_ir.specs.declared.block.Block.{Block}
use Rattle.naga_ir.specs.declared.statement.Statement.{Statement}
use Rattle.naga_ir.specs.declared.statement.Statement as variant
use Rattle.naga_ir.specs.declared.statement.SwitchCase.{SwitchCase}
use Rattle.naga_ir.specs.View.{cases_of, tree_of}
use Rattle.naga_proc.specs.Closing.Room.{CasesHaveRoom, HasRoomAtTails}
use Rattle.naga_ir.specs.Tree.{Tree, empty, push, Node, plain, nested, branch, switch, loop, jump, Jump, return, Cases, no_cases, case}
use Rattle.naga_proc.specs.Closing.{follows, returned}
use Rattle.naga_proc.specs.declared.terminator.one_walk.Walk.{Walk}
use Rattle.naga_proc.specs.declared.terminator.rule.Rule.{Rule}

-- ---- what happens at one tail block

-- the walk inserts a return
pub record Inserts (old new : Walk) : Type 0 where
  pub below : old.pushed < old.limit
  pub pushed : new.pushed ≡ suc old.pushed
  pub limit : new.limit ≡ old.limit
  pub owes : new.owes ≡ old.owes
  pub failed : new.failed ≡ old.failed

-- the walk leaves out a return, and inserts no more from there on
pub record Omits (old new : Walk) : Type 0 where
  pub pushed : new.pushed ≡ old.pushed
  pub limit : new.limit ≤ new.pushed
  pub owes : new.owes ≡ true
  pub failed : new.failed ≡ false → old.failed ≡ false

-- the walk passes a return without a value, and inserts no more from there on
pub record Passes (old new : Walk) : Type 0 where
  pub pushed : new.pushed ≡ old.pushed
  pub limit : new.limit ≤ new.pushed
  pub owes : new.owes ≡ old.owes
  pub failed : new.failed ≡ old.failed

-- the walk visits a block that gets a return: it inserts the return, or leaves it out and reserves space for it
abbrev pub Adds : Walk → Block → Block → Walk → Type 0
Adds w b c v =
    (Inserts w v × (pairs c ≡ pairs b ++ (variant.Return None, undefined) ∷ [])) ⊎
    (Omits w v × (pairs c ≡ pairs b) × (v.failed ≡ false → 0 < room c))

-- the jump is a return without a value
abbrev pub has_no_value : Jump → Bool
has_no_value (return None) = true
has_no_value to = false

-- ---- the whole walk

mutual
  -- The walk leads from the first tree to the second: by the rule, some of the tail blocks have got their returns.
  pub data Walked (rule : Rule) : Walk → Tree → Tree → Walk → Type 0 where
    empty_gets : {w v : Walk} → Inserts w v → Walked rule w empty (returned empty) v
    empty_lacks : {w v : Walk} → Omits w v → Walked rule w empty empty v
    stays : {w v : Walk} {front : Tree} {last new : Node} {span : Span} →
        WalkedInside rule w last new v → follows rule last ≡ false → Walked rule w (push front last span) (push front new span) v
    gets : {w u v : Walk} {front : Tree} {last new : Node} {span : Span} →
        WalkedInside rule w last new u → follows rule last ≡ true → Inserts u v →
        Walked rule w (push front last span) (returned (push front new span)) v
    lacks : {w u v : Walk} {front : Tree} {last new : Node} {span : Span} →
        WalkedInside rule w last new u → follows rule last ≡ true → Omits u v →
        Walked rule w (push front last span) (push front new span) v

  -- the walk leads from the first statement to the second
  pub data WalkedInside (rule : Rule) : Walk → Node → Node → Walk → Type 0 where
    in_plain : {w : Walk} {what : Statement} → WalkedInside rule w (plain what) (plain what) w
    in_loop : {w : Walk} {body continuing : Tree} {break_if : Option ℕ} →
        WalkedInside rule w (loop body continuing break_if) (loop body continuing break_if) w
    in_return : {w v : Walk} {to : Jump} → has_no_value to ≡ true → Passes w v → WalkedInside rule w (jump to) (jump to) v
    in_jump : {w : Walk} {to : Jump} → has_no_value to ≡ false → WalkedInside rule w (jump to) (jump to) w
    in_block : {w v : Walk} {b c : Tree} → Walked rule w b c v → WalkedInside rule w (nested b) (nested c) v
    in_branch : {w u v : Walk} {b c d e : Tree} {condition : ℕ} → Walked rule w b c u → Walked rule u d e v →
        WalkedInside rule w (branch condition b d) (branch condition c e) v
    in_cases : {w v : Walk} {cs ds : Cases} {selector : ℕ} → WalkedCases rule w cs ds v →
        WalkedInside rule w (switch selector cs) (switch selector ds) v

  -- the walk leads from the first cases to the second
  pub data WalkedCases (rule : Rule) : Walk → Cases → Cases → Walk → Type 0 where
    no_more : {w : Walk} → WalkedCases rule w no_cases no_cases w
    falling : {w v : Walk} {value : SwitchValue} {b : Tree} {cs ds : Cases} →
        WalkedCases rule w cs ds v → WalkedCases rule w (case value b true cs) (case value b true ds) v
    ending : {w u v : Walk} {value : SwitchValue} {b c : Tree} {cs ds : Cases} →
        Walked rule w b c u → WalkedCases rule u cs ds v →
        WalkedCases rule w (case value b false cs) (case value c false ds) v

-- ---- the walk in the blocks of the code

-- The walk leads from the first block to the second. Then the returns that it left out have space, unless an
-- allocation failed, and none fails if all the returns have space.
pub record Visits (rule : Rule) (w : Walk) (b c : Block) (v : Walk) : Type 0 where
  pub walked : Walked rule w (tree_of b) (tree_of c) v
  pub room : v.failed ≡ false → HasRoomAtTails rule c
  pub succeeds : HasRoomAtTails rule b → w.failed ≡ false → v.failed ≡ false

-- the same of cases
pub record VisitsCases (rule : Rule) (w : Walk) (cs ds : List SwitchCase) (v : Walk) : Type 0 where
  pub walked : WalkedCases rule w (cases_of cs) (cases_of ds) v
  pub room : v.failed ≡ false → CasesHaveRoom rule ds
  pub succeeds : CasesHaveRoom rule cs → w.failed ≡ false → v.failed ≡ false

-- ---- taking away the returns that were inserted

-- Between these two states of a walk at most `count` returns were inserted, and exactly as many if none is inserted
-- after the second one.
pub record Reaches (old new : Walk) (count : ℕ) : Type 0 where
  pub most : new.pushed ≤ old.pushed + count
  pub all : new.limit ≤ new.pushed → new.pushed ≡ old.pushed + count

-- what is to be taken away after those that were inserted between two states have been
abbrev pub Leaves : Walk → Walk → ℕ → ℕ → Type 0
Leaves old new count left = left + new.pushed ≡ count + old.pushed

-- taking away the first `count` returns gives back the block from which a walk led to `b`, and leaves `left` of them
abbrev pub TakesBack : ℕ → Tree → Tree → ℕ → Type 0
TakesBack count b c left =
    (rule : Rule) (w v : Walk) (before : Tree) → Walked rule w before b v → Reaches w v count →
    (c ≡ before) × Leaves w v count left

abbrev pub TakesBackInside : ℕ → Node → Node → ℕ → Type 0
TakesBackInside count s t left =
    (rule : Rule) (w v : Walk) (before : Node) → WalkedInside rule w before s v → Reaches w v count →
    (t ≡ before) × Leaves w v count left

abbrev pub CasesTakeBack : ℕ → Cases → Cases → ℕ → Type 0
CasesTakeBack count cs ds left =
    (rule : Rule) (w v : Walk) (before : Cases) → WalkedCases rule w before cs v → Reaches w v count →
    (ds ≡ before) × Leaves w v count left

-- the walk leads from the first tree to the second in the last statement alone
pub data WalkedLast (rule : Rule) : Walk → Tree → Tree → Walk → Type 0 where
  at_empty : {w v : Walk} → v.pushed ≡ w.pushed → WalkedLast rule w empty empty v
  at_last : {w v : Walk} {front : Tree} {last new : Node} {span : Span} → WalkedInside rule w last new v →
      WalkedLast rule w (push front last span) (push front new span) v

abbrev pub TakesBackLast : ℕ → Tree → Tree → ℕ → Type 0
TakesBackLast count b c left =
    (rule : Rule) (w v : Walk) (before : Tree) → WalkedLast rule w before b v → Reaches w v count →
    (c ≡ before) × Leaves w v count left

-- the statement is a return without a value
abbrev pub is_return : Node → Bool
is_return (jump to) = has_no_value to
is_return last = false

-- the block ends in a return without a value
abbrev pub ends_in_return : Tree → Bool
ends_in_return empty = false
ends_in_return (push front last span) = is_return last
