-- A block in contracts: a list of statements, each with its span, together with a number, its spare capacity.
use Rattle.std.specs.Prelude.{ℕ, ◌-◌, List, Option, length, map, slice_get, vec_capacity, vec_len}
use Rattle.naga_arena.specs.Span.{undefined}
use Rattle.naga_arena.specs.declared.span.Span.{Span}
use Rattle.naga_ir.specs.declared.block.Block.{Block}
use Rattle.naga_ir.specs.declared.statement.Statement.{Statement}

-- the statements, each with its span
abbrev pub pairs : Block → List (Statement × Span)
pairs block = block.entries.items

-- the statements, without their spans
abbrev pub statements : Block → List Statement
statements block = map (λ pair. pair.0) (pairs block)

-- the last statement, if there is one
abbrev pub last_statement : Block → Option Statement
last_statement block = slice_get (statements block) (length (pairs block) - 1)

-- the spans of the statements
abbrev pub spans : Block → List Span
spans block = map (λ pair. pair.1) (pairs block)

-- the spare capacity of a block: the number of pushes that cannot fail
abbrev pub room : Block → ℕ
room block = vec_capacity block.entries - vec_len block.entries

-- each statement with the undefined span
abbrev pub with_undefined : List Statement → List (Statement × Span)
with_undefined = map (λ statement. (statement, undefined))
