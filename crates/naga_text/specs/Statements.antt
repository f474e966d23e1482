-- The texts of statements that contain no block and do not jump.
use Rattle.std.specs.Prelude.{ℕ, List, ◌++◌}
use Rattle.naga_ir.specs.declared.statement.Statement.{Statement}
use Rattle.naga_text.specs.Operands.{references_text}
use Rattle.naga_text.specs.derived.Statement.{action_text}
use Rattle.naga_valid.specs.Statements.{references_of_statement}

-- the statement: its action, and what it refers to
abbrev pub statement_text : Statement → List ℕ
statement_text statement = action_text statement ++ references_text (references_of_statement statement)
