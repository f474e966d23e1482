-- Statements without blocks contain only characters that show themselves.
use Rattle.naga_ir.specs.declared.statement.Statement.{Statement}
use Rattle.naga_text.specs.Readable.{IsPlain}
use Rattle.naga_text.specs.Statements.{statement_text}
use Rattle.naga_valid.specs.Statements.{references_of_statement}
use Rattle.naga_text.proofs.derived_lemmas.ReadableTextsLemmas.{action_text-plain}
use Rattle.naga_text.proofs.ReadableOperandsLemmas.{references_text-plain}
use Rattle.naga_text.proofs.SpellsLemmas.{Spells-append}

pub statement_text-plain : (s : Statement) → IsPlain (statement_text s)
statement_text-plain s = Spells-append (action_text-plain s) (references_text-plain (references_of_statement s))
