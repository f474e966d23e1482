-- Expressions contain only characters that show themselves.
use Rattle.naga_ir.specs.declared.expression.Expression.{Expression}
use Rattle.naga_text.specs.Expressions.{expression_text}
use Rattle.naga_text.specs.Readable.{IsPlain}
use Rattle.naga_valid.specs.Expressions.{references_of_expression}
use Rattle.naga_text.proofs.derived_lemmas.ReadableTextsLemmas.{kind_text-plain}
use Rattle.naga_text.proofs.ReadableOperandsLemmas.{references_text-plain}
use Rattle.naga_text.proofs.SpellsLemmas.{Spells-append}

pub expression_text-plain : (e : Expression) → IsPlain (expression_text e)
expression_text-plain e = Spells-append (kind_text-plain e) (references_text-plain (references_of_expression e))
