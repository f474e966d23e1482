-- Renaming keeps which statements are an `Emit`.
use Rattle.std.proofs.Common.{◌≡◌, refl}
use Rattle.naga_ir.specs.declared.statement.Statement as statement
use Rattle.naga_compact.specs.Renaming.{Renaming}
use Rattle.naga_compact.specs.derived.Renaming.{rename_statement}
use Rattle.naga_meaning.specs.Forms.{only_evaluates}

pub only_evaluates-renamed : (r : Renaming) (what : statement.Statement) → only_evaluates (rename_statement r what) ≡ only_evaluates what
only_evaluates-renamed r (statement.Emit range) = refl
only_evaluates-renamed r _ = refl
