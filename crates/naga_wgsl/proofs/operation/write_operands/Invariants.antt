-- The operands before the next one have been appended.
use Rattle.std.proofs.Common.{◌≡◌, ℕ, List, [], ◌++◌, Ok, drop}
use denote.Shadow.{shadow}
use denote.Text.{Utf8}
use Rattle.naga_wgsl.specs.Operations.{followed, operands_text}
use Rattle.naga_wgsl.proofs.operation.write_operands.Given as goal

abbrev pub invariant-each : goal.invariant-each
invariant-each l = record {
  utf8 : shadow (Utf8 l.before);
  done : List ℕ;
  appended : l.text ≡ l.initial.text ++ done;
  rest : operands_text l.known [] l.operands ≡ followed (Ok done) (operands_text l.known l.before (drop l.operand-index l.operands));
}
