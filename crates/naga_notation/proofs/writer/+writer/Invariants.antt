use Rattle.std.proofs.Common.{◌≡◌, ◌++◌, take, string_bytes}
use Rattle.naga_ir.specs.View.{cases_of}
use Rattle.naga_notation.specs.Outline.{no_cases, cases_text, cases_after}
use Rattle.naga_notation.proofs.WrittenSoFarLemmas.{WrittenSoFar}
use Rattle.naga_notation.proofs.writer.+writer.Given as goal

-- a front of the block has been written
abbrev pub invariant-write_statements-loop-statement : goal.invariant-write_statements-loop-statement
invariant-write_statements-loop-statement l = WrittenSoFar l.block l.statement-iterator (string_bytes l.fn.text) (string_bytes l.text)

abbrev pub invariant-write_cases-loop-case : goal.invariant-write_cases-loop-case
invariant-write_cases-loop-case l = string_bytes l.text ≡ string_bytes l.fn.text ++ cases_text (cases_after (cases_of (take l.case-index l.cases)) no_cases)
