-- Made by tests/derive from the declarations of naga_kinds and naga_ir.
use Rattle.std.specs.Prelude.{codes}
use Rattle.naga_text.proofs.PiecesLemmas.{OnOk-after}
use Rattle.naga_text.proofs.derived.statement.push_statement_memory_barrier.Goals as goal

pub returns : goal.returns
returns c =
    OnOk-after c.push_barrier.result c.args.text.now c.push.new.self c.push_barrier.new.text (codes "memory_barrier") _ c.in_ok-push.ensures
    c.push_barrier.ensures
