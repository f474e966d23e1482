use Rattle.std.proofs.Common.{◌≡◌, sym, subst, rules}
use Rattle.std.specs.List.{enumerate_from}
use Rattle.std.specs.Prelude.{◌↔◌}
use Rattle.naga_arena.specs.Arena.{values}
use Rattle.naga_kinds.specs.Search.{ParentsPrecede}
use Rattle.naga_kinds.proofs.FindsLemmas.{parents_precede, PrecedeEach}
use Rattle.naga_kinds.proofs.diagnostic_filter.DiagnosticFilterNode.parents_precede.Goals as goal

pub loop-handle-init : goal.loop-handle-init
loop-handle-init c =
    let nodes = c.args.arena.now in
    let all : c.into_iter-handle-iterator.result ≡ enumerate_from 0 (values nodes) = search rules in
    subst (λ entries. PrecedeEach entries ↔ ParentsPrecede nodes) (sym all) (parents_precede nodes)
