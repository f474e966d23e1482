use Rattle.std.proofs.Common.{rules}
use Rattle.naga_arena.specs.Limits.{max_position}
use Rattle.naga_arena.proofs.JoinLemmas.{joined, joined-widened, total-defined, total-undefined}
use Rattle.naga_arena.proofs.span.Span.total_span.Goals as goal

pub returns-then-is_defined : goal.returns-then-is_defined
returns-then-is_defined g c =
    let run = c.fold-start.ensures.runs in
    let folded = run.3 (joined max_position) (λ parts span found after called. (search rules, search (rules, joined-widened))) in
    (run.0, run.1, run.2, total-defined max_position run.0.items c.fold-start.result folded c.if-is_defined.true)

pub returns-else-is_defined : goal.returns-else-is_defined
returns-else-is_defined g c =
    let run = c.fold-start.ensures.runs in
    let folded = run.3 (joined max_position) (λ parts span found after called. (search rules, search (rules, joined-widened))) in
    (run.0, run.1, run.2, total-undefined max_position run.0.items c.fold-start.result folded c.if-is_defined.false)
