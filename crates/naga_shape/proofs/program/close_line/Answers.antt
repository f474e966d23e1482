use Rattle.std.proofs.Common.{rules}
use Rattle.naga_shape.proofs.ArgumentsLemmas.{GivesRule-ok}
use Rattle.naga_shape.proofs.program.close_line.Goals as goal

pub returns-clause-arguments_first : goal.returns-clause-arguments_first
returns-clause-arguments_first g c =
    λ none. absurd (none c.in-Some.rule (GivesRule-ok c.args.arguments c.in_ok-arguments.field-0 c.in-Some.rule c.as_slice.result.now (search rules) c.as_slice.ensures.value c.in-Some.ensures.some))
