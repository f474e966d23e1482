use Rattle.std.proofs.Common.{◌≡◌, false, true, sym, ◌∙◌, ap}
use Rattle.naga_flow.specs.Structured.{of_function, may_end}
use Rattle.naga_flow.proofs.StructuredLemmas.{BlockRuns-may_end}
use Rattle.naga_flow.proofs.laws.no_jump_leaves_a_body.Goals as goal

pub returns-clause-broken : goal.returns-clause-broken
returns-clause-broken c body turns answers run h d e =
    let no : false ≡ true = sym (ap (may_end of_function) e) ∙ BlockRuns-may_end of_function d h in cc

pub returns-clause-continued : goal.returns-clause-continued
returns-clause-continued c body turns answers run h d e =
    let no : false ≡ true = sym (ap (may_end of_function) e) ∙ BlockRuns-may_end of_function d h in cc
