use Rattle.naga_kinds.proofs.diagnostic_filter.DiagnosticFilterNode.search.Goals as goal

pub returns : goal.returns
returns c = (c.search_counted-severity.result.1, c.search_counted-severity.ensures.finds)
