use Rattle.std.proofs.lemmas.Result.{MatchResult-weaker}
use Rattle.naga_valid.proofs.FaultLemmas.{ReferencesAreWithin-all}
use Rattle.naga_valid.proofs.handles.check_references.Goals as goal

pub returns : goal.returns
returns c =
    MatchResult-weaker c.check_entry_points.result c.check_entry_points.ensures
    (λ _ entries. ReferencesAreWithin-all c.args.module.now c.in_default.ensures c.in_default-check_special_types.ensures
    c.in_default-check_values.ensures.0 c.in_default-check_values.ensures.1 c.in_default-check_values.ensures.2 c.in_default-check_values.ensures.3
    c.in_default-check_filters.ensures.0 c.in_default-check_filters.ensures.1 c.in_default-check_doc_comments.ensures c.in_default-check_functions.ensures entries)
    (λ fault found. found)
