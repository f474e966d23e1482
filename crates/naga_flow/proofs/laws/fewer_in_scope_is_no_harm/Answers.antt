use Rattle.naga_flow.proofs.ScopesLemmas.{EvaluatedOnce-fewer}
use Rattle.naga_flow.proofs.laws.fewer_in_scope_is_no_harm.Goals as goal

pub returns : goal.returns
returns c scope fewer block h once = EvaluatedOnce-fewer scope fewer block (record { each = h }) once
