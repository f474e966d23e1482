use Rattle.naga_text.proofs.CounterpartsLemmas.{slice_get-bodies, slice_get-bodies_past}
use Rattle.naga_text.proofs.counterpart.body_at.Goals as goal

pub returns-in-Some : goal.returns-in-Some
returns-in-Some c =
    slice_get-bodies c.args.cases.now c.args.index c.in-Some.case.now c.in-Some.ensures.lookup.3.0 c.in-Some.ensures.lookup.1

pub returns-in-None : goal.returns-in-None
returns-in-None c = slice_get-bodies_past c.args.cases.now c.args.index c.in-None.ensures.lookup.3
