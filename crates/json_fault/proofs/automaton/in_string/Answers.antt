use Rattle.json_fault.proofs.StepsLemmas
use Rattle.json_fault.proofs.automaton.in_string.Goals as goal

pub returns-then-ends : goal.returns-then-ends
returns-then-ends c outer r = StepsLemmas.string-end outer _ c.args.part r (c.ends.ensures.0 c.if-ends.true)
