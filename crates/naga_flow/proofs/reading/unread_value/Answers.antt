use Rattle.std.proofs.Common.{[]}
use Rattle.naga_flow.specs.Tracking.{known_of}
use Rattle.naga_flow.specs.Uses.{IsKnown, expressions_in}
use Rattle.naga_flow.proofs.IsFirstNotLemmas.{IsFirstNot-here}
use Rattle.naga_flow.proofs.IsTrueLemmas.{IsTrue-not}
use Rattle.naga_flow.proofs.reading.unread_value.Goals as goal

pub returns-else-has_value : goal.returns-else-has_value
returns-else-has_value c =
    let P = IsKnown (expressions_in c.args.expressions.now) (known_of c.args.known.now) in
    IsFirstNot-here P c.args.handle [] (IsTrue-not c.has_value.result (P c.args.handle) c.has_value.ensures c.if-has_value.false)
