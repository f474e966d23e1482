use Rattle.std.proofs.Common.{◌∷◌, [], subst}
use Rattle.naga_flow.specs.Misuses.{FindsUnread}
use Rattle.naga_flow.specs.Readings.{read_in}
use Rattle.naga_flow.specs.Tracking.{known_of}
use Rattle.naga_flow.proofs.OperandsLemmas.{unread-judged, unread-one}
use Rattle.naga_flow.proofs.reading.require.Goals as goal

pub returns-in-Some : goal.returns-in-Some
returns-in-Some c =
    let expressions = read_in c.args.reading.now in
    let known = known_of c.args.known.now in
    unread-judged expressions known (c.args.handle ∷ []) c.in-Some.expression c.args.statement c.args.span
    (subst (FindsUnread expressions known (c.args.handle ∷ [])) c.in-Some.is (unread-one expressions known c.args.handle c.unread.result c.unread.ensures))
    c.not_evaluated.result c.not_evaluated.ensures
