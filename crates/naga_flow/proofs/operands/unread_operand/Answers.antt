use Rattle.std.proofs.Common.{option_to_list, subst, sym}
use Rattle.naga_flow.specs.Misuses.{FindsUnread}
use Rattle.naga_flow.specs.Readings.{read_in}
use Rattle.naga_flow.specs.Tracking.{known_of}
use Rattle.naga_flow.proofs.OperandsLemmas.{unread-one}
use Rattle.naga_flow.proofs.operands.unread_operand.Goals as goal

pub returns-in-Some : goal.returns-in-Some
returns-in-Some c =
    subst (λ operand. FindsUnread (read_in c.args.reading.now) (known_of c.args.known.now) (option_to_list operand) c.unread.result) (sym c.in-Some.is)
    (unread-one (read_in c.args.reading.now) (known_of c.args.known.now) c.in-Some.handle c.unread.result c.unread.ensures)
