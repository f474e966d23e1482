-- Visits of the expressions to which a part of a function refers.
use Rattle.std.specs.Prelude.{◌≡◌, ℕ, option_to_list}
use Rattle.std.specs.ControlFlow.{MatchControlFlow}
use Rattle.naga_valid.specs.Visits.{Step}
use Rattle.naga_flow.specs.Misuses.{ReadsUnread}
use Rattle.naga_flow.specs.Readings.{read_in}
use Rattle.naga_flow.specs.Tracking.{awaited_after, known_of, operand_at}
use Rattle.naga_flow.specs.Uses.{MayUseEach}
use Rattle.naga_flow.specs.declared.operands.Operands.{Operands}

-- The visitor goes on if the reference is to the awaited result, to no expression, or to one that may be used. Otherwise
-- it stops with the first expression without a value that a use of it reads.
abbrev pub requires_operand : Step ℕ Operands
requires_operand old to answer new =
    let used = option_to_list (operand_at old.awaited to) in
    MatchControlFlow answer
    (λ _. (new ≡ record old { awaited = awaited_after old.awaited to }) × MayUseEach (read_in old.reading) (known_of old.known.now) used)
    (λ expression. ReadsUnread (read_in old.reading) (known_of old.known.now) used expression)
