use Rattle.naga_proc.proofs.Building.RefusedLemmas.{AlreadyRunning-one_position, NotRunning-one_position, AlreadyRunning-excludes, Refused-Full_before}
use Rattle.naga_proc.proofs.laws.building.commands_are_out_of_turn_at_one_position.Goals as goal

pub returns : goal.returns
returns c = record { starts = AlreadyRunning-one_position; finishes = NotRunning-one_position; either = AlreadyRunning-excludes; full = Refused-Full_before }
