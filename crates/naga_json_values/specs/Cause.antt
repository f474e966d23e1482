-- The causes of errors of arenas.
use Rattle.naga_arena.specs.declared.arena.ArenaError.{ArenaError}
use Rattle.naga_arena.specs.declared.arena.ArenaError.TheVariants as arena
use Rattle.naga_json_values.specs.declared.cause.Cause.{Cause}
use Rattle.naga_json_values.specs.declared.cause.Cause.TheVariants as cause

-- the cause that is returned for an error of an arena: a list is too long, or an allocation failed
abbrev pub cause_of : ArenaError → Cause
cause_of arena.Full = cause.List
cause_of arena.Memory = cause.Memory
