-- The functions in which all handles are valid.
use Rattle.naga_ir.specs.declared.module.Function as function
use Rattle.naga_valid.specs.Limits.{AreWithin}
use Rattle.naga_valid.specs.Places.{limits_in_part, limits_inside, references_in_part}
use Rattle.naga_valid.specs.declared.limits.Limits.{Limits}
use Rattle.naga_valid.specs.declared.place.Part.{Part}

-- the handles in each part of the function are in the function's own arenas, and within the limits outside it
abbrev pub FunctionIsWithin : Limits → function.Function → Type 0
FunctionIsWithin limits declared =
    (inner : Part) → AreWithin (limits_in_part (limits_inside limits declared) inner) (references_in_part declared inner)
