-- The handles that a flattening has still to yield.
use Rattle.std.specs.Prelude.{ℕ, List}
use Rattle.naga_proc.specs.declared.flatten.Parts.{Parts}
use Rattle.naga_proc.specs.declared.flatten.Parts.TheVariants.{AsTheyAre, Vector}

-- the handles that are still to be yielded
abbrev pub to_come : Parts → List ℕ
to_come (AsTheyAre components) = components.now
to_come (Vector parts) = parts
