-- Properties of the texels of image classes.
use Rattle.std.specs.Prelude.{Bool, true, false, Option, Some, None}
use Rattle.naga_kinds.specs.declared.image.ImageClass.{ImageClass}
use Rattle.naga_kinds.specs.declared.image.ImageClass.TheVariants.{Sampled, Depth}

-- `Some true` if each texel has several samples, `Some false` if it has one, or `None` if the class does not specify it
abbrev pub multi_of : ImageClass → Option Bool
multi_of (Sampled kind multi) = Some multi
multi_of (Depth multi) = Some multi
multi_of _ = None

-- `true` if the texels are depths
abbrev pub is_depth : ImageClass → Bool
is_depth (Depth multi) = true
is_depth _ = false
