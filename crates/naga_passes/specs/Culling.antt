-- Modules of which the bodies of functions and entry points are culled.
use Rattle.std.specs.Prelude.{◌≡◌}
use Rattle.naga_proc.specs.Bodies.{ChangesBodies}
use Rattle.naga_compact.specs.Culling.{culled}
use Rattle.naga_ir.specs.Tree.{Tree}
use Rattle.naga_ir.specs.declared.module.Module as the_module

-- the second block is the first without the statements that, by its form alone, control never reaches
abbrev pub Culled : Tree → Tree → Type 0
Culled b c = c ≡ culled b

-- the second module is the first with the bodies of all functions and entry points culled
abbrev pub CullsBodies : (old new : the_module.Module) → Type 0
CullsBodies = ChangesBodies Culled
