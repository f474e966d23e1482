-- What is shown of a module: lemmas on specs/View.antt.
use Rattle.std.proofs.Common.{◌≡◌, false}
use Rattle.naga_ir.specs.declared.module.Module as the_module
use Rattle.naga_look.specs.View.{IsShown, compares}
use Rattle.naga_look.specs.declared.shown.Shown.{Shown}
use Rattle.naga_look.specs.declared.shown.View.{View}
use Rattle.naga_look.specs.declared.shown.View.TheVariants as view

-- what a view shows that compares nothing, beside any module
pub IsShown-alone : (chosen : View) (old other new : the_module.Module) (shown : Shown)
    → compares chosen ≡ false → IsShown chosen old new shown → IsShown chosen other new shown
IsShown-alone view.Text old other new shown alone shows = absurd cc
IsShown-alone view.Dot old other new shown alone shows = absurd cc
IsShown-alone (view.Report extent format) old other new shown alone shows = shows
