use Rattle.std.proofs.Common.{◌≡◌, subst, []}
use Rattle.naga_ir.specs.View.{tree_of}
use Rattle.naga_ir.specs.declared.module.Function as function
use Rattle.naga_ir.specs.declared.module.Module as the_module
use Rattle.naga_flow.specs.Readings.{emitted_in}
use Rattle.naga_flow.specs.Scopes.{BlockPasses}
use Rattle.naga_bounds.specs.Modules.{typed_in}
use Rattle.naga_bounds.specs.Reach.{Typed, is_fixed_access}
use Rattle.naga_bounds.specs.RestrictedModules.{IsEmitted}
use Rattle.naga_bounds.proofs.prepared.judged.Goals as goal

emitted-passes : (whole : the_module.Module) (inside : function.Function) (code : Typed) → code ≡ typed_in whole inside
    → BlockPasses (emitted_in (is_fixed_access code) inside.expressions) [] [] (tree_of inside.body) → IsEmitted whole inside
emitted-passes whole inside code found passes =
    subst (λ (some : Typed). BlockPasses (emitted_in (is_fixed_access some) inside.expressions) [] [] (tree_of inside.body)) found passes

pub returns-in-Ok-check_emitted-clause-emitted : goal.returns-in-Ok-check_emitted-clause-emitted
returns-in-Ok-check_emitted-clause-emitted c =
    emitted-passes c.args.module.now c.args.function.now c.in-Ok.accesses c.in-Ok.ensures.value c.in-Ok-check_emitted.ensures
