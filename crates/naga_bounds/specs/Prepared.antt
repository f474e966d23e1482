-- What is prepared for a function before it changes.
use Rattle.std.specs.Prelude.{◌≡◌, ◌≤◌, [], All, Option, Some, None, length}
use Rattle.indexmap.specs.IndexMap.{IsEmpty, index_map_len, spare}
use Rattle.naga_ir.specs.declared.module.Function as function
use Rattle.naga_ir.specs.declared.module.Module as the_module
use Rattle.naga_arena.specs.Limits.{max_len}
use Rattle.naga_bounds.specs.Changes.{AreChanges}
use Rattle.naga_bounds.specs.Fits.{EachFits}
use Rattle.naga_bounds.specs.Modules.{typed_in}
use Rattle.naga_bounds.specs.Plans.{IsShort}
use Rattle.naga_bounds.specs.Restricted.{new_len}
use Rattle.naga_bounds.specs.RestrictedModules.{IsEmitted, IsTyped, counts_in}
use Rattle.naga_bounds.specs.declared.prepared.Prepared.{Prepared}

-- there is a change for each expression of the function, and memory for all that is new
pub record IsReady (inside : function.Function) (found : Prepared) : Type 0 where
  pub all : length found.plan ≡ length inside.expressions
  pub short : All IsShort found.plan
  pub bound : new_len found.plan ≤ max_len
  pub empty : found.building.entries ≡ []
  pub room : new_len found.plan ≤ found.building.capacity
  pub nameless : IsEmpty found.names
  pub spare : index_map_len inside.named_expressions ≤ spare found.names

abbrev pub AreFound : the_module.Module → function.Function → Option Prepared → Type 0
AreFound whole inside None = EachFits (typed_in whole inside)
AreFound whole inside (Some found) =
    ¬ EachFits (typed_in whole inside) × AreChanges (counts_in whole) (typed_in whole inside) found.plan × IsReady inside found

-- the function passes both checks, and either each access fits, or the changes of the others are prepared
pub record IsPrepared (whole : the_module.Module) (inside : function.Function) (found : Option Prepared) : Type 0 where
  pub typed : IsTyped whole inside
  pub emitted : IsEmitted whole inside
  pub changes : AreFound whole inside found
