-- How many accesses of a module may be out of bounds.
use Rattle.std.specs.Prelude.{ℕ, List, codes, sum_by}
use Rattle.naga_bounds.specs.Fits.{misfit_count}
use Rattle.naga_bounds.specs.Modules.{typed_in}
use Rattle.naga_flow.specs.Bodies.{functions_of, functions_of_entries}
use Rattle.naga_ir.specs.declared.module.Function as function
use Rattle.naga_ir.specs.declared.module.Module as the_module
use Rattle.naga_look.specs.Summary.{saturating_sum}
use Rattle.naga_look.specs.SummaryText.{count_line}

-- how many accesses of a function of the module do not fit
abbrev pub misfits_in : the_module.Module → function.Function → ℕ
misfits_in whole inside = misfit_count (typed_in whole inside)

-- the same for several functions together, on top of what is counted
abbrev pub with_misfits : the_module.Module → (counted : ℕ) → List function.Function → ℕ
with_misfits whole counted functions = saturating_sum counted (sum_by (misfits_in whole) functions)

-- the same for all functions and entry points
abbrev pub misfits_of : the_module.Module → ℕ
misfits_of whole = with_misfits whole (with_misfits whole 0 (functions_of whole)) (functions_of_entries whole.entry_points.items)

-- the number of accesses that may be out of bounds, or nothing, if each access fits
abbrev pub accesses_line : the_module.Module → List ℕ
accesses_line whole = count_line (codes "accesses that may be out of bounds") (misfits_of whole)
