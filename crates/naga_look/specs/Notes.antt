-- Notes on functions: where a return is missing, and which accesses may be out of bounds. They are no faults.
use Rattle.std.specs.Prelude.{ℕ, List, ◌++◌, codes, flat_map, take}
use Rattle.naga_bounds.specs.Messages.{unfit_access_text}
use Rattle.naga_bounds.specs.Modules.{typed_in}
use Rattle.naga_bounds.specs.Unfit.{unfit_accesses}
use Rattle.naga_bounds.specs.declared.invalid_access.UnfitAccess.{UnfitAccess}
use Rattle.naga_ir.specs.declared.module.Function as function
use Rattle.naga_ir.specs.declared.module.Module as the_module
use Rattle.naga_look.specs.OpenEnds.{missing_returns}

-- a note that says something of a function
abbrev pub note_line : (head said : List ℕ) → List ℕ
note_line head said = codes "note: " ++ (head ++ (codes ": " ++ (said ++ codes "\n")))

-- a note on a block with this path, in which a return is missing
abbrev pub missing_line : (head path : List ℕ) → List ℕ
missing_line head path = note_line head (path ++ codes ": a return is missing at the end")

-- notes on such blocks, one after another
abbrev pub missing_lines : (head : List ℕ) → (paths : List (List ℕ)) → List ℕ
missing_lines head paths = flat_map (missing_line head) paths

-- a note on an access that may be out of bounds
abbrev pub access_line : (head : List ℕ) → UnfitAccess → List ℕ
access_line head unfit = note_line head (unfit_access_text unfit)

-- notes on accesses, one after another
abbrev pub access_lines : (head : List ℕ) → List UnfitAccess → List ℕ
access_lines head unfit = flat_map (access_line head) unfit

-- the notes on a function of the module, of each kind up to the limit
abbrev pub notes_in : the_module.Module → (limit : ℕ) → (head : List ℕ) → function.Function → List ℕ
notes_in whole limit head inside =
    missing_lines head (missing_returns limit inside) ++ access_lines head (take limit (unfit_accesses (typed_in whole inside)))
