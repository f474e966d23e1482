-- What a search for a fault returns.
use Rattle.std.specs.Prelude.{◌≡◌, Option, Result, IfOk, option_map}
use Rattle.std.specs.declared.alloc.AllocError.{AllocError}
use Rattle.naga_schema.specs.declared.fault.Fault.{Fault}
use Rattle.naga_schema.specs.Path.{Found, found_of}

-- The search returned the fault, if there is one, or an allocation failed.
abbrev pub Finds : Result (Option Fault) AllocError → Option Found → Type 0
Finds result found = IfOk result (λ fault. option_map found_of fault ≡ found)
