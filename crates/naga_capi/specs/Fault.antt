-- The codes of faults.
use Rattle.std.specs.Prelude.{ℤ, negsuc}
use Rattle.naga_capi.specs.declared.fault.Fault.{Fault}
use Rattle.naga_capi.specs.declared.fault.Fault.TheVariants.{UnknownPass, NotUtf8, NotJson, NotAModule, InvalidHandle, NoJson, OutOfMemory, NotRestricted}

-- the code of a fault
abbrev pub code_of : Fault → ℤ
code_of UnknownPass = negsuc 0
code_of NotUtf8 = negsuc 1
code_of NotJson = negsuc 2
code_of NotAModule = negsuc 3
code_of InvalidHandle = negsuc 4
code_of NoJson = negsuc 5
code_of OutOfMemory = negsuc 6
code_of NotRestricted = negsuc 8
