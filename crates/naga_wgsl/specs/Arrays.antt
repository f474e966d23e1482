-- The texts of types that refer to another type, which has a text already.
use Rattle.std.specs.Prelude.{ℕ, ◌==◌, List, ◌++◌, Option, Some, None, Result, Ok, Err, if◌then◌else◌, codes}
use Rattle.std.specs.Fmt.{decimal}
use Rattle.naga_ir.specs.declared.types.ArraySize.{ArraySize}
use Rattle.naga_ir.specs.declared.types.ArraySize.TheVariants as size
use Rattle.naga_kinds.specs.declared.address_space.AddressSpace.{AddressSpace}
use Rattle.naga_kinds.specs.declared.address_space.AddressSpace.TheVariants as space
use Rattle.naga_wgsl.specs.declared.write_error.Cause.{Cause}
use Rattle.naga_wgsl.specs.declared.write_error.Cause.TheVariants as cause
use Rattle.naga_wgsl.specs.Spaces.{access_name}

-- an array whose elements have this type, or why there is none
abbrev pub sized_text : (base : List ℕ) → ArraySize → Result (List ℕ) Cause
sized_text base (size.Constant count) = Ok (codes "array<" ++ (base ++ (codes ", " ++ (decimal count.value ++ codes ">"))))
sized_text base (size.Pending handle) = Err cause.OverrideSize
sized_text base size.Dynamic = Ok (codes "array<" ++ (base ++ codes ">"))

-- an array whose elements have this type, and follow one another at this distance, or why WGSL has none: it has only that of their natural distance
abbrev pub array_text : (base : List ℕ) (natural : ℕ) → ArraySize → (stride : ℕ) → Result (List ℕ) Cause
array_text base natural size stride = if stride == natural then sized_text base size else Err cause.Stride

-- a pointer into a space without modes of access
abbrev pub pointer_in : (space base : List ℕ) → Result (List ℕ) Cause
pointer_in space base = Ok (codes "ptr<" ++ (space ++ (codes ", " ++ (base ++ codes ">"))))

-- a pointer into a storage buffer, if there is a mode
abbrev pub storage_pointer : (base : List ℕ) → Option (List ℕ) → Result (List ℕ) Cause
storage_pointer base (Some mode) = Ok (codes "ptr<storage, " ++ (base ++ (codes ", " ++ (mode ++ codes ">"))))
storage_pointer base None = Err cause.Access

-- a pointer to a value of this type, or why WGSL has none
abbrev pub pointer_text : (base : List ℕ) → AddressSpace → Result (List ℕ) Cause
pointer_text base space.Function = pointer_in (codes "function") base
pointer_text base space.Private = pointer_in (codes "private") base
pointer_text base space.WorkGroup = pointer_in (codes "workgroup") base
pointer_text base space.Uniform = pointer_in (codes "uniform") base
pointer_text base (space.Storage access) = storage_pointer base (access_name access)
pointer_text base space.Handle = Err cause.AddressSpace
pointer_text base space.Immediate = pointer_in (codes "immediate") base
pointer_text base space.TaskPayload = Err cause.AddressSpace
pointer_text base space.RayPayload = Err cause.AddressSpace
pointer_text base space.IncomingRayPayload = Err cause.AddressSpace
