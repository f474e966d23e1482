-- The texts of address spaces.
use Rattle.std.specs.Prelude.{ℕ, ◌==◌, List, [], ◌++◌, Option, Some, None, Result, Ok, Err, if◌then◌else◌, codes}
use Rattle.std.specs.Int.RustNames.{bit_and}
use Rattle.naga_kinds.specs.declared.address_space.AddressSpace.{AddressSpace}
use Rattle.naga_kinds.specs.declared.address_space.AddressSpace.TheVariants as space
use Rattle.naga_kinds.specs.declared.flags.StorageAccess.{StorageAccess}
use Rattle.naga_wgsl.specs.declared.write_error.Cause.{Cause}
use Rattle.naga_wgsl.specs.declared.write_error.Cause.TheVariants as cause

-- the accesses to a buffer that can be stored to, or to another one: atomic operations store, too
abbrev pub access_by : (stores operates : ℕ) → Option (List ℕ)
access_by stores operates =
    if stores == 2 then Some (codes "read_write") else if operates == 4 then None else Some (codes "read")

-- the mode of the accesses to a buffer, if WGSL has one: each buffer can be loaded from
abbrev pub access_name : StorageAccess → Option (List ℕ)
access_name access =
    if bit_and access.0 1 == 1 then access_by (bit_and access.0 2) (bit_and access.0 4) else None

-- the space of storage buffers with a mode, if there is one
abbrev pub storage_text : Option (List ℕ) → Result (List ℕ) Cause
storage_text (Some name) = Ok (codes "<storage, " ++ (name ++ codes ">"))
storage_text None = Err cause.Access

-- the address space of a variable of a module, behind `var`: nothing for the space of samplers and images
abbrev pub space_text : AddressSpace → Result (List ℕ) Cause
space_text space.Function = Err cause.AddressSpace
space_text space.Private = Ok (codes "<private>")
space_text space.WorkGroup = Ok (codes "<workgroup>")
space_text space.Uniform = Ok (codes "<uniform>")
space_text (space.Storage access) = storage_text (access_name access)
space_text space.Handle = Ok []
space_text space.Immediate = Ok (codes "<immediate>")
space_text space.TaskPayload = Err cause.AddressSpace
space_text space.RayPayload = Err cause.AddressSpace
space_text space.IncomingRayPayload = Err cause.AddressSpace
