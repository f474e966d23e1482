-- The accesses that address spaces allow.
use Rattle.std.specs.Prelude.{bit_or}
use Rattle.naga_kinds.specs.declared.address_space.AddressSpace.{AddressSpace}
use Rattle.naga_kinds.specs.declared.address_space.AddressSpace.TheVariants.{Uniform, Storage, Handle, Immediate}
use Rattle.naga_kinds.specs.declared.flags.StorageAccess.{StorageAccess}
use Rattle.naga_kinds.specs.declared.flags.TheConstants.StorageAccess.{LOAD, STORE}

-- the accesses that a shader may make to a variable: those of the buffer for a storage buffer, `LOAD` for three other
-- address spaces, and `LOAD` and `STORE` for the rest
abbrev pub access_of : AddressSpace → StorageAccess
access_of (Storage access) = access
access_of Uniform = LOAD
access_of Handle = LOAD
access_of Immediate = LOAD
access_of _ = record { 0 = bit_or LOAD.0 STORE.0 }
