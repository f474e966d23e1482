-- Made by tests/derive from the declarations of naga_kinds and naga_ir.
-- The texts of the enums of `address_space`.
use Rattle.std.specs.Prelude.{codes, List, ℕ, ◌++◌}
use Rattle.naga_text.specs.Parts.{access_text}
use Rattle.naga_kinds.specs.declared.address_space.AddressSpace.{AddressSpace}
use Rattle.naga_kinds.specs.declared.address_space.AddressSpace.TheVariants as address_space

-- an `AddressSpace`, with a space before it
abbrev pub address_space_text : AddressSpace → List ℕ
address_space_text address_space.Function = codes " Function"
address_space_text address_space.Private = codes " Private"
address_space_text address_space.WorkGroup = codes " WorkGroup"
address_space_text address_space.Uniform = codes " Uniform"
address_space_text (address_space.Storage access) = codes " Storage" ++ access_text access
address_space_text address_space.Handle = codes " Handle"
address_space_text address_space.Immediate = codes " Immediate"
address_space_text address_space.TaskPayload = codes " TaskPayload"
address_space_text address_space.RayPayload = codes " RayPayload"
address_space_text address_space.IncomingRayPayload = codes " IncomingRayPayload"
