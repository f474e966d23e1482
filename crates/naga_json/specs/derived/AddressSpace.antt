-- Made by tests/derive from the declarations of naga_kinds and naga_ir.
-- How values are written and read whose types are declared in the module `address_space`.
use Rattle.std.specs.Prelude.{[], codes, List, Option, ℕ, ◌∷◌}
use Rattle.json.specs.Json.{Json}
use Rattle.naga_json.specs.Codec.{Codec}
use Rattle.naga_json.specs.Fields.{field, no_fields}
use Rattle.naga_json.specs.FlagSets.{storage_access_codec}
use Rattle.naga_json.specs.Variants.{enum_codec, holding, holds_fields, Payload, row, Variant, word}
use Rattle.naga_kinds.specs.declared.address_space.AddressSpace.{AddressSpace}
use Rattle.naga_kinds.specs.declared.address_space.AddressSpace.TheVariants as address_space

-- a `Storage`
abbrev pub address_space_storage : Variant AddressSpace
address_space_storage =
    holds_fields (codes "Storage")
    (field (codes "access") storage_access_codec no_fields)
    (λ parts. address_space.Storage parts.0)

-- the variants of `AddressSpace` that are names alone
abbrev pub address_space_names : List (List ℕ × AddressSpace)
address_space_names =
    (codes "Function", address_space.Function) ∷
    (codes "Private", address_space.Private) ∷
    (codes "WorkGroup", address_space.WorkGroup) ∷
    (codes "Uniform", address_space.Uniform) ∷
    (codes "Handle", address_space.Handle) ∷
    (codes "Immediate", address_space.Immediate) ∷
    (codes "TaskPayload", address_space.TaskPayload) ∷
    (codes "RayPayload", address_space.RayPayload) ∷
    (codes "IncomingRayPayload", address_space.IncomingRayPayload) ∷
    []

-- the variants of `AddressSpace` that contain data
abbrev pub address_space_rows : Json → List (List ℕ × Option AddressSpace)
address_space_rows held =
    row address_space_storage held ∷
    []

-- how an `AddressSpace` is written
abbrev pub address_space_payload : AddressSpace → Payload
address_space_payload address_space.Function = word (codes "Function")
address_space_payload address_space.Private = word (codes "Private")
address_space_payload address_space.WorkGroup = word (codes "WorkGroup")
address_space_payload address_space.Uniform = word (codes "Uniform")
address_space_payload (address_space.Storage access) = holding address_space_storage (access, tt)
address_space_payload address_space.Handle = word (codes "Handle")
address_space_payload address_space.Immediate = word (codes "Immediate")
address_space_payload address_space.TaskPayload = word (codes "TaskPayload")
address_space_payload address_space.RayPayload = word (codes "RayPayload")
address_space_payload address_space.IncomingRayPayload = word (codes "IncomingRayPayload")

-- an `AddressSpace`
abbrev pub address_space_codec : Codec AddressSpace
address_space_codec = enum_codec address_space_names address_space_rows address_space_payload
