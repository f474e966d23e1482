-- Made by tests/derive from the declarations of naga_kinds and naga_ir.
-- Values whose types are declared in the module `address_space` are read as they are written.
use Rattle.std.proofs.Common.{refl}
use Rattle.std.specs.List.{AllByRecursion}
use Rattle.json.specs.Json.{Json}
use Rattle.naga_json.specs.Lawful.{Gives, IsRead, Lawful}
use Rattle.naga_json.proofs.FieldsLemmas.{contains, distinct, lawful-field, lawful-no_fields}
use Rattle.naga_json.proofs.FlagSetsLemmas.{lawful-storage_access}
use Rattle.naga_json.proofs.VariantsLemmas.{gives-enum, is_word, lawful-holds_fields, LawfulVariant}
use Rattle.naga_kinds.specs.declared.address_space.AddressSpace.{AddressSpace}
use Rattle.naga_kinds.specs.declared.address_space.AddressSpace.TheVariants as address_space
use Rattle.naga_json.specs.derived.AddressSpace.{address_space_codec, address_space_names, address_space_rows, address_space_storage}

lawful-address_space_storage : LawfulVariant address_space_storage
unfolding distinct contains
lawful-address_space_storage = lawful-holds_fields _ _ _ (lawful-field _ _ _ lawful-storage_access lawful-no_fields) refl

pub lawful-address_space : Lawful address_space_codec
lawful-address_space = record { reads = reads; gives = gives-enum address_space_codec.Fits address_space_names address_space_rows (search) each }
  where
    reads : (value : AddressSpace) → address_space_codec.Fits value → IsRead address_space_codec.decode value (address_space_codec.encode value)
    reads address_space.Function fits = is_word refl
    reads address_space.Private fits = is_word refl
    reads address_space.WorkGroup fits = is_word refl
    reads address_space.Uniform fits = is_word refl
    reads (address_space.Storage access) fits = lawful-address_space_storage.reads (access, tt) fits address_space_codec.decode (λ held. refl)
    reads address_space.Handle fits = is_word refl
    reads address_space.Immediate fits = is_word refl
    reads address_space.TaskPayload fits = is_word refl
    reads address_space.RayPayload fits = is_word refl
    reads address_space.IncomingRayPayload fits = is_word refl

    each : (held : Json) → AllByRecursion (λ row. Gives address_space_codec.Fits row.1) (address_space_rows held)
    each held = (lawful-address_space_storage.gives address_space_codec.Fits (λ parts fits. fits) held, tt)
