-- Special types are read as they are written.
use Rattle.std.proofs.Common.{refl}
use Rattle.naga_json.specs.SpecialTypes.{special_types_codec, special_types_fields}
use Rattle.naga_json.specs.Lawful.{Lawful}
use Rattle.naga_json.proofs.CodecLemmas.{lawful-handle}
use Rattle.naga_json.proofs.FieldsLemmas.{LawfulFields, contains, distinct, lawful-field, lawful-no_fields, lawful-optional_field, lawful-struct}
use Rattle.naga_json.proofs.MapsLemmas.{lawful-empty_map}

lawful-special_types_fields : LawfulFields special_types_fields
lawful-special_types_fields = search (lawful-field, lawful-no_fields, lawful-optional_field, lawful-handle, lawful-empty_map) depth 18

pub lawful-special_types : Lawful special_types_codec
unfolding distinct contains
lawful-special_types = lawful-struct special_types_fields lawful-special_types_fields _ _ (λ value. refl) (λ parts. refl) refl
