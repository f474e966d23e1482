-- Types are read as they are written.
use Rattle.std.proofs.Common.{refl}
use Rattle.naga_json.specs.Types.{type_codec, type_fields}
use Rattle.naga_json.specs.Lawful.{Lawful}
use Rattle.naga_json.proofs.CodecLemmas.{lawful-text}
use Rattle.naga_json.proofs.FieldsLemmas.{LawfulFields, contains, distinct, lawful-field, lawful-no_fields, lawful-optional_field, lawful-struct}
use Rattle.naga_json.proofs.derived.TypesLemmas.{lawful-type_inner}

lawful-type_fields : LawfulFields type_fields
lawful-type_fields = search (lawful-type_inner, lawful-field, lawful-no_fields, lawful-optional_field, lawful-text) depth 10

pub lawful-type : Lawful type_codec
unfolding distinct contains
lawful-type = lawful-struct type_fields lawful-type_fields _ _ (λ value. refl) (λ parts. refl) refl
