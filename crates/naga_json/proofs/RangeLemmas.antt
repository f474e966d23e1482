-- Ranges are read as they are written.
use Rattle.std.proofs.Common.{refl}
use Rattle.naga_json.specs.Range.{range_codec, range_fields}
use Rattle.naga_json.specs.Lawful.{Lawful}
use Rattle.naga_json.proofs.CodecLemmas.{lawful-handle, lawful-tested, lawful-word}
use Rattle.naga_json.proofs.FieldsLemmas.{LawfulFields, contains, distinct, lawful-field, lawful-no_fields, lawful-struct}

lawful-range_fields : LawfulFields range_fields
lawful-range_fields = lawful-field _ _ _ lawful-handle (lawful-field _ _ _ lawful-word lawful-no_fields)

pub lawful-range : Lawful range_codec
unfolding distinct contains
lawful-range = lawful-tested _ _ (lawful-struct range_fields lawful-range_fields _ _ (λ range. refl) (λ parts. refl) refl)
