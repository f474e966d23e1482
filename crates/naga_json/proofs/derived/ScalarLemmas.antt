-- Made by tests/derive from the declarations of naga_kinds and naga_ir.
-- Values whose types are declared in the module `scalar` are read as they are written.
use Rattle.std.proofs.Common.{refl}
use Rattle.naga_json.specs.Lawful.{Lawful}
use Rattle.naga_json.proofs.CodecLemmas.{lawful-byte}
use Rattle.naga_json.proofs.FieldsLemmas.{contains, distinct, lawful-field, lawful-no_fields, lawful-struct, LawfulFields}
use Rattle.naga_json.specs.derived.Scalar.{scalar_codec, scalar_fields}
use Rattle.naga_json.proofs.derived.KindsLemmas.{lawful-scalar_kind}

lawful-scalar_fields : LawfulFields scalar_fields
lawful-scalar_fields = lawful-field _ _ _ lawful-scalar_kind (lawful-field _ _ _ lawful-byte lawful-no_fields)

pub lawful-scalar : Lawful scalar_codec
unfolding distinct contains
lawful-scalar = lawful-struct scalar_fields lawful-scalar_fields _ _ (λ value. refl) (λ parts. refl) refl
