-- Made by tests/derive from the declarations of naga_kinds and naga_ir.
-- Values whose types are declared in the module `image` are read as they are written.
use Rattle.std.proofs.Common.{refl}
use Rattle.std.specs.List.{AllByRecursion}
use Rattle.json.specs.Json.{Json}
use Rattle.naga_json.specs.Lawful.{Gives, IsRead, Lawful}
use Rattle.naga_json.proofs.CodecLemmas.{lawful-boolean}
use Rattle.naga_json.proofs.FieldsLemmas.{contains, distinct, lawful-field, lawful-no_fields}
use Rattle.naga_json.proofs.FlagSetsLemmas.{lawful-storage_access}
use Rattle.naga_json.proofs.VariantsLemmas.{gives-enum, is_word, lawful-holds_fields, LawfulVariant}
use Rattle.naga_kinds.specs.declared.image.ImageClass.{ImageClass}
use Rattle.naga_kinds.specs.declared.image.ImageClass.TheVariants as image_class
use Rattle.naga_json.specs.derived.Image.{image_class_codec, image_class_depth, image_class_names, image_class_rows, image_class_sampled, image_class_storage}
use Rattle.naga_json.proofs.derived.KindsLemmas.{lawful-scalar_kind, lawful-storage_format}

lawful-image_class_sampled : LawfulVariant image_class_sampled
unfolding distinct contains
lawful-image_class_sampled = lawful-holds_fields _ _ _ (lawful-field _ _ _ lawful-scalar_kind (lawful-field _ _ _ lawful-boolean lawful-no_fields)) refl

lawful-image_class_depth : LawfulVariant image_class_depth
unfolding distinct contains
lawful-image_class_depth = lawful-holds_fields _ _ _ (lawful-field _ _ _ lawful-boolean lawful-no_fields) refl

lawful-image_class_storage : LawfulVariant image_class_storage
unfolding distinct contains
lawful-image_class_storage = lawful-holds_fields _ _ _ (lawful-field _ _ _ lawful-storage_format (lawful-field _ _ _ lawful-storage_access lawful-no_fields)) refl

pub lawful-image_class : Lawful image_class_codec
lawful-image_class = record { reads = reads; gives = gives-enum image_class_codec.Fits image_class_names image_class_rows (search) each }
  where
    reads : (value : ImageClass) → image_class_codec.Fits value → IsRead image_class_codec.decode value (image_class_codec.encode value)
    reads (image_class.Sampled kind multi) fits = lawful-image_class_sampled.reads (kind, (multi, tt)) fits image_class_codec.decode (λ held. refl)
    reads (image_class.Depth multi) fits = lawful-image_class_depth.reads (multi, tt) fits image_class_codec.decode (λ held. refl)
    reads image_class.External fits = is_word refl
    reads (image_class.Storage format access) fits = lawful-image_class_storage.reads (format, (access, tt)) fits image_class_codec.decode (λ held. refl)

    each : (held : Json) → AllByRecursion (λ row. Gives image_class_codec.Fits row.1) (image_class_rows held)
    each held = (lawful-image_class_sampled.gives image_class_codec.Fits (λ parts fits. fits) held, (lawful-image_class_depth.gives image_class_codec.Fits (λ parts fits. fits) held, (lawful-image_class_storage.gives image_class_codec.Fits (λ parts fits. fits) held, tt)))
