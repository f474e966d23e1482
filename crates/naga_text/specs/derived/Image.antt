-- Made by tests/derive from the declarations of naga_kinds and naga_ir.
-- The texts of the enums of `image`.
use Rattle.std.specs.Prelude.{codes, List, ℕ, ◌++◌}
use Rattle.naga_text.specs.Parts.{access_text}
use Rattle.naga_text.specs.Words.{flag, word}
use Rattle.naga_kinds.specs.derived.Names.{scalar_kind_name, storage_format_name}
use Rattle.naga_kinds.specs.declared.image.ImageClass.{ImageClass}
use Rattle.naga_kinds.specs.declared.image.ImageClass.TheVariants as image_class

-- an `ImageClass`, with a space before it
abbrev pub image_class_text : ImageClass → List ℕ
image_class_text (image_class.Sampled kind multi) =
    codes " Sampled" ++ (word (scalar_kind_name kind) ++ flag multi (codes "multi"))
image_class_text (image_class.Depth multi) = codes " Depth" ++ flag multi (codes "multi")
image_class_text image_class.External = codes " External"
image_class_text (image_class.Storage format access) =
    codes " Storage" ++ (word (storage_format_name format) ++ access_text access)
