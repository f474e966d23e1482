-- Ranges of expressions. Their schema accepts the JSONs that their codec reads.
use Rattle.naga_json.specs.Codec.{handle_codec, word_codec}
use Rattle.naga_json.specs.Range.{range_codec}
use Rattle.naga_schema.proofs.AgreesLemmas.{Agrees, agrees-field, agrees-none, agrees-range}
use Rattle.naga_schema.proofs.LeavesAgree.{agrees-handle, agrees-word}
use Rattle.naga_schema.specs.derived.Types.{shape_of}
use Rattle.std.proofs.Common.{refl, ℕ}
use Rattle.naga_schema.specs.declared.derived.type_name.TypeName.TheVariants as type

pub agrees-Range : (depth : ℕ) → Agrees depth type.Range range_codec.decode
unfolding shape_of
agrees-Range depth = agrees-range depth type.Range _ refl refl (agrees-field depth _ _ handle_codec _ _ (agrees-handle depth) (agrees-field depth _ _ word_codec _ _ (agrees-word depth) (agrees-none depth)))
