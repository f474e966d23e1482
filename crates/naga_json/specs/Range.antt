-- Ranges of expressions.
use Rattle.std.specs.Prelude.{⊤, ℕ, codes}
use Rattle.std.specs.Prelude.{nat_le}
use Rattle.naga_json.specs.Codec.{Codec, handle_codec, tested_codec, word_codec}
use Rattle.naga_json.specs.Fields.{Fields, field, no_fields, struct_codec}

-- the fields of a range
abbrev pub range_fields : Fields (ℕ × (ℕ × ⊤))
range_fields = field (codes "start") handle_codec (field (codes "end") word_codec no_fields)

-- a range of expressions, as its bounds, of which the first is at most the second
abbrev pub range_codec : Codec (ℕ × ℕ)
range_codec =
    tested_codec (struct_codec range_fields (λ parts. (parts.0, parts.1.0)) (λ range. (range.0, (range.1, tt)))) (λ range. nat_le range.0 range.1)
