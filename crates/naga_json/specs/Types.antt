-- Types with their names.
use Rattle.std.specs.Prelude.{⊤, ℕ, List, codes, Option}
use Rattle.naga_ir.specs.Types.{Inner}
use Rattle.naga_json.specs.Codec.{Codec, text_codec}
use Rattle.naga_json.specs.Fields.{Fields, field, no_fields, optional_field, struct_codec}
use Rattle.naga_json.specs.derived.Types.{type_inner_codec}

-- the fields of a type
abbrev pub type_fields : Fields (Option (List ℕ) × (Inner × ⊤))
type_fields = optional_field (codes "name") text_codec (field (codes "inner") type_inner_codec no_fields)

-- a type: its name, if it has one, and its contents
abbrev pub type_codec : Codec (Option (List ℕ) × Inner)
type_codec = struct_codec type_fields (λ parts. (parts.0, parts.1.0)) (λ named. (named.0, (named.1, tt)))
