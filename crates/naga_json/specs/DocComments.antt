-- Doc comments.
use Rattle.std.specs.Prelude.{⊤, ℕ, ◌^◌, List, codes, map, string_bytes}
use Rattle.std.specs.declared.alloc.Global.{Global}
use Rattle.std.specs.declared.string.String.{String}
use Rattle.std.specs.declared.vec.Vec.{Vec}
use Rattle.naga_arena.specs.Limits.{max_len}
use Rattle.naga_ir.specs.declared.module.DocComments.{DocComments}
use Rattle.naga_json.specs.Codec.{Codec, text_codec}
use Rattle.naga_json.specs.Fields.{Fields, field, no_fields, struct_codec}
use Rattle.naga_json.specs.Lists.{list_codec}
use Rattle.naga_json.specs.Maps.{map_value, empty_map_codec, map_codec}

-- the lines of a comment
abbrev pub lines_of : Vec (String Global) Global → List (List ℕ)
lines_of lines = map string_bytes lines.items

-- doc comments without spare capacity
pub record DocCommentsValue : Type 0 where
  pub types : List (ℕ × List (List ℕ))
  pub struct_members : List ((ℕ × ℕ) × List (List ℕ))
  pub entry_points : List (ℕ × List (List ℕ))
  pub functions : List (ℕ × List (List ℕ))
  pub constants : List (ℕ × List (List ℕ))
  pub global_variables : List (ℕ × List (List ℕ))
  pub «module» : List (List ℕ)

-- the value of doc comments
abbrev pub comments_value : DocComments → DocCommentsValue
comments_value comments = record {
  types = map_value lines_of comments.types;
  struct_members = map_value lines_of comments.struct_members;
  entry_points = map_value lines_of comments.entry_points;
  functions = map_value lines_of comments.functions;
  constants = map_value lines_of comments.constants;
  global_variables = map_value lines_of comments.global_variables;
  «module» = lines_of comments.«module»;
}

-- the lines of a comment
abbrev pub lines_codec : Codec (List (List ℕ))
lines_codec = list_codec text_codec

-- comments, each with the handle of what it describes
abbrev pub handle_comments_codec : Codec (List (ℕ × List (List ℕ)))
handle_comments_codec = map_codec max_len lines_codec

-- comments, each with the position of what it describes
abbrev pub position_comments_codec : Codec (List (ℕ × List (List ℕ)))
position_comments_codec = map_codec (2 ^ 64) lines_codec

-- the fields of doc comments
abbrev pub doc_comments_fields : Fields (List (ℕ × List (List ℕ)) × (List ((ℕ × ℕ) × List (List ℕ)) × (List (ℕ × List (List ℕ)) × (List (ℕ × List (List ℕ)) × (List (ℕ × List (List ℕ)) × (List (ℕ × List (List ℕ)) × (List (List ℕ) × ⊤)))))))
doc_comments_fields =
    field (codes "types") handle_comments_codec (
    field (codes "struct_members") empty_map_codec (
    field (codes "entry_points") position_comments_codec (
    field (codes "functions") handle_comments_codec (
    field (codes "constants") handle_comments_codec (
    field (codes "global_variables") handle_comments_codec (
    field (codes "module") lines_codec no_fields))))))

-- doc comments
abbrev pub doc_comments_codec : Codec DocCommentsValue
doc_comments_codec =
    struct_codec doc_comments_fields
    (λ parts. record {
      types = parts.0;
      struct_members = parts.1.0;
      entry_points = parts.1.1.0;
      functions = parts.1.1.1.0;
      constants = parts.1.1.1.1.0;
      global_variables = parts.1.1.1.1.1.0;
      «module» = parts.1.1.1.1.1.1.0;
    })
    (λ value. (value.types, (value.struct_members, (value.entry_points, (value.functions, (value.constants, (value.global_variables, (value.«module», tt))))))))
