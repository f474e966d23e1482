-- The JSON of a text.
use Rattle.std.specs.Prelude.{ℕ, List, Option, option_and_then}
use Rattle.json.specs.Json.{Json, if_last, value}
use Rattle.json.specs.Lex.{tokens}

-- the greatest depth to which the lists and objects of a text are nested, as in serde_json
abbrev pub max_depth : ℕ
max_depth = 127

-- the JSON of a text whose lists and objects are nested no deeper
abbrev pub document : List ℕ → Option Json
document text = option_and_then (λ p. if_last p.0 p.1) (value max_depth (tokens text))
