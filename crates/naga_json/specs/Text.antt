-- Texts of JSON, and how deep their lists and objects are nested.
use Rattle.std.specs.Prelude.{ℕ, List, Option, option_and_then}
use Rattle.json.specs.Json.{Json, if_last, value}
use Rattle.json.specs.Lex.{tokens}
use Rattle.naga_json.specs.declared.nesting.TheConstants.{MAX_NESTING}

-- the JSON of a text that is read: its lists and objects are nested no deeper than `MAX_NESTING`
abbrev pub document : List ℕ → Option Json
document text = option_and_then (λ p. if_last p.0 p.1) (value MAX_NESTING (tokens text))
