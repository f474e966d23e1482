-- What is taken item by item.
use Rattle.std.specs.Prelude.{◌≡◌, List, [], ◌∷◌, Option, Some}
use Rattle.json.specs.Json.{Json}
use Rattle.json.specs.Token.{Token}
use Rattle.naga_json.specs.Block.{block_after}
use Rattle.naga_json.specs.Lists.{each_of, items_of}
use Rattle.naga_json.specs.StatementValue.{BlockValue, StatementValue, empty}
use Rattle.naga_json_tokens.specs.Takes.{json_before}

-- the tokens of some JSONs, one after another, and then the tokens `rest`
abbrev pub list_before : List Json → List Token → List Token
list_before [] rest = rest
list_before (j ∷ js) rest = json_before j (list_before js rest)

-- The tokens `old` are those of some JSONs that mean the values, and then the tokens `new`.
pub record TakesItems {A : Type 0} (meaning : Json → Option A) (values : List A) (old new : List Token) : Type 0 where
  pub jsons : List Json
  pub tokens : old ≡ list_before jsons new
  pub means : each_of meaning (items_of jsons) ≡ Some values

-- The tokens `old` are those of some JSONs that mean the statements of the block, and then the tokens `new`.
pub record TakesStatements (statement : Json → Option StatementValue) (block : BlockValue) (old new : List Token) : Type 0 where
  pub jsons : List Json
  pub tokens : old ≡ list_before jsons new
  pub means : block_after statement (items_of jsons) empty ≡ Some block
