-- The text of a JSON is read as the JSON.
use Rattle.std.proofs.Common.{◌≡◌, ◌≤◌, ◌∙◌, [], ap, append-nil, option_and_then, Some, sym}
use Rattle.json.specs.Json.{Json, if_last, value}
use Rattle.json.specs.Print.{print}
use Rattle.json.specs.Tree.{HasNumbers, depth, json_tokens}
use Rattle.json.proofs.Printed.Tokens.{tokens-print}
use Rattle.json.proofs.Printed.Trees.{ArePrintable-json_tokens, value-json_tokens}
use Rattle.naga_json.specs.Text.{document}
use Rattle.naga_json.specs.declared.nesting.TheConstants.{MAX_NESTING}

pub document-print : (j : Json) → HasNumbers j → depth j ≤ MAX_NESTING → document (print (json_tokens j)) ≡ Some j
document-print j numbers shallow =
    ap (option_and_then (λ p. if_last p.0 p.1))
    (ap (value MAX_NESTING) (tokens-print (json_tokens j) (ArePrintable-json_tokens j numbers) ∙ sym (append-nil (json_tokens j)))
    ∙ value-json_tokens j MAX_NESTING [] shallow)
