-- The text of a JSON.
use Rattle.std.proofs.Common.{◌≡◌, ◌∙◌, sym, ap, subst, ℕ, List, [], ◌++◌}
use Rattle.std.specs.Str.{IsUtf8}
use Rattle.json.specs.Json.{Json}
use Rattle.json.specs.Print.{print}
use Rattle.json.specs.Token.{Token}
use Rattle.json.specs.Tree.{json_tokens}
use Rattle.naga_json_write.specs.Appends.{append_json}
use Rattle.naga_json_write.proofs.AppendsLemmas.{append_json_tokens}

-- the bytes are the text of the tokens, if there is nothing before it
pub only_print : (bytes before : List ℕ) (tokens : List Token) → bytes ≡ before ++ print tokens → before ≡ [] → bytes ≡ print tokens
only_print bytes before tokens whole none = whole ∙ ap (λ front. front ++ print tokens) none

-- the bytes are valid UTF-8
pub utf8_print : (bytes before : List ℕ) (tokens : List Token) → bytes ≡ before ++ print tokens → before ≡ [] → IsUtf8 (print tokens) → IsUtf8 bytes
utf8_print bytes before tokens whole none valid = subst IsUtf8 (sym (only_print bytes before tokens whole none)) valid

-- the tokens are those of the JSON that was appended to nothing
pub tokens_of_json : (start appended : List Token) (j : Json) → appended ≡ append_json start j → start ≡ [] → appended ≡ json_tokens j
tokens_of_json start appended j is empty = is ∙ ap (λ ts. append_json ts j) empty ∙ append_json_tokens [] j

-- the bytes are the text of the JSON that was appended to nothing
pub print_json : (bytes before : List ℕ) (start tokens : List Token) (j : Json) → bytes ≡ before ++ print tokens → before ≡ [] → tokens ≡ append_json start j → start ≡ [] → bytes ≡ print (json_tokens j)
print_json bytes before start tokens j whole none appended empty =
    only_print bytes before tokens whole none ∙ ap print (tokens_of_json start tokens j appended empty)
