-- Blocks that are taken statement by statement.
use Rattle.std.proofs.Common.{◌≡◌, ◌∙◌, sym, ap, refl, List, [], ◌∷◌, ◌++◌, Option, Some, None}
use Rattle.json.specs.Json.{Json, array, after_end_array}
use Rattle.json.specs.Token.{Token}
use Rattle.json.proofs.Grammar.{closed_array}
use Rattle.naga_arena.specs.Span.{undefined}
use Rattle.naga_ir.specs.Block.{pairs}
use Rattle.naga_ir.specs.declared.block.Block.{Block}
use Rattle.naga_ir.specs.declared.statement.Statement.{Statement}
use Rattle.naga_json.specs.Block.{block_after, block_with}
use Rattle.naga_json.specs.Lists.{items_of}
use Rattle.naga_json.specs.Numbers.{◌>>=◌}
use Rattle.naga_json.specs.StatementValue.{BlockValue, StatementValue, empty, push, value_of_block, value_of_statement}
use Rattle.naga_json_tokens.proofs.TakesListsLemmas.{list_before-end, list_before-push}
use Rattle.naga_json.proofs.StatementValueLemmas.{block_value-push}
use Rattle.naga_json_tokens.specs.Takes.{Takes}
use Rattle.naga_json_tokens.proofs.TakesItems.{TakesStatements, list_before}

module _ (statement : Json → Option StatementValue) where
  abbrev one_more : Json → Option BlockValue → Option BlockValue
  one_more j block = block >>= λ b. statement j >>= λ last. Some (push b last undefined)

  first_of : (o : Option StatementValue) (front : BlockValue) (js more : List Json) (j : Json) → ((b : BlockValue) → block_after statement (items_of more) b ≡ one_more j (block_after statement (items_of js) b))
      → (o >>= λ last. block_after statement (items_of more) (push front last undefined)) ≡ one_more j (o >>= λ last. block_after statement (items_of js) (push front last undefined))
  first_of None front js more j again = refl
  first_of (Some last) front js more j again = again (push front last undefined)

  block_after-push : (js : List Json) (j : Json) (front : BlockValue) → block_after statement (items_of (js ++ j ∷ [])) front ≡ one_more j (block_after statement (items_of js) front)
  block_after-push [] j front = refl
  block_after-push (first ∷ js) j front = first_of (statement first) front js (js ++ j ∷ []) j (block_after-push js j)

  pub takes_more_statements : (block next : Block) (last : Statement) (old middle new : List Token)
      → TakesStatements statement (value_of_block block) old middle → Takes statement (value_of_statement last) middle new → pairs next ≡ pairs block ++ (last, undefined) ∷ []
      → TakesStatements statement (value_of_block next) old new
  takes_more_statements block next last old middle new all one is = record {
    jsons = all.jsons ++ one.json ∷ [];
    tokens = all.tokens ∙ ap (list_before all.jsons) one.tokens ∙ sym (list_before-push all.jsons one.json new);
    means =
        block_after-push all.jsons one.json empty
        ∙ ap (one_more one.json) all.means
        ∙ ap (λ o. o >>= λ found. Some (push (value_of_block block) found undefined)) one.means
        ∙ ap Some (sym (block_value-push block next last undefined is));
  }

  -- a block, with its beginning and its end
  pub takes_block : (block : BlockValue) (old first middle new : List Token) → old ≡ Token.begin_array ∷ first → TakesStatements statement block first middle → after_end_array middle ≡ Some new
      → Takes (block_with statement) block old new
  takes_block block old first middle new begun all ended = record {
    json = array (items_of all.jsons);
    tokens =
        begun
        ∙ ap (λ ts. Token.begin_array ∷ ts)
        (all.tokens ∙ ap (list_before all.jsons) (closed_array middle new ended) ∙ list_before-end all.jsons new);
    means = all.means;
  }
