-- Blocks, and statements that contain them. The JSON of a block has no spans.
use Rattle.std.specs.Prelude.{◌≡◌, ⊤, ℕ, List, [], ◌∷◌, ◌++◌, Bool, codes, Option, Some}
use Rattle.json.specs.Json.{Json, array, Items, item, no_items}
use Rattle.json.specs.Find.{as_array}
use Rattle.naga_arena.specs.Span.{undefined}
use Rattle.naga_kinds.specs.declared.switch.SwitchValue.{SwitchValue}
use Rattle.naga_json.specs.declared.nesting.TheConstants.{MAX_NESTING}
use Rattle.naga_json.specs.Codec.{Codec, as_codec, boolean_codec, handle_codec}
use Rattle.naga_json.specs.Fields.{Fields, no_fields, field, optional_field, struct_codec, struct_json}
use Rattle.naga_json.specs.Lists.{items_of, list_codec}
use Rattle.naga_json.specs.Numbers.{◌>>=◌}
use Rattle.naga_json.specs.Recursion.{raw_codec, within_depth}
use Rattle.naga_json.specs.derived.Statement.{simple_statement_payload, simple_statement_rows, statement_names}
use Rattle.naga_json.specs.StatementValue.{BlockValue, empty, push, StatementValue, plain, call, nested, branch, switch, loop, jump, CasesValue, no_cases, case, CaseValue, cases_from, cases_of}
use Rattle.naga_json.specs.derived.Switch.{switch_value_codec}
use Rattle.naga_json.specs.Variants.{Variant, Parts, holds, holds_fields, Payload, holding, held_json, row, enum_codec}

-- The tables of statements that contain blocks, and of the cases of a switch, are for a codec of blocks, and for a way
-- to make a value of the parts.

-- a `Block`
abbrev pub block_statement : {B V : Type 0} → Codec B → (B → V) → Variant V
block_statement block make = holds (codes "Block") block make

-- an `If`
abbrev pub if_statement : {B V : Type 0} → Codec B → (ℕ × (B × (B × ⊤)) → V) → Variant V
if_statement block make =
    holds_fields (codes "If")
    (field (codes "condition") handle_codec (field (codes "accept") block (field (codes "reject") block no_fields)))
    make

-- the fields of a case of a switch
abbrev pub case_fields : {B : Type 0} → Codec B → Fields (SwitchValue × (B × (Bool × ⊤)))
case_fields block =
    field (codes "value") switch_value_codec (field (codes "body") block (field (codes "fall_through") boolean_codec no_fields))

-- a `Switch`, for a codec of its cases
abbrev pub switch_statement : {C V : Type 0} → Codec C → (ℕ × (C × ⊤) → V) → Variant V
switch_statement cases make =
    holds_fields (codes "Switch")
    (field (codes "selector") handle_codec (field (codes "cases") cases no_fields))
    make

-- a `Loop`
abbrev pub loop_statement : {B V : Type 0} → Codec B → (B × (B × (Option ℕ × ⊤)) → V) → Variant V
loop_statement block make =
    holds_fields (codes "Loop")
    (field (codes "body") block (
    field (codes "continuing") block (
    optional_field (codes "break_if") handle_codec no_fields)))
    make

-- ---- how they are written

-- the JSON of what a variant holds, whose parts are written already
abbrev pub json_of : (variant : Variant ⊤) → Parts variant → Json
json_of variant parts = held_json variant parts

-- a case of a switch, given the JSON of its body
abbrev pub case_json : SwitchValue → Json → Bool → Json
case_json value body falls_through = struct_json (case_fields raw_codec) (value, (body, (falls_through, tt)))

abbrev mutual
  -- the JSON of a statement
  pub statement_json : StatementValue → Json
  statement_json (plain what) = (simple_statement_payload (plain what)).json
  statement_json (call function arguments result) = (simple_statement_payload (call function arguments result)).json
  statement_json (nested inner) =
      json_of (block_statement raw_codec (λ parts. tt)) (array (items_of (statements_json inner)))
  statement_json (branch condition accept reject) =
      json_of (if_statement raw_codec (λ parts. tt)) (condition, (array (items_of (statements_json accept)), (array (items_of (statements_json reject)), tt)))
  statement_json (switch selector cases) =
      json_of (switch_statement raw_codec (λ parts. tt)) (selector, (array (items_of (cases_json cases)), tt))
  statement_json (loop body continuing break_if) =
      json_of (loop_statement raw_codec (λ parts. tt)) (array (items_of (statements_json body)), (array (items_of (statements_json continuing)), (break_if, tt)))
  statement_json (jump to) = (simple_statement_payload (jump to)).json

  -- the JSONs of the statements of a block, in order
  pub statements_json : BlockValue → List Json
  statements_json empty = []
  statements_json (push front last span) = statements_json front ++ statement_json last ∷ []

  -- the JSONs of the cases of a switch, in order
  pub cases_json : CasesValue → List Json
  cases_json no_cases = []
  cases_json (case value body falls_through others) =
      case_json value (array (items_of (statements_json body))) falls_through ∷ cases_json others

-- the JSON of a block, as the list of its statements
abbrev pub block_json : BlockValue → Json
block_json block = array (items_of (statements_json block))

-- ---- how they are read

-- a case of a switch
abbrev pub case_codec : Codec BlockValue → Codec CaseValue
case_codec block =
    struct_codec (case_fields block) (λ parts. (parts.0, parts.1.0, parts.1.1.0)) (λ one. (one.0, (one.1, (one.2, tt))))

-- the cases of a switch
abbrev pub cases_codec : Codec BlockValue → Codec CasesValue
cases_codec block = as_codec (list_codec (case_codec block)) cases_from cases_of

-- a `Block`, as a statement
abbrev pub nested_variant : Codec BlockValue → Variant StatementValue
nested_variant block = block_statement block nested

-- an `If`, as a statement
abbrev pub branch_variant : Codec BlockValue → Variant StatementValue
branch_variant block = if_statement block (λ parts. branch parts.0 parts.1.0 parts.1.1.0)

-- a `Switch`, as a statement
abbrev pub switch_variant : Codec BlockValue → Variant StatementValue
switch_variant block = switch_statement (cases_codec block) (λ parts. switch parts.0 parts.1.0)

-- a `Loop`, as a statement
abbrev pub loop_variant : Codec BlockValue → Variant StatementValue
loop_variant block = loop_statement block (λ parts. loop parts.0 parts.1.0 parts.1.1.0)

-- the statements that contain data
abbrev pub statement_rows : Codec BlockValue → Json → List (List ℕ × Option StatementValue)
statement_rows block held =
    row (nested_variant block) held ∷
    row (branch_variant block) held ∷
    row (switch_variant block) held ∷
    row (loop_variant block) held ∷
    simple_statement_rows held

-- how a statement is written
abbrev pub statement_payload : Codec BlockValue → StatementValue → Payload
statement_payload block (plain what) = simple_statement_payload (plain what)
statement_payload block (call function arguments result) = simple_statement_payload (call function arguments result)
statement_payload block (nested inner) = holding (nested_variant block) inner
statement_payload block (branch condition accept reject) =
    holding (branch_variant block) (condition, (accept, (reject, tt)))
statement_payload block (switch selector cases) = holding (switch_variant block) (selector, (cases, tt))
statement_payload block (loop body continuing break_if) =
    holding (loop_variant block) (body, (continuing, (break_if, tt)))
statement_payload block (jump to) = simple_statement_payload (jump to)

-- a statement, given the codec of the blocks in it
abbrev pub statement_codec : Codec BlockValue → Codec StatementValue
statement_codec block = enum_codec statement_names (statement_rows block) (statement_payload block)

-- `front` with the statements of a list after it
abbrev pub block_after : (Json → Option StatementValue) → Items → BlockValue → Option BlockValue
block_after statement no_items front = Some front
block_after statement (item j js) front = statement j >>= λ last. block_after statement js (push front last undefined)

-- the block in a list
abbrev pub block_with : (Json → Option StatementValue) → Json → Option BlockValue
block_with statement j = as_array j >>= λ items. block_after statement items empty

-- the condition holds for each statement of the block, whose spans are undefined
abbrev pub BlockFits : (StatementValue → Type 0) → BlockValue → Type 0
BlockFits Fits empty = ⊤
BlockFits Fits (push front last span) = BlockFits Fits front × Fits last × (span ≡ undefined)

-- a block, given the codec of the blocks in its statements
abbrev pub outer_block : Codec BlockValue → Codec BlockValue
outer_block inner = record {
  encode = block_json;
  decode = block_with (statement_codec inner).decode;
  Fits = BlockFits (statement_codec inner).Fits;
}

-- a block in which blocks are nested no deeper than the number
abbrev pub block_within : ℕ → Codec BlockValue
block_within depth = within_depth block_json outer_block depth

-- a block
abbrev pub block_codec : Codec BlockValue
block_codec = record {
  encode = block_json;
  decode = (block_within MAX_NESTING).decode;
  Fits = (block_within MAX_NESTING).Fits;
}
