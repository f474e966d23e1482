-- Blocks, and statements that contain them, are read as they are written.
use Rattle.std.proofs.Common.{subst, ◌≡◌, ◌∙◌, sym, ap, List, [], ◌∷◌, ◌++◌, map, Option, Some, None, refl}
use Rattle.std.specs.List.{AllByRecursion}
use Rattle.json.specs.Json.{Json, Items, item, no_items}
use Rattle.json.specs.Find.{as_array}
use Rattle.json.specs.Tree.{ItemsHaveNumbers}
use Rattle.naga_arena.specs.Span.{undefined}
use Rattle.naga_json.specs.Block.{block_statement, if_statement, case_fields, switch_statement, loop_statement, statement_json, statements_json, cases_json, block_json, case_codec, cases_codec, statement_rows, statement_codec, block_after, block_with, BlockFits, outer_block, block_codec}
use Rattle.naga_json.specs.declared.nesting.TheConstants.{MAX_NESTING}
use Rattle.naga_json.specs.Codec.{Codec}
use Rattle.naga_json.specs.Lawful.{Gives, IsRead, Lawful}
use Rattle.naga_json.specs.Lists.{items_of}
use Rattle.naga_json.specs.Numbers.{◌>>=◌}
use Rattle.naga_json.specs.derived.Statement.{statement_names}
use Rattle.naga_json.specs.StatementValue.{BlockValue, empty, push, StatementValue, plain, call, nested, branch, switch, loop, jump, CasesValue, no_cases, case, CaseValue, cases_from, cases_of}
use Rattle.naga_json.proofs.CodecLemmas.{lawful-as, lawful-boolean, lawful-handle}
use Rattle.naga_json.proofs.FieldsLemmas.{LawfulFields, contains, distinct, lawful-field, lawful-optional_field, lawful-no_fields, lawful-struct}
use Rattle.naga_json.proofs.GivesLemmas.{then, then_any}
use Rattle.naga_json.proofs.ListsLemmas.{lawful-list}
use Rattle.naga_json.proofs.RecursionLemmas.{encode-within_depth, lawful-within_depth}
use Rattle.naga_json.proofs.derived.StatementLemmas.{each-simple_statement, reads-simple_statement}
use Rattle.naga_json.proofs.derived.SwitchLemmas.{lawful-switch_value}
use Rattle.naga_json.proofs.VariantsLemmas.{LawfulVariant, gives-enum, lawful-holds, lawful-holds_fields}

cases_from-cases_of : (cases : CasesValue) → cases_from (cases_of cases) ≡ cases
cases_from-cases_of no_cases = refl
cases_from-cases_of (case value body falls_through others) = ap (case value body falls_through) (cases_from-cases_of others)

cases_of-cases_from : (cases : List CaseValue) → cases_of (cases_from cases) ≡ cases
cases_of-cases_from [] = refl
cases_of-cases_from (first ∷ rest) = ap (λ others. first ∷ others) (cases_of-cases_from rest)

-- ---- statements, if the blocks in them are read

module _ (block : Codec BlockValue) (law : Lawful block) where
  lawful-case_fields : LawfulFields (case_fields block)
  lawful-case_fields = lawful-field _ _ _ lawful-switch_value (lawful-field _ _ _ law (lawful-field _ _ _ lawful-boolean lawful-no_fields))

  lawful-case : Lawful (case_codec block)
  unfolding distinct contains
  lawful-case = lawful-struct _ lawful-case_fields _ _ (λ one. refl) (λ parts. refl) refl

  lawful-cases : Lawful (cases_codec block)
  lawful-cases = lawful-as _ _ _ (lawful-list _ lawful-case) cases_from-cases_of cases_of-cases_from

  lawful-nested : LawfulVariant (block_statement block nested)
  lawful-nested = lawful-holds _ _ _ law

  lawful-branch : LawfulVariant (if_statement block (λ parts. branch parts.0 parts.1.0 parts.1.1.0))
  unfolding distinct contains
  lawful-branch = lawful-holds_fields _ _ _ (lawful-field _ _ _ lawful-handle (lawful-field _ _ _ law (lawful-field _ _ _ law lawful-no_fields))) refl

  lawful-switch : LawfulVariant (switch_statement (cases_codec block) (λ parts. switch parts.0 parts.1.0))
  unfolding distinct contains
  lawful-switch = lawful-holds_fields _ _ _ (lawful-field _ _ _ lawful-handle (lawful-field _ _ _ lawful-cases lawful-no_fields)) refl

  lawful-loop : LawfulVariant (loop_statement block (λ parts. loop parts.0 parts.1.0 parts.1.1.0))
  unfolding distinct contains
  lawful-loop = lawful-holds_fields _ _ _ (lawful-field _ _ _ law (lawful-field _ _ _ law (lawful-optional_field _ _ _ lawful-handle lawful-no_fields))) refl

  reads-statement : (value : StatementValue) → (statement_codec block).Fits value → IsRead (statement_codec block).decode value ((statement_codec block).encode value)
  reads-statement (plain what) fits = reads-simple_statement block (plain what) fits
  reads-statement (call function arguments result) fits = reads-simple_statement block (call function arguments result) fits
  reads-statement (nested inner) fits = lawful-nested.reads inner fits (statement_codec block).decode (λ held. refl)
  reads-statement (branch condition accept reject) fits = lawful-branch.reads (condition, (accept, (reject, tt))) fits (statement_codec block).decode (λ held. refl)
  reads-statement (switch selector cases) fits = lawful-switch.reads (selector, (cases, tt)) fits (statement_codec block).decode (λ held. refl)
  reads-statement (loop body continuing break_if) fits = lawful-loop.reads (body, (continuing, (break_if, tt))) fits (statement_codec block).decode (λ held. refl)
  reads-statement (jump to) fits = reads-simple_statement block (jump to) fits

  each-statement : (held : Json) → AllByRecursion (λ row. Gives (statement_codec block).Fits row.1) (statement_rows block held)
  each-statement held = (
    lawful-nested.gives (statement_codec block).Fits (λ parts fits. fits) held,
    (
      lawful-branch.gives (statement_codec block).Fits (λ parts fits. fits) held,
      (lawful-switch.gives (statement_codec block).Fits (λ parts fits. fits) held, (lawful-loop.gives (statement_codec block).Fits (λ parts fits. fits) held, each-simple_statement block held)),
    ),
  )

  pub lawful-statement : Lawful (statement_codec block)
  lawful-statement = record { reads = reads-statement; gives = gives-enum (statement_codec block).Fits statement_names (statement_rows block) (tt, (tt, (tt, tt))) each-statement }

-- ---- where the codec of blocks writes them as `block_json` does, so does that of statements

module _ (block : Codec BlockValue) (same : (value : BlockValue) → block.encode value ≡ block_json value) where
  same_cases : (cases : CasesValue) → map (case_codec block).encode (cases_of cases) ≡ cases_json cases
  same_cases no_cases = refl
  same_cases (case value body falls_through others) = rw (same body, same_cases others) refl

  same_statement : (value : StatementValue) → (statement_codec block).encode value ≡ statement_json value
  same_statement (plain what) = refl
  same_statement (call function arguments result) = refl
  same_statement (nested inner) = rw (same inner) refl
  same_statement (branch condition accept reject) = rw (same accept, same reject) refl
  same_statement (switch selector cases) = rw (same_cases cases) refl
  same_statement (loop body continuing break_if) = rw (same body, same continuing) refl
  same_statement (jump to) = refl

-- ---- blocks, if the statements in them are read

module _ (node : Codec StatementValue) (law : Lawful node) (same : (value : StatementValue) → node.encode value ≡ statement_json value) where
  after_one : (o : Option StatementValue) (js more : List Json) (front : BlockValue)
      → ((last : StatementValue) → block_after node.decode (items_of (js ++ more)) (push front last undefined) ≡ (block_after node.decode (items_of js) (push front last undefined) >>= block_after node.decode (items_of more)))
      → (o >>= λ last. block_after node.decode (items_of (js ++ more)) (push front last undefined)) ≡ ((o >>= λ last. block_after node.decode (items_of js) (push front last undefined)) >>= block_after node.decode (items_of more))
  after_one None js more front next = refl
  after_one (Some last) js more front next = next last

  after_more : (js more : List Json) (front : BlockValue) → block_after node.decode (items_of (js ++ more)) front ≡ (block_after node.decode (items_of js) front >>= block_after node.decode (items_of more))
  after_more [] more front = refl
  after_more (j ∷ js) more front = after_one (node.decode j) js more front (λ last. after_more js more (push front last undefined))

  reads-statements : (block : BlockValue) → BlockFits node.Fits block → block_after node.decode (items_of (statements_json block)) empty ≡ Some block
  reads-statements empty fits = refl
  reads-statements (push front last span) fits =
      after_more (statements_json front) (statement_json last ∷ []) empty
      ∙ ap (λ o. o >>= block_after node.decode (items_of (statement_json last ∷ []))) (reads-statements front fits.0)
      ∙ ap (λ o. o >>= λ last. Some (push front last undefined)) (ap node.decode (sym (same last)) ∙ (law.reads last fits.1).reads)
      ∙ ap (λ place. Some (push front last place)) (sym fits.2)

  ItemsHaveNumbers-more : (js more : List Json) → ItemsHaveNumbers (items_of js) → ItemsHaveNumbers (items_of more) → ItemsHaveNumbers (items_of (js ++ more))
  ItemsHaveNumbers-more [] more first rest = rest
  ItemsHaveNumbers-more (j ∷ js) more (here, first) rest = (here, ItemsHaveNumbers-more js more first rest)

  ItemsHaveNumbers-statements : (block : BlockValue) → BlockFits node.Fits block → ItemsHaveNumbers (items_of (statements_json block))
  ItemsHaveNumbers-statements empty fits = tt
  ItemsHaveNumbers-statements (push front last span) fits =
      ItemsHaveNumbers-more (statements_json front) (statement_json last ∷ []) (ItemsHaveNumbers-statements front fits.0) (rw (← same last) (law.reads last fits.1).numbers, tt)

  gives-after : (js : Items) (front : BlockValue) → BlockFits node.Fits front → Gives (BlockFits node.Fits) (block_after node.decode js front)
  gives-after no_items front fit = record { holds = fit }
  gives-after (item j js) front fit =
      then node.Fits (BlockFits node.Fits) (node.decode j) (λ last. block_after node.decode js (push front last undefined)) (law.gives j)
      (λ last fits. gives-after js (push front last undefined) (fit, fits, refl))

  gives-block : (j : Json) → Gives (BlockFits node.Fits) (block_with node.decode j)
  gives-block j = then_any (BlockFits node.Fits) (as_array j) (λ items. block_after node.decode items empty) (λ items. gives-after items empty tt)

lawful-outer_block : (inner : Codec BlockValue) → ((value : BlockValue) → inner.encode value ≡ block_json value) → Lawful inner → Lawful (outer_block inner)
lawful-outer_block inner same law =
    let node = statement_codec inner in
    let one = lawful-statement inner law in
    let written = same_statement inner same in
    record {
      reads = λ block fits. record { reads = reads-statements node one written block fits; numbers = ItemsHaveNumbers-statements node one written block fits; present = refl };
      gives = gives-block node one written;
    }

pub lawful-block : Lawful block_codec
lawful-block =
    let law = lawful-within_depth block_json outer_block (λ inner value. refl) lawful-outer_block MAX_NESTING in
    let same = encode-within_depth block_json outer_block (λ inner value. refl) MAX_NESTING in
    record { reads = λ block fits. subst (IsRead block_codec.decode block) (same block) (law.reads block fits); gives = law.gives }
