-- Blocks, and statements that contain them. Their schemas accept the JSONs that their codecs read.
use Rattle.naga_json.specs.Block.{block_within, branch_variant, case_codec, case_fields, cases_codec, loop_variant, nested_variant, statement_codec, statement_rows, switch_variant}
use Rattle.naga_json.specs.Codec.{Codec, boolean_codec, handle_codec}
use Rattle.naga_json.specs.Lists.{list_codec}
use Rattle.naga_json.specs.Recursion.{within_depth}
use Rattle.naga_json.specs.derived.Statement.{statement_names}
use Rattle.naga_json.specs.StatementValue.{BlockValue, cases_from}
use Rattle.naga_json.specs.derived.Switch.{switch_value_codec}
use Rattle.naga_json.specs.Variants.{held_in}
use Rattle.naga_schema.proofs.AgreesLemmas.{Agrees, agrees-as, agrees-block, agrees-enum, agrees-field, agrees-list, agrees-no_block, agrees-none, agrees-optional_field, agrees-row, agrees-struct}
use Rattle.naga_schema.proofs.derived_lemmas.KindsAgree.{agrees-SwitchValue}
use Rattle.naga_schema.proofs.derived_lemmas.StatementAgree.{agrees-simple_statement}
use Rattle.naga_schema.proofs.LeavesAgree.{agrees-boolean, agrees-handle}
use Rattle.naga_schema.specs.derived.Types.{shape_of}
use Rattle.std.proofs.Common.{refl, suc, zero, ℕ}
use Rattle.naga_schema.specs.declared.derived.type_name.TypeName.TheVariants as type

pub agrees-SwitchCase : (depth : ℕ) (block : Codec BlockValue) → Agrees depth type.Block block.decode → Agrees depth type.SwitchCase (case_codec block).decode
unfolding shape_of
agrees-SwitchCase depth block one = agrees-struct depth type.SwitchCase _ (case_fields block) _ refl refl (agrees-field depth _ _ switch_value_codec _ _ (agrees-SwitchValue depth) (agrees-field depth _ _ block _ _ one (agrees-field depth _ _ boolean_codec _ _ (agrees-boolean depth) (agrees-none depth))))

pub agrees-SwitchCases : (depth : ℕ) (block : Codec BlockValue) → Agrees depth type.Block block.decode → Agrees depth type.SwitchCases (cases_codec block).decode
unfolding shape_of
agrees-SwitchCases depth block one = agrees-as depth type.SwitchCases (list_codec (case_codec block)).decode cases_from (agrees-list depth type.SwitchCases type.SwitchCase (case_codec block).decode refl (agrees-SwitchCase depth block one))

pub agrees-StatementIf : (depth : ℕ) (block : Codec BlockValue) → Agrees depth type.Block block.decode → Agrees depth type.StatementIf (held_in (branch_variant block))
unfolding shape_of
agrees-StatementIf depth block one = agrees-struct depth type.StatementIf _ _ _ refl refl (agrees-field depth _ _ handle_codec _ _ (agrees-handle depth) (agrees-field depth _ _ block _ _ one (agrees-field depth _ _ block _ _ one (agrees-none depth))))

pub agrees-StatementSwitch : (depth : ℕ) (block : Codec BlockValue) → Agrees depth type.Block block.decode → Agrees depth type.StatementSwitch (held_in (switch_variant block))
unfolding shape_of
agrees-StatementSwitch depth block one = agrees-struct depth type.StatementSwitch _ _ _ refl refl (agrees-field depth _ _ handle_codec _ _ (agrees-handle depth) (agrees-field depth _ _ (cases_codec block) _ _ (agrees-SwitchCases depth block one) (agrees-none depth)))

pub agrees-StatementLoop : (depth : ℕ) (block : Codec BlockValue) → Agrees depth type.Block block.decode → Agrees depth type.StatementLoop (held_in (loop_variant block))
unfolding shape_of
agrees-StatementLoop depth block one = agrees-struct depth type.StatementLoop _ _ _ refl refl (agrees-field depth _ _ block _ _ one (agrees-field depth _ _ block _ _ one (agrees-optional_field depth _ _ handle_codec _ _ (agrees-handle depth) (agrees-none depth))))

pub agrees-Statement : (depth : ℕ) (block : Codec BlockValue) → Agrees depth type.Block block.decode → Agrees depth type.Statement (statement_codec block).decode
unfolding shape_of
agrees-Statement depth block one =
    agrees-enum depth type.Statement _ _ statement_names (statement_rows block) refl refl
    (agrees-row depth _ _ (held_in (nested_variant block)) _ _ (agrees-as depth _ _ _ one)
    (agrees-row depth _ _ (held_in (branch_variant block)) _ _ (agrees-StatementIf depth block one)
    (agrees-row depth _ _ (held_in (switch_variant block)) _ _ (agrees-StatementSwitch depth block one)
    (agrees-row depth _ _ (held_in (loop_variant block)) _ _ (agrees-StatementLoop depth block one)
    (agrees-simple_statement depth)))))

-- blocks that are nested in one another no deeper than the number
pub agrees-Block : (depth : ℕ) → Agrees depth type.Block (block_within depth).decode
unfolding shape_of within_depth
agrees-Block zero = agrees-no_block type.Block type.Statement refl
agrees-Block (suc depth) =
    agrees-block depth type.Block type.Statement (statement_codec (block_within depth)).decode refl (agrees-Statement depth (block_within depth) (agrees-Block depth))
