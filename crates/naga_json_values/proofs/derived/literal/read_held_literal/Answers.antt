-- Made by tests/derive from the declarations of naga_kinds and naga_ir.
use Rattle.std.proofs.Common.{drop, sym, take, ◌∙◌}
use Rattle.json.specs.Value.{value_view}
use Rattle.naga_json.proofs.NamesLemmas.{choose-append}
use Rattle.naga_json.specs.derived.Literal.{literal_rows}
use Rattle.naga_json_values.proofs.derived.literal.read_held_literal.Goals as goal

pub returns-in_default : goal.returns-in_default
returns-in_default c =
    let other = c.in_default in
    let rows = literal_rows (value_view c.args.held.now) in
    c.read_held_literal_from_i64.ensures ∙ sym (choose-append (take 8 rows) (drop 8 rows) c.args.name.now
    (other.not-F64, (other.not-F32, (other.not-F16, (other.not-U16, (other.not-I16, (other.not-U32, (other.not-I32, (other.not-U64, tt)))))))))
