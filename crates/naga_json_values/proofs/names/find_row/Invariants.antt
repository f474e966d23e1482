use Rattle.std.proofs.Common.{◌≡◌, map, drop}
use Rattle.naga_json.specs.Names.{row_of}
use Rattle.naga_json.specs.Objects.{find_row}
use Rattle.naga_json_values.proofs.names.find_row.Given as goal

abbrev pub invariant-loop-row : goal.invariant-loop-row
invariant-loop-row g l = find_row (map row_of (drop l.row-index l.rows)) l.name ≡ find_row (map row_of l.rows) l.name
