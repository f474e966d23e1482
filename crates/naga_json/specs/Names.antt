-- Names, and tables of them.
use Rattle.std.specs.Prelude.{ℕ, List}
use Rattle.std.specs.Borrow.{Bor}

-- the name and the value of a row of a table
abbrev pub row_of : {A : Type 0} → Bor (List ℕ) × A → List ℕ × A
row_of row = (row.0.now, row.1)
