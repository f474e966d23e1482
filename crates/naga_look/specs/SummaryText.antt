-- The summary of a module as text: a line for each fact.
use Rattle.std.specs.Prelude.{ℕ, Bool, if◌then◌else◌, List, [], ◌++◌, ◌==◌, codes}
use Rattle.std.specs.Fmt.{decimal}
use Rattle.naga_look.specs.declared.summary.Summary.{Summary}
use Rattle.naga_look.specs.declared.summary.counts.Counts.{Counts}

-- how many there are, or nothing, if there are none
abbrev pub count_line : (name : List ℕ) → ℕ → List ℕ
count_line name n = if n == 0 then [] else name ++ (codes ": " ++ (decimal n ++ codes "\n"))

-- what a module uses, or nothing, if it does not use it
abbrev pub use_line : (name : List ℕ) → Bool → List ℕ
use_line name is = if is then codes "uses " ++ (name ++ codes "\n") else []

-- the numbers of declarations of a module
abbrev pub declared_lines : Summary → List ℕ
declared_lines summary =
    count_line (codes "types") summary.types
    ++ (count_line (codes "functions") summary.functions ++ count_line (codes "entry points") summary.entry_points)

-- the counts of the bodies of a module
abbrev pub counted_lines : Counts → List ℕ
counted_lines counts =
    count_line (codes "statements") counts.statements
    ++ (count_line (codes "missing returns") counts.open_tails ++ count_line (codes "missing returns (naga's rule)") counts.open_tails_old)

-- what a module uses
abbrev pub used_lines : Summary → List ℕ
used_lines summary =
    use_line (codes "ray pipelines") summary.ray_pipelines
    ++ (use_line (codes "ray queries") summary.ray_queries ++ use_line (codes "mesh shaders") summary.mesh_shaders)

-- a summary
abbrev pub summary_lines : Summary → List ℕ
summary_lines summary = declared_lines summary ++ (counted_lines summary.counts ++ used_lines summary)
