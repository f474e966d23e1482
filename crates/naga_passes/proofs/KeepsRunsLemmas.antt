-- Blocks that keep the runs of another one, with new handles.
use Rattle.std.proofs.Common.{◌≡◌, sym, ap, subst, refl, ℕ, List, ◌++◌, [], ◌∷◌, map, Option, None, Some}
use Rattle.std.proofs.lemmas.List.Elements.{All-head, All-tail}
use Rattle.std.specs.List.{All}
use Rattle.naga_ir.specs.Tree.{Tree}
use Rattle.naga_ir.specs.declared.module.Module as the_module
use Rattle.naga_ir.specs.declared.statement.Statement.{Statement}
use Rattle.naga_runs.specs.Runs.{BlockRuns, Run}
use Rattle.naga_runs.specs.RunsFit.{RunsFit}
use Rattle.naga_runs.specs.declared.run.Ending.{Ending}
use Rattle.naga_runs.specs.declared.run.Ending.TheVariants.{Normal, Break, Continue, Return, Kill, Cut}
use Rattle.naga_compact.specs.Mapping.Runs.{MappedRunsFit, map_ending, map_run}
use Rattle.naga_compact.specs.Renaming.{Renaming}
use Rattle.naga_compact.specs.Renaming.Blocks.{rename_tree}
use Rattle.naga_compact.specs.derived.Renaming.{rename_statement}
use Rattle.naga_compact.proofs.CompactsLemmas.{keeps_runs}
use Rattle.naga_compact.proofs.CulledLemmas.{culled_runs}
use Rattle.naga_passes.specs.After.{After}
use Rattle.naga_passes.specs.Bodies.{BodiesComeFrom}
use Rattle.naga_passes.specs.Runs.{InsertsNothing, KeepsRuns, TransformsBody, renamed_expression, renamed_statement, renamed_tree}
use Rattle.naga_passes.specs.declared.pass.Pass.{Pass}
use Rattle.naga_passes.specs.declared.pass.Pass.TheVariants.{Cull, Close, Compact, Restrict}
use Rattle.naga_passes.proofs.BodiesComeFromLemmas.{BodiesComeFrom-itself, BodiesComeFrom-then, BodiesComeFrom-transformed, BodiesComeFrom-weaker}

-- ---- one replacement after another

ending-twice : (f g h : ℕ → ℕ) → ((n : ℕ) → h n ≡ g (f n)) → (ending : Ending) → map_ending h ending ≡ map_ending g (map_ending f ending)
ending-twice f g h is Normal = refl
ending-twice f g h is Break = refl
ending-twice f g h is Continue = refl
ending-twice f g h is (Return value) = by value
  where
    by : (value : Option ℕ) → map_ending h (Return value) ≡ map_ending g (map_ending f (Return value))
    by None = refl
    by (Some n) = ap (λ m. Return (Some m)) (is n)
ending-twice f g h is Kill = refl
ending-twice f g h is Cut = refl

trace-twice : (p q r : Statement → Statement) → ((s : Statement) → r s ≡ q (p s)) → (trace : List Statement) → map r trace ≡ map q (map p trace)
trace-twice p q r is [] = refl
trace-twice p q r is (s ∷ trace) = λ i. is s i ∷ trace-twice p q r is trace i

MappedRunsFit-then : (p q r : Statement → Statement) (f g h : ℕ → ℕ) → ((s : Statement) → r s ≡ q (p s)) → ((n : ℕ) → h n ≡ g (f n)) → (first second third : Tree) → MappedRunsFit p f first second → MappedRunsFit q g second third → MappedRunsFit r h first third
MappedRunsFit-then p q r f g h is same first second third once again turns answers run runs =
    let twice : map_run r h run ≡ map_run q g (map_run p f run) = λ i. record run { trace = trace-twice p q r is run.trace i; ending = ending-twice f g h same run.ending i } in
    subst (BlockRuns turns third answers) (sym twice) (again turns answers (map_run p f run) (once turns answers run runs))

-- ---- one renaming after another

renamed_statement-append : (before after : List Renaming) (s : Statement) → renamed_statement (before ++ after) s ≡ renamed_statement after (renamed_statement before s)
renamed_statement-append [] after s = refl
renamed_statement-append (r ∷ before) after s = renamed_statement-append before after (rename_statement r s)

renamed_expression-append : (before after : List Renaming) (n : ℕ) → renamed_expression (before ++ after) n ≡ renamed_expression after (renamed_expression before n)
renamed_expression-append [] after n = refl
renamed_expression-append (r ∷ before) after n = renamed_expression-append before after (r.expressions n)

KeepsRuns-then : (b c d : Tree) → KeepsRuns b c → KeepsRuns c d → KeepsRuns b d
KeepsRuns-then b c d once again = (
  once.0 ++ again.0,
  MappedRunsFit-then (renamed_statement once.0) (renamed_statement again.0) (renamed_statement (once.0 ++ again.0)) (renamed_expression once.0) (renamed_expression again.0) (renamed_expression (once.0 ++ again.0))
      (renamed_statement-append once.0 again.0) (renamed_expression-append once.0 again.0) b c d once.1 again.1,
)

-- ---- no renaming

trace-same : (trace : List Statement) → map (renamed_statement []) trace ≡ trace
trace-same [] = refl
trace-same (s ∷ trace) = ap (λ rest. s ∷ rest) (trace-same trace)

ending-same : (ending : Ending) → map_ending (renamed_expression []) ending ≡ ending
ending-same Normal = refl
ending-same Break = refl
ending-same Continue = refl
ending-same (Return value) = by value
  where
    by : (value : Option ℕ) → map_ending (renamed_expression []) (Return value) ≡ Return value
    by None = refl
    by (Some n) = refl
ending-same Kill = refl
ending-same Cut = refl

run-same : (run : Run) → map_run (renamed_statement []) (renamed_expression []) run ≡ run
run-same run = λ i. record run { trace = trace-same run.trace i; ending = ending-same run.ending i }

KeepsRuns-fit : (b c : Tree) → RunsFit b c → KeepsRuns b c
KeepsRuns-fit b c fit =
    ([], λ turns answers run runs. subst (BlockRuns turns c answers) (sym (run-same run)) (fit turns answers run runs))

KeepsRuns-itself : (b : Tree) → KeepsRuns b b
KeepsRuns-itself b = KeepsRuns-fit b b (λ turns answers run runs. runs)

-- ---- passes

KeepsRuns-renamed : (renamings : List Renaming) (b c : Tree) → c ≡ renamed_tree renamings b → KeepsRuns b c
KeepsRuns-renamed [] b c is = subst (KeepsRuns b) (sym is) (KeepsRuns-itself b)
KeepsRuns-renamed (r ∷ others) b c is =
    let once : KeepsRuns b (rename_tree r b) = (r ∷ [], keeps_runs r b (rename_tree r b) refl) in
    KeepsRuns-then b (rename_tree r b) c once (KeepsRuns-renamed others (rename_tree r b) c is)

KeepsRuns-transformed : (pass : Pass) → InsertsNothing pass → (b c : Tree) → TransformsBody pass b c → KeepsRuns b c
KeepsRuns-transformed Cull inserts b c is = KeepsRuns-fit b c (culled_runs b c is)
KeepsRuns-transformed (Close rule) inserts b c is = absurd inserts
KeepsRuns-transformed (Compact keep_unused) inserts b c is = KeepsRuns-renamed is.0 b c is.1
KeepsRuns-transformed Restrict inserts b c is = KeepsRuns-renamed is.0 b c is.1

-- passes that insert nothing keep runs
pub After-KeepsRuns : (passes : List Pass) (old new : the_module.Module) → All InsertsNothing passes → After passes old new → BodiesComeFrom KeepsRuns old new
After-KeepsRuns [] old new insert after =
    subst (BodiesComeFrom KeepsRuns old) (sym after) (BodiesComeFrom-itself KeepsRuns KeepsRuns-itself old)
After-KeepsRuns (pass ∷ others) old new insert after =
    BodiesComeFrom-then KeepsRuns KeepsRuns KeepsRuns KeepsRuns-then old after.0 new
    (BodiesComeFrom-weaker (TransformsBody pass) KeepsRuns (KeepsRuns-transformed pass (All-head InsertsNothing pass others insert)) old after.0 (BodiesComeFrom-transformed pass old after.0 after.1))
    (After-KeepsRuns others after.0 new (All-tail InsertsNothing pass others insert) after.2)
