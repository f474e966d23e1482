-- Blocks of which no run falls off the end.
use Rattle.std.proofs.Common.{◌≡◌, ◌≢◌, [], refl, sym, ◌∙◌, ap, subst}
use Rattle.std.specs.Prelude.{◌↔◌}
use Rattle.naga_arena.specs.Span.{undefined}
use Rattle.naga_arena.specs.declared.span.Span.{Span}
use Rattle.naga_ir.specs.Tree.{Tree, empty, push, Node, jump, kill}
use Rattle.naga_runs.proofs.BlockRunsLemmas.{BlockRuns-only}
use Rattle.naga_runs.proofs.Execution.{run}
use Rattle.naga_runs.proofs.RunsFitLemmas.{NeverFallsOff-one_more}
use Rattle.naga_runs.specs.Runs.{Run, BlockRuns, nothing, goes_on, jumps, joined, quiet}
use Rattle.naga_runs.specs.RunsFit.{NeverFallsOff, RunsFit}
use Rattle.naga_runs.specs.declared.run.Ending.{Ending}
use Rattle.naga_runs.specs.declared.run.Ending.TheVariants.{Normal, Kill}
use Rattle.naga_proc.specs.Closing.FallenRuns.{fallen_by, fallen, Fallen}
use Rattle.naga_proc.proofs.Closing.MapsRunsLemmas.{MapsRuns-run}

pub NeverFallsOff-empty : NeverFallsOff empty → ⊥
NeverFallsOff-empty never = never 0 [] (quiet Normal) nothing refl

-- nothing after the block is run
abbrev IsLast : Tree → Type 0
IsLast block = (last : Node) (span : Span) → RunsFit (push block last span) block

-- if the run fell off the end, a kill after the block would end it differently
IsLast-NeverFallsOff : (block : Tree) → IsLast block → NeverFallsOff block
IsLast-NeverFallsOff block last turns answers run d e =
    let other : BlockRuns turns block answers (joined run (quiet Kill)) = last (jump kill) undefined turns answers (joined run (quiet Kill)) (goes_on d e jumps) in
    let same : joined run (quiet Kill) ≡ run = BlockRuns-only other ∙ sym (BlockRuns-only d) in
    let ending : Kill ≡ Normal = ap (λ (x : Run). x.ending) same ∙ e in
    cc

pub NeverFallsOff-is : (block : Tree) → NeverFallsOff block ↔ IsLast block
NeverFallsOff-is block =
    ((λ never last span. (NeverFallsOff-one_more block last span never).0), IsLast-NeverFallsOff block)

fallen_by-not_normal : (r : Run) (e : Ending) → r.ending ≡ e → (fallen_by e r).ending ≢ Normal
fallen_by-not_normal r Normal p = λ q. cc
fallen_by-not_normal r _ p = λ q. cc

pub Fallen-NeverFallsOff : (b c : Tree) → Fallen b c → NeverFallsOff c
Fallen-NeverFallsOff b c h n answers r d =
    subst (λ (x : Run). x.ending ≢ Normal) (sym (MapsRuns-run fallen b c h n answers) ∙ sym (BlockRuns-only d)) (fallen_by-not_normal (run n b answers) _ refl)
