-- Culled blocks that diverge: closing a culled block makes one, and culling and renaming keep it.
use Rattle.std.proofs.Common.{◌≡◌, ◌∙◌, sym, ap, subst, refl, ℕ, List, ◌++◌, [], ◌∷◌, true, not, ◌&&◌, ◌||◌}
use Rattle.std.specs.List.{All}
use Rattle.naga_ir.specs.Tree.{Tree, empty, push, Node, plain, nested, branch, switch, loop, jump, Cases, no_cases, case}
use Rattle.naga_ir.specs.declared.module.Module as the_module
use Rattle.naga_ir.specs.declared.statement.Statement.{Statement}
use Rattle.naga_runs.specs.Diverges.{cases_diverge, diverges, node_diverges}
use Rattle.naga_runs.specs.RunsFit.{NeverFallsOff}
use Rattle.naga_runs.proofs.DivergesLemmas.{diverges-NeverFallsOff}
use Rattle.naga_compact.specs.Culling.{CasesAreCulled, IsCulled, IsCulledInside, culled}
use Rattle.naga_compact.specs.Mapping.{map_cases, map_node, map_tree}
use Rattle.naga_compact.specs.Renaming.{Renaming}
use Rattle.naga_compact.specs.Renaming.Blocks.{rename_tree}
use Rattle.naga_compact.specs.derived.Renaming.{rename_statement}
use Rattle.naga_compact.proofs.CulledLemmas.{IsCulled-is, culled-IsCulled}
use Rattle.naga_proc.specs.Closing.{ClosedBy, closed}
use Rattle.naga_proc.specs.declared.terminator.rule.Rule.TheVariants.{New}
use Rattle.naga_proc.proofs.Closing.ClosedByLemmas.{ClosedBy-is}
use Rattle.naga_meaning.proofs.CulledLemmas.{ClosedBy-IsCulled, FullyClosed-diverges, culled-closed}
use Rattle.naga_meaning.proofs.MappedLemmas.{has_exit-map_cases}
use Rattle.naga_passes.specs.After.{After}
use Rattle.naga_passes.specs.Bodies.{AllBodies, BodiesComeFrom}
use Rattle.naga_passes.specs.Culling.{Culled}
use Rattle.naga_passes.specs.Runs.{InsertsNothing, TransformsBody, renamed_tree}
use Rattle.naga_passes.specs.declared.pass.Pass.{Pass}
use Rattle.naga_passes.specs.declared.pass.Pass.TheVariants.{Cull, Close, Compact, Restrict}
use Rattle.naga_passes.proofs.AfterLemmas.{After-parts}
use Rattle.naga_passes.proofs.AllBodiesLemmas.{After-AllBodies, AllBodies-from, AllBodies-weaker}
use Rattle.naga_passes.proofs.BodiesComeFromLemmas.{BodiesComeFrom-then, BodiesComeFrom-transformed}

-- no statement follows one that diverges, and some statement diverges
abbrev DivergesLast : Tree → Type 0
DivergesLast block = IsCulled block × (diverges block ≡ true)

-- ---- statements and expressions that are replaced

module _ (on_plain : Statement → Statement) (on_expression : ℕ → ℕ) where
  mutual
    diverges-map_tree : (block : Tree) → diverges (map_tree on_plain on_expression block) ≡ diverges block
    diverges-map_tree empty = refl
    diverges-map_tree (push front last span) = λ i. diverges-map_tree front i || node_diverges-map_node last i

    node_diverges-map_node : (node : Node) → node_diverges (map_node on_plain on_expression node) ≡ node_diverges node
    node_diverges-map_node (plain what) = refl
    node_diverges-map_node (nested inner) = diverges-map_tree inner
    node_diverges-map_node (branch condition accept reject) = λ i. diverges-map_tree accept i && diverges-map_tree reject i
    node_diverges-map_node (switch selector cases) = λ i. not (has_exit-map_cases on_plain on_expression cases i) && cases_diverge-map_cases cases i
    node_diverges-map_node (loop body continuing break_if) = refl
    node_diverges-map_node (jump to) = refl

    cases_diverge-map_cases : (cases : Cases) → cases_diverge (map_cases on_plain on_expression cases) ≡ cases_diverge cases
    cases_diverge-map_cases no_cases = refl
    cases_diverge-map_cases (case value body falls_through others) =
        λ i. (falls_through || diverges-map_tree body i) && cases_diverge-map_cases others i

  mutual
    IsCulled-map_tree : (block : Tree) → IsCulled block → IsCulled (map_tree on_plain on_expression block)
    IsCulled-map_tree empty is = tt
    IsCulled-map_tree (push front last span) is =
        (IsCulled-map_tree front is.0, diverges-map_tree front ∙ is.1, IsCulledInside-map_node last is.2)

    IsCulledInside-map_node : (node : Node) → IsCulledInside node → IsCulledInside (map_node on_plain on_expression node)
    IsCulledInside-map_node (plain what) is = tt
    IsCulledInside-map_node (nested inner) is = IsCulled-map_tree inner is
    IsCulledInside-map_node (branch condition accept reject) is = (IsCulled-map_tree accept is.0, IsCulled-map_tree reject is.1)
    IsCulledInside-map_node (switch selector cases) is = CasesAreCulled-map_cases cases is
    IsCulledInside-map_node (loop body continuing break_if) is = (IsCulled-map_tree body is.0, IsCulled-map_tree continuing is.1)
    IsCulledInside-map_node (jump to) is = tt

    CasesAreCulled-map_cases : (cases : Cases) → CasesAreCulled cases → CasesAreCulled (map_cases on_plain on_expression cases)
    CasesAreCulled-map_cases no_cases is = tt
    CasesAreCulled-map_cases (case value body falls_through others) is =
        (IsCulled-map_tree body is.0, CasesAreCulled-map_cases others is.1)

-- ---- passes

DivergesLast-renamed : (renamings : List Renaming) (b c : Tree) → c ≡ renamed_tree renamings b → DivergesLast b → DivergesLast c
DivergesLast-renamed [] b c is so = subst DivergesLast (sym is) so
DivergesLast-renamed (r ∷ others) b c is so =
    DivergesLast-renamed others (rename_tree r b) c is
    (IsCulled-map_tree (rename_statement r) r.expressions b so.0, diverges-map_tree (rename_statement r) r.expressions b ∙ so.1)

DivergesLast-transformed : (pass : Pass) → InsertsNothing pass → (b c : Tree) → TransformsBody pass b c → DivergesLast b → DivergesLast c
DivergesLast-transformed Cull inserts b c is so = subst DivergesLast (sym (is ∙ (IsCulled-is b).0 so.0)) so
DivergesLast-transformed (Close rule) inserts b c is so = absurd inserts
DivergesLast-transformed (Compact keep_unused) inserts b c is so = DivergesLast-renamed is.0 b c is.1 so
DivergesLast-transformed Restrict inserts b c is so = DivergesLast-renamed is.0 b c is.1 so

-- closing a culled block by the new rule
DivergesLast-closed : (b c : Tree) → IsCulled b → ClosedBy New b c → DivergesLast c
DivergesLast-closed b c is closes = (ClosedBy-IsCulled New b c is closes, FullyClosed-diverges b c closes)

-- in either order
DivergesLast-culled_first : (b c d : Tree) → Culled b c → ClosedBy New c d → DivergesLast d
DivergesLast-culled_first b c d culls closes = DivergesLast-closed c d (subst IsCulled (sym culls) (culled-IsCulled b)) closes

DivergesLast-closed_first : (b c d : Tree) → ClosedBy New b c → Culled c d → DivergesLast d
DivergesLast-closed_first b c d closes culls =
    let is : d ≡ closed New (culled b) = culls ∙ (ap culled ((ClosedBy-is New b c).0 closes) ∙ culled-closed New b) in
    DivergesLast-closed (culled b) d (culled-IsCulled b) ((ClosedBy-is New (culled b) d).1 is)

-- ---- modules

-- no statement follows one that diverges, and no run falls off the end
abbrev EndsWhereItDiverges : Tree → Type 0
EndsWhereItDiverges block = IsCulled block × NeverFallsOff block

module _ (before after : List Pass) (old new : the_module.Module) (insert : All InsertsNothing after) where
  -- two passes that make blocks that diverge last, and then passes that insert nothing
  AllBodies-ends : (first second : Pass) → ((b c d : Tree) → TransformsBody first b c → TransformsBody second c d → DivergesLast d) → After (before ++ first ∷ second ∷ after) old new → AllBodies EndsWhereItDiverges new
  AllBodies-ends first second makes run =
      let parts = After-parts before (first ∷ second ∷ after) old new run in
      let one : the_module.Module = parts.0 in
      let two : the_module.Module = parts.2.2.0 in
      let from : BodiesComeFrom (λ b c. DivergesLast c) one two =
      BodiesComeFrom-then (TransformsBody first) (TransformsBody second) (λ b c. DivergesLast c) makes one parts.2.0 two
      (BodiesComeFrom-transformed first one parts.2.0 parts.2.1) (BodiesComeFrom-transformed second parts.2.0 two parts.2.2.1)
      in
      let made : AllBodies DivergesLast two = AllBodies-from (λ b. Unit {0}) DivergesLast (λ b c. DivergesLast c) (λ b c is _. is) one two from (record { functions = λ k d inside. tt; entry_points = λ k d inside. tt }) in
      let kept : AllBodies DivergesLast new = After-AllBodies DivergesLast DivergesLast-transformed after two new insert parts.2.2.2 made in
      AllBodies-weaker DivergesLast EndsWhereItDiverges (λ b is. (is.0, diverges-NeverFallsOff b is.1)) new kept

  pub AllBodies-culled_first : After (before ++ Cull ∷ Close New ∷ after) old new → AllBodies EndsWhereItDiverges new
  AllBodies-culled_first = AllBodies-ends Cull (Close New) DivergesLast-culled_first

  pub AllBodies-closed_first : After (before ++ Close New ∷ Cull ∷ after) old new → AllBodies EndsWhereItDiverges new
  AllBodies-closed_first = AllBodies-ends (Close New) Cull DivergesLast-closed_first
