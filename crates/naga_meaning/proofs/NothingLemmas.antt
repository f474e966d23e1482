-- A statement that changes no state may be removed.
use Rattle.std.proofs.Common.{◌≡◌, sym, ap, refl, ℕ, ◌≤◌, ◌-◌, [], None, arith}
use Rattle.std.specs.List.{range_with_len}
use Rattle.naga_arena.specs.Range.{handles_of}
use Rattle.naga_arena.specs.declared.span.Span.{Span}
use Rattle.naga_ir.specs.Tree.{Tree, empty, push, Node, plain, nested}
use Rattle.naga_ir.specs.declared.statement.Statement.{Statement}
use Rattle.naga_runs.specs.declared.run.Ending.{Ending}
use Rattle.naga_runs.specs.declared.run.Ending.TheVariants.{Normal, Break, Continue, Return, Kill, Cut}
use Rattle.naga_meaning.specs.Alike.{AlikeStatements, same_statement}
use Rattle.naga_meaning.specs.Machine.{Machine, Done, done, ending_after, by_way, then_by, in_block, does, node_does}

pub no_handles : (first last : ℕ) → last ≤ first → handles_of (first, last) ≡ []
no_handles first last less = ap (range_with_len first) (let none : last - first ≡ 0 = omega (arith, less) in none)

module _ {State : Type 0} (machine : Machine State) (what : Statement) (nothing : (s : State) → machine.perform what s ≡ s) (on : (s : State) → machine.stop what s ≡ None) where
  does_nothing : (s : State) → done (ending_after (machine.stop what s)) (machine.perform what s) ≡ done Normal s
  does_nothing s = λ i. done (ending_after (on s i)) (nothing s i)

  -- it does what an empty block does
  pub nothing-alike : AlikeStatements machine (plain what) (nested empty)
  nothing-alike = same_statement (λ n s. sym (does_nothing s))

  without_it : (one : Done State) (next : State → Done State) (e : Ending) → one.ending ≡ e →
      then_by in_block (by_way (in_block e) one (λ middle. done (ending_after (machine.stop what middle)) (machine.perform what middle))) next ≡ by_way (in_block e) one next
  without_it one next Normal is = ap (λ left. then_by in_block left next) (does_nothing one.state)
  without_it one next Break is = ap (λ e. by_way (in_block e) one next) is
  without_it one next Continue is = ap (λ e. by_way (in_block e) one next) is
  without_it one next (Return value) is = ap (λ e. by_way (in_block e) one next) is
  without_it one next Kill is = ap (λ e. by_way (in_block e) one next) is
  without_it one next Cut is = ap (λ e. by_way (in_block e) one next) is

  -- a block does the same without it, if a statement follows
  pub nothing-removed : (n : ℕ) (front : Tree) (last : Node) (span span' : Span) (s : State) →
      does machine n (push (push front (plain what) span) last span') s ≡ does machine n (push front last span') s
  nothing-removed n front last span span' s = without_it (does machine n front s) (node_does machine n last) (does machine n front s).ending refl
