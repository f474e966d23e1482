-- Commands that are in turn build something.
use Rattle.std.proofs.Common.{◌≡◌, ◌∙◌, sym, ap, refl, subst, ℕ, zero, suc, ◌+◌, ◌<◌, ◌≤◌, ◌⊎◌, inl, inr, true, false, List, [], ◌∷◌, ◌++◌, length, drop, take, get_or, Option, Some, None, arith, add-one}
use Rattle.std.proofs.lemmas.Bool.{false≢true, false_from_ne_true, true_from_ne_false}
use Rattle.std.proofs.lemmas.List.{drop_more, take-append-drop, take_more, take_all}
use Rattle.std.proofs.lemmas.Option.{slice_get-get_or}
use Rattle.std.specs.Prelude.{slice_get}
use Rattle.naga_arena.specs.declared.span.Span.{Span}
use Rattle.naga_ir.specs.declared.expression.Expression.{Expression}
use Rattle.naga_ir.specs.declared.statement.Statement.{Statement}
use Rattle.naga_proc.specs.Building.{is_running, StartsAgain, FinishesNothing, IsInTurn}
use Rattle.naga_proc.specs.declared.builder.BuildCommand.{BuildCommand}
use Rattle.naga_proc.specs.declared.builder.BuildCommand.TheVariants.{Start, Append, Finish, Push}
use Rattle.naga_proc.proofs.Building.IsBuiltLemmas.{IsBuilt, IsBuilt-Start, IsBuilt-Append, IsBuilt-Finish, IsBuilt-Push}

pub record SomeBuilt (commands : List BuildCommand) : Type 0 where
  pub arena : List (Expression × Span)
  pub block : List (Statement × Span)
  pub ranges : List (ℕ × ℕ)
  pub emitter : Option ℕ
  pub built : IsBuilt commands arena block ranges emitter

pub IsBuilt-none : IsBuilt [] [] [] [] None
IsBuilt-none = record {
  arena_is = refl;
  block_is = refl;
  ranges_are = refl;
  running = refl;
  stands = record { matched = refl; ascending = omega arith };
}

SomeBuilt-none : SomeBuilt []
SomeBuilt-none = record { arena = []; block = []; ranges = []; emitter = None; built = IsBuilt-none }

module _ (commands : List BuildCommand) (arena : List (Expression × Span)) (block : List (Statement × Span)) (ranges : List (ℕ × ℕ)) where
  SomeBuilt-command : (command : BuildCommand) (emitter : Option ℕ) → IsBuilt commands arena block ranges emitter → (command ≡ Start → is_running commands ≡ false) → (command ≡ Finish → is_running commands ≡ true) → SomeBuilt (commands ++ command ∷ [])
  SomeBuilt-command Start None built idle running =
      record { arena = _; block = _; ranges = _; emitter = _; built = IsBuilt-Start commands arena block ranges built }
  SomeBuilt-command Start (Some start) built idle running =
      absurd (false≢true (sym (idle refl) ∙ built.running))
  SomeBuilt-command Finish None built idle running =
      absurd (false≢true (sym built.running ∙ running refl))
  SomeBuilt-command Finish (Some start) built idle running =
      record { arena = _; block = _; ranges = _; emitter = _; built = IsBuilt-Finish commands arena block ranges start built }
  SomeBuilt-command (Append expression span) emitter built idle running =
      record { arena = _; block = _; ranges = _; emitter = _; built = IsBuilt-Append commands arena block ranges emitter expression span built }
  SomeBuilt-command (Push statement span) emitter built idle running =
      record { arena = _; block = _; ranges = _; emitter = _; built = IsBuilt-Push commands arena block ranges emitter statement span built }

-- what holds of no commands, and of one more command that is in turn, holds of commands that are in turn
module _ (P : List BuildCommand → Type 0) (commands : List BuildCommand) (none : P [])
    (one_more : (before after : List BuildCommand) (command : BuildCommand) → commands ≡ before ++ command ∷ after →
    (command ≡ Start → is_running before ≡ false) → (command ≡ Finish → is_running before ≡ true) → P before → P (before ++ command ∷ [])) where
  take-in_turn : (n : ℕ) → n ≤ length commands → IsInTurn commands n → P (take n commands)
  take-in_turn zero within in_turn = none
  take-in_turn (suc n) within in_turn =
      let command = get_or commands n Start in
      let inside : n < length commands = omega arith in
      let here : slice_get commands n ≡ Some command = slice_get-get_or commands n Start inside in
      let before = take-in_turn n (omega arith) (λ position h. in_turn position (omega arith)) in
      let not_here : ¬ (StartsAgain commands n ⊎ FinishesNothing commands n) = in_turn n (omega arith) in
      let split : commands ≡ take n commands ++ command ∷ drop (n + 1) commands =
      sym (take-append-drop n commands) ∙ ap (λ rest. take n commands ++ rest) (drop_more commands n Start inside) in
      let after = one_more (take n commands) (drop (n + 1) commands) command split
      (λ e. false_from_ne_true (is_running (take n commands)) (λ runs. not_here (inl (here ∙ ap Some e, runs))))
      (λ e. true_from_ne_false (is_running (take n commands)) (λ idle. not_here (inr (here ∙ ap Some e, idle)))) before
      in
      subst P (sym (take_more commands n Start inside) ∙ ap (λ m. take m commands) (add-one n)) after

  pub IsInTurn-induction : IsInTurn commands (length commands) → P commands
  IsInTurn-induction in_turn =
      subst P (take_all (length commands) commands (omega arith)) (take-in_turn (length commands) (omega arith) in_turn)

-- commands that are in turn build something
pub SomeBuilt-all : (commands : List BuildCommand) → IsInTurn commands (length commands) → SomeBuilt commands
SomeBuilt-all commands in_turn =
    IsInTurn-induction SomeBuilt commands SomeBuilt-none
    (λ before after command split idle running so. SomeBuilt-command before so.arena so.block so.ranges command so.emitter so.built idle running) in_turn
