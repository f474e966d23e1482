-- The state that commands in turn lead to, command by command.
use Rattle.std.proofs.Common.{◌≡◌, ◌∙◌, sym, ap, refl, subst, ℕ, ◌+◌, ◌<◌, ◌⊎◌, true, false, List, [], ◌∷◌, ◌++◌, length, take, get_or, Option, Some, None, arith, zero-add}
use Rattle.std.proofs.lemmas.Bool.{false≢true}
use Rattle.std.proofs.lemmas.Iterator.{YieldsList}
use Rattle.std.proofs.lemmas.Iterator.Consumers.{YieldsList-turn}
use Rattle.std.proofs.lemmas.List.{take_more}
use Rattle.std.proofs.lemmas.List.FromFn.{length-enumerate_from, get_or-enumerate_from}
use Rattle.std.proofs.lemmas.Option.{slice_get-get_or, slice_get_within, get_or_from_slice_get}
use Rattle.std.specs.Iterator.{Yields}
use Rattle.std.specs.List.{enumerate_from}
use Rattle.std.specs.Prelude.{slice_get, is_some, IfSome, filter, option_to_list, Result, Ok, Err, IfErr, IsErrAnd}
use Rattle.naga_arena.specs.Arena.{max_len}
use Rattle.naga_arena.specs.declared.arena.ArenaError.{ArenaError}
use Rattle.naga_arena.specs.declared.arena.ArenaError.TheVariants.{Full as no_handle, Memory as no_memory}
use Rattle.naga_arena.specs.declared.span.Span.{Span}
use Rattle.naga_ir.specs.declared.expression.Expression.{Expression}
use Rattle.naga_ir.specs.declared.statement.Statement.{Statement}
use Rattle.naga_proc.specs.Building.{StartsAgain, FinishesNothing, IsInTurn, Refused, refusal_of}
use Rattle.naga_proc.specs.Building.Emission.{is_filled, emission}
use Rattle.naga_proc.specs.declared.builder.BuildCommand.{BuildCommand}
use Rattle.naga_proc.specs.declared.builder.BuildCommand.TheVariants.{Start, Append, Finish, Push}
use Rattle.naga_proc.specs.declared.builder.BuildError.{BuildError}
use Rattle.naga_proc.specs.declared.builder.BuildError.TheVariants.{NotRunning}
use Rattle.naga_proc.proofs.Building.IsBuiltLemmas.{IsBuilt, IsBuilt-Start, IsBuilt-Append, IsBuilt-Finish, IsBuilt-Push}
use Rattle.naga_proc.proofs.Building.IsInTurnLemmas.{IsInTurn-more, Start-in_turn, Finish-in_turn, other-in_turn}

-- the position and the command that an iteration over the enumerated commands yields next
pub next-command : {S : Type 0} {steps : S → Option (ℕ × BuildCommand) → S → Type 0} {s : S} (commands : List BuildCommand) (yielded : List (ℕ × BuildCommand)) (t u : S) (r : Option (ℕ × BuildCommand)) (position : ℕ) (command : BuildCommand) → Yields steps s yielded t → r ≡ Some (position, command) → steps t r u → YieldsList {B = ℕ × BuildCommand} steps (λ p. (p.0, p.1)) s (enumerate_from 0 commands) → (position ≡ length yielded) × (slice_get commands (length yielded) ≡ Some command)
next-command commands yielded t u r position command gave is step road =
    let turn = YieldsList-turn road yielded t gave r u (position, command) is step in
    let inside : length yielded < length commands = omega (arith, turn.0, length-enumerate_from 0 commands) in
    let here = turn.1 ∙ get_or-enumerate_from 0 commands (length yielded) (position, command) inside in
    let same : command ≡ get_or commands (length yielded) command = ap (λ p. p.1) here in (
      ap (λ p. p.0) here ∙ zero-add (length yielded),
      slice_get-get_or commands (length yielded) command inside ∙ ap Some (sym same),
    )

-- ---- the state so far, command by command

-- the first `n` commands are in turn, and have led to this state
pub record IsAtTurn (commands : List BuildCommand) (n : ℕ) (arena : List (Expression × Span)) (block : List (Statement × Span)) (ranges : List (ℕ × ℕ)) (emitter : Option ℕ) : Type 0 where
  pub built : IsBuilt (take n commands) arena block ranges emitter
  pub in_turn : IsInTurn commands n

take-next : (commands : List BuildCommand) (n m : ℕ) (command : BuildCommand) → slice_get commands n ≡ Some command → m ≡ n + 1 → take m commands ≡ take n commands ++ command ∷ []
take-next commands n m command here next =
    let inside : n < length commands = slice_get_within commands n command here in
    ap (λ k. take k commands) next ∙ take_more commands n command inside
    ∙ ap (λ x. take n commands ++ x ∷ []) (get_or_from_slice_get commands n command command here)

module _ (commands : List BuildCommand) (n m : ℕ) (arena : List (Expression × Span)) (block : List (Statement × Span)) (ranges : List (ℕ × ℕ)) where
  IsAtTurn-next : (command : BuildCommand) (arena' : List (Expression × Span)) (block' : List (Statement × Span)) (ranges' : List (ℕ × ℕ)) (emitter : Option ℕ) → slice_get commands n ≡ Some command → m ≡ n + 1 → IsInTurn commands n → ¬ (StartsAgain commands n ⊎ FinishesNothing commands n) → IsBuilt (take n commands ++ command ∷ []) arena' block' ranges' emitter → IsAtTurn commands m arena' block' ranges' emitter
  IsAtTurn-next command arena' block' ranges' emitter here next in_turn not_out built = record {
    built = subst (λ done. IsBuilt done arena' block' ranges' emitter) (sym (take-next commands n m command here next)) built;
    in_turn = subst (IsInTurn commands) (sym next) (IsInTurn-more commands n in_turn not_out);
  }

  pub IsAtTurn-Start : (emitter emitter' : Option ℕ) → slice_get commands n ≡ Some Start → m ≡ n + 1 → is_some emitter ≡ false → emitter' ≡ Some (length arena) → IsAtTurn commands n arena block ranges emitter → IsAtTurn commands m arena block ranges emitter'
  IsAtTurn-Start None emitter' here next idle started so_far =
      subst (IsAtTurn commands m arena block ranges) (sym started) (
      IsAtTurn-next Start arena block ranges (Some (length arena)) here next so_far.in_turn (Start-in_turn commands n here so_far.built.running) (IsBuilt-Start (take n commands) arena block ranges so_far.built)
      )
  IsAtTurn-Start (Some start) emitter' here next idle started so_far = absurd (false≢true (sym idle))

  pub IsAtTurn-Append : (expression : Expression) (span : Span) (arena' : List (Expression × Span)) (emitter : Option ℕ) → slice_get commands n ≡ Some (Append expression span) → m ≡ n + 1 → arena' ≡ arena ++ (expression, span) ∷ [] → IsAtTurn commands n arena block ranges emitter → IsAtTurn commands m arena' block ranges emitter
  IsAtTurn-Append expression span arena' emitter here next longer so_far =
      subst (λ grown. IsAtTurn commands m grown block ranges emitter) (sym longer) (
      IsAtTurn-next (Append expression span) _ block ranges emitter here next so_far.in_turn (other-in_turn commands n (Append expression span) here (λ e. cc) (λ e. cc)) (IsBuilt-Append (take n commands) arena block ranges emitter expression span so_far.built)
      )

  pub IsAtTurn-Push : (statement : Statement) (span : Span) (block' : List (Statement × Span)) (emitter : Option ℕ) → slice_get commands n ≡ Some (Push statement span) → m ≡ n + 1 → block' ≡ block ++ (statement, span) ∷ [] → IsAtTurn commands n arena block ranges emitter → IsAtTurn commands m arena block' ranges emitter
  IsAtTurn-Push statement span block' emitter here next longer so_far =
      subst (λ grown. IsAtTurn commands m arena grown ranges emitter) (sym longer) (
      IsAtTurn-next (Push statement span) arena _ ranges emitter here next so_far.in_turn (other-in_turn commands n (Push statement span) here (λ e. cc) (λ e. cc)) (IsBuilt-Push (take n commands) arena block ranges emitter statement span so_far.built)
      )

  pub IsAtTurn-Finish : (arena' : List (Expression × Span)) (block' : List (Statement × Span)) (ranges' : List (ℕ × ℕ)) (emitter emitter' : Option ℕ) → slice_get commands n ≡ Some Finish → m ≡ n + 1 → is_some emitter ≡ true → arena' ≡ arena → IfSome emitter (λ start. block' ≡ block ++ option_to_list (emission arena (start, length arena))) → IfSome emitter (λ start. ranges' ≡ ranges ++ filter is_filled ((start, length arena) ∷ [])) → emitter' ≡ None → IsAtTurn commands n arena block ranges emitter → IsAtTurn commands m arena' block' ranges' emitter'
  IsAtTurn-Finish arena' block' ranges' None emitter' here next runs same listed_too emitted_too stopped so_far =
      absurd (false≢true runs)
  IsAtTurn-Finish arena' block' ranges' (Some start) emitter' here next runs same listed_too emitted_too stopped so_far =
      let built = IsBuilt-Finish (take n commands) arena block ranges start so_far.built in
      let not_out = Finish-in_turn commands n here so_far.built.running in
      let after = IsAtTurn-next Finish arena (block ++ option_to_list (emission arena (start, length arena))) (ranges ++ filter is_filled ((start, length arena) ∷ [])) None here next so_far.in_turn not_out built in
      let more = block ++ option_to_list (emission arena (start, length arena)) in
      let others = ranges ++ filter is_filled ((start, length arena) ∷ []) in
      subst (λ a. IsAtTurn commands m a block' ranges' emitter') (sym same)
      (subst (λ b. IsAtTurn commands m arena b ranges' emitter') (sym listed_too)
      (subst (λ r. IsAtTurn commands m arena more r emitter') (sym emitted_too) (subst (λ e. IsAtTurn commands m arena more others e) (sym stopped) after)))

module _ (commands : List BuildCommand) (n : ℕ) (arena : List (Expression × Span)) (block : List (Statement × Span)) (ranges : List (ℕ × ℕ)) where
  -- a Finish while the emitter is not running fails with `NotRunning`
  pub Refused-Finish : (position : ℕ) (emitter : Option ℕ) → position ≡ n → slice_get commands n ≡ Some Finish → is_some emitter ≡ false → IsAtTurn commands n arena block ranges emitter → Refused commands (NotRunning position)
  Refused-Finish position emitter at_turn here idle so_far =
      subst (λ k. Refused commands (NotRunning k)) (sym at_turn) ((here, so_far.built.running ∙ idle), so_far.in_turn)

  -- an Append fails if there is no handle left, or if out of memory
  pub Refused-Append : (expression : Expression) (span : Span) (error : ArenaError) (emitter : Option ℕ) → slice_get commands n ≡ Some (Append expression span) → (error ≡ no_handle → length arena ≡ max_len) → IsAtTurn commands n arena block ranges emitter → Refused commands (refusal_of error)
  Refused-Append expression span no_handle emitter here full so_far =
      (n, (((expression, span), here), sym (ap length so_far.built.arena_is) ∙ full refl), so_far.in_turn)
  Refused-Append expression span no_memory emitter here full so_far = tt

pub IfErr-refusal_of : {T : Type 0} (commands : List BuildCommand) (error : ArenaError) (result : Result T BuildError) → IsErrAnd result (λ given. given ≡ refusal_of error) → Refused commands (refusal_of error) → IfErr result (Refused commands)
IfErr-refusal_of commands error (Ok value) none refused = absurd none
IfErr-refusal_of commands error (Err given) same refused = subst (Refused commands) (sym same) refused
