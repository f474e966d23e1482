-- Commands that are in turn.
use Rattle.std.proofs.Common.{◌≡◌, ◌∙◌, sym, ap, refl, ℕ, zero, suc, ◌+◌, ◌<◌, ◌⊎◌, inl, inr, true, false, List, [], ◌∷◌, ◌++◌, length, length-append, take, Some, arith, below_more}
use Rattle.std.proofs.lemmas.Bool.{false≢true}
use Rattle.std.proofs.lemmas.List.{take-append-le}
use Rattle.std.specs.Prelude.{slice_get}
use Rattle.naga_proc.specs.Building.{is_running, StartsAgain, FinishesNothing, IsInTurn}
use Rattle.naga_proc.specs.declared.builder.BuildCommand.{BuildCommand}
use Rattle.naga_proc.specs.declared.builder.BuildCommand.TheVariants.{Start, Finish}

-- if the command at the end is in turn, too, then the commands are in turn up to the next position
pub IsInTurn-more : (commands : List BuildCommand) (end' : ℕ) → IsInTurn commands end' → ¬ (StartsAgain commands end' ⊎ FinishesNothing commands end') → IsInTurn commands (end' + 1)
IsInTurn-more commands end' in_turn here =
    below_more (λ position. ¬ (StartsAgain commands position ⊎ FinishesNothing commands position)) end' in_turn here

pub IsInTurn-none : (commands : List BuildCommand) → IsInTurn commands 0
IsInTurn-none commands position h = absurd (omega arith)

module _ (commands : List BuildCommand) (at : ℕ) where
  pub Start-in_turn : slice_get commands at ≡ Some Start → is_running (take at commands) ≡ false → ¬ (StartsAgain commands at ⊎ FinishesNothing commands at)
  Start-in_turn here idle (inl again) = false≢true (sym idle ∙ again.1)
  Start-in_turn here idle (inr nothing) = cc (here, nothing.0)

  pub Finish-in_turn : slice_get commands at ≡ Some Finish → is_running (take at commands) ≡ true → ¬ (StartsAgain commands at ⊎ FinishesNothing commands at)
  Finish-in_turn here running (inl again) = cc (here, again.0)
  Finish-in_turn here running (inr nothing) = false≢true (sym nothing.1 ∙ running)

  pub other-in_turn : (command : BuildCommand) → slice_get commands at ≡ Some command → ¬ (Some command ≡ Some Start) → ¬ (Some command ≡ Some Finish) → ¬ (StartsAgain commands at ⊎ FinishesNothing commands at)
  other-in_turn command here no_start no_finish (inl again) = no_start (sym here ∙ again.0)
  other-in_turn command here no_start no_finish (inr nothing) = no_finish (sym here ∙ nothing.0)

slice_get-append : (xs ys : List BuildCommand) (i : ℕ) → i < length xs → slice_get (xs ++ ys) i ≡ slice_get xs i
slice_get-append [] ys i h = absurd (omega arith)
slice_get-append (x ∷ xs) ys zero h = refl
slice_get-append (x ∷ xs) ys (suc i) h = slice_get-append xs ys i (omega arith)

-- a command that is out of turn in a prefix is out of turn in the whole list
IsOut-moved : (xs ys : List BuildCommand) (at : ℕ) → StartsAgain xs at ⊎ FinishesNothing xs at → slice_get ys at ≡ slice_get xs at → take at ys ≡ take at xs → StartsAgain ys at ⊎ FinishesNothing ys at
IsOut-moved xs ys at (inl again) here front = inl (here ∙ again.0, ap is_running front ∙ again.1)
IsOut-moved xs ys at (inr nothing) here front = inr (here ∙ nothing.0, ap is_running front ∙ nothing.1)

pub IsInTurn-front : (before after : List BuildCommand) → IsInTurn (before ++ after) (length (before ++ after)) → IsInTurn before (length before)
IsInTurn-front before after in_turn position h out =
    let inside : position < length (before ++ after) = omega (arith, length-append before after) in
    let same = slice_get-append before after position h in
    let front : take position (before ++ after) ≡ take position before = take-append-le position before after (omega arith) in
    in_turn position inside (IsOut-moved before (before ++ after) position out same front)
