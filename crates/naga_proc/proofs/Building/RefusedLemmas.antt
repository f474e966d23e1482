-- The first command that is out of turn in a list of commands.
use Rattle.std.proofs.Common.{◌≡◌, sym, ◌∙◌, ap, ℕ, zero, suc, ◌<◌, ◌⊎◌, inl, inr, List, [], ◌∷◌, length, take, Some, arith}
use Rattle.std.proofs.lemmas.Bool.{cases_order}
use Rattle.std.specs.Prelude.{slice_get}
use Rattle.naga_arena.specs.Arena.{max_len}
use Rattle.naga_arena.specs.declared.span.Span.{Span}
use Rattle.naga_ir.specs.declared.expression.Expression.{Expression}
use Rattle.naga_proc.specs.Building.{appended, StartsAgain, FinishesNothing, IsInTurn, Refused}
use Rattle.naga_proc.specs.declared.builder.BuildCommand.{BuildCommand}
use Rattle.naga_proc.specs.declared.builder.BuildCommand.TheVariants.{Start, Append, Finish, Push}
use Rattle.naga_proc.specs.declared.builder.BuildError.TheVariants.{AlreadyRunning, NotRunning, Full}

-- ---- the first command out of turn

abbrev IsOut : List BuildCommand → ℕ → Type 0
IsOut commands position = StartsAgain commands position ⊎ FinishesNothing commands position

IsOut-one_position : (commands : List BuildCommand) (position other : ℕ) → IsOut commands position → IsInTurn commands position →
    IsOut commands other → IsInTurn commands other → position ≡ other
IsOut-one_position commands position other out in_turn out' in_turn' =
    elim (cases_order position other) [
      | inl same ↦ same
      | inr differ ↦ elim differ [
        | inl before ↦ absurd (in_turn' position before out)
        | inr after ↦ absurd (in_turn other after out')
      ]
    ]

pub AlreadyRunning-one_position : (commands : List BuildCommand) (position other : ℕ) →
    Refused commands (AlreadyRunning position) → Refused commands (AlreadyRunning other) → position ≡ other
AlreadyRunning-one_position commands position other h k = IsOut-one_position commands position other (inl h.0) h.1 (inl k.0) k.1

pub NotRunning-one_position : (commands : List BuildCommand) (position other : ℕ) →
    Refused commands (NotRunning position) → Refused commands (NotRunning other) → position ≡ other
NotRunning-one_position commands position other h k = IsOut-one_position commands position other (inr h.0) h.1 (inr k.0) k.1

pub AlreadyRunning-excludes : (commands : List BuildCommand) (position other : ℕ) →
    Refused commands (AlreadyRunning position) → ¬ Refused commands (NotRunning other)
AlreadyRunning-excludes commands position other h k =
    let same : position ≡ other = IsOut-one_position commands position other (inl h.0) h.1 (inr k.0) k.1 in
    let start : slice_get commands position ≡ Some Start = h.0.0 in
    let finish : slice_get commands position ≡ Some Finish = ap (slice_get commands) same ∙ k.0.0 in
    cc (start, finish)

-- ---- an Append for which there is no handle

-- more expressions are appended before a later position than before the position of an Append
appended-grows : (commands : List BuildCommand) (position later : ℕ) (expression : Expression) (span : Span) →
    slice_get commands position ≡ Some (Append expression span) → position < later →
    length (appended (take position commands)) < length (appended (take later commands))
appended-grows commands position zero expression span here h = absurd (omega arith)
appended-grows [] position (suc later) expression span here h = absurd (cc)
appended-grows (Append e s ∷ commands) zero (suc later) expression span here h = omega arith
appended-grows (Start ∷ commands) zero (suc later) expression span here h = absurd (cc)
appended-grows (Finish ∷ commands) zero (suc later) expression span here h = absurd (cc)
appended-grows (Push t s ∷ commands) zero (suc later) expression span here h = absurd (cc)
appended-grows (Append e s ∷ commands) (suc position) (suc later) expression span here h =
    let rest = appended-grows commands position later expression span here (omega arith) in omega arith
appended-grows (Start ∷ commands) (suc position) (suc later) expression span here h = appended-grows commands position later expression span here (omega arith)
appended-grows (Finish ∷ commands) (suc position) (suc later) expression span here h = appended-grows commands position later expression span here (omega arith)
appended-grows (Push t s ∷ commands) (suc position) (suc later) expression span here h = appended-grows commands position later expression span here (omega arith)

-- an Append is not out of turn
IsOut-not_append : (commands : List BuildCommand) (position : ℕ) (expression : Expression) (span : Span) →
    slice_get commands position ≡ Some (Append expression span) → IsOut commands position → ⊥
IsOut-not_append commands position expression span here (inl again) = cc (here, again.0)
IsOut-not_append commands position expression span here (inr nothing) = cc (here, nothing.0)

IsOut-after_append : (commands : List BuildCommand) (at position : ℕ) (expression : Expression) (span : Span) →
    slice_get commands at ≡ Some (Append expression span) → IsInTurn commands at → IsOut commands position → at < position
IsOut-after_append commands at position expression span here in_turn out =
    elim (cases_order at position) [
      | inl same ↦ absurd (IsOut-not_append commands position expression span (ap (slice_get commands) (sym same) ∙ here) out)
      | inr differ ↦ elim differ [
        | inl before ↦ before
        | inr after ↦ absurd (in_turn position after out)
      ]
    ]

Full-before : (commands : List BuildCommand) (position : ℕ) → Refused commands Full → IsOut commands position → max_len < length (appended (take position commands))
Full-before commands position (at, ((pair, here), many), in_turn) out =
    let before = IsOut-after_append commands at position pair.0 pair.1 here in_turn out in
    let more = appended-grows commands at position pair.0 pair.1 here before in
    omega (arith, many, more)

pub Refused-Full_before : (commands : List BuildCommand) (position : ℕ) → Refused commands Full →
    Refused commands (AlreadyRunning position) ⊎ Refused commands (NotRunning position) → max_len < length (appended (take position commands))
Refused-Full_before commands position full (inl again) = Full-before commands position full (inl again.0)
Refused-Full_before commands position full (inr nothing) = Full-before commands position full (inr nothing.0)
