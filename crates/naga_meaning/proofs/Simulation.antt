-- Machines of which one does the same as the other, on blocks in which statements and handles are replaced.
use Rattle.std.specs.Prelude.{◌≡◌, ⊤, ℕ, List}
use Rattle.naga_kinds.specs.declared.switch.SwitchValue.{SwitchValue}
use Rattle.naga_ir.specs.declared.statement.Statement.{Statement}
use Rattle.naga_runs.specs.declared.run.Ending.{Ending}
use Rattle.naga_runs.specs.declared.run.Ending.TheVariants.{Return}
use Rattle.naga_compact.specs.Mapping.Runs.{map_ending}
use Rattle.naga_meaning.specs.Machine.{Machine, Done, IfAny}

-- the value that is returned, if there is one, is in `Q`
abbrev pub EndsIn : (Q : ℕ → Type 0) → Ending → Type 0
EndsIn Q (Return value) = IfAny Q value
EndsIn Q _ = ⊤

-- `R` relates the states of the machines, `f` replaces handles, and `Q` are the handles that are replaced
module _ {A B : Type 0} (R : A → B → Type 0) (f : ℕ → ℕ) (Q : ℕ → Type 0) where
  -- the same is left, in related states
  pub record Matches (old : Done A) (new : Done B) : Type 0 where
    pub state : R old.state new.state
    pub ending : new.ending ≡ map_ending f old.ending
    pub slipped : new.slipped ≡ old.slipped
    pub within : EndsIn Q old.ending

  -- Related states stay related by statements in `P` and their replacements, which end the run alike, and give the same
  -- answers to handles in `Q` and their replacements, and the same choices among cases.
  pub record Simulates (P : Statement → Type 0) (on_plain : Statement → Statement) (old : Machine A) (new : Machine B) : Type 0 where
    pub performs : (what : Statement) → P what → (a : A) (b : B) → R a b → R (old.perform what a) (new.perform (on_plain what) b)
    pub stops : (what : Statement) → P what → (a : A) (b : B) → R a b → new.stop (on_plain what) b ≡ old.stop what a
    pub answers : (handle : ℕ) → Q handle → (a : A) (b : B) → R a b → new.answer (f handle) b ≡ old.answer handle a
    pub choices : (handle : ℕ) (values : List SwitchValue) → Q handle → (a : A) (b : B) → R a b → new.choice (f handle) values b ≡ old.choice handle values a
