-- The expressions in scope in the order in which they were evaluated, and which of them are known.
use Rattle.std.specs.Prelude.{◌≡◌, ⊤, ℕ, Bool, true, false, List, [], ◌∷◌, ◌++◌, All, Option, Some, None, nat_eq, slice_index_or, if◌then◌else◌}
use Rattle.std.specs.List.{Contains}
use Rattle.naga_flow.specs.declared.known.State.{State}
use Rattle.naga_flow.specs.declared.known.State.TheVariants.{Outside, Known, Doubtful}
use Rattle.naga_valid.specs.declared.reference.Reference.{Reference}
use Rattle.naga_valid.specs.declared.reference.Reference.TheVariants as reference

-- the first list has each element of the second
pub record Includes (more fewer : List ℕ) : Type 0 where
  pub each : (x : ℕ) → Contains fewer x → Contains more x

-- the lists have the same elements
pub record AreSame (xs ys : List ℕ) : Type 0 where
  pub there : Includes xs ys
  pub back : Includes ys xs

-- no element occurs twice
abbrev pub IsDistinct : List ℕ → Type 0
IsDistinct [] = ⊤
IsDistinct (x ∷ xs) = ¬ Contains xs x × IsDistinct xs

-- the state of an expression, which is not in scope if it has none
abbrev pub state_at : List State → ℕ → State
state_at states x = slice_index_or states x Outside

-- the expression is in scope, by its state
abbrev pub is_in_scope : State → Bool
is_in_scope Outside = false
is_in_scope Known = true
is_in_scope Doubtful = true

-- the expression has been evaluated for certain, by its state
abbrev pub is_known : State → Bool
is_known Outside = false
is_known Known = true
is_known Doubtful = false

-- the list has the expressions that are in scope by their states, each of them once
pub record Tracks (states : List State) (order : List ℕ) : Type 0 where
  pub listed : (x : ℕ) → is_in_scope (state_at states x) ≡ true → Contains order x
  pub member : (x : ℕ) → Contains order x → is_in_scope (state_at states x) ≡ true
  pub distinct : IsDistinct order

-- an expression in scope, and whether it is known, since it was evaluated for certain
pub record Seen : Type 0 where
  pub handle : ℕ
  pub is_known : Bool

-- the expressions in scope
abbrev pub scope_of : List Seen → List ℕ
scope_of [] = []
scope_of (one ∷ rest) = one.handle ∷ scope_of rest

-- the expressions that are known
abbrev pub known_of : List Seen → List ℕ
known_of [] = []
known_of (one ∷ rest) = if one.is_known then one.handle ∷ known_of rest else known_of rest

-- these expressions, each of them known if it is so by its state
abbrev pub seen_by : List State → List ℕ → List Seen
seen_by states [] = []
seen_by states (handle ∷ rest) = record { handle = handle; is_known = is_known (state_at states handle) } ∷ seen_by states rest

-- these expressions, all of them known
abbrev pub all_known : List ℕ → List Seen
all_known [] = []
all_known (handle ∷ rest) = record { handle = handle; is_known = true } ∷ all_known rest

-- the same expressions, none of them known
abbrev pub none_known : List Seen → List Seen
none_known [] = []
none_known (one ∷ rest) = record one { is_known = false } ∷ none_known rest

-- the expression is at the end and known, if it was not in scope
abbrev pub Learns : List Seen → ℕ → (is_new : Bool) → List Seen → Type 0
Learns old handle true new = ¬ Contains (scope_of old) handle × (new ≡ old ++ record { handle = handle; is_known = true } ∷ [])
Learns old handle false new = Contains (scope_of old) handle

-- `x` is the first element of the list for which `P` does not hold
pub record IsFirstNot {X : Type 0} (P : X → Type 0) (xs : List X) (x : X) : Type 0 where
  pub before : List X
  pub after : List X
  pub split : xs ≡ before ++ x ∷ after
  pub earlier : All P before
  pub fails : ¬ P x

-- the answer is the first element for which `P` does not hold, or `None` if it holds for each
abbrev pub FindsFirstNot : {X : Type 0} → (X → Type 0) → List X → Option X → Type 0
FindsFirstNot P xs None = All P xs
FindsFirstNot P xs (Some x) = IsFirstNot P xs x

-- the handle is the awaited result
abbrev pub is_awaited : (awaited : Option ℕ) → ℕ → Bool
is_awaited (Some result) handle = nat_eq handle result
is_awaited None handle = false

-- the expression that is referred to, unless the reference is to the awaited result or to no expression
abbrev pub operand_at : (awaited : Option ℕ) → Reference → Option ℕ
operand_at awaited (reference.Expression handle) = if is_awaited awaited handle then None else Some handle
operand_at awaited _ = None

-- the result that is awaited after the reference
abbrev pub awaited_after : (awaited : Option ℕ) → Reference → Option ℕ
awaited_after awaited (reference.Expression handle) = if is_awaited awaited handle then None else awaited
awaited_after awaited _ = awaited
