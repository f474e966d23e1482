-- A handle set is a bound and a set of numbers below it.
use Rattle.std.specs.Prelude.{◌≡◌, ℕ, zero, suc, ◌+◌, ◌≤◌, true, List, [], ◌∷◌, ◌++◌, Option, Some, Result, MatchResult, refl}
use Rattle.std.specs.Coded.{Coded, code_by, coded×, coded_ℕ}
use Rattle.std.proofs.Common.{max}
use Rattle.std.specs.declared.alloc.AllocError.{AllocError}
use Rattle.std.specs.FinSet as set
use Rattle.std.specs.Iterator.{AlwaysYields, Drains, YieldsThen}
use Rattle.std.specs.Ordering.{nat_cmp}

-- the bound, and the members, which are below it
pub record BoundedSet : Type 0 where
  pub bound : ℕ
  pub members : set.FinSet nat_cmp

-- a bounded set is encoded as the pair of its fields
abbrev pub bounded_set_code : Coded BoundedSet
bounded_set_code =
    code_by (ℕ × set.FinSet nat_cmp) (coded× coded_ℕ (set.code coded_ℕ))
    (λ s. (s.bound, s.members))
    (λ p. record { bound = p.0; members = p.1 })
    (λ _. refl)

-- the set with this bound and no members
abbrev pub none_below : ℕ → BoundedSet
none_below bound = record { bound = bound; members = set.empty }

-- the set of all numbers below this one
abbrev pub numbers_below : ℕ → set.FinSet nat_cmp
numbers_below zero = set.empty
numbers_below (suc n) = set.insert (numbers_below n) n

-- the set with this bound and all members that the bound allows
abbrev pub all_below : ℕ → BoundedSet
all_below bound = record { bound = bound; members = numbers_below bound }

-- the set with one more member, and with the bound increased to the member plus 1 if it was lower
abbrev pub with_member : BoundedSet → ℕ → BoundedSet
with_member s handle = record { bound = max s.bound (handle + 1); members = set.insert s.members handle }

-- the set with more members, inserted one after another
abbrev pub with_members : BoundedSet → List ℕ → BoundedSet
with_members s [] = s
with_members s (handle ∷ rest) = with_members (with_member s handle) rest

-- the set with the same bound, without this member
abbrev pub without_member : BoundedSet → ℕ → BoundedSet
without_member s handle = record { bound = s.bound; members = set.remove s.members handle }

-- `handle` is the greatest member
pub record IsGreatest (members : set.FinSet nat_cmp) (handle : ℕ) : Type 0 where
  pub member : set.contains members handle ≡ true
  pub above_all : (other : ℕ) → set.contains members other ≡ true → other ≤ handle

-- `new` is `old` without its greatest member
abbrev pub TakesGreatest : BoundedSet → BoundedSet → Type 0
TakesGreatest old new = (handle : ℕ) × IsGreatest old.members handle × (new ≡ without_member old handle)

-- starting from `s`, each set of the list is the previous one without its greatest member, and the last one is empty
abbrev pub EmptiesInSteps : BoundedSet → List BoundedSet → Type 0
EmptiesInSteps s [] = s.members ≡ set.empty
EmptiesInSteps s (next ∷ rest) = TakesGreatest s next × EmptiesInSteps next rest

-- whatever iterator the iterable becomes, it yields exactly these handles
abbrev pub YieldsHandles : {U T : Type 0} → (U → T → Type 0) → (T → Option ℕ → T → Type 0) → U → List ℕ → Type 0
YieldsHandles {U} {T} becomes steps iter handles =
    (it : T) → becomes iter it → AlwaysYields steps (λ handle. handle) it handles

-- The handles before a handle that is at or above the bound of `new` were inserted.
abbrev pub InsertsBefore : List ℕ → BoundedSet → BoundedSet → Type 0
InsertsBefore handles old new =
    (taken later : List ℕ) × (refused : ℕ) × (handles ≡ taken ++ refused ∷ later)
    × (new ≡ with_members old taken) × (new.bound ≤ refused)

-- The items that an iterable yields were inserted: all of them for `Ok`, and for `Err` those before a handle that is at
-- or above the bound of `new`.
abbrev pub InsertsItems : {U T : Type 0} → (U → T → Type 0) → (T → Option ℕ → T → Type 0) → U
    → BoundedSet → BoundedSet → Result (Unit {0}) AllocError → Type 0
InsertsItems {U} {T} becomes steps iter old new result =
    (it : T) × (taken : List ℕ) × becomes iter it × (new ≡ with_members old taken)
    × MatchResult result
    (λ _. Drains steps it taken)
    (λ _. (refused : ℕ) × (left : T) × YieldsThen steps it taken (Some refused) left × (new.bound ≤ refused))
