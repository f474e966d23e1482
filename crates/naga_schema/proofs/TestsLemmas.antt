-- Tests of faults, and of values that may be there.
use Rattle.std.proofs.Common.{◌≡◌, ◌∙◌, ap, refl, sym, ℕ, List, [], ◌∷◌, ◌++◌, Bool, true, false, cond, not, ◌&&◌, ◌||◌, Option, Some, None, option_map, is_some}
use Rattle.std.specs.Bool.{Decides}
use Rattle.std.specs.Str.{bytes_eq}
use Rattle.std.proofs.lemmas.Slice.Eq.{bytes_eq-Decides}
use Rattle.naga_json.specs.Numbers.{◌>>=◌}
use Rattle.naga_schema.specs.Fault.{has_name, is_accepted}
use Rattle.naga_schema.specs.Path.{Blame, Found, Into, here, or_later, within}

-- ---- faults

pub accepted-within : (into : Into) (found : Option Found) → is_accepted (within into found) ≡ is_accepted found
accepted-within into None = refl
accepted-within into (Some f) = refl

pub accepted-or : (a b : Option Found) → is_accepted (or_later a b) ≡ (is_accepted a && is_accepted b)
accepted-or None b = refl
accepted-or (Some f) b = refl

-- a fault that is there unless a test is true
pub accepted-unless : (b : Bool) (blame : Blame) → is_accepted (cond b None (here blame)) ≡ b
accepted-unless true blame = refl
accepted-unless false blame = refl

pub accepted-cond : (b : Bool) (found : Option Found) (blame : Blame) → is_accepted (cond b found (here blame)) ≡ (b && is_accepted found)
accepted-cond true found blame = refl
accepted-cond false found blame = refl

pub accepted-not : (b : Bool) (found : Option Found) (blame : Blame) → is_accepted (cond b (here blame) found) ≡ (not b && is_accepted found)
accepted-not true found blame = refl
accepted-not false found blame = refl

-- ---- values that may be there

pub some-map : {A B : Type 0} (f : A → B) (o : Option A) → is_some (option_map f o) ≡ is_some o
some-map f None = refl
some-map f (Some a) = refl

pub some-then : {A B : Type 0} (o : Option A) (f : A → B) → is_some (o >>= λ a. Some (f a)) ≡ is_some o
some-then None f = refl
some-then (Some a) f = refl

pub some-both : {A B C : Type 0} (o : Option A) (p : Option B) (f : A → B → C) → is_some (o >>= λ a. p >>= λ b. Some (f a b)) ≡ (is_some o && is_some p)
some-both None p f = refl
some-both (Some a) None f = refl
some-both (Some a) (Some b) f = refl

-- the second value does not depend on the first
pub some-next : {A B : Type 0} (o : Option A) (f : A → Option B) (b : Bool) → ((a : A) → is_some (f a) ≡ b) → is_some (o >>= f) ≡ (is_some o && b)
some-next None f b same = refl
some-next (Some a) f b same = same a

pub some-cond : {A B : Type 0} (b : Bool) (a : A) (f : A → Option B) → is_some (cond b (Some a) None >>= f) ≡ (b && is_some (f a))
some-cond true a f = refl
some-cond false a f = refl

-- ---- tests

pub and_same : (a b c d : Bool) → a ≡ c → b ≡ d → (a && b) ≡ (c && d)
and_same a b c d e f = ap (λ x. x && b) e ∙ ap (λ x. c && x) f

pub and_assoc : (a b c : Bool) → ((a && b) && c) ≡ (a && (b && c))
and_assoc true b c = refl
and_assoc false b c = refl

pub and_true : (a : Bool) → (a && true) ≡ a
and_true true = refl
and_true false = refl

pub and_swap : (a b : Bool) → (a && b) ≡ (b && a)
and_swap true true = refl
and_swap true false = refl
and_swap false true = refl
and_swap false false = refl

-- ---- names

pub test_same : {P Q : Type 0} (a b : Bool) → Decides a P → Decides b Q → (P → Q) → (Q → P) → a ≡ b
test_same true true d e f g = refl
test_same true false d e f g = absurd (cc (e.1 (f (d.0 refl))))
test_same false true d e f g = absurd (cc (d.1 (g (e.0 refl))))
test_same false false d e f g = refl

-- two names are the same in either order
pub same_either : (a b : List ℕ) → bytes_eq a b ≡ bytes_eq b a
same_either a b = test_same (bytes_eq a b) (bytes_eq b a) (bytes_eq-Decides a b) (bytes_eq-Decides b a) sym sym

pub has_name-append : (names : List (List ℕ)) (more name : List ℕ) → has_name (names ++ more ∷ []) name ≡ (has_name names name || bytes_eq more name)
has_name-append [] more name = or_false (bytes_eq more name)
  where
    or_false : (a : Bool) → (a || false) ≡ a
    or_false true = refl
    or_false false = refl
has_name-append (other ∷ names) more name =
    ap (λ b. bytes_eq other name || b) (has_name-append names more name) ∙ or_assoc (bytes_eq other name) (has_name names name) (bytes_eq more name)
  where
    or_assoc : (a b c : Bool) → (a || (b || c)) ≡ ((a || b) || c)
    or_assoc true b c = refl
    or_assoc false b c = refl
