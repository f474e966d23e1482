-- Lists of handles that have a property.
use Rattle.std.proofs.Common.{◌≡◌, refl, ℕ, ◌<◌, List, [], ◌∷◌, map, Option, Some, None}
use Rattle.std.proofs.lemmas.List.Elements.{All-cons, All-contains_itself, All-head, All-nil, All-tail, All-weaker}
use Rattle.std.specs.List.{Contains}
use Rattle.std.specs.Prelude.{All}
use Rattle.naga_arena.specs.Arena.{value_at}
use Rattle.naga_arena.specs.declared.span.Span.{Span}
use Rattle.naga_ir.specs.declared.expression.Expression.{Expression}
use Rattle.naga_valid.specs.Operands.{operands_of}
use Rattle.naga_flow.specs.Uses.{operands_found}
use Rattle.naga_compact.specs.Operands.{OperandsPrecede}
use Rattle.naga_compact.proofs.IsReachedLemmas.{operand_precedes}
use Rattle.naga_meaning.specs.Renaming.{Each}

pub each-of_all : (P : ℕ → Type 0) (xs : List ℕ) → All P xs → Each P xs
each-of_all P [] h = tt
each-of_all P (x ∷ xs) h = (All-head P x xs h, each-of_all P xs (All-tail P x xs h))

pub all-of_each : (P : ℕ → Type 0) (xs : List ℕ) → Each P xs → All P xs
all-of_each P [] h = All-nil P
all-of_each P (x ∷ xs) h = All-cons P x xs h.0 (all-of_each P xs h.1)

pub each-contained : (P : ℕ → Type 0) (xs : List ℕ) → ((y : ℕ) → Contains xs y → P y) → Each P xs
each-contained P xs h = each-of_all P xs (All-weaker (Contains xs) P h xs (All-contains_itself xs))

pub each-weaker : (P Q : ℕ → Type 0) → ((y : ℕ) → P y → Q y) → (xs : List ℕ) → Each P xs → Each Q xs
each-weaker P Q h [] so = tt
each-weaker P Q h (x ∷ xs) so = (h x so.0, each-weaker P Q h xs so.1)

pub each-both : (P Q : ℕ → Type 0) (xs : List ℕ) → Each P xs → Each Q xs → Each (λ y. P y × Q y) xs
each-both P Q [] p q = tt
each-both P Q (x ∷ xs) p q = ((p.0, q.0), each-both P Q xs p.1 q.1)

-- functions that are equal on each handle of a list have the same results there
pub map-each : {Value : Type 0} (P : ℕ → Type 0) (g h : ℕ → Value) → ((y : ℕ) → P y → h y ≡ g y) → (xs : List ℕ) → Each P xs → map h xs ≡ map g xs
map-each P g h is [] so = refl
map-each P g h is (x ∷ xs) so = λ i. is x so.0 i ∷ map-each P g h is xs so.1 i

-- operands come before the expression that has them
pub operands-before : (arena : List (Expression × Span)) → OperandsPrecede arena → (x : ℕ) → Each (λ y. y < x) (operands_found (value_at arena x))
operands-before arena precede x = go (value_at arena x) refl
  where
    go : (found : Option Expression) → value_at arena x ≡ found → Each (λ y. y < x) (operands_found found)
    go None is = tt
    go (Some e) is =
        each-contained (λ y. y < x) (operands_of e) (λ y inside. operand_precedes arena x y precede (record { expression = e; found = is; contained = inside }))

-- each handle of a list has a property when renamed, so each handle of the renamed list has it
pub each-mapped : (P : ℕ → Type 0) (f : ℕ → ℕ) (xs : List ℕ) → Each (λ y. P (f y)) xs → Each P (map f xs)
each-mapped P f [] h = tt
each-mapped P f (x ∷ xs) h = (h.0, each-mapped P f xs h.1)

-- each handle of a list that is renamed has a property, so each handle of the list has it when renamed
pub each-unmapped : (P : ℕ → Type 0) (f : ℕ → ℕ) (xs : List ℕ) → Each P (map f xs) → Each (λ y. P (f y)) xs
each-unmapped P f [] h = tt
each-unmapped P f (x ∷ xs) h = (h.0, each-unmapped P f xs h.1)

pub map-renamed : {Value : Type 0} (P : ℕ → Type 0) (f : ℕ → ℕ) (g h : ℕ → Value) → ((y : ℕ) → P y → h (f y) ≡ g y) → (xs : List ℕ) → Each P xs → map h (map f xs) ≡ map g xs
map-renamed P f g h is [] so = refl
map-renamed P f g h is (x ∷ xs) so = λ i. is x so.0 i ∷ map-renamed P f g h is xs so.1 i
