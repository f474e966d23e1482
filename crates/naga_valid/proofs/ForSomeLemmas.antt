-- What holds of a value that is looked up in two steps.
use Rattle.std.proofs.Common.{◌≡◌, refl, subst, Option, Some, None}
use Rattle.std.specs.Prelude.{option_and_then}
use Rattle.std.specs.Option.{ForSome, option_map}
use Rattle.std.proofs.lemmas.Option.{none-some, option_and_then_some, same_Some}

pub ForSome-map : {A B : Type 0} (f : A → B) (found : Option A) (P : B → Type 0) → ((x : A) → found ≡ Some x → P (f x)) → ForSome (option_map f found) P
ForSome-map f None P each y is = absurd (none-some y is)
ForSome-map f (Some x) P each y is = subst P (same_Some (f x) y is) (each x refl)

pub ForSome-and_then : {A B : Type 0} (f : A → Option B) (found : Option A) (P : B → Type 0) → ((x : A) → found ≡ Some x → ForSome (f x) P) → ForSome (option_and_then f found) P
ForSome-and_then f found P each y is = option_and_then_some f found y is (λ x at later. each x at y later)
