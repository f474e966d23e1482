-- The value of a function at a value that is there, and at none.
use Rattle.std.proofs.Common.{◌≡◌, Option, Some, None, refl}
use Rattle.naga_json.specs.Numbers.{◌>>=◌}

pub at_some : {A B : Type 0} (o : Option A) (x : A) (f : A → Option B) → o ≡ Some x → (o >>= f) ≡ f x
at_some o x f e = rw e refl

pub at_none : {A B : Type 0} (o : Option A) (f : A → Option B) → o ≡ None → (o >>= f) ≡ None
at_none o f e = rw e refl
