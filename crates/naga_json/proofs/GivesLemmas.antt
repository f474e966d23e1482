-- What is known of values that may be there.
use Rattle.std.proofs.Common.{Bool, true, false, cond, Option, Some, None, option_map}
use Rattle.std.specs.Prelude.{⊤}
use Rattle.naga_json.specs.Numbers.{◌>>=◌}
use Rattle.naga_json.specs.Lawful.{Gives}

pub then : {A B : Type 0} (P : A → Type 0) (Q : B → Type 0) (o : Option A) (f : A → Option B) → Gives P o → ((a : A) → P a → Gives Q (f a)) → Gives Q (o >>= f)
then P Q None f given next = record { holds = tt }
then P Q (Some a) f given next = next a given.holds

pub then_any : {A B : Type 0} (Q : B → Type 0) (o : Option A) (f : A → Option B) → ((a : A) → Gives Q (f a)) → Gives Q (o >>= f)
then_any Q None f next = record { holds = tt }
then_any Q (Some a) f next = next a

pub Gives-map : {A B : Type 0} (P : A → Type 0) (Q : B → Type 0) (f : A → B) → ((a : A) → P a → Q (f a)) → (o : Option A) → Gives P o → Gives Q (option_map f o)
Gives-map P Q f implies None given = record { holds = tt }
Gives-map P Q f implies (Some a) given = record { holds = implies a given.holds }

pub Gives-any : {A : Type 0} (o : Option A) → Gives (λ a. ⊤) o
Gives-any None = record { holds = tt }
Gives-any (Some a) = record { holds = tt }

pub Gives-cond : {A : Type 0} (P : A → Type 0) (b : Bool) (o p : Option A) → Gives P o → Gives P p → Gives P (cond b o p)
Gives-cond P true o p first second = first
Gives-cond P false o p first second = second
