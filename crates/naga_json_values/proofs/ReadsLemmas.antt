-- A reader that allocates nothing returns the meaning, or an error if there is none.
use Rattle.std.proofs.Common.{◌≡◌, ◌≢◌, ◌∙◌, sym, ℕ, List, Option, None, Result, Ok, Err, option_map, cond}
use Rattle.std.specs.Str.{bytes_eq}
use Rattle.std.specs.Result.{IsErrAnd, result_ok}
use Rattle.naga_json_values.specs.declared.cause.Cause.{Cause}
use Rattle.naga_json_values.specs.declared.cause.Cause.TheVariants.{Memory}
use Rattle.naga_json_values.specs.Reads.{Reads}
use Rattle.naga_json.proofs.NamesLemmas.{other_name}

pub reads_exact : {A B : Type 0} (view : A → B) (r : Result A Cause) (meaning : Option B) → option_map view (result_ok r) ≡ meaning → Reads view r meaning
reads_exact view (Ok value) meaning e = e
reads_exact view (Err cause) meaning e = λ _. e

-- the same of a value that is its own meaning
pub reads_itself : {A : Type 0} (r : Result A Cause) (meaning : Option A) → result_ok r ≡ meaning → Reads (λ value. value) r meaning
reads_itself (Ok value) meaning e = e
reads_itself (Err cause) meaning e = λ _. e

-- the same of a table whose first row has another name
pub reads_exact-after : {A B : Type 0} (view : A → B) (r : Result A Cause) (known name : List ℕ) (first others : Option B) → name ≢ known → option_map view (result_ok r) ≡ others → Reads view r (cond (bytes_eq known name) first others)
reads_exact-after view r known name first others other e = reads_exact view r _ (e ∙ sym (other_name known name first others other))

-- a cause of a part is one of the whole, if there is no whole without the part
pub reads-none : {A B : Type 0} (view : A → B) (result : Result A Cause) (cause : Cause) (meaning : Option B) → IsErrAnd result (λ e. e ≡ cause) → (cause ≢ Memory → None ≡ meaning) → Reads view result meaning
reads-none view (Ok x) cause meaning same none = absurd same
reads-none view (Err e) cause meaning same none = λ other. none (λ m. other (same ∙ m))
