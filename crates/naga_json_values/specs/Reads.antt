-- What a reader returns.
use Rattle.std.specs.Prelude.{◌≡◌, ◌≢◌, Option, Some, None, Result, Ok, Err}
use Rattle.naga_json_values.specs.declared.cause.Cause.{Cause}
use Rattle.naga_json_values.specs.declared.cause.Cause.TheVariants.{Memory}

-- The reader returned the meaning, as `view` sees it, or an error if there is none, or an allocation failed.
abbrev pub Reads : {A B : Type 0} → (A → B) → Result A Cause → Option B → Type 0
Reads view (Ok value) meaning = Some (view value) ≡ meaning
Reads view (Err cause) meaning = cause ≢ Memory → None ≡ meaning
