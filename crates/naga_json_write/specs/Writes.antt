-- What a writer appends that may fail because a value has no JSON.
use Rattle.std.specs.Prelude.{◌≡◌, ◌≢◌, Result, OnOk, IfErr}
use Rattle.json.specs.Json.{Json}
use Rattle.json.specs.Written.{Written}
use Rattle.naga_json_write.specs.Appends.{append_json}
use Rattle.naga_json_write.specs.declared.write_error.TryWriteError.{TryWriteError}
use Rattle.naga_json_write.specs.declared.write_error.TryWriteError.TheVariants.{Memory}

-- on success, the tokens of a JSON for which `IsJson` holds were appended
abbrev pub AppendsSome : (Json → Type 0) → Result (Unit {0}) TryWriteError → Written → Written → Type 0
AppendsSome IsJson result old new = OnOk result ((j : Json) × IsJson j × (new.tokens ≡ append_json old.tokens j))

-- on an error other than that an allocation failed, there is no JSON for which `IsJson` holds
abbrev pub Refuses : (Json → Type 0) → Result (Unit {0}) TryWriteError → Type 0
Refuses IsJson result = IfErr result (λ error. error ≢ Memory → (j : Json) → ¬ IsJson j)
