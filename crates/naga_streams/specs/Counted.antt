-- Readers and writers whose failed calls are counted.
use Rattle.std.specs.Prelude.{ℕ, ◌+◌, ◌-◌, ◌^◌, Bool, min, Result, Ok, Err}
use Rattle.naga_streams.specs.declared.counted.Counted.{Counted}

-- the reader or the writer itself, without the number of its failed calls
abbrev pub stream_of : {D : Type 0} → Counted D → D
stream_of counted = counted.inner

-- the number of failed calls of a reader or a writer
abbrev pub failed_calls : {D : Type 0} → Counted D → ℕ
failed_calls counted = counted.failed

-- `true` if the last call of a writer was a flush that succeeded
abbrev pub is_flushed : {D : Type 0} → Counted D → Bool
is_flushed counted = counted.flushed

-- the maximum number of failed calls that are counted: `u64::MAX`
abbrev pub max_count : ℕ
max_count = 2 ^ 64 - 1

-- the number of failed calls after one more call, which stays at the maximum once it is reached
abbrev pub count_after : {T E : Type 0} → ℕ → Result T E → ℕ
count_after failed (Ok value) = failed
count_after failed (Err error) = min (failed + 1) max_count
