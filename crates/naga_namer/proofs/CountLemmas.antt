-- A count after a change at one base.
use Rattle.std.proofs.Common.{◌≡◌, ℕ, Bool, true, false, cond, Option, Some, refl}
use Rattle.std.specs.Prelude.{unwrap_or}

pub counted-or : (b : Bool) (start : ℕ) (before : Option ℕ) → unwrap_or (cond b (Some start) before) 0 ≡ cond b start (unwrap_or before 0)
counted-or true start before = refl
counted-or false start before = refl
