-- What holds of the value of a result that is `Ok`.
use Rattle.std.specs.Prelude.{IfOk, Result, Ok, Err}

pub if_ok : {T E : Type 0} (P Q : T → Type 0) (r : Result T E) → ((t : T) → P t → Q t) → IfOk r P → IfOk r Q
if_ok P Q (Ok t) f h = f t h
if_ok P Q (Err e) f h = tt
