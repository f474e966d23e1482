-- What holds in a result that is `Ok`.
use Rattle.std.specs.Prelude.{Result, Ok, Err, OnOk}

pub on_ok : {E P Q : Type 0} {U : Type 0} (r : Result U E) → (P → Q) → OnOk r P → OnOk r Q
on_ok (Ok u) f h = f h
on_ok (Err e) f h = tt
