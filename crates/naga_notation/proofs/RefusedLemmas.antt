-- A text has at most one error, apart from a failed allocation.
use Rattle.std.proofs.Common.{◌≡◌, ◌≢◌, ◌⊎◌, inl, inr, ℕ, List, ◌+◌, ◌≤◌, ◌<◌, length, take, refl, ap, true, false, leb, arith}
use Rattle.std.proofs.lemmas.Bool.Decides.{leb_tells}
use Rattle.naga_notation.specs.Limits.{most_bytes, greatest_depth}
use Rattle.naga_notation.specs.declared.error.ShapeError.{ShapeError}
use Rattle.naga_notation.specs.declared.error.ShapeError.TheVariants.{BadText, TooDeep, TooLong, Memory}
use Rattle.naga_notation.specs.Refusal.{Refused, IsLongest, IsFirstDeep, IsBadAt, IsDeepAt, depth_of}

IsLongest-one_place : (text : List ℕ) (at place : ℕ) → IsLongest text at → IsLongest text place → at ≡ place
IsLongest-one_place text at place one other =
    let up : at ≤ place = other.longest at one.within one.begins in
    let down : place ≤ at = one.longest place other.within other.begins in
    omega (arith, up, down)

IsFirstDeep-by : (text : List ℕ) (at place : ℕ) → IsFirstDeep text at → IsFirstDeep text place → ((leb at place ≡ true) × (at ≤ place)) ⊎ ((leb at place ≡ false) × (place < at)) → at ≤ place
IsFirstDeep-by text at place one other (inl before) = before.1
IsFirstDeep-by text at place one other (inr after) =
    let low : depth_of (take (place + 1) text) ≤ greatest_depth = one.first (place + 1) (omega (arith, after.1)) in
    let deep : depth_of (take (place + 1) text) ≡ greatest_depth + 1 = other.deep in
    absurd (omega (arith, low, deep))

IsFirstDeep-one_place : (text : List ℕ) (at place : ℕ) → IsFirstDeep text at → IsFirstDeep text place → at ≡ place
IsFirstDeep-one_place text at place one other =
    let up : at ≤ place = IsFirstDeep-by text at place one other (leb_tells at place) in
    let down : place ≤ at = IsFirstDeep-by text place at other one (leb_tells place at) in
    omega (arith, up, down)

-- a text that is invalid at a position is not too deep before it
IsBadAt-deep : (text : List ℕ) (at place : ℕ) → IsBadAt text at → IsDeepAt text place → ⊥
IsBadAt-deep text at place bad deep =
    let inside = deep.inside in
    let same : inside.0 ≡ at = IsLongest-one_place text inside.0 at inside.1 bad.place in
    let before : place < at = omega (arith, same, inside.2) in
    let low : depth_of (take (place + 1) text) ≤ greatest_depth = bad.shallow (place + 1) (omega (arith, before)) in
    let high : depth_of (take (place + 1) text) ≡ greatest_depth + 1 = deep.deep.deep in
    omega (arith, low, high)

TooLong-not_short : (text : List ℕ) → length text ≤ most_bytes → most_bytes < length text → ⊥
TooLong-not_short text short long = omega (arith, short, long)

pub Refused-one_error : (text : List ℕ) (e f : ShapeError) → Refused text e → Refused text f → e ≢ Memory → f ≢ Memory → e ≡ f
Refused-one_error text Memory f h k no_e no_f = absurd (no_e refl)
Refused-one_error text (BadText at) Memory h k no_e no_f = absurd (no_f refl)
Refused-one_error text (TooDeep at) Memory h k no_e no_f = absurd (no_f refl)
Refused-one_error text TooLong Memory h k no_e no_f = absurd (no_f refl)
Refused-one_error text (BadText at) (BadText place) h k no_e no_f = ap BadText (IsLongest-one_place text at place h.place k.place)
Refused-one_error text (BadText at) (TooDeep place) h k no_e no_f = absurd (IsBadAt-deep text at place h k)
Refused-one_error text (BadText at) TooLong h k no_e no_f = absurd (TooLong-not_short text h.short k)
Refused-one_error text (TooDeep at) (BadText place) h k no_e no_f = absurd (IsBadAt-deep text place at k h)
Refused-one_error text (TooDeep at) (TooDeep place) h k no_e no_f = ap TooDeep (IsFirstDeep-one_place text at place h.deep k.deep)
Refused-one_error text (TooDeep at) TooLong h k no_e no_f = absurd (TooLong-not_short text h.short k)
Refused-one_error text TooLong (BadText at) h k no_e no_f = absurd (TooLong-not_short text k.short h)
Refused-one_error text TooLong (TooDeep at) h k no_e no_f = absurd (TooLong-not_short text k.short h)
Refused-one_error text TooLong TooLong h k no_e no_f = refl
