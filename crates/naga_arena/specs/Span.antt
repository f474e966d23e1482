-- Spans and their joins.
use Rattle.std.specs.Prelude.{ℕ, Bool, not, ◌&&◌, ◌==◌, nat_le, min, if◌then◌else◌, List, [], ◌∷◌, Option, Some, None, Result, Ok, Err}
use Rattle.std.proofs.Common.{max}
use Rattle.std.specs.declared.ops.Range.{Range}
use Rattle.naga_arena.specs.Limits.{max_position}
use Rattle.naga_arena.specs.declared.span.Span.{Span}
use Rattle.naga_arena.specs.declared.span.SpanTooLarge.{SpanTooLarge}

-- the span of anything that is not in the source text
abbrev pub undefined : Span
undefined = record { start = 0; «end» = 0 }

-- the span is not `undefined`
abbrev pub is_defined : Span → Bool
is_defined s = not (s.start == 0 && s.end == 0)

-- the span from the lesser start to the greater end of two spans
abbrev pub hull : Span → Span → Span
hull s t = record { start = min s.start t.start; «end» = max s.end t.end }

-- the hull of two spans if both are defined; if one is undefined, the other one
abbrev pub join : Span → Span → Span
join s t = if is_defined s then (if is_defined t then hull s t else s) else t

-- the join of all spans of a list, which is `undefined` for an empty list
abbrev pub total : List Span → Span
total [] = undefined
total (s ∷ rest) = join s (total rest)

-- the span as a range, or `None` if it is undefined
abbrev pub range_of : Span → Option (Range ℕ)
range_of s = if is_defined s then Some (record { start = s.start; «end» = s.end }) else None

-- the range as a span, or an error if a bound is greater than `max_position`
abbrev pub span_of : Range ℕ → Result Span SpanTooLarge
span_of r =
    if nat_le r.start max_position && nat_le r.end max_position
    then Ok (record { start = r.start; «end» = r.end })
    else Err (record {})
